use Rattle.std.proofs.Common.{◌≡◌, ◌+◌, ◌++◌, length, map}
use Rattle.std.specs.Vec.Iter.{into_iter_items}
use Rattle.fip_base.specs.fip_language.CoreForm as form
use Rattle.fip_base.specs.CoreView as core
use Rattle.fip_base.specs.SurfaceView as surface
use Rattle.fip_core.proofs.core_of.Walk.parameters.Given as goal

abbrev pub invariant-loop-p : goal.invariant-loop-p
invariant-loop-p l =
    let ps = into_iter_items l.initial.p-iterator in
    let first = form.parameters l.initial.self.next (map surface.parameter ps) in
    let rest = form.parameters l.self.next (map surface.parameter (into_iter_items l.p-iterator)) in
    record {
      given : map core.parameter l.parameters.items ++ rest ≡ first;
      scope : form.with_binders l.self.scope (map (λ p. p.binder) rest) ≡ form.with_binders l.initial.self.scope (map (λ p. p.binder) first);
      next : l.self.next + length (into_iter_items l.p-iterator) ≡ l.initial.self.next + length ps;
    }
