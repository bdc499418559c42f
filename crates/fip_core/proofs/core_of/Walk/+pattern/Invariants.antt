use Rattle.std.proofs.Common.{◌≡◌, ◌++◌, map}
use Rattle.std.specs.Vec.Iter.{into_iter_items}
use Rattle.fip_base.specs.fip_language.CoreForm as form
use Rattle.fip_base.specs.CoreView as core
use Rattle.fip_base.specs.SurfaceView as surface
use Rattle.fip_core.proofs.core_of.Walk.+pattern.Given as goal

abbrev pub invariant-loop-q : goal.invariant-loop-q
invariant-loop-q l =
    let first = form.patterns l.initial.self.scope l.initial.self.next (surface.patterns (into_iter_items l.initial.q-iterator)) in
    let rest = form.patterns l.self.scope l.self.next (surface.patterns (into_iter_items l.q-iterator)) in
    record {
      given : map core.pattern l.numbered.items ++ rest.patterns ≡ first.patterns;
      scope : rest.scope ≡ first.scope;
      next : rest.next ≡ first.next;
    }
