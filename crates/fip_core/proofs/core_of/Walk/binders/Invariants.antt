use Rattle.std.proofs.Common.{◌≡◌, ◌+◌, ◌++◌, length, map}
use Rattle.std.specs.Vec.Iter.{into_iter_items}
use Rattle.fip_base.specs.fip_language.CoreForm as form
use Rattle.fip_base.specs.CoreView as core
use Rattle.fip_base.specs.SurfaceView as surface
use Rattle.fip_core.proofs.core_of.Walk.binders.Given as goal

abbrev pub invariant-loop-b : goal.invariant-loop-b
invariant-loop-b l =
    let bs = into_iter_items l.initial.b-iterator in
    let first = form.binders l.initial.self.next (map surface.bind bs) in
    let rest = form.binders l.self.next (map surface.bind (into_iter_items l.b-iterator)) in
    record {
      given : core.binders l.binders.items ++ rest ≡ first;
      scope : form.with_binders l.self.scope rest ≡ form.with_binders l.initial.self.scope first;
      next : l.self.next + length (into_iter_items l.b-iterator) ≡ l.initial.self.next + length bs;
    }
