use Rattle.std.proofs.Common.{◌≡◌, ◌++◌, map}
use Rattle.std.specs.Vec.Iter.{into_iter_items}
use Rattle.fip_base.specs.fip_language.CoreForm as form
use Rattle.fip_base.specs.CoreView as core
use Rattle.fip_base.specs.SurfaceView as surface
use Rattle.fip_core.proofs.core_of.core_of.Given as goal

abbrev pub invariant-loop-declaration : goal.invariant-loop-declaration
invariant-loop-declaration l =
    let first = form.core_form (map surface.declaration (into_iter_items l.initial.declaration-iterator)) in
    let rest = form.core_form (map surface.declaration (into_iter_items l.declaration-iterator)) in
    record {
      types : map core.data_type l.types.items ++ rest.types ≡ first.types;
      functions : map core.function l.functions.items ++ rest.functions ≡ first.functions;
    }
