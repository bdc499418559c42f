use Rattle.std.proofs.Common.{◌≡◌, ◌++◌, drop, map}
use Rattle.kind_domain.specs.cell_code.declared.kind.Kind.TheVariants.{Credit}
use Rattle.kind_domain.specs.Views.{kinds_of}
use Rattle.register_kinds.proofs.registers.add_credits.Given as goal

abbrev pub invariant-loop-size : goal.invariant-loop-size
invariant-loop-size l =
    kinds_of l.known.items ++ map Credit (drop l.size-index l.sizes)
    ≡ kinds_of l.initial.known.items ++ map Credit l.sizes
