use Rattle.std.proofs.Common.{◌≡◌, ◌++◌, ◌-◌}
use Rattle.kind_domain.specs.code_rules.Entry.{gones}
use Rattle.kind_domain.specs.Views.{kinds_of}
use Rattle.register_kinds.proofs.registers.add_gones.Given as goal

abbrev pub invariant-loop-place : goal.invariant-loop-place
invariant-loop-place l =
    kinds_of l.known.items ++ gones (l.count - l.place) ≡ kinds_of l.initial.known.items ++ gones l.count
