use Rattle.std.proofs.Common.{◌≡◌, ◌++◌, drop, map}
use Rattle.kind_domain.specs.code_rules.Entry.{param_kind}
use Rattle.kind_domain.specs.Views.{kinds_of}
use Rattle.register_kinds.proofs.registers.param_kinds.Given as goal

abbrev pub invariant-loop-param : goal.invariant-loop-param
invariant-loop-param l =
    kinds_of l.known.items ++ map (param_kind l.table) (drop l.param-index l.params) ≡ map (param_kind l.table) l.params
