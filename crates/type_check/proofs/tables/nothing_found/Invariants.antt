use Rattle.std.proofs.Common.{◌≡◌, ◌++◌, drop}
use Rattle.type_check.specs.Plain.{nothing, nothing_of}
use Rattle.type_check.proofs.tables.nothing_found.Given as goal

abbrev pub invariant-loop-arity : goal.invariant-loop-arity
invariant-loop-arity l = l.found.items ++ nothing_of (drop l.arity-index l.arities) ≡ nothing l.arities
