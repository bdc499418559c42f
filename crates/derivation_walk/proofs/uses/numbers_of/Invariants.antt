use Rattle.std.proofs.Common.{◌≡◌, drop}
use Rattle.derivation_walk.specs.Tables.{numbers_from, numbers_of}
use Rattle.derivation_walk.proofs.uses.numbers_of.Given as goal

abbrev pub invariant-loop-variable : goal.invariant-loop-variable
invariant-loop-variable l = record {
  next : l.next ≡ l.variable-index;
  numbers : numbers_from l.numbers.items l.next (drop l.variable-index l.variables) ≡ numbers_of l.variables;
}
