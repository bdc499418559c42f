use Rattle.std.proofs.Common.{◌≡◌, ◌++◌, drop}
use Rattle.data_types.specs.Steps.{gathered}
use Rattle.data_types.proofs.found.gather.Given as goal

abbrev pub invariant-loop-one : goal.invariant-loop-one
invariant-loop-one l = record {
  place : l.place ≡ l.one-index;
  rest : l.needs.items ++ gathered l.place l.set (drop l.one-index l.found) ≡ gathered 0 l.set l.found;
}
