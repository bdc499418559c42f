use Rattle.std.proofs.Common.{◌≡◌, ◌++◌, drop, map}
use Rattle.match_cover.specs.FoundView.{found_lets}
use Rattle.match_cover.specs.PatternView.{joined}
use Rattle.match_cover.specs.Lets.{binding_lets, clause_lets}
use Rattle.match_cover.proofs.matches.+lets.Given as goal

abbrev pub invariant-lets_in_block-loop-binding : goal.invariant-lets_in_block-loop-binding
invariant-lets_in_block-loop-binding l = found_lets l.found.items ++ joined (map binding_lets (drop l.binding-index l.binding-items)) ≡ found_lets l.initial.found.items ++ joined (map binding_lets l.binding-items)

abbrev pub invariant-lets_in_bodies-loop-clause : goal.invariant-lets_in_bodies-loop-clause
invariant-lets_in_bodies-loop-clause l = found_lets l.found.items ++ joined (map clause_lets (drop l.clause-index l.clauses)) ≡ found_lets l.initial.found.items ++ joined (map clause_lets l.clauses)
