use Rattle.std.proofs.Common.{◌≡◌, ◌++◌, drop, map}
use Rattle.match_cover.specs.FoundView.{found_matches}
use Rattle.match_cover.specs.Matches.{arm, below_arms, binding_matches}
use Rattle.match_cover.specs.PatternView.{joined}
use Rattle.match_cover.proofs.matches.+find.Given as goal

abbrev pub invariant-find_in_block-loop-binding : goal.invariant-find_in_block-loop-binding
invariant-find_in_block-loop-binding l = found_matches l.found.items ++ joined (map binding_matches (drop l.binding-index l.binding-items)) ≡ found_matches l.initial.found.items ++ joined (map binding_matches l.binding-items)

abbrev pub invariant-find_in_bodies-loop-clause : goal.invariant-find_in_bodies-loop-clause
invariant-find_in_bodies-loop-clause l = found_matches l.found.items ++ below_arms (map arm (drop l.clause-index l.clauses)) ≡ found_matches l.initial.found.items ++ below_arms (map arm l.clauses)
