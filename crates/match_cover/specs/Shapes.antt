-- It serves the search: E42 and E43 as they are looked for in memory. (`source_report::MatchRules` says them of trees.) E42,
-- a variable twice in a pattern or in the binders of a let; E43, a match of more than 64 clauses, or of more than
-- 256 pattern nodes in all. Example: Cons(x, Cons(x, x)) breaks E42 at the second x and at the third, of which the
-- second is the least; a match of two clauses with 256 nodes and 1 breaks E43 at its place.
use Rattle.std.specs.Prelude.{ℕ, suc, ◌+◌, if◌then◌else◌, List, [], ◌∷◌, ◌++◌}
use Rattle.fip_language.specs.declared.rule.Rule.TheVariants.{E43}
use Rattle.fip_trees.specs.declared.least.Violation.{Violation}
use Rattle.fip_trees.specs.declared.program.Block.{Block}
use Rattle.fip_trees.specs.declared.program.Instance.{Instance}
use Rattle.fip_trees.specs.declared.program.Pattern.{Pattern as Named}
use Rattle.fip_trees.specs.Least.{violation}
use Rattle.match_cover.specs.PatternView.{pattern_binders}
use Rattle.match_cover.specs.Matches.{Match, rows_of, block_matches}
use Rattle.match_cover.specs.Lets.{block_lets}
pub use Rattle.match_cover.specs.MatchFaults.{total_nodes, is_large, is_unnamed, is_met, is_twice, meet, binder_faults}
pub use Rattle.match_cover.specs.MatchFaults.{twice_faults, lets_faults}

-- a match that is too large, in instance i
abbrev pub size_faults : ℕ → Match → List Violation
size_faults i m = if is_large (rows_of m) then violation E43 m.place i 0 [] ∷ [] else []

abbrev pub patterns_faults : ℕ → List Named → List Violation
patterns_faults i [] = []
patterns_faults i (p ∷ ps) = twice_faults i [] (pattern_binders p) ++ patterns_faults i ps

abbrev pub matches_faults : ℕ → List Match → List Violation
matches_faults i [] = []
matches_faults i (m ∷ ms) = size_faults i m ++ (patterns_faults i m.clauses ++ matches_faults i ms)

abbrev pub body_faults : ℕ → Block → List Violation
body_faults i d = matches_faults i (block_matches d) ++ lets_faults i (block_lets d)

-- all violations of E42 and E43 in instances, numbered from i on
abbrev pub shape_faults : ℕ → List Instance → List Violation
shape_faults i [] = []
shape_faults i (d ∷ ds) = body_faults i d.body ++ shape_faults (suc i) ds
