-- It serves the search: the patterns of a program's trees in memory, without names, and what is read off them.
use Rattle.std.specs.Prelude.{◌+◌, List, [], ◌∷◌, ◌++◌, map}
use Rattle.fip_language.specs.declared.Place.{Place}
use Rattle.fip_trees.specs.declared.program.Binder.{Binder}
use Rattle.fip_trees.specs.declared.program.Pattern.{Pattern as Named}
use Rattle.fip_trees.specs.declared.program.Pattern.TheOpen as N
use Rattle.fip_trees.specs.declared.program.Pattern.TheFolds.{fold-Pattern}
use Rattle.fip_trees.specs.declared.program.Clause.{Clause, out-Clause}
use Rattle.match_knowledge.specs.declared.heads.Head.TheVariants.{Number, Tag}
use Rattle.match_knowledge.specs.Patterns.{Pattern, Any, Test, NoPatterns}
use Rattle.match_knowledge.specs.Patterns.{patterns_of}
pub use Rattle.match_cover.specs.MatchFaults.{pattern_nodes, parts_nodes}

-- The pattern without names. A literal is a test of an int, type 0, without parts.
abbrev pub erase_step : N.Pattern-F Pattern → Pattern
erase_step (N.Binder b) = Any
erase_step (N.Literal v p) = Test 0 (Number v) NoPatterns
erase_step (N.Constructor t d c name p ps) = Test t (Tag c) (patterns_of ps.items)

abbrev pub erased : Named → Pattern
erased = fold-Pattern Pattern erase_step

abbrev pub joined : {A : Type 0} → List (List A) → List A
joined [] = []
joined (xs ∷ rest) = xs ++ joined rest

-- its variables, in the order of the text
abbrev pub binders_step : N.Pattern-F (List Binder) → List Binder
binders_step (N.Binder b) = b ∷ []
binders_step (N.Literal v p) = []
binders_step (N.Constructor t d c name p ps) = joined ps.items

abbrev pub pattern_binders : Named → List Binder
pattern_binders = fold-Pattern (List Binder) binders_step

-- the place of its first token
abbrev pub place_step : N.Pattern-F Place → Place
place_step (N.Binder b) = b.place
place_step (N.Literal v p) = p
place_step (N.Constructor t d c name p ps) = p

abbrev pub pattern_place : Named → Place
pattern_place = fold-Pattern Place place_step

abbrev pub pattern_of : Clause → Named
pattern_of c = (out-Clause c).pattern

-- the patterns of a match with these clauses
abbrev pub clause_patterns : Clause → List Clause → List Named
clause_patterns c cs = pattern_of c ∷ map pattern_of cs

-- and without names
abbrev pub match_patterns : Clause → List Clause → List Pattern
match_patterns c cs = map erased (clause_patterns c cs)
