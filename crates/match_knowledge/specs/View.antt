-- The trees that the code's values stand for.
use Rattle.std.specs.Prelude.{Bool, false, if◌then◌else◌, List, [], ◌∷◌, map}
use Rattle.match_knowledge.specs.Patterns.{Pattern, Any, Test, Patterns, NoPatterns, MorePatterns}
use Rattle.match_knowledge.specs.Known.{Known, Open, Is, Knowns, NoKnowns, MoreKnowns, side, side_all, is_asks, compare}
use Rattle.match_knowledge.specs.declared.rows.Row.{Row}
use Rattle.match_knowledge.specs.declared.rows.Row.TheOpen as R
use Rattle.match_knowledge.specs.declared.rows.Row.TheFolds.{fold-Row}
use Rattle.match_knowledge.specs.declared.knowledge.Knowledge.{Knowledge}
use Rattle.match_knowledge.specs.declared.knowledge.Knowledge.TheOpen as K
use Rattle.match_knowledge.specs.declared.knowledge.Knowledge.TheFolds.{fold-Knowledge}
pub use Rattle.match_knowledge.specs.Patterns.{patterns_of}

abbrev pub row_step : R.Row-F Pattern → Pattern
row_step R.Any = Any
row_step (R.Test t h ps) = Test t h (patterns_of ps.items)

abbrev pub row : Row → Pattern
row = fold-Row Pattern row_step

abbrev pub rows : List Row → List Pattern
rows rs = map row rs

abbrev pub parts : List Row → Patterns
parts rs = patterns_of (map row rs)

abbrev pub knowns_of : List Known → Knowns
knowns_of [] = NoKnowns
knowns_of (k ∷ ks) = MoreKnowns k (knowns_of ks)

abbrev pub known_step : K.Knowledge-F Known → Known
known_step (K.Open out) = Open out.items
known_step (K.Is h ks) = Is h (knowns_of ks.items)

abbrev pub known : Knowledge → Known
known = fold-Knowledge Known known_step

abbrev pub knowns : List Knowledge → Knowns
knowns ks = knowns_of (map known ks)

-- these, and then others
abbrev pub before_knowns : List Known → Knowns → Knowns
before_knowns [] ks = ks
before_knowns (x ∷ xs) ks = MoreKnowns x (before_knowns xs ks)

-- whether the first pattern asks
abbrev pub asks_first : Patterns → Known → Bool
asks_first NoPatterns k = false
asks_first (MorePatterns p ps) k = is_asks (compare p k)

-- a child, settled where its pattern is the first that asks
abbrev pub side_first : Bool → Bool → Patterns → Known → Known
side_first met b NoPatterns k = k
side_first met b (MorePatterns p ps) k = if met then k else if is_asks (compare p k) then side b p k else k

abbrev pub others : Patterns → Patterns
others NoPatterns = NoPatterns
others (MorePatterns p ps) = ps

-- where the test was met the rest stays
abbrev pub side_rest : Bool → Bool → Patterns → Knowns → Knowns
side_rest met b ps ks = if met then ks else side_all b ps ks
