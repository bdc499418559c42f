-- Variables that occur twice, matches at the limits, and the text of a pattern, computed.
use Rattle.std.proofs.Common.{◌≡◌, ℕ, zero, suc, List, [], ◌∷◌, None, true, false, refl, codes}
use Rattle.fip_language.specs.declared.Place.{Place}
use Rattle.fip_language.specs.declared.rule.Rule.TheVariants.{E42}
use Rattle.fip_language.specs.Table.{Table}
use Rattle.fip_trees.specs.declared.program.Binder.{Binder}
use Rattle.fip_trees.specs.Least.{violation}
use Rattle.match_knowledge.specs.declared.heads.Head.TheVariants.{Tag}
use Rattle.match_knowledge.specs.Patterns.{Pattern, Any, Test, Patterns, NoPatterns, MorePatterns}
use Rattle.match_cover.specs.PatternText.{pattern_text}
use Rattle.match_cover.specs.Shapes.{is_large, twice_faults}

abbrev at : ℕ → Place
at n = record { line = 1; col = n; at = n }

abbrev named : List ℕ → ℕ → Binder
named n p = record { number = p; name = n; place = at p; annotation = None; ty = 0 }

-- x, x, _, _, y, x: the second x and the third
twice : twice_faults 7 [] (named (codes "x") 1 ∷ named (codes "x") 2 ∷ named (codes "_") 3 ∷ named (codes "_") 4 ∷ named (codes "y") 5 ∷ named (codes "x") 6 ∷ []) ≡ violation E42 (at 2) 7 0 (codes "x") ∷ violation E42 (at 6) 7 0 (codes "x") ∷ []
twice = refl

abbrev clauses : ℕ → List Pattern
clauses zero = []
clauses (suc n) = Any ∷ clauses n

abbrev parts : ℕ → Patterns
parts zero = NoPatterns
parts (suc n) = MorePatterns Any (parts n)

most_clauses : is_large (clauses 64) ≡ false
most_clauses = refl

more_clauses : is_large (clauses 65) ≡ true
more_clauses = refl

-- a node and 254 below it, beside another
most_nodes : is_large (Test 1 (Tag 0) (parts 254) ∷ Any ∷ []) ≡ false
most_nodes = refl

more_nodes : is_large (Test 1 (Tag 0) (parts 255) ∷ Any ∷ []) ≡ true
more_nodes = refl

-- data ints { Nil; Cons(int, ints) } as type 1
abbrev ints : Table
ints = (record { name = codes "Nil"; fields = [] } ∷ record { name = codes "Cons"; fields = 0 ∷ 1 ∷ [] } ∷ []) ∷ []

text : pattern_text ints (Test 1 (Tag 1) (MorePatterns Any (MorePatterns (Test 1 (Tag 0) NoPatterns) NoPatterns))) ≡ codes "Cons(_, Nil)"
text = refl
