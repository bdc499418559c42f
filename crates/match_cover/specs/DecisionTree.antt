-- It serves the theorem on decision trees: the clause that a tree picks is the first that matches, and no path of it
-- tests a position twice against the same.
use Rattle.std.specs.Prelude.{◌≡◌, ℕ, zero, suc, Bool, true, false, ◌&&◌, ◌==◌, if◌then◌else◌, List, [], ◌∷◌}
use Rattle.match_knowledge.specs.declared.heads.Head.{Head}
use Rattle.fip_language.specs.Values.{Value, Values, End, More}
use Rattle.match_knowledge.specs.ValueHeads.{head, children, same_head}
use Rattle.match_knowledge.specs.Patterns.{Pattern, fits}
pub use Rattle.match_cover.specs.TreeOfMatch.{Position, Decision, Leaf, Branch, below, position, positions, asked}
pub use Rattle.match_cover.specs.TreeOfMatch.{asked_all, by_verdict, Next, Done, Split, first_live, split_at, tree_from}
pub use Rattle.match_cover.specs.TreeOfMatch.{tree, branches, tree_at}

-- the clause that is chosen: the first that matches (past the end where none does)
abbrev pub chosen : ℕ → List Pattern → Value → ℕ
chosen i [] v = i
chosen i (p ∷ ps) v = if fits p v then i else chosen (suc i) ps v

-- what is at a position of a value is q
abbrev pub drop_children : ℕ → Values → Values
drop_children zero vs = vs
drop_children (suc i) End = End
drop_children (suc i) (More v vs) = drop_children i vs

abbrev pub first_child : Values → (Value → Bool) → Bool
first_child End f = true
first_child (More v vs) f = f v

abbrev pub stands : Position → Head → Value → Bool
stands [] q v = same_head q (head v)
stands (i ∷ is) q v = first_child (drop_children i (children v)) (stands is q)

-- the leaf that the tree picks
abbrev pub pick : Decision → Value → ℕ
pick (Leaf i) v = i
pick (Branch at q a b) v = if stands at q v then pick a v else pick b v

-- no path tests a position twice against the same q
abbrev pub same_position : Position → Position → Bool
same_position [] [] = true
same_position [] (j ∷ js) = false
same_position (i ∷ is) [] = false
same_position (i ∷ is) (j ∷ js) = (i == j) && same_position is js

abbrev pub was_tested : Position → Head → List (Position × Head) → Bool
was_tested at q [] = false
was_tested at q (s ∷ ss) = if same_position s.0 at && same_head s.1 q then true else was_tested at q ss

abbrev pub TestsOnce : List (Position × Head) → Decision → Type 0
TestsOnce seen (Leaf i) = Unit {0}
TestsOnce seen (Branch at q a b) =
    (was_tested at q seen ≡ false) × TestsOnce ((at, q) ∷ seen) a × TestsOnce ((at, q) ∷ seen) b
