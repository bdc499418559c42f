-- Three trees, computed: of a match on the first two items of a list, of one on both constructors, of one on int.
use Rattle.std.proofs.Common.{◌≡◌, [], ◌∷◌, refl}
use Rattle.std.specs.Prelude.{pos}
use Rattle.match_knowledge.specs.declared.heads.Head.TheVariants.{Number, Tag}
use Rattle.fip_language.specs.Table.{Table}
use Rattle.match_knowledge.specs.Patterns.{Pattern, Any, Test, NoPatterns, MorePatterns}
use Rattle.match_knowledge.specs.Known.{Open}
use Rattle.match_cover.specs.DecisionTree.{Leaf, Branch, tree_at}

-- data ints { Nil; Cons(int, ints) } as type 1
abbrev ints : Table
ints = (record { name = []; fields = [] } ∷ record { name = []; fields = 0 ∷ 1 ∷ [] } ∷ []) ∷ []

abbrev cons : Pattern → Pattern → Pattern
cons p q = Test 1 (Tag 1) (MorePatterns p (MorePatterns q NoPatterns))

-- Cons(a, Cons(b, t)) -> ..; ys -> ..
first_two : tree_at ints (cons Any (cons Any Any) ∷ Any ∷ []) (Open []) ≡ Branch [] (Tag 1) (Branch (1 ∷ []) (Tag 1) (Leaf 0) (Leaf 1)) (Leaf 1)
first_two = refl

-- Nil -> ..; Cons(x, t) -> ..: the second test needs no branch
both_constructors : tree_at ints (Test 1 (Tag 0) NoPatterns ∷ cons Any Any ∷ []) (Open []) ≡ Branch [] (Tag 0) (Leaf 0) (Leaf 1)
both_constructors = refl

-- 0 -> ..; 1 -> ..; _ -> ..
numbers : tree_at [] (Test 0 (Number (pos 0)) NoPatterns ∷ Test 0 (Number (pos 1)) NoPatterns ∷ Any ∷ []) (Open []) ≡ Branch [] (Number (pos 0)) (Leaf 0) (Branch [] (Number (pos 1)) (Leaf 1) (Leaf 2))
numbers = refl
