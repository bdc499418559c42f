-- The decision tree of a match, and how many branches it has.
-- Rules: the first clause that isn't ruled out is looked at. Where it asks for nothing more, the tree is its leaf. Else
-- its first open test, in the order of the walk, is a branch: on the yes side it holds, on the no side it doesn't.
-- Where no value reaches the no side, the tree is that of the yes side. (A value always reaches the yes side.)
use Rattle.std.specs.Prelude.{ℕ, zero, suc, ◌+◌, true, false, if◌then◌else◌, List, [], ◌∷◌}
use Rattle.match_knowledge.specs.declared.heads.Head.{Head}
use Rattle.match_knowledge.specs.declared.heads.Head.TheVariants.{Tag}
use Rattle.match_knowledge.specs.declared.verdicts.Verdict.{Verdict}
use Rattle.match_knowledge.specs.declared.verdicts.Verdict.TheVariants.{Fits, Misses, Asks}
use Rattle.fip_language.specs.Table.{Table}
use Rattle.match_knowledge.specs.Patterns.{Pattern, Any, Test, Patterns, NoPatterns, MorePatterns}
use Rattle.match_knowledge.specs.Known.{Known, Open, Is, Knowns, NoKnowns, MoreKnowns, compare, is_asks, side, is_last}
use Rattle.match_knowledge.specs.Known.{row_tests}

-- a position: the fields from the root
abbrev pub Position : Type 0
Position = List ℕ

pub data Decision : Type 0 where
  Leaf : (clause : ℕ) → Decision
  Branch : (position : Position) (q : Head) (held failed : Decision) → Decision

-- the position of the first open test, and what it asks
abbrev pub below : Position → Position
below [] = []
below (i ∷ is) = suc i ∷ is

abbrev mutual
  pub position : Pattern → Known → Position
  position Any k = []
  position (Test t h ps) (Open out) = []
  position (Test t h ps) (Is g ks) = positions ps ks

  pub positions : Patterns → Knowns → Position
  positions NoPatterns ks = []
  positions (MorePatterns p ps) NoKnowns = []
  positions (MorePatterns p ps) (MoreKnowns k ks) =
      if is_asks (compare p k) then 0 ∷ position p k else below (positions ps ks)

abbrev mutual
  pub asked : Head → Pattern → Known → Head
  asked d Any k = d
  asked d (Test t h ps) (Open out) = h
  asked d (Test t h ps) (Is g ks) = asked_all d ps ks

  pub asked_all : Head → Patterns → Knowns → Head
  asked_all d NoPatterns ks = d
  asked_all d (MorePatterns p ps) NoKnowns = d
  asked_all d (MorePatterns p ps) (MoreKnowns k ks) = if is_asks (compare p k) then asked d p k else asked_all d ps ks

-- a row by its verdict
abbrev pub by_verdict : {A : Type 0} → Verdict → A → A → A → A
by_verdict Fits a b c = a
by_verdict Misses a b c = b
by_verdict Asks a b c = c

-- the first clause that isn't ruled out
pub data Next : Type 0 where
  Done : (i : ℕ) → Next
  Split : (p : Pattern) → Next

abbrev pub first_live : ℕ → List Pattern → Known → Next
first_live i [] k = Done i
first_live i (p ∷ ps) k = by_verdict (compare p k) (Done i) (first_live (suc i) ps k) (Split p)

-- the branch at the first open test
abbrev pub split_at : Pattern → Known → Decision → Decision → Decision
split_at p k = Branch (position p k) (asked (Tag 0) p k)

-- the tree of what is found first, from the trees of what is known then
abbrev pub tree_from : (Known → Decision) → Table → Known → Next → Decision
tree_from rest tb k (Done i) = Leaf i
tree_from rest tb k (Split p) =
    if is_last tb p k then rest (side true p k) else split_at p k (rest (side true p k)) (rest (side false p k))

-- the tree; more steps than open tests are enough
abbrev pub tree : ℕ → Table → List Pattern → Known → Decision
tree zero tb rows k = Leaf 0
tree (suc f) tb rows k = tree_from (tree f tb rows) tb k (first_live 0 rows k)

abbrev pub branches : Decision → ℕ
branches (Leaf i) = 0
branches (Branch at q a b) = suc (branches a + branches b)

-- the tree, with steps enough
abbrev pub tree_at : Table → List Pattern → Known → Decision
tree_at tb rows k = tree (suc (row_tests rows k)) tb rows k
