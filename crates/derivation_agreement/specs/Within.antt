-- Derivations that are within what a text can encode: no node lies deeper than 10,000, the root of a line 1 deep, and
-- no number of an instance or of credits is 2^32 or more. For example MATCH![0|](VAR[1|]) is 2 deep.
use Rattle.std.specs.Prelude.{◌≤◌, ℕ, suc, List, [], ◌∷◌}
use Rattle.derivation_walk.specs.derivation_trees.declared.derivation.Credit.{Credit}
use Rattle.derivation_walk.specs.derivation_trees.Trees.{Tree, Missing, Branch, Trees, NoTrees, MoreTrees, Entry}
use Rattle.derivation_text.specs.ProofText.{GREATEST, DEEPEST}

abbrev pub AreFew : List Credit → Type 0
AreFew [] = Unit {0}
AreFew (c ∷ cs) = (c.count ≤ GREATEST) × AreFew cs

abbrev mutual
  -- a tree whose root lies so deep
  pub IsShallow : ℕ → Tree → Type 0
  IsShallow depth Missing = Unit {0}
  IsShallow depth (Branch rule vs cs ts) = (depth ≤ DEEPEST) × AreFew cs × AreShallow (suc depth) ts

  pub AreShallow : ℕ → Trees → Type 0
  AreShallow depth NoTrees = Unit {0}
  AreShallow depth (MoreTrees t ts) = IsShallow depth t × AreShallow depth ts

abbrev pub AreWithin : List Entry → Type 0
AreWithin [] = Unit {0}
AreWithin (e ∷ es) = (e.instance ≤ GREATEST) × IsShallow 1 e.tree × AreWithin es
