-- Lines that are trees: their nodes are those of a whole tree, each before its parts, and no others. So it is with each
-- line whose nodes were opened below one root, each closed after its parts.
use Rattle.std.specs.Prelude.{◌≡◌, List, [], ◌∷◌}
use Rattle.derivation_trees.specs.declared.derivation.Line.{Line}
use Rattle.derivation_trees.specs.Trees.{Tree, Missing, Branch, Trees, NoTrees, MoreTrees, heads, flat, entry}

abbrev mutual
  -- a tree from which no part is missing
  pub IsWhole : Tree → Type 0
  IsWhole Missing = ⊥
  IsWhole (Branch rule vs cs ts) = AreWhole ts

  pub AreWhole : Trees → Type 0
  AreWhole NoTrees = Unit {0}
  AreWhole (MoreTrees t ts) = IsWhole t × AreWhole ts

abbrev pub IsTree : Line → Type 0
IsTree l = IsWhole (entry l).tree × (heads l.nodes.items ≡ flat (entry l).tree)

abbrev pub AreTrees : List Line → Type 0
AreTrees [] = Unit {0}
AreTrees (l ∷ ls) = IsTree l × AreTrees ls
