-- It serves the proofs on derivations: how trees lie in memory.
-- The nodes of a tree are in a list, each before its parts, its first part directly after it. A node keeps how many
-- parts it has, and its span, the number of the nodes of its tree: its next neighbour is so many places after it.
use Rattle.std.specs.Prelude.{ℕ, zero, suc, ◌+◌, List, [], ◌∷◌, ◌++◌, Option, Some, None, map, length, slice_get}
use Rattle.derivation_trees.specs.declared.derivation.RuleName.{RuleName}
use Rattle.derivation_trees.specs.declared.derivation.Credit.{Credit}
use Rattle.derivation_trees.specs.declared.derivation.Node.{Node}
use Rattle.derivation_trees.specs.declared.derivation.Line.{Line}
use Rattle.derivation_trees.specs.declared.derivation.Derivation.{Derivation}
pub use Rattle.derivation_trees.specs.Derivations.{Tree, Missing, Branch, Trees, NoTrees, MoreTrees, Entry}

abbrev pub count : Trees → ℕ
count NoTrees = 0
count (MoreTrees t ts) = suc (count ts)

-- a node without its parts, as it is in a list
pub record Head : Type 0 where
  pub rule : RuleName
  pub variables : List ℕ
  pub credits : List Credit
  pub parts : ℕ
  pub span : ℕ

abbrev pub head : Node → Head
head n = record {
  rule = n.rule;
  variables = n.variables.items;
  credits = n.credits.items;
  parts = n.parts;
  span = n.span;
}

abbrev pub heads : List Node → List Head
heads = map head

-- ---- from trees to lists

abbrev mutual
  -- the number of nodes
  pub size : Tree → ℕ
  size Missing = 0
  size (Branch r xs cs ts) = suc (size_all ts)

  pub size_all : Trees → ℕ
  size_all NoTrees = 0
  size_all (MoreTrees t ts) = size t + size_all ts

abbrev mutual
  pub flat : Tree → List Head
  flat Missing = []
  flat (Branch r xs cs ts) =
      record { rule = r; variables = xs; credits = cs; parts = count ts; span = suc (size_all ts) } ∷ flat_all ts

  pub flat_all : Trees → List Head
  flat_all NoTrees = []
  flat_all (MoreTrees t ts) = flat t ++ flat_all ts

-- ---- from lists to trees

abbrev pub span_of : Option Head → ℕ
span_of None = 0
span_of (Some h) = h.span

-- n trees, of which the first one begins at place i, by what begins at each place
abbrev pub row : (ℕ → Tree) → List Head → ℕ → ℕ → Trees
row tree hs i zero = NoTrees
row tree hs i (suc n) = MoreTrees (tree i) (row tree hs (i + span_of (slice_get hs i)) n)

abbrev pub rooted : (ℕ → Tree) → List Head → ℕ → Option Head → Tree
rooted tree hs i None = Missing
rooted tree hs i (Some h) = Branch h.rule h.variables h.credits (row tree hs (suc i) h.parts)

-- the tree whose root is at place i, cut off below so many nodes
abbrev pub cut_at : ℕ → List Head → ℕ → Tree
cut_at zero hs i = Missing
cut_at (suc m) hs i = rooted (cut_at m hs) hs i (slice_get hs i)

-- the tree whose root is at place i; no path in it has more nodes than the list
abbrev pub tree_at : List Head → ℕ → Tree
tree_at hs i = cut_at (length hs) hs i

-- ---- derivations

abbrev pub entry : Line → Entry
entry l = record { instance = l.instance; tree = tree_at (heads l.nodes.items) 0 }

abbrev pub entries : Derivation → List Entry
entries d = map entry d.lines.items
