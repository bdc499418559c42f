-- Trees of ints as values, and their items from left to right. increment gives the value of incremented_tree t.
use Rattle.std.specs.Prelude.{◌≡◌, ℤ, List, [], ◌∷◌, ◌++◌, FitsSigned}
use Rattle.std.specs.Int.{w64}
use Rattle.fip_language.specs.Every.{Every}
use Rattle.fip_language.specs.Values.{Value, Int, Node, End, More}
use Rattle.evaluation_steps.specs.Sums.{incremented}

pub data Tree : Type 0 where
  Leaf : Tree
  Bin : (l : Tree) (x : ℤ) (r : Tree) → Tree

abbrev pub tree_value : Tree → Value
tree_value Leaf = Node 0 End
tree_value (Bin l x r) = Node 1 (More (tree_value l) (More (Int x) (More (tree_value r) End)))

abbrev pub items : Tree → List ℤ
items Leaf = []
items (Bin l x r) = items l ++ (x ∷ items r)

abbrev pub incremented_tree : Tree → Tree
incremented_tree Leaf = Leaf
incremented_tree (Bin l x r) = Bin (incremented_tree l) (incremented x) (incremented_tree r)

-- a value that is that of a tree of ints of 64 bits
pub record IsTree (v : Value) : Type 0 where
  pub tree : Tree
  pub is : v ≡ tree_value tree
  pub fit : Every (FitsSigned w64) (items tree)
