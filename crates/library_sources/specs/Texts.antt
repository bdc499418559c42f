-- The texts of the library: which text each name has.
use Rattle.std.specs.Prelude.{ℕ, List, codes}
use Rattle.library_sources.specs.declared.list.TheConstants as List'
use Rattle.library_sources.specs.declared.tree.TheConstants as Tree
use Rattle.library_sources.specs.declared.rbtree.TheConstants as RedBlackTree
use Rattle.library_sources.specs.declared.finger.TheConstants as FingerTree

-- `library list` prints the constant of src/list.rt, and so on.
pub data IsText : List ℕ → List ℕ → Type 0 where
  OfList : IsText (codes "list") List'.TEXT.now
  OfTree : IsText (codes "tree") Tree.TEXT.now
  OfRedBlackTree : IsText (codes "rbtree") RedBlackTree.TEXT.now
  OfFingerTree : IsText (codes "finger") FingerTree.TEXT.now
