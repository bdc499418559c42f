-- The programs of the library: which program each name has.
use Rattle.std.specs.Prelude.{ℕ, List, codes}
use Rattle.fip_trees.specs.Tree.{Program}
use Rattle.library_programs.specs.ListProgram.{list_program}
use Rattle.library_programs.specs.TreeProgram.{tree_program}
use Rattle.library_programs.specs.RedBlackProgram.{rbtree_program}
use Rattle.library_programs.specs.FingerProgram.{finger_program}

pub data IsProgram : List ℕ → Program → Type 0 where
  OfList : IsProgram (codes "list") list_program
  OfTree : IsProgram (codes "tree") tree_program
  OfRedBlackTree : IsProgram (codes "rbtree") rbtree_program
  OfFingerTree : IsProgram (codes "finger") finger_program
