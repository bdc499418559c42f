use Rattle.library_texts.proofs.ListText.{list_typed}
use Rattle.library_texts.proofs.TreeText.{tree_typed}
use Rattle.library_texts.proofs.RedBlackText.{rbtree_typed}
use Rattle.library_texts.proofs.FingerText.{finger_typed}
use Rattle.library_texts.proofs.the_texts_are_well_typed.Goals as goal

pub returns-clause-list : goal.returns-clause-list
returns-clause-list c = list_typed

pub returns-clause-tree : goal.returns-clause-tree
returns-clause-tree c = tree_typed

pub returns-clause-rbtree : goal.returns-clause-rbtree
returns-clause-rbtree c = rbtree_typed

pub returns-clause-finger : goal.returns-clause-finger
returns-clause-finger c = finger_typed
