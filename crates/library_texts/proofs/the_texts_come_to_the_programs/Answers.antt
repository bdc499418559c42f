use Rattle.library_texts.proofs.ListText.{list_comes}
use Rattle.library_texts.proofs.TreeText.{tree_comes}
use Rattle.library_texts.proofs.RedBlackText.{rbtree_comes}
use Rattle.library_texts.proofs.FingerText.{finger_comes}
use Rattle.library_texts.proofs.the_texts_come_to_the_programs.Goals as goal

pub returns-clause-list : goal.returns-clause-list
returns-clause-list c = list_comes

pub returns-clause-tree : goal.returns-clause-tree
returns-clause-tree c = tree_comes

pub returns-clause-rbtree : goal.returns-clause-rbtree
returns-clause-rbtree c = rbtree_comes

pub returns-clause-finger : goal.returns-clause-finger
returns-clause-finger c = finger_comes
