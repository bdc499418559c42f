use Rattle.library_texts.proofs.ListText.{list_accepted}
use Rattle.library_texts.proofs.TreeText.{tree_accepted}
use Rattle.library_texts.proofs.RedBlackText.{rbtree_accepted}
use Rattle.library_texts.proofs.FingerText.{finger_accepted}
use Rattle.library_texts.proofs.the_texts_break_no_rule.Goals as goal

pub returns-clause-list : goal.returns-clause-list
returns-clause-list c = list_accepted

pub returns-clause-tree : goal.returns-clause-tree
returns-clause-tree c = tree_accepted

pub returns-clause-rbtree : goal.returns-clause-rbtree
returns-clause-rbtree c = rbtree_accepted

pub returns-clause-finger : goal.returns-clause-finger
returns-clause-finger c = finger_accepted
