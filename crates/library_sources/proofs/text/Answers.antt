use Rattle.std.proofs.Common.{sym, subst}
use Rattle.library_sources.specs.Texts.{IsText, OfList, OfTree, OfRedBlackTree, OfFingerTree}
use Rattle.library_sources.proofs.text.Goals as goal

pub returns-in-list-clause-text : goal.returns-in-list-clause-text
returns-in-list-clause-text c = subst (λ n. IsText n _) (sym c.in-list.is) OfList

pub returns-in-tree-clause-text : goal.returns-in-tree-clause-text
returns-in-tree-clause-text c = subst (λ n. IsText n _) (sym c.in-tree.is) OfTree

pub returns-in-rbtree-clause-text : goal.returns-in-rbtree-clause-text
returns-in-rbtree-clause-text c = subst (λ n. IsText n _) (sym c.in-rbtree.is) OfRedBlackTree

pub returns-in-finger-clause-text : goal.returns-in-finger-clause-text
returns-in-finger-clause-text c = subst (λ n. IsText n _) (sym c.in-finger.is) OfFingerTree
