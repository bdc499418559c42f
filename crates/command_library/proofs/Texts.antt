-- A name of the library has one text.
use Rattle.std.proofs.Common.{◌≡◌, ◌∙◌, ◌==◌, ℕ, List, refl, sym, ap, inl, inr, slice_index, if◌then◌else◌}
use Rattle.std.specs.Prelude.{Option, None, Some, IsSome, codes}
use Rattle.std.proofs.lemmas.Option.{none-some}
use Rattle.library_sources.specs.Names.{IsTextName}
use Rattle.library_sources.specs.Texts.{IsText, OfList, OfTree, OfRedBlackTree, OfFingerTree}
use Rattle.library_sources.specs.declared.list.TheConstants as List'
use Rattle.library_sources.specs.declared.tree.TheConstants as Tree
use Rattle.library_sources.specs.declared.rbtree.TheConstants as RedBlackTree
use Rattle.library_sources.specs.declared.finger.TheConstants as FingerTree
use Rattle.command_library.specs.GenAnswer.{tree_source}

-- the names differ by their first letters
abbrev text_by : ℕ → List ℕ
text_by k =
    if k == 108 then List'.TEXT.now
    else if k == 116 then Tree.TEXT.now
    else if k == 114 then RedBlackTree.TEXT.now
    else FingerTree.TEXT.now

text_is : (name text : List ℕ) → IsText name text → text ≡ text_by (slice_index name 0)
text_is _ _ OfList = refl
text_is _ _ OfTree = refl
text_is _ _ OfRedBlackTree = refl
text_is _ _ OfFingerTree = refl

pub text_once : (name other t u : List ℕ) → name ≡ other → IsText name t → IsText other u → t ≡ u
text_once name other t u same h k = text_is name t h ∙ ap (λ n. text_by (slice_index n 0)) same ∙ sym (text_is other u k)

-- that of `gen`
pub tree_text_is : (text : List ℕ) → IsText (codes "rbtree") text → text ≡ tree_source
tree_text_is text h = text_is (codes "rbtree") text h

pub tree_named : IsTextName (codes "rbtree")
tree_named = inr (inr (inl refl))

pub no_text : {A : Type 0} (o : Option A) → o ≡ None → IsSome o → ⊥
no_text None e h = cc
no_text (Some x) e h = none-some x (sym e)
