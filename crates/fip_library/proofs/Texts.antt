-- Each text of the library has its program.
use Rattle.std.proofs.Common.{◌≡◌, ◌∙◌, ℕ, List, sym, subst}
use Rattle.fip_base.specs.declared.refusal.PhaseError.{PhaseError}
use Rattle.fip_base.specs.declared.refusal.PhaseError.TheVariants.{Refused, NoMemory}
use Rattle.fip_base.specs.declared.refusal.Refusal.{Refusal}
use Rattle.library_sources.specs.Texts.{IsText, OfList, OfTree, OfRedBlackTree, OfFingerTree}
use Rattle.fip_trees.specs.Tree.{Program}
use Rattle.source_report.specs.Report.{IsTyped}
use Rattle.library_texts.proofs.ListText.{list_typed}
use Rattle.library_texts.proofs.TreeText.{tree_typed}
use Rattle.library_texts.proofs.RedBlackText.{rbtree_typed}
use Rattle.library_texts.proofs.FingerText.{finger_typed}
use Rattle.fip_library.specs.Programs as P
use Rattle.fip_library.specs.Programs.{IsProgram}

pub text_typed : (name text : List ℕ) → IsText name text → (p : Program) × IsTyped text p × IsProgram name p
text_typed _ _ OfList = (_, list_typed, P.OfList)
text_typed _ _ OfTree = (_, tree_typed, P.OfTree)
text_typed _ _ OfRedBlackTree = (_, rbtree_typed, P.OfRedBlackTree)
text_typed _ _ OfFingerTree = (_, finger_typed, P.OfFingerTree)

pub program_so : (name text bytes : List ℕ) (q : Program) → IsText name text → bytes ≡ text → ((p : Program) → IsTyped bytes p → q ≡ p) → IsProgram name q
program_so name text bytes q h e same =
    let r = text_typed name text h in
    subst (λ p. IsProgram name p) (sym (same r.0 (subst (λ b. IsTyped b r.0) (sym e) r.1))) r.2

pub never_refused : (name text bytes : List ℕ) (x : PhaseError) (r : Refusal) → IsText name text → bytes ≡ text → ((p : Program) → IsTyped bytes p → x ≡ NoMemory) → x ≡ Refused r → ⊥
never_refused name text bytes x r h e none is =
    let t = text_typed name text h in
    let k : x ≡ NoMemory = none t.0 (subst (λ b. IsTyped b t.0) (sym e) t.1) in
    let same : Refused r ≡ NoMemory = sym is ∙ k in
    cc
