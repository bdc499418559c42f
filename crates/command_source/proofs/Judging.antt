-- What is said of a proof file that is judged, and that it is one thing: a text is of one list of entries, and goes wrong at
-- one place.
use Rattle.std.proofs.Common.{◌≡◌, ◌∙◌, ◌≤◌, ℕ, List, length, inl, inr, sym, ap, subst, arith}
use Rattle.std.specs.Fmt.{decimal}
use Rattle.std.specs.Prelude.{Result, Ok, Err, OnOk, IfErr}
use Rattle.fip_language.specs.declared.limits.TheConstants.{MOST_FILE_BYTES}
use Rattle.fip_language.specs.declared.rule.Rule.TheVariants.{E72}
use Rattle.fip_language.proofs.OnePlace.{IsPlace-unique, IsPlace-not_spelt}
use Rattle.fip_base.specs.declared.refusal.Refusal.{Refusal}
use Rattle.command_outcome.specs.declared.failure.Failure.{Failure}
use Rattle.command_outcome.specs.declared.failure.Failure.TheVariants as F
use Rattle.fip_proof.specs.derivation_trees.Trees.{Entry}
use Rattle.fip_trees.specs.Tree.{Program}
use Rattle.fip_proof.specs.derivation_check.Accepted.{IsDerivation}
use Rattle.fip_proof.specs.derivation_text.ProofText.{IsProofText}
use Rattle.command_source.specs.Judged.{IsBadAt, IsBadProof, IsProofFile, IsProofOf, IsRejectedOf, IsNoDerivation}
use Rattle.command_source.specs.Wanted.{IsRefusedBy, of_entry}

pub bad_rejected : (bytes : List ℕ) (p : Program) (offset : ℕ) (f : Failure) → IsBadAt bytes offset → IsRefusedBy (λ r. r ≡ of_entry E72 (decimal offset)) f → IsRefusedBy (IsRejectedOf bytes p) f
bad_rejected bytes p offset (F.Refused r) bad h = inl (offset, bad, h)
bad_rejected bytes p offset F.NoMemory bad h = tt
bad_rejected bytes p offset f bad h = absurd h

-- a text is of one list of entries, so where these are no derivation of the program none is
none_rejected : (bytes : List ℕ) (p : Program) (es : List Entry) (f : Failure) → length bytes ≤ MOST_FILE_BYTES → IsProofText bytes es → ((ds : List Entry) → IsProofText bytes ds → es ≡ ds) → IsRefusedBy (IsNoDerivation p es) f → IsRefusedBy (IsRejectedOf bytes p) f
none_rejected bytes p es (F.Refused r) short text one h =
    inr (
      record { short = short; derivation = es; text = text },
      (λ k. h.0 (subst (IsDerivation p) (sym (one k.file.derivation k.file.text)) k.derives)),
      h.1,
    )
none_rejected bytes p es F.NoMemory short text one h = tt
none_rejected bytes p es f short text one h = absurd h

-- what is judged of the entries is judged of the file
module _ {T : Type 0} (bytes : List ℕ) (p : Program) (es : List Entry) (short : length bytes ≤ MOST_FILE_BYTES) (text : IsProofText bytes es) where
  pub right_accepted : (o : Result T Failure) → OnOk o (IsDerivation p es) → OnOk o (IsProofOf bytes p)
  right_accepted (Ok v) h = record { file = record { short = short; derivation = es; text = text }; derives = h }
  right_accepted (Err f) h = tt

  pub wrong_rejected : (o : Result T Failure) → ((ds : List Entry) → IsProofText bytes ds → es ≡ ds) → IfErr o (IsRefusedBy (IsNoDerivation p es)) → IfErr o (IsRefusedBy (IsRejectedOf bytes p))
  wrong_rejected (Ok v) one h = tt
  wrong_rejected (Err f) one h = none_rejected bytes p es f short text one h

-- ---- one thing is said

bad_at_once : (bytes : List ℕ) (m n : ℕ) → IsBadAt bytes m → IsBadAt bytes n → m ≡ n
bad_at_once bytes m n (inl h) (inl k) = h.1 ∙ sym k.1
bad_at_once bytes m n (inl h) (inr k) = absurd (let more = h.0 in let le = k.0 in omega (arith, more, le))
bad_at_once bytes m n (inr h) (inl k) = absurd (let more = k.0 in let le = h.0 in omega (arith, more, le))
bad_at_once bytes m n (inr h) (inr k) = IsPlace-unique IsProofText bytes m n h.1 k.1

bad_once : (bytes : List ℕ) (q r : Refusal) → IsBadProof bytes q → IsBadProof bytes r → q ≡ r
bad_once bytes q r h k = h.2 ∙ ap (λ n. of_entry E72 (decimal n)) (bad_at_once bytes h.0 k.0 h.1 k.1) ∙ sym k.2

bad_not_spelt : (bytes : List ℕ) (r : Refusal) → IsBadProof bytes r → IsProofFile bytes → ⊥
bad_not_spelt bytes r (at, inl h, e) k = let more = h.0 in let le = k.short in omega (arith, more, le)
bad_not_spelt bytes r (at, inr h, e) k = IsPlace-not_spelt IsProofText bytes at k.derivation h.1 k.text

pub rejected_once : (bytes : List ℕ) (p : Program) (q r : Refusal) → IsRejectedOf bytes p q → IsRejectedOf bytes p r → q ≡ r
rejected_once bytes p q r (inl h) (inl k) = bad_once bytes q r h k
rejected_once bytes p q r (inl h) (inr k) = absurd (bad_not_spelt bytes q h k.0)
rejected_once bytes p q r (inr h) (inl k) = absurd (bad_not_spelt bytes r k h.0)
rejected_once bytes p q r (inr h) (inr k) = h.2 ∙ sym k.2

pub accepted_not_rejected : (bytes : List ℕ) (p : Program) (r : Refusal) → IsProofOf bytes p → IsRejectedOf bytes p r → ⊥
accepted_not_rejected bytes p r h (inl k) = bad_not_spelt bytes r k h.file
accepted_not_rejected bytes p r h (inr k) = k.1 h
