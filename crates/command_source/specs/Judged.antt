-- What `audit` reports. Of a source whose types or matches aren't right it is the report. Else no more rules are
-- checked, and a proof file is judged for the source's program: its bytes are the text of a derivation of it; or they
-- are no derivation's text (E72, whose detail is an offset); or they are the text of one, but none of this program
-- (E73).
--
-- `audit list.fip3 list.proof` of a file that begins with `0 VAX` is refused by `E72: 4`: some text begins with `0 VA`,
-- none with one byte more. A file without any byte is the text of the derivation of a program without fip and fbip
-- functions; for every other program it is refused by `E73`.
use Rattle.std.specs.Prelude.{◌≡◌, ◌⊎◌, ◌<◌, ◌≤◌, ℕ, List, length}
use Rattle.std.specs.Fmt.{decimal}
use Rattle.fip_language.specs.declared.limits.TheConstants.{MOST_FILE_BYTES}
use Rattle.fip_language.specs.declared.rule.Rule.TheVariants.{E72, E73}
use Rattle.fip_language.specs.Prefix.{IsPlace}
use Rattle.fip_base.specs.declared.refusal.Refusal.{Refusal}
use Rattle.fip_proof.specs.derivation_trees.Trees.{Entry}
use Rattle.fip_trees.specs.Tree.{Program}
use Rattle.fip_proof.specs.derivation_check.Accepted.{IsDerivation}
use Rattle.fip_proof.specs.derivation_text.ProofText.{IsProofText}
use Rattle.program_front.specs.source_report.Report.{bare, IsMatched}
use Rattle.command_source.specs.Wanted.{of_entry, IsReport}

-- The report of a rule on types or matches, or of one that is checked before: so they aren't right. A source that
-- breaks E52 alone has a report, and not an early one.
abbrev pub IsEarlyReport : List ℕ → Refusal → Type 0
IsEarlyReport source r = IsReport source r × ((p : Program) → IsMatched source p → ⊥)

-- the bytes are a derivation's text
pub record IsProofFile (bytes : List ℕ) : Type 0 where
  pub short : length bytes ≤ MOST_FILE_BYTES
  pub derivation : List Entry
  pub text : IsProofText bytes derivation

-- They are none: they are too many, or this is the least offset with which no such text goes on.
abbrev pub IsBadAt : List ℕ → ℕ → Type 0
IsBadAt bytes offset = ((MOST_FILE_BYTES < length bytes) × (offset ≡ MOST_FILE_BYTES))
    ⊎ ((length bytes ≤ MOST_FILE_BYTES) × IsPlace IsProofText bytes offset)

abbrev pub IsBadProof : List ℕ → Refusal → Type 0
IsBadProof bytes r = (offset : ℕ) × IsBadAt bytes offset × (r ≡ of_entry E72 (decimal offset))

-- the bytes are the text of a derivation of this program
pub record IsProofOf (bytes : List ℕ) (p : Program) : Type 0 where
  pub file : IsProofFile bytes
  pub derives : IsDerivation p file.derivation

-- These entries are no derivation of the program: so it is reported.
abbrev pub IsNoDerivation : Program → List Entry → Refusal → Type 0
IsNoDerivation p es r = (IsDerivation p es → ⊥) × (r ≡ bare E73)

-- The file isn't accepted: so it is reported.
abbrev pub IsRejectedOf : List ℕ → Program → Refusal → Type 0
IsRejectedOf bytes p r =
    IsBadProof bytes r ⊎ (IsProofFile bytes × (IsProofOf bytes p → ⊥) × (r ≡ bare E73))
