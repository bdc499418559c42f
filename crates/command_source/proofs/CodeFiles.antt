-- From what was read and verified to what is said of a code file.
use Rattle.std.proofs.Common.{◌≡◌, ◌<◌, ◌≤◌, ◌++◌, ℕ, zero, suc, true, false, List, [], ◌∷◌, length, refl, sym, subst, inl, inr, append-nil, append_assoc, drop, get_or, arith}
use Rattle.std.specs.Prelude.{◌⊎◌, Result, Ok, Err, IfOk, IfErr, OnOk}
use Rattle.fip_language.specs.declared.rule.Rule.TheVariants.{E61, E70}
use Rattle.fip_base.specs.declared.refusal.Refusal.{Refusal}
use Rattle.cell_code.specs.declared.code.Code.{Code}
use Rattle.code_file.specs.CodeText.{CodeText, IsFileOf}
use Rattle.code_file.specs.declared.tags.Version.TheVariants.{Second}
use Rattle.cell_code.specs.Plain.{PlainFunction, PlainCode, plain}
use Rattle.code_verify.specs.Checked.{Checked}
use Rattle.code_verify.specs.code_rules.Breaks.{IsSound}
use Rattle.command_outcome.specs.declared.failure.Failure.{Failure}
use Rattle.command_outcome.specs.declared.failure.Failure.TheVariants as F
use Rattle.program_front.specs.source_report.Report.{bare}
use Rattle.command_source.specs.Codes.{IsSoundFile, UnsoundFile, KeepsFromCode, KeepsFromUpgrade, KeepsFromRun, IsLeastOf, IsLine, AreLines, IsCodeListing, IsUnspelt, HasFunction, names_one}
use Rattle.command_source.specs.Wanted.{IsRefusedBy, of_entry}
pub use Rattle.fip_language.proofs.Facts.{drop_end, drop_suc as drop_at}

-- ---- a file that was read

pub file_sound : (bytes : List ℕ) (code : Code) (o : Result Checked Failure) → length bytes ≤ 16777216 → IsFileOf bytes (plain code) → IfOk o (λ v. v.code ≡ code) → IfOk o (λ v. IsSound (plain code)) → IfOk o (λ v. IsSoundFile bytes (plain v.code))
file_sound bytes code (Ok v) le spelt same sound =
    subst (λ c. IsSoundFile bytes (plain c)) (sym same) (record { short = le; spelt = spelt; sound = sound })
file_sound bytes code (Err f) le spelt same sound = tt

unsound_file : (bytes : List ℕ) (code : Code) (f : Failure) → length bytes ≤ 16777216 → IsFileOf bytes (plain code) → IsLeastOf (plain code) f → KeepsFromCode bytes f
unsound_file bytes code (F.Unsound function at rule) le spelt h =
    UnsoundFile (plain code) function at rule le spelt h
unsound_file bytes code F.NoMemory le spelt h = tt
unsound_file bytes code f le spelt h = absurd h

pub file_unsound : (bytes : List ℕ) (code : Code) (o : Result Checked Failure) → length bytes ≤ 16777216 → IsFileOf bytes (plain code) → IfErr o (IsLeastOf (plain code)) → IfErr o (KeepsFromCode bytes)
file_unsound bytes code (Ok v) le spelt h = tt
file_unsound bytes code (Err f) le spelt h = unsound_file bytes code f le spelt h

-- the file of a sound code
pub sound_file : (bytes : List ℕ) (code : Code) → CodeText bytes Second (plain code) → length bytes ≤ 16777216 → IsSound (plain code) → (c : PlainCode) × IsSoundFile bytes c
sound_file bytes code spelt le sound = (plain code, record { short = le; spelt = (Second, spelt); sound = sound })

-- ---- the lines

-- one line more
pub more_lines : (c : PlainCode) (all : List PlainFunction) (n : ℕ) (f : PlainFunction) (fs : List PlainFunction) (old line : List ℕ) → ((more : List ℕ) → AreLines c n (f ∷ fs) more → AreLines c 0 all (old ++ more)) → IsLine c n f f.name line → (more : List ℕ) → AreLines c (suc n) fs more → AreLines c 0 all ((old ++ line) ++ more)
more_lines c all n f fs old line rest is more h =
    subst (AreLines c 0 all) (sym (append_assoc old line more)) (rest (line ++ more) (line, more, is, h, refl))

pub all_lines : (c : PlainCode) (all : List PlainFunction) (n : ℕ) (text : List ℕ) → ((more : List ℕ) → AreLines c n [] more → AreLines c 0 all (text ++ more)) → AreLines c 0 all text
all_lines c all n text rest = subst (AreLines c 0 all) (append-nil text) (rest [] refl)

pub listed : (bytes text : List ℕ) (code : Code) → IsSoundFile bytes (plain code) → AreLines (plain code) 0 (plain code).functions text → IsCodeListing bytes text
listed bytes text code file lines =
    record { code = plain code; file = file; lines = lines }

-- ---- what a file requires further

pub unspelt_keeps : (bytes : List ℕ) (code : Code) (f : Failure) → IsSoundFile bytes (plain code) → ((r : Refusal) → ◌≡◌ {A = Failure} f (F.Refused r) → IsUnspelt (plain code)) → IsRefusedBy (λ r. r ≡ bare E61) f → KeepsFromUpgrade bytes f
unspelt_keeps bytes code (F.Refused r) file unspelt h = inr (plain code, file, unspelt r refl, h)
unspelt_keeps bytes code F.NoMemory file unspelt h = inl tt
unspelt_keeps bytes code f file unspelt h = absurd h

has_function : (bytes entry : List ℕ) (code : Code) → IsSoundFile bytes (plain code) → names_one entry (plain code).functions ≡ true → HasFunction bytes entry
has_function bytes entry code file named =
    (plain code, file, named)

no_function : (bytes entry : List ℕ) (code : Code) (f : Failure) → IsSoundFile bytes (plain code) → (names_one entry (plain code).functions ≡ false) ⊎ (f ≡ F.NoMemory) → IsRefusedBy (λ r. r ≡ of_entry E70 entry) f → KeepsFromRun bytes entry f
no_function bytes entry code f file (inl none) h =
    inr (plain code, file, none, h)
no_function bytes entry code f file (inr e) h = inl (subst (KeepsFromCode bytes) (sym e) tt)

pub function_found : {T : Type 0} (bytes entry : List ℕ) (code : Code) (o : Result T Failure) → IsSoundFile bytes (plain code) → OnOk o (names_one entry (plain code).functions ≡ true) → OnOk o (HasFunction bytes entry)
function_found bytes entry code (Ok t) file h = has_function bytes entry code file h
function_found bytes entry code (Err f) file h = tt

pub function_missed : {T : Type 0} (bytes entry : List ℕ) (code : Code) (o : Result T Failure) → IsSoundFile bytes (plain code) → IfErr o (λ f. (names_one entry (plain code).functions ≡ false) ⊎ (f ≡ F.NoMemory)) → IfErr o (IsRefusedBy (λ r. r ≡ of_entry E70 entry)) → IfErr o (KeepsFromRun bytes entry)
function_missed bytes entry code (Ok t) file h k = tt
function_missed bytes entry code (Err f) file h k = no_function bytes entry code f file h k
