-- What is said of a code file before a function of it is run: its bytes are no code file, or its code isn't sound, or
-- no function has the entry's name. And what is printed of one: a line for each function that has a name, in the code's
-- order, as in
--     rev fip stack 0 frames 9 words
--     len fbip
use Rattle.std.specs.Prelude.{◌≡◌, ◌⊎◌, ◌<◌, ◌≤◌, ℕ, suc, Bool, true, false, List, [], ◌∷◌, ◌++◌, length, Option}
use Rattle.std.specs.Prelude.{bytes_eq, if◌then◌else◌}
use Rattle.fip_language.specs.declared.limits.TheConstants.{MOST_FILE_BYTES}
use Rattle.fip_language.specs.declared.rule.Rule.TheVariants.{E61, E70}
use Rattle.fip_language.specs.Prefix.{IsPlace}
use Rattle.fip_base.specs.declared.plain.Stack.{Stack}
use Rattle.code_file.specs.CodeText.{CodeText, IsFileOf}
use Rattle.cell_code.specs.CodeKinds.{fun_kind}
use Rattle.cell_code.specs.Plain.{PlainFunction, PlainCode}
use Rattle.code_file.specs.declared.tags.Version.TheVariants.{Second}
use Rattle.code_verify.specs.code_rules.Breaks.{IsLeast, IsSound}
use Rattle.code_verify.specs.code_rules.StackNumbers.{HasStack}
use Rattle.program_front.specs.source_report.Report.{bare}
use Rattle.command_source.specs.Wanted.{IsRefusedBy, of_entry}
use Rattle.command_outcome.specs.Successes.{function_text}
use Rattle.command_outcome.specs.declared.failure.Failure.{Failure}
use Rattle.command_outcome.specs.declared.failure.Failure.TheVariants as F

-- a code that has a file, of either version
abbrev pub IsSpelt : PlainCode → Type 0
IsSpelt code = (bytes : List ℕ) × IsFileOf bytes code

-- The bytes are the file of this code, which is sound.
pub record IsSoundFile (bytes : List ℕ) (code : PlainCode) : Type 0 where
  pub short : length bytes ≤ MOST_FILE_BYTES
  pub spelt : IsFileOf bytes code
  pub sound : IsSound code

-- ---- what is said in its place

pub data RefusesCode (bytes : List ℕ) : Failure → Type 0 where
  LongFile : MOST_FILE_BYTES < length bytes → RefusesCode bytes (F.BadCode MOST_FILE_BYTES)
  BadFile : (at : ℕ) → length bytes ≤ MOST_FILE_BYTES → IsPlace IsFileOf bytes at → RefusesCode bytes (F.BadCode at)
  UnsoundFile : (code : PlainCode) (function at : ℕ) (rule : _) → length bytes ≤ MOST_FILE_BYTES →
      IsFileOf bytes code → IsLeast code function at rule →
      RefusesCode bytes (F.Unsound function at rule)

-- The same, or that memory ran out.
abbrev pub KeepsFromCode : List ℕ → Failure → Type 0
KeepsFromCode bytes (F.BadCode at) = RefusesCode bytes (F.BadCode at)
KeepsFromCode bytes (F.Unsound function at rule) = RefusesCode bytes (F.Unsound function at rule)
KeepsFromCode bytes F.NoMemory = Unit {0}
KeepsFromCode bytes failure = ⊥

-- ---- its functions

-- what function n of the code holds of the stack at the most, in the line of a function that has a name
abbrev pub IsLine : PlainCode → ℕ → PlainFunction → List ℕ → List ℕ → Type 0
IsLine c n f [] text = text ≡ []
IsLine c n f (b ∷ name) text =
    (held : Option Stack) × HasStack c n held × (text ≡ function_text (b ∷ name) (fun_kind f.kind) f.credits held)

-- the lines of these functions, of numbers from n on
abbrev pub AreLines : PlainCode → ℕ → List PlainFunction → List ℕ → Type 0
AreLines c n [] text = text ≡ []
AreLines c n (f ∷ fs) text =
    (line rest : List ℕ) × IsLine c n f f.name line × AreLines c (suc n) fs rest × (text ≡ line ++ rest)

-- The text is what is printed of the code of these bytes.
pub record IsCodeListing (bytes text : List ℕ) : Type 0 where
  pub code : PlainCode
  pub file : IsSoundFile bytes code
  pub lines : AreLines code 0 code.functions text

-- a function of this name; the empty name names none
abbrev pub has_named : List ℕ → List PlainFunction → Bool
has_named name [] = false
has_named name (f ∷ fs) = if bytes_eq f.name name then true else has_named name fs

abbrev pub names_one : List ℕ → List PlainFunction → Bool
names_one [] fs = false
names_one (b ∷ name) fs = has_named (b ∷ name) fs

-- ---- its file of the second version

-- No file of the second version that isn't too long encodes the code.
abbrev pub IsUnspelt : PlainCode → Type 0
IsUnspelt code = (file : List ℕ) → CodeText file Second code → MOST_FILE_BYTES < length file

-- The file is that of the second version of the code of these bytes.
pub record IsUpgraded (bytes file : List ℕ) : Type 0 where
  pub code : PlainCode
  pub of' : IsSoundFile bytes code
  pub spelt : CodeText file Second code
  pub short : length file ≤ MOST_FILE_BYTES

-- ---- what keeps a code file from more

-- A violation of a code, the least one; or that memory ran out.
abbrev pub IsLeastOf : PlainCode → Failure → Type 0
IsLeastOf c (F.Unsound function at rule) = IsLeast c function at rule
IsLeastOf c F.NoMemory = Unit {0}
IsLeastOf c failure = ⊥

-- What is said in place of a second version's file, or that memory ran out.
abbrev pub KeepsFromUpgrade : List ℕ → Failure → Type 0
KeepsFromUpgrade bytes failure = KeepsFromCode bytes failure
    ⊎ ((code : PlainCode) × IsSoundFile bytes code × IsUnspelt code × IsRefusedBy (λ r. r ≡ bare E61) failure)

-- What is said in place of a run of a function, or that memory ran out.
abbrev pub KeepsFromRun : List ℕ → List ℕ → Failure → Type 0
KeepsFromRun bytes entry failure = KeepsFromCode bytes failure
    ⊎ ((code : PlainCode) × IsSoundFile bytes code × (names_one entry code.functions ≡ false)
    × IsRefusedBy (λ r. r ≡ of_entry E70 entry) failure)

-- The bytes are the file of a sound code that has a function of this name.
abbrev pub HasFunction : List ℕ → List ℕ → Type 0
HasFunction bytes entry =
    (code : PlainCode) × IsSoundFile bytes code × (names_one entry code.functions ≡ true)
