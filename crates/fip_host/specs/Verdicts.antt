-- What a verdict on the bytes of a code file says. Statuses: 0 the bytes spell a sound code, 8 they are no code file,
-- 11 their code isn't sound, 10 there was no memory. Of a cut file of 7 bytes: 8, and 7 as the offset.
use Rattle.std.specs.Prelude.{◌≡◌, ℕ, List}
use Rattle.fip_language.specs.Prefix.{IsPlace}
use Rattle.code_file.specs.CodeText.{IsFileOf}
use Rattle.cell_code.specs.Plain.{plain}
use Rattle.code_verify.specs.Checked.{Checked}
use Rattle.code_verify.specs.cell_code.declared.code.Code.{Code}
use Rattle.code_verify.specs.code_rules.Breaks.{IsLeast, IsSound}
use Rattle.code_verify.specs.code_rules.declared.rule.SoundRule.{SoundRule}
use Rattle.code_verify.specs.code_rules.declared.rule.SoundRule.TheVariants as R
use Rattle.fip_host.specs.declared.answer.FipVerdict.{FipVerdict}

abbrev pub rule_number : SoundRule → ℕ
rule_number R.S0 = 0
rule_number R.S1 = 1
rule_number R.S2 = 2
rule_number R.S3 = 3
rule_number R.S4 = 4
rule_number R.S5 = 5
rule_number R.S6 = 6
rule_number R.S7 = 7
rule_number R.S8 = 8
rule_number R.S9 = 9

-- The bytes spell this code, and it is sound.
pub record IsCodeOf (bytes : List ℕ) (v : Checked) : Type 0 where
  pub spelled : IsFileOf bytes (plain v.code)
  pub sound : IsSound (plain v.code)

-- The bytes spell a sound code.
pub record SpellsSound (bytes : List ℕ) : Type 0 where
  pub code : Code
  pub spelled : IsFileOf bytes (plain code)
  pub sound : IsSound (plain code)

-- The bytes spell a code whose least violation is this one.
pub record SpellsUnsound (bytes : List ℕ) (function at rule : ℕ) : Type 0 where
  pub code : Code
  pub spelled : IsFileOf bytes (plain code)
  pub broken : SoundRule
  pub number : rule ≡ rule_number broken
  pub least : IsLeast (plain code) function at broken

pub record IsVerdict (bytes : List ℕ) (v : FipVerdict) : Type 0 where
  pub sound : v.status ≡ 0 → SpellsSound bytes
  pub bad : v.status ≡ 8 → IsPlace IsFileOf bytes v.at
  pub unsound : v.status ≡ 11 → SpellsUnsound bytes v.function v.at v.rule
