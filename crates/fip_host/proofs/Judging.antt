-- Verdicts by their status.
use Rattle.std.proofs.Common.{◌≡◌, ℕ, List, sym, subst, arith}
use Rattle.fip_language.specs.Prefix.{IsPlace}
use Rattle.code_file.specs.CodeText.{IsFileOf}
use Rattle.fip_host.specs.declared.answer.FipVerdict.{FipVerdict}
use Rattle.cell_code.specs.Plain.{plain}
use Rattle.code_verify.specs.cell_code.declared.code.Code.{Code}
use Rattle.code_verify.specs.code_rules.Breaks.{IsLeast}
use Rattle.code_verify.specs.code_rules.declared.rule.SoundRule.{SoundRule}
use Rattle.fip_host.specs.Verdicts.{IsVerdict, SpellsSound, rule_number}

pub verdict_sound : (bytes : List ℕ) (v : FipVerdict) → v.status ≡ 0 → SpellsSound bytes → IsVerdict bytes v
verdict_sound bytes v e s = record {
  sound = λ _. s;
  bad = λ h. absurd (omega (arith, e, h));
  unsound = λ h. absurd (omega (arith, e, h));
}

pub verdict_bad : (bytes : List ℕ) (v : FipVerdict) → v.status ≡ 8 → IsPlace IsFileOf bytes v.at → IsVerdict bytes v
verdict_bad bytes v e place = record {
  sound = λ h. absurd (omega (arith, e, h));
  bad = λ _. place;
  unsound = λ h. absurd (omega (arith, e, h));
}

pub verdict_unsound : (bytes : List ℕ) (v : FipVerdict) (code : Code) (n i : ℕ) (rule : SoundRule) → v.status ≡ 11 → v.function ≡ n → v.at ≡ i →
    v.rule ≡ rule_number rule → IsFileOf bytes (plain code) → IsLeast (plain code) n i rule → IsVerdict bytes v
verdict_unsound bytes v code n i rule e at_n at_i number spelled least = record {
  sound = λ h. absurd (omega (arith, e, h));
  bad = λ h. absurd (omega (arith, e, h));
  unsound = λ _. record {
    code = code;
    spelled = spelled;
    broken = rule;
    number = number;
    least = subst (λ (m : ℕ). IsLeast (plain code) m v.at rule) (sym at_n) (subst (λ (j : ℕ). IsLeast (plain code) n j rule) (sym at_i) least);
  };
}

pub verdict_memory : (bytes : List ℕ) (v : FipVerdict) → v.status ≡ 10 → IsVerdict bytes v
verdict_memory bytes v e = record {
  sound = λ h. absurd (omega (arith, e, h));
  bad = λ h. absurd (omega (arith, e, h));
  unsound = λ h. absurd (omega (arith, e, h));
}
