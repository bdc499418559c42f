-- It serves the proof that lowered code is sound: what of each function makes a code sound.
use Rattle.std.specs.Prelude.{◌≡◌, ℕ, true}
use Rattle.separation.specs.cell_code.declared.code.Instr.{Instr}
use Rattle.separation.specs.cell_code.Plain.{PlainFunction, PlainCode}
use Rattle.separation.specs.code_rules.Codes.{is_fip}
use Rattle.separation.specs.code_rules.Headers.{is_formed}
use Rattle.separation.specs.code_rules.Flow.{IsInstr}
use Rattle.separation.specs.code_rules.Calls.{CallsAt, SameGroup}
use Rattle.lowering_soundness.specs.Parts.{IsKept, IsRanged}

-- Function n, which is f, breaks no rule.
pub record KeepsRules (c : PlainCode) (n : ℕ) (f : PlainFunction) : Type 0 where
  pub formed : is_formed c f ≡ true
  pub ranged : (i : ℕ) (x : Instr) → IsInstr f i x → IsRanged c f i x
  pub kept : (i : ℕ) → IsKept c f i
  pub calls : (i callee : ℕ) → CallsAt c n i callee true → is_fip f.kind ≡ true → SameGroup c n callee → ⊥
