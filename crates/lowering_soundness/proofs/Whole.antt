-- A code is sound where its tables are, and each function has the form that is required, has its numbers in range,
-- keeps the rules at each instruction, and, where it is fip, waits for none of its own group.
use Rattle.std.proofs.Common.{◌≡◌, inl, inr, ℕ, length, Some, sym, subst, arith}
use Rattle.separation.specs.cell_code.declared.kind.Kind.{Kind}
use Rattle.separation.specs.code_rules.declared.rule.SoundRule.{SoundRule}
use Rattle.separation.specs.code_rules.declared.rule.SoundRule.TheVariants.{S0, S1, S2, S3, S4, S5, S6, S7, S8, S9}
use Rattle.separation.specs.cell_code.Plain.{PlainFunction, PlainCode, function_at}
use Rattle.separation.specs.code_rules.Tables.{AreSoundTables}
use Rattle.separation.specs.code_rules.Headers.{is_formed}
use Rattle.separation.specs.code_rules.Entry.{entry}
use Rattle.separation.specs.code_rules.Breaks.{BreaksWithin, BreaksFunction, IsSound}
use Rattle.separation.proofs.separation_kinds.Basics.{get_within, apart}
use Rattle.lowering_soundness.specs.Covering.{Covered}
use Rattle.lowering_soundness.specs.Parts.{IsKept, LastPart}
use Rattle.lowering_soundness.specs.Whole.{KeepsRules}

within : (c : PlainCode) (n i : ℕ) (f : PlainFunction) (rule : SoundRule) → KeepsRules c n f → BreaksWithin c n f i rule → ⊥
within c n i f S0 k b = b
within c n i f S1 k b = apart _ (k.ranged i b.instr b.is).ranged b.breaks
within c n i f S2 k b = apart _ (k.kept i b.kinds b.instr b.reached).sources b.breaks
within c n i f S3 k b = apart _ (k.kept i b.kinds b.instr b.reached).destinations b.breaks
within c n i f S4 k b = apart _ ((k.kept i b.kinds b.instr b.reached).last b.last) b.breaks
within c n i f S5 k b = apart _ ((k.kept i b.goes.kinds b.goes.instr b.goes.reached).fits b.target b.left b.map b.goes.goes b.label) b.breaks
within c n i f S6 k b = apart _ (k.kept i b.kinds b.instr b.reached).spends b.breaks
within c n i f S7 k b = apart _ b.breaks ((k.ranged i b.instr b.reached.instr).fip b.fip)
within c n i f S8 k b = k.calls i b.callee b.calls b.fip b.breaks
within c n i f S9 k b = b

breaks : (c : PlainCode) (n i : ℕ) (f : PlainFunction) (rule : SoundRule) → KeepsRules c n f → BreaksFunction c n f i rule → ⊥
breaks c n i f rule k (inl x) = apart (is_formed c f) k.formed x.0
breaks c n i f rule k (inr x) = within c n i f rule k x.1

pub sound : (c : PlainCode) → AreSoundTables c → ((n : ℕ) (f : PlainFunction) → function_at c n ≡ Some f → KeepsRules c n f) → IsSound c
sound c tables all n i rule (inl x) = x.0 tables
sound c tables all n i rule (inr x) = breaks c n i x.1.0 rule (all n x.1.0 x.1.1) x.1.2

-- each instruction of a function keeps the rules, where all of it is one part
pub kept_whole : (c : PlainCode) (f : PlainFunction) (m : ℕ → Kind) → LastPart c f 0 m (length f.instrs) → Covered f.registers m (entry c f) → (i : ℕ) → IsKept c f i
kept_whole c f m part covered i ks x reached =
    part.kept (λ none ks h. subst (Covered f.registers m) (sym h) covered) i (omega arith) (get_within f.instrs i x reached.instr) ks x reached
