-- It serves the proof that lowered code is sound: where the kinds before an instruction are reported, it is as
-- required, and these are the kinds after it.
use Rattle.std.specs.Prelude.{◌≡◌, ℕ, true, List}
use Rattle.separation.specs.cell_code.declared.code.Instr.{Instr}
use Rattle.separation.specs.cell_code.declared.kind.Kind.{Kind}
use Rattle.separation.specs.cell_code.Plain.{PlainFunction, PlainCode}
use Rattle.separation.specs.code_rules.Asked.{sources, destinations}
use Rattle.separation.specs.code_rules.Endings.{spends_all}
use Rattle.separation.specs.code_rules.Leaves.{Leaves}
use Rattle.lowering_soundness.specs.Covering.{Covered}

pub record IsRow (c : PlainCode) (f : PlainFunction) (m : ℕ → Kind) (x : Instr) (l : ℕ → Kind) : Type 0 where
  pub sources : (ks : List Kind) → Covered f.registers m ks → sources c f ks x ≡ true
  pub destinations : (ks : List Kind) → Covered f.registers m ks → destinations c ks x ≡ true
  pub leaves : (ks left : List Kind) → Covered f.registers m ks → Leaves c ks x left → Covered f.registers l left

-- the same of an instruction after which nothing follows, and nothing that is owned and no credit is left
pub record IsLastRow (c : PlainCode) (f : PlainFunction) (m : ℕ → Kind) (x : Instr) : Type 0 where
  pub sources : (ks : List Kind) → Covered f.registers m ks → sources c f ks x ≡ true
  pub destinations : (ks : List Kind) → Covered f.registers m ks → destinations c ks x ≡ true
  pub spends : (ks : List Kind) → Covered f.registers m ks → spends_all c f ks x ≡ true
