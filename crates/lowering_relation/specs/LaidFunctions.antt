-- It serves the proof that lowered code is sound: the function of an instance, and the code of a program.
use Rattle.std.specs.Prelude.{◌≡◌, ◌≤◌, ◌+◌, ℕ, Bool, Some, length, slice_get}
use Rattle.credit_check.specs.fip_trees.Tree.{Instance, Program}
use Rattle.code_rules.specs.cell_code.Plain.{PlainFunction, PlainCode, function_at}
use Rattle.code_rules.specs.Codes.{is_fip, code_kind}
use Rattle.lowering_relation.specs.Known.{Known, joined}
use Rattle.lowering_relation.specs.Values.{Setting}
use Rattle.lowering_relation.specs.LoweredBodies.{Return}
use Rattle.lowering_relation.specs.LoweredFunctions.{known_at_start, IsSettingOf}
use Rattle.lowering_relation.specs.LaidBodies.{BlockLaid}

-- f is the function of an instance: its header is the instance's, and all of its instructions are those of the body
pub record FunctionLaid (c : PlainCode) (st : Setting) (fip : Bool) (f : PlainFunction) (d : Instance) : Type 0 where
  pub params : f.params ≡ d.params
  pub credits : f.credits ≡ d.credits
  pub results : f.results ≡ d.results
  pub room : length d.params + length d.credits ≤ f.registers
  pub after : Known
  pub body : BlockLaid c st fip f 0 (known_at_start st f.registers d) d.body Return (length f.instrs) after

-- function n, which is f, is that of an instance of a program
pub record IsLaid (c : PlainCode) (st : Setting) (p : Program) (n : ℕ) (f : PlainFunction) : Type 0 where
  pub number : ℕ
  pub instance : Instance
  pub there : slice_get p.instances number ≡ Some instance
  pub function : joined (slice_get st.functions number) ≡ Some n
  pub kind : f.kind ≡ code_kind instance.kind
  pub laid : FunctionLaid c st (is_fip f.kind) f instance

-- a code of which each function is that of an instance
pub record AreLaid (c : PlainCode) (st : Setting) (p : Program) : Type 0 where
  pub setting : IsSettingOf p st
  pub each : (n : ℕ) (f : PlainFunction) → function_at c n ≡ Some f → IsLaid c st p n f
