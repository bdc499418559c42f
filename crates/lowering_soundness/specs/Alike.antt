-- It serves the proof that a function has the stack number of its instance: each function of a code is that of an
-- instance, of its kind and with as many registers, and the functions call each other just as the instances do.
use Rattle.std.specs.Prelude.{◌≡◌, ℕ, Bool, List, Some, slice_get}
use Rattle.lowering_relation.specs.fip_trees.Tree.{Instance}
use Rattle.tail_groups.specs.call_groups.CallGraph as G
use Rattle.tail_groups.specs.Sites.{call_rows}
use Rattle.tail_groups.specs.Registers.{registers}
use Rattle.separation.specs.cell_code.CodeKinds.{code_kind}
use Rattle.separation.specs.cell_code.Plain.{PlainFunction, PlainCode, function_at}
use Rattle.separation.specs.code_rules.Calls.{Calls}
use Rattle.lowering_relation.specs.LoweredBodies.{function_of}

pub record Alike (c : PlainCode) (ds : List Instance) : Type 0 where
  pub of_function : (n : ℕ) (f : PlainFunction) → function_at c n ≡ Some f → (i : ℕ) × (function_of ds i ≡ Some n)
  pub has_function :
      (i n : ℕ) (d : Instance) → function_of ds i ≡ Some n → slice_get ds i ≡ Some d →
      (f : PlainFunction) × (function_at c n ≡ Some f) × (f.kind ≡ code_kind d.kind) × (f.registers ≡ registers d)
  pub to_instances :
      (i a b : ℕ) (waits : Bool) → function_of ds i ≡ Some a → Calls c a b waits →
      (j : ℕ) × (function_of ds j ≡ Some b) × G.Calls (call_rows ds) i j waits
  pub to_functions :
      (i j a : ℕ) (waits : Bool) → function_of ds i ≡ Some a → G.Calls (call_rows ds) i j waits →
      (b : ℕ) × (function_of ds j ≡ Some b) × Calls c a b waits
