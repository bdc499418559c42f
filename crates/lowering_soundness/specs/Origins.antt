-- It serves the proof that lowered code is sound: where the calls in a function's code come from. Each is one of the
-- calls of the instance's body, and waits for its callee just where that one isn't in tail position.
-- The body  let y = f(x); g(y)  has the instructions Call f [0] [1] and Tail g [1]: the first waits for f.
use Rattle.std.specs.Prelude.{◌≡◌, ℕ, ◌≤◌, ◌<◌, Bool, true, false, not, List, Some, slice_get}
use Rattle.separation.specs.cell_code.declared.code.Instr.{Instr}
use Rattle.separation.specs.cell_code.declared.code.Instr.TheVariants as I
use Rattle.tail_groups.specs.call_groups.CallGraph.{In}
use Rattle.tail_groups.specs.Sites.{Site}
use Rattle.separation.specs.cell_code.Plain.{PlainFunction}
use Rattle.separation.specs.code_rules.Calls.{IsCall}
use Rattle.lowering_relation.specs.Known.{joined}
use Rattle.lowering_relation.specs.Values.{Setting}

-- a tree is dropped, or a credit freed
abbrev pub gives_up : Instr → Bool
gives_up (I.Const d v) = false
gives_up (I.Atom d t k) = false
gives_up (I.Move d s) = false
gives_up (I.Arith d op a b line col) = false
gives_up (I.Test r k target) = false
gives_up (I.TestInt r v target) = false
gives_up (I.Peek d r i) = false
gives_up (I.Take r ds) = false
gives_up (I.Put d t k ss) = false
gives_up (I.Drop r) = true
gives_up (I.Free r) = true
gives_up (I.Call g rs ds) = false
gives_up (I.Tail g rs) = false
gives_up (I.Ret rs) = false
gives_up (I.Jump target) = false

-- a call of function g comes from one of these calls
pub record ComesFrom (st : Setting) (ss : List Site) (g : ℕ) (waits : Bool) : Type 0 where
  pub site : Site
  pub there : In site ss
  pub function : joined (slice_get st.functions site.callee) ≡ Some g
  pub tail : waits ≡ not site.is_tail

-- an instruction of a body with these calls; in fip it neither drops nor frees
pub record HasOrigin (st : Setting) (fip : Bool) (ss : List Site) (x : Instr) : Type 0 where
  pub keeps : fip ≡ true → gives_up x ≡ false
  pub calls : (g : ℕ) (waits : Bool) → IsCall x g waits → ComesFrom st ss g waits

-- all instructions from a up to b
abbrev pub HaveOrigins : Setting → Bool → PlainFunction → List Site → ℕ → ℕ → Type 0
HaveOrigins st fip f ss a b =
    (p : ℕ) (x : Instr) → a ≤ p → p < b → slice_get f.instrs p ≡ Some x → HasOrigin st fip ss x
