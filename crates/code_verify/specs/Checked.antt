-- What a verified code keeps to, beside being sound: its stack numbers, which tree an instruction releases, and that
-- ints have 64 bits.
use Rattle.std.specs.Prelude.{◌≡◌, ℕ, ℤ, true, List, Option, Some, None, slice_get, FitsSigned}
use Rattle.std.specs.Int.{w64}
use Rattle.fip_base.specs.declared.plain.Stack.{Stack}
use Rattle.cell_code.specs.Plain.{PlainFunction, PlainCode, function_at}
use Rattle.code_rules.specs.Headers.{is_formed}
use Rattle.code_rules.specs.StackNumbers.{HasStack}
use Rattle.cell_code.specs.declared.code.Instr.{Instr}
use Rattle.cell_code.specs.declared.code.Instr.TheVariants as I
use Rattle.cell_code.specs.declared.kind.Kind.{Kind}
use Rattle.cell_code.specs.declared.kind.Kind.TheVariants.{Owned}
use Rattle.code_rules.specs.Kinds.{at}
use Rattle.code_rules.specs.Flow.{IsInstr, IsReachedAt}
pub use Rattle.code_verify.specs.Verified.{Checked}

-- An int that the instruction writes has 64 bits.
abbrev pub HasMachineInt : Instr → Type 0
HasMachineInt x = (d : ℕ) (v : ℤ) → x ≡ I.Const d v → FitsSigned w64 v

-- Each int that an instruction of the code writes has 64 bits, whether the instruction is reached or not: a code that
-- is in memory has no Const 0 9223372036854775808.
abbrev pub HasMachineInts : PlainCode → Type 0
HasMachineInts c =
    (n i : ℕ) (f : PlainFunction) (x : Instr) → function_at c n ≡ Some f → IsInstr f i x → HasMachineInt x

-- Instruction i is reached, and releases a tree of type t.
pub record ReachedDrop (c : PlainCode) (f : PlainFunction) (i t : ℕ) : Type 0 where
  pub kinds : List Kind
  pub register : ℕ
  pub set : List ℕ
  pub reached : IsReachedAt c f i kinds (I.Drop register)
  pub owned : at kinds register ≡ Owned t set

-- Instruction i of function n is a Drop that is reached, and releases a tree of type t.
abbrev pub ReleasesAt : PlainCode → ℕ → ℕ → ℕ → Type 0
ReleasesAt c n i t = (f : PlainFunction) × (function_at c n ≡ Some f) × (is_formed c f ≡ true) × ReachedDrop c f i t

abbrev pub stack_or_none : Option (Option Stack) → Option Stack
stack_or_none None = None
stack_or_none (Some o) = o

-- the stack number of function n; none where there is none
abbrev pub stack_at : List (Option Stack) → ℕ → Option Stack
stack_at ss n = stack_or_none (slice_get ss n)

-- Each function's stack number is the written one.
abbrev pub HaveStacks : PlainCode → List (Option Stack) → Type 0
HaveStacks c ss = (n : ℕ) → HasStack c n (stack_at ss n)
