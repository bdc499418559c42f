-- What a run relies on: from the first instruction of each function on, whatever way is taken, registers, targets,
-- functions and lists are in range, and what a fip function needs of the stack covers what it calls. So a run tests
-- none of them. A code that the verifier accepts is runnable. Instructions that no way reaches may be anything.
use Rattle.std.specs.Prelude.{◌≡◌, ◌≢◌, ℕ, zero, suc, ◌+◌, ◌<◌, ◌≤◌, List, Option, length, All, Some, slice_get}
use Rattle.fip_base.specs.fip_language.declared.limits.TheConstants.{MOST_FIELDS, MOST_REGISTERS, MOST_RESULTS}
use Rattle.fip_base.specs.declared.plain.Stack.{Stack}
use Rattle.cell_code.specs.declared.code.Instr.{Instr}
use Rattle.cell_code.specs.declared.code.Instr.TheVariants as I
use Rattle.cell_code.specs.declared.code.Function.{Function}

-- a function's number, registers and instructions, among all functions and the stacks that they need, one for each
-- function that is fip
pub record Body : Type 0 where
  pub functions : List Function
  pub stacks : List (Option Stack)
  pub function : ℕ
  pub registers : ℕ
  pub instrs : List Instr

abbrev pub body_of : List Function → List (Option Stack) → ℕ → Function → Body
body_of fs ss f g = record {
  functions = fs;
  stacks = ss;
  function = f;
  registers = g.registers;
  instrs =
      g.instrs.items;
}

-- registers below n
abbrev pub AreBelow : ℕ → List ℕ → Type 0
AreBelow n rs = All (λ r. r < n) rs

-- registers other than this one
abbrev pub AreOthers : ℕ → List ℕ → Type 0
AreOthers r rs = All (λ q. q ≢ r) rs

-- a function that has room for so many arguments and credits
abbrev pub CanCall : List Function → ℕ → ℕ → Type 0
CanCall fs f k = (g : Function) × (slice_get fs f ≡ Some g) × (k ≤ g.registers)

-- Where function f needs a stack that is known, so does function g, and with n words beside it that is no more.
abbrev pub Covers : List (Option Stack) → ℕ → ℕ → ℕ → Type 0
Covers ss f g n = (s : Stack) → slice_get ss f ≡ Some (Some s) → (t : Stack) × (slice_get ss g ≡ Some (Some t))
    × (n + t.words ≤ s.words)

-- Instruction i does what it does in range, and P holds of each instruction that may be next in the function.
abbrev pub Row : Body → ℕ → (ℕ → Type 0) → Instr → Type 0
Row b i P (I.Const d v) = (d < b.registers) × P (i + 1)
Row b i P (I.Atom d t c) = (d < b.registers) × P (i + 1)
Row b i P (I.Move d s) = (d < b.registers) × (s < b.registers) × P (i + 1)
Row b i P (I.Arith d op x y line col) = (d < b.registers) × (x < b.registers) × (y < b.registers) × P (i + 1)
Row b i P (I.Test r c target) = (r < b.registers) × P (i + 1) × (i < target) × P target
Row b i P (I.TestInt r v target) = (r < b.registers) × P (i + 1) × (i < target) × P target
Row b i P (I.Peek d r k) = (d < b.registers) × (r < b.registers) × P (i + 1)
Row b i P (I.Take r ds) = (r < b.registers) × AreBelow b.registers ds × AreOthers r ds × (length ds ≤ MOST_FIELDS)
    × P (i + 1)
Row b i P (I.Put d t c ss) = (d < b.registers) × AreBelow b.registers ss × (length ss ≤ MOST_FIELDS) × P (i + 1)
Row b i P (I.Drop r) = (r < b.registers) × P (i + 1)
Row b i P (I.Free r) = (r < b.registers) × P (i + 1)
Row b i P (I.Call f ss ds) = AreBelow b.registers ss × AreBelow b.registers ds × CanCall b.functions f (length ss)
    × Covers b.stacks b.function f (b.registers + 2) × P (i + 1)
Row b i P (I.Tail f ss) = AreBelow b.registers ss × CanCall b.functions f (length ss) × Covers b.stacks b.function f 0
Row b i P (I.Ret rs) = AreBelow b.registers rs × (length rs ≤ MOST_RESULTS)
Row b i P (I.Jump target) = (i < target) × P target

-- Instruction i, and after it on every way at most k steps long.
abbrev pub Follows : Body → ℕ → ℕ → Type 0
Follows b zero i = ⊥
Follows b (suc k) i = (x : Instr) × (slice_get b.instrs i ≡ Some x) × Row b i (Follows b k) x

-- Instruction i, and every way from it to its end.
abbrev pub IsSafe : Body → ℕ → Type 0
IsSafe b i = (k : ℕ) × Follows b k i

pub record IsFunction (fs : List Function) (ss : List (Option Stack)) (f : ℕ) (g : Function) : Type 0 where
  pub start : IsSafe (body_of fs ss f g) 0
  pub few : length g.instrs.items < 4294967296
  pub small : g.registers ≤ MOST_REGISTERS
  pub own : (s : Stack) → slice_get ss f ≡ Some (Some s) → g.registers + 2 ≤ s.words

pub record IsRunnable (fs : List Function) (ss : List (Option Stack)) : Type 0 where
  pub functions : (f : ℕ) (g : Function) → slice_get fs f ≡ Some g → IsFunction fs ss f g
