-- Where a run is, among the words of its frames. A frame that waits for a call is its registers and two words more: its
-- function and the number of the call. The running frame lies after those that wait. With a function f of 3 registers
-- that calls g of 2 at its instruction 4, the words of both frames are r0 r1 r2 f 4 | s0 s1, and g's frame begins at 5.
use Rattle.std.specs.Prelude.{◌≡◌, ℕ, zero, suc, ◌+◌, ◌-◌, ◌*◌, ◌<◌, ◌≤◌, List, length, Some, slice_get, slice_index_or}
use Rattle.fip_language.specs.declared.limits.TheConstants.{MOST_REGISTERS}
use Rattle.fip_base.specs.declared.plain.Stack.{Stack}
use Rattle.cell_code.specs.declared.code.Instr.TheVariants as I
use Rattle.cell_code.specs.declared.code.Function.{Function}
use Rattle.cell_code.specs.Runnable.{Body, AreBelow, IsSafe, body_of}
use Rattle.code_verify.specs.Checked.{Checked}
use Rattle.machine_step.specs.declared.cursor.Bounds.{Bounds}
use Rattle.machine_step.specs.declared.cursor.Cursor.{Cursor}
use Rattle.machine_step.specs.Bounding.{Fits}

abbrev pub body_at : Checked → Cursor → Body
body_at v c = record {
  functions = v.code.functions.items;
  stacks = v.stacks;
  function = c.function;
  registers =
      c.registers;
  instrs = c.instrs.now;
}

-- The next instruction is safe, and the running frame lies among so many words.
pub record IsPlaced (v : Checked) (b : Bounds) (n : ℕ) (c : Cursor) : Type 0 where
  pub is : (g : Function) × (slice_get v.code.functions.items c.function ≡ Some g) × (g.registers ≡ c.registers)
      × (g.instrs.items ≡ c.instrs.now)
  pub safe : IsSafe (body_at v c) c.at
  pub within : c.at < length c.instrs.now
  pub few : length c.instrs.now < 4294967296
  pub small : c.registers ≤ MOST_REGISTERS
  pub largest : c.registers + 2 ≤ b.largest
  pub own : (s : Stack) → slice_get v.stacks c.function ≡ Some (Some s) → c.registers + 2 ≤ s.words
  pub frames : c.frames ≤ b.frames
  pub fits : Fits v b c.function c.frames c.base
  pub room : c.base + c.registers ≤ n

-- Either all words that frames may have are there, or enough for one more frame of any function.
abbrev pub IsRoomy : Bounds → ℕ → Cursor → Type 0
IsRoomy b n c = n < b.words → c.base + c.registers + 2 + b.largest ≤ n

-- The frame of function g that waits directly below `base`, with so many frames below it.
pub record IsWaiting (v : Checked) (b : Bounds) (ws : List ℕ) (frames base : ℕ) (g : Function) : Type 0 where
  pub low : g.registers + 2 ≤ base
  pub is : slice_get v.code.functions.items (slice_index_or ws (base - 2) 0) ≡ Some g
  pub within : slice_index_or ws (base - 1) 0 < length g.instrs.items
  pub below : (f : ℕ) (ss ds : List ℕ) → slice_get g.instrs.items (slice_index_or ws (base - 1) 0)
      ≡ Some (I.Call f ss ds) → AreBelow g.registers ds
  pub next : IsSafe (body_of v.code.functions.items v.stacks (slice_index_or ws (base - 2) 0) g)
      (slice_index_or ws (base - 1) 0 + 1)
  pub fits : Fits v b (slice_index_or ws (base - 2) 0) frames (base - (g.registers + 2))

-- All frames below `base`.
abbrev pub Waiting : Checked → Bounds → List ℕ → ℕ → ℕ → Type 0
Waiting v b ws zero base = base ≡ 0
Waiting v b ws (suc frames) base = (g : Function) × IsWaiting v b ws frames base g
    × Waiting v b ws frames (base - (g.registers + 2))

-- what the running function and those below it can still do at the most
abbrev pub weight : Cursor → ℕ
weight c = c.frames * 4294967296 + (length c.instrs.now - c.at)
