-- The words that frames may have.
use Rattle.std.specs.Prelude.{◌≡◌, ℕ, ◌+◌, ◌*◌, ◌≤◌, ◌⊎◌, Some, slice_get}
use Rattle.fip_base.specs.declared.plain.Stack.{Stack}
use Rattle.cell_code.specs.declared.code.Function.{Function}
use Rattle.code_verify.specs.Checked.{Checked}
use Rattle.machine_step.specs.declared.cursor.Bounds.{Bounds}

-- A frame of function f that begins at `base` has room, and all that it calls, with so many frames below it: by what
-- the function needs of the stack, where it is fip, or since there is room for as many of the greatest frames as may be
-- held.
abbrev pub Fits : Checked → Bounds → ℕ → ℕ → ℕ → Type 0
Fits v b f frames base = ((s : Stack) × (slice_get v.stacks f ≡ Some (Some s)) × (base + s.words ≤ b.words))
    ⊎ ((base ≤ frames * b.largest) × ((b.frames + 1) * b.largest ≤ b.words))

-- each function's frame is at most the greatest
abbrev pub AreAtMost : Checked → ℕ → Type 0
AreAtMost v largest = (f : ℕ) (g : Function) → slice_get v.code.functions.items f ≡ Some g → g.registers + 2 ≤ largest
