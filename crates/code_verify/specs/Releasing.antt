-- For the proofs alone: the types at the Drops of a code's functions, and what is kept of a code that was verified.
use Rattle.std.specs.Prelude.{◌≡◌, ◌↔◌, ◌<◌, ℕ, List, Option, Some, slice_get, length}
use Rattle.std.specs.declared.vec.Vec.{Vec}
use Rattle.std.specs.declared.alloc.Global.{Global}
use Rattle.fip_base.specs.declared.plain.Stack.{Stack}
use Rattle.call_groups.specs.CallGraph.{In}
use Rattle.cell_code.specs.Runnable.{IsRunnable}
use Rattle.cell_code.specs.declared.code.Code.{Code}
use Rattle.cell_code.specs.declared.code.Function.{Function}
use Rattle.cell_code.specs.Plain.{PlainCode, plain}
use Rattle.code_rules.specs.Tables.{AreSoundTables}
use Rattle.code_rules.specs.Breaks.{IsSound}
use Rattle.code_verify.specs.declared.walk.DropType.{DropType}
use Rattle.code_verify.specs.Steps.{drops_at}
use Rattle.code_verify.specs.Finding.{AreInOrder}
use Rattle.code_verify.specs.Checked.{HasMachineInts, ReleasesAt, HaveStacks}
use Rattle.code_verify.specs.Surveying.{row_at}

-- for each function the types at its Drops, in order
pub record AreReleases (c : PlainCode) (drops : List (Vec DropType Global)) : Type 0 where
  pub are : (n i t : ℕ) → (In (drops_at i t) (row_at drops n) ↔ ReleasesAt c n i t)
  pub in_order : (n : ℕ) → AreInOrder (row_at drops n)

-- No function has so many instructions that their numbers don't fit in 32 bits.
abbrev pub AreShort : List Function → Type 0
AreShort fs = (n : ℕ) (g : Function) → slice_get fs n ≡ Some g → length g.instrs.items < 4294967296

pub record IsVerified (code : Code) (stacks : List (Option Stack)) (drops : List (Vec DropType Global)) : Type 0 where
  pub tables : AreSoundTables (plain code)
  pub sound : IsSound (plain code)
  pub literals : HasMachineInts (plain code)
  pub runnable : IsRunnable code.functions.items stacks
  pub stacks_are : HaveStacks (plain code) stacks
  pub releases : AreReleases (plain code) drops
