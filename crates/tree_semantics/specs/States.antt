-- The states of a run on trees: the frame that runs, those that wait for it, and how many frames are free. There is no
-- store: a value is the tree itself.
-- It serves the proof that lowered code means what its program means.
use Rattle.std.specs.Prelude.{ℕ, List}
use Rattle.machine_semantics.specs.fip_language.declared.TrapKind.{TrapKind}
use Rattle.machine_semantics.specs.fip_language.Values.{Values}
use Rattle.tree_semantics.specs.Contents.{Contents}

-- a frame: a function, the number of the instruction that is to be done, and what the registers hold. A frame that
-- waits is at its Call.
pub record Frame : Type 0 where
  pub function : ℕ
  pub at : ℕ
  pub contents : Contents

-- the frames that wait are from the caller of the running one down to the entry's
pub record State : Type 0 where
  pub running : Frame
  pub waiting : List Frame
  pub free : ℕ

-- what comes after a state
pub data Next : Type 0 where
  -- an instruction was done that isn't a Call or Tail
  Went : (s : State) → Next
  -- a Call or Tail was done
  Entered : (s : State) → Next
  -- the entry gave these values
  Gave : (values : Values) → Next
  -- an operator has no value; the line and column are its own
  Trapped : (kind : TrapKind) (line col : ℕ) → Next
  -- a Call found no free frame
  TooDeep : Next
  -- the instruction can't be done
  Halted : Next
