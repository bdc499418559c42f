-- The states of a run: the store, the frame that runs, those that wait for it, how many frames are free, and the words
-- of the entry's borrowed arguments, which stay.
-- rev of Cons(1, Cons(2, Nil)) and Nil begins with two cells, a frame at instruction 0 with 7 registers of which the
-- first two hold the words 3 and 0, none that waits, and none that is free; no argument is borrowed.
use Rattle.std.specs.Prelude.{ℕ, ◌+◌, List, ◌∷◌, length, map, sum}
use Rattle.cell_code.specs.fip_language.declared.TrapKind.{TrapKind}
use Rattle.machine_semantics.specs.Limits.{frame_words}
use Rattle.machine_semantics.specs.Cells.{Store}

-- a frame: a function, the number of the instruction that is to be done, and a word for each register. A frame that
-- waits is at its Call.
pub record Frame : Type 0 where
  pub function : ℕ
  pub at : ℕ
  pub words : List ℕ

-- a word and its type
pub record Typed : Type 0 where
  pub type : ℕ
  pub word : ℕ

-- the frames that wait are from the caller of the running one down to the entry's; the arguments are those of types
-- that aren't scalar
pub record State : Type 0 where
  pub store : Store
  pub running : Frame
  pub waiting : List Frame
  pub free : ℕ
  pub lent : List Typed

-- the frames beside the entry's
abbrev pub frames_held : State → ℕ
frames_held s = length s.waiting

abbrev pub words_of_frame : Frame → ℕ
words_of_frame f = length f.words + frame_words

-- the words of all frames
abbrev pub words_held : State → ℕ
words_held s = sum (map words_of_frame (s.running ∷ s.waiting))

-- what comes after a state
pub data Next : Type 0 where
  -- an instruction was done that isn't a Call or Tail
  Went : (s : State) → Next
  -- a Call or Tail was done
  Entered : (s : State) → Next
  -- the entry gave these words
  Gave : (words : List ℕ) → Next
  -- an operator has no value; the line and column are its own
  Trapped : (kind : TrapKind) (line col : ℕ) → Next
  -- a Call found no free frame
  TooDeep : Next
  -- the instruction can't be done; of sound code, from a state whose cells are apart, this never comes
  Stuck : Next
