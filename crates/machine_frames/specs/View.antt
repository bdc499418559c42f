-- The frames that lie in one list of words, as frames of a run. A frame that waits is its registers and two words more:
-- its function and the number of its Call.
-- With a function 0 of 3 registers that calls another at its instruction 4, the words below the frame of the other may
-- be 7, 5, 6, 0, 4: one frame waits, of function 0, at 4, with the words 7, 5, 6.
use Rattle.std.specs.Prelude.{ℕ, zero, suc, ◌+◌, ◌-◌, List, [], ◌∷◌, Option, Some, None, length, take, drop, slice_get}
use Rattle.std.specs.Prelude.{slice_index_or}
use Rattle.machine_semantics.specs.cell_code.declared.code.Function.{Function}
use Rattle.machine_semantics.specs.States.{Frame}

abbrev pub registers_in : Option Function → ℕ
registers_in None = 0
registers_in (Some g) = g.registers

-- the number of registers of function f
abbrev pub registers_of : List Function → ℕ → ℕ
registers_of fs f = registers_in (slice_get fs f)

-- the words of the frame of n registers that begins at a number
abbrev pub frame_at : ℕ → ℕ → List ℕ → List ℕ
frame_at base n ws = take n (drop base ws)

-- the function of the frame that lies on top of these words, and the number of its Call

abbrev pub top_function : List ℕ → ℕ
top_function ws = slice_index_or ws (length ws - 2) 0

abbrev pub top_call : List ℕ → ℕ
top_call ws = slice_index_or ws (length ws - 1) 0

-- where that frame begins, if it has n registers
abbrev pub top_base : ℕ → List ℕ → ℕ
top_base n ws = length ws - (n + 2)

abbrev pub top_frame : ℕ → List ℕ → Frame
top_frame n ws = record {
  function = top_function ws;
  at = top_call ws;
  words = frame_at (top_base n ws) n ws;
}

-- so many frames that wait, from the one on top of these words down
abbrev pub waiting_in : List Function → ℕ → List ℕ → List Frame
waiting_in fs zero ws = []
waiting_in fs (suc k) ws =
    let n = registers_of fs (top_function ws) in
    top_frame n ws ∷ waiting_in fs k (take (top_base n ws) ws)
