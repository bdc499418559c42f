-- What comes after a state of a run on trees: the instruction of the running frame is done.
-- It is that of a run on cells, but for what a register holds: Take and Peek give the children of a tree, and the
-- register keeps the tree; Put builds one; Drop and Free change nothing but the place.
-- It serves the proof that lowered code means what its program means.
-- Where rev's frame holds Cons(1, Nil) and Nil and is at Take 0 [2, 3], then at Put 0 2 1 [2, 1], its register 0 holds
-- Cons(1, Nil) still, and then Cons(1, Nil) anew, of 1 and of the second parameter's Nil.
use Rattle.std.specs.Prelude.{ℕ, zero, suc, ℤ, Bool, true, false, List, [], ◌∷◌, Option, Some, None, ◌==◌}
use Rattle.machine_semantics.specs.fip_language.declared.Operator.{Operator}
use Rattle.machine_semantics.specs.fip_language.Values.{Value, Int, Node, Values, End}
use Rattle.machine_semantics.specs.fip_language.Matching.{same_int}
use Rattle.machine_semantics.specs.fip_language.Arithmetic.{Operated, Is, Fails, operate}
use Rattle.machine_semantics.specs.cell_code.declared.code.Instr.{Instr}
use Rattle.machine_semantics.specs.cell_code.declared.code.Instr.TheVariants as I
use Rattle.machine_semantics.specs.cell_code.Plain.{PlainFunction, PlainCode, function_at}
use Rattle.machine_semantics.specs.Codes.{instr_at}
use Rattle.machine_semantics.specs.Steps.{destinations_in}
use Rattle.tree_semantics.specs.Contents.{Contents, put, put_all, read_all, first_contents, children, value_at}
use Rattle.tree_semantics.specs.States.{Frame, State, Next, Went, Entered, Gave, Trapped, TooDeep, Halted}

-- the state where the running function goes on at i, with these registers
abbrev pub went : State → ℕ → Contents → Next
went s i cs = Went (record {
  running = record { function = s.running.function; at = i; contents = cs };
  waiting = s.waiting;
  free = s.free;
})

-- at the next instruction
abbrev pub on : State → Contents → Next
on s cs = went s (suc s.running.at) cs

-- at the next instruction where the test holds, else at the target
abbrev pub branch : State → ℕ → Bool → Next
branch s target true = on s s.running.contents
branch s target false = went s target s.running.contents

abbrev pub is_node : ℕ → Value → Bool
is_node c (Int i) = false
is_node c (Node d vs) = d == c

abbrev pub is_int : ℤ → Value → Bool
is_int i (Int j) = same_int j i
is_int i (Node d vs) = false

abbrev pub calculated : State → ℕ → ℕ → ℕ → Operated → Next
calculated s d line col (Is v) = on s (put s.running.contents d v)
calculated s d line col (Fails kind) = Trapped kind line col

abbrev pub operated : State → ℕ → Operator → ℕ → ℕ → Value → Value → Next
operated s d o line col (Int i) (Int j) = calculated s d line col (operate o i j)
operated s d o line col (Int i) (Node c vs) = Halted
operated s d o line col (Node c vs) w = Halted

abbrev pub peeked : State → ℕ → Option Value → Next
peeked s d None = Halted
peeked s d (Some v) = on s (put s.running.contents d v)

abbrev pub first_frame : ℕ → Values → Frame
first_frame f vs = record { function = f; at = 0; contents = first_contents vs }

abbrev pub called_with : State → ℕ → ℕ → Values → Next
called_with s f zero vs = TooDeep
called_with s f (suc free) vs =
    Entered (record { running = first_frame f vs; waiting = s.running ∷ s.waiting; free = free })

abbrev pub called : State → ℕ → Option PlainFunction → Values → Next
called s f None vs = Halted
called s f (Some g) vs = called_with s f s.free vs

abbrev pub replaced : State → ℕ → Option PlainFunction → Values → Next
replaced s f None vs = Halted
replaced s f (Some g) vs =
    Entered (record { running = first_frame f vs; waiting = s.waiting; free = s.free })

abbrev pub resumed : Frame → List Frame → ℕ → Values → Option (List ℕ) → Next
resumed w below free vs None = Halted
resumed w below free vs (Some ds) = Went (record {
  running = record { function = w.function; at = suc w.at; contents = put_all w.contents ds vs };
  waiting = below;
  free = suc free;
})

abbrev pub returned : PlainCode → List Frame → ℕ → Values → Next
returned code [] free vs = Gave vs
returned code (w ∷ below) free vs = resumed w below free vs (destinations_in (instr_at code w.function w.at))

abbrev pub act : PlainCode → State → Instr → Next
act code s (I.Const d v) = on s (put s.running.contents d (Int v))
act code s (I.Atom d t c) = on s (put s.running.contents d (Node c End))
act code s (I.Move d r) = on s (put s.running.contents d (s.running.contents r))
act code s (I.Arith d o x y line col) =
    operated s d o line col (s.running.contents x) (s.running.contents y)
act code s (I.Test r c target) = branch s target (is_node c (s.running.contents r))
act code s (I.TestInt r v target) = branch s target (is_int v (s.running.contents r))
act code s (I.Peek d r i) = peeked s d (value_at (children (s.running.contents r)) i)
act code s (I.Take r ds) = on s (put_all s.running.contents ds (children (s.running.contents r)))
act code s (I.Put r t c ss) = on s (put s.running.contents r (Node c (read_all s.running.contents ss)))
act code s (I.Drop r) = on s s.running.contents
act code s (I.Free r) = on s s.running.contents
act code s (I.Call f ss ds) = called s f (function_at code f) (read_all s.running.contents ss)
act code s (I.Tail f ss) = replaced s f (function_at code f) (read_all s.running.contents ss)
act code s (I.Ret ss) = returned code s.waiting s.free (read_all s.running.contents ss)
act code s (I.Jump target) = went s target s.running.contents

abbrev pub act_at : PlainCode → State → Option Instr → Next
act_at code s None = Halted
act_at code s (Some x) = act code s x

-- what comes after a state
abbrev pub next : PlainCode → State → Next
next code s = act_at code s (instr_at code s.running.function s.running.at)
