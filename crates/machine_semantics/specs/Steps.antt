-- What comes after a state: the instruction of the running frame is done.
-- A Call takes a free frame: the running frame waits at it, and the called function's frame has its arguments and then
-- its credits in the first registers, and 0 in the others. A Tail puts that frame in place of the running one. A Ret
-- gives words to the registers that the Call below names, and that frame goes on after its Call; from the entry's
-- frame it ends the run.
-- Where rev's frame has 3, 0, 1, 1 in its first registers and is at Tail 0 [3, 0], the next one is at instruction 0 and
-- has 1, 3, 0, 0, 0, 0, 0.
use Rattle.std.specs.Prelude.{ℕ, zero, suc, ◌+◌, ◌-◌, List, [], ◌∷◌, ◌++◌, Option, Some, None, length, replicate}
use Rattle.std.specs.Prelude.{slice_get, option_and_then}
use Rattle.cell_code.specs.fip_language.declared.TrapKind.{TrapKind}
use Rattle.cell_code.specs.declared.code.Instr.{Instr}
use Rattle.cell_code.specs.declared.code.Instr.TheVariants as I
use Rattle.cell_code.specs.declared.kind.Kind.{Kind}
use Rattle.cell_code.specs.Plain.{PlainFunction, PlainCode, function_at}
use Rattle.machine_semantics.specs.Codes.{instr_at}
use Rattle.machine_semantics.specs.Cells.{Store, Change, changed_by}
use Rattle.machine_semantics.specs.States.{Frame, State, Next, Went, Entered, Gave, Trapped, TooDeep, Stuck}
use Rattle.machine_semantics.specs.Rows.{Done, read_all, write_all, operated, done, trap}

-- the kinds of the registers of function f at its instruction i, as the verifier knows them
abbrev pub Kinds : Type 0
Kinds = (f i : ℕ) → List Kind

-- the state where the running function goes on, with this store
abbrev pub went_with : State → Done → Option Store → Next
went_with s d None = Stuck
went_with s d (Some store) = Went (record s {
  store = store;
  running = record { function = s.running.function; at = d.at; words = d.words };
})

abbrev pub went : State → Option Done → Next
went s None = Stuck
went s (Some d) = went_with s d (changed_by d.changes s.store)

-- a frame of n registers of which the first have these words
abbrev pub first_words : ℕ → List ℕ → List ℕ
first_words n ws = ws ++ replicate (n - length ws) 0

abbrev pub first_frame : ℕ → PlainFunction → List ℕ → Frame
first_frame f g ws = record { function = f; at = 0; words = first_words g.registers ws }

abbrev pub called_with : State → ℕ → PlainFunction → ℕ → List ℕ → Next
called_with s f g zero ws = TooDeep
called_with s f g (suc free) ws =
    Entered (record s { running = first_frame f g ws; waiting = s.running ∷ s.waiting; free = free })

abbrev pub called : State → ℕ → Option PlainFunction → Option (List ℕ) → Next
called s f None ws = Stuck
called s f (Some g) None = Stuck
called s f (Some g) (Some ws) = called_with s f g s.free ws

abbrev pub replaced : State → ℕ → Option PlainFunction → Option (List ℕ) → Next
replaced s f None ws = Stuck
replaced s f (Some g) None = Stuck
replaced s f (Some g) (Some ws) = Entered (record s { running = first_frame f g ws })

abbrev pub destinations_in : Option Instr → Option (List ℕ)
destinations_in None = None
destinations_in (Some (I.Const d v)) = None
destinations_in (Some (I.Atom d t c)) = None
destinations_in (Some (I.Move d r)) = None
destinations_in (Some (I.Arith d o x y line col)) = None
destinations_in (Some (I.Test r c target)) = None
destinations_in (Some (I.TestInt r v target)) = None
destinations_in (Some (I.Peek d r i)) = None
destinations_in (Some (I.Take r ds)) = None
destinations_in (Some (I.Put r t c ss)) = None
destinations_in (Some (I.Drop r)) = None
destinations_in (Some (I.Free r)) = None
destinations_in (Some (I.Call f ss ds)) = Some ds
destinations_in (Some (I.Tail f ss)) = None
destinations_in (Some (I.Ret ss)) = None
destinations_in (Some (I.Jump target)) = None

-- the registers that get the results of the Call at which a frame waits
abbrev pub destinations : PlainCode → Frame → Option (List ℕ)
destinations code w = destinations_in (instr_at code w.function w.at)

abbrev pub resumed : State → Frame → List Frame → Option (List ℕ) → Next
resumed s w below None = Stuck
resumed s w below (Some ws) = Went (record s {
  running = record { function = w.function; at = w.at + 1; words = ws };
  waiting = below;
  free = s.free + 1;
})

abbrev pub returned : PlainCode → State → List Frame → Option (List ℕ) → Next
returned code s waiting None = Stuck
returned code s [] (Some vs) = Gave vs
returned code s (w ∷ below) (Some vs) =
    resumed s w below (option_and_then (λ ds. write_all w.words ds vs) (destinations code w))

abbrev pub trapped : State → ℕ → ℕ → Option TrapKind → Option Done → Next
trapped s line col None d = went s d
trapped s line col (Some kind) d = Trapped kind line col

abbrev pub act : PlainCode → List Kind → State → Instr → Next
act code ks s (I.Const d v) = went s (done code.types ks s (I.Const d v))
act code ks s (I.Atom d t c) = went s (done code.types ks s (I.Atom d t c))
act code ks s (I.Move d r) = went s (done code.types ks s (I.Move d r))
act code ks s (I.Arith d o x y line col) =
    trapped s line col (trap (operated s o x y)) (done code.types ks s (I.Arith d o x y line col))
act code ks s (I.Test r c target) = went s (done code.types ks s (I.Test r c target))
act code ks s (I.TestInt r v target) = went s (done code.types ks s (I.TestInt r v target))
act code ks s (I.Peek d r i) = went s (done code.types ks s (I.Peek d r i))
act code ks s (I.Take r ds) = went s (done code.types ks s (I.Take r ds))
act code ks s (I.Put r t c ss) = went s (done code.types ks s (I.Put r t c ss))
act code ks s (I.Drop r) = went s (done code.types ks s (I.Drop r))
act code ks s (I.Free r) = went s (done code.types ks s (I.Free r))
act code ks s (I.Call f ss ds) = called s f (function_at code f) (read_all s.running.words ss)
act code ks s (I.Tail f ss) = replaced s f (function_at code f) (read_all s.running.words ss)
act code ks s (I.Ret ss) = returned code s s.waiting (read_all s.running.words ss)
act code ks s (I.Jump target) = went s (done code.types ks s (I.Jump target))

abbrev pub act_at : PlainCode → List Kind → State → Option Instr → Next
act_at code ks s None = Stuck
act_at code ks s (Some x) = act code ks s x

abbrev pub instr_of : PlainCode → State → Option Instr
instr_of code s = instr_at code s.running.function s.running.at

abbrev pub kinds_of : Kinds → State → List Kind
kinds_of kinds s = kinds s.running.function s.running.at

-- what comes after a state
abbrev pub next : Kinds → PlainCode → State → Next
next kinds code s = act_at code (kinds_of kinds s) s (instr_of code s)

abbrev pub changes_in : Option Done → List Change
changes_in None = []
changes_in (Some d) = d.changes

abbrev pub changes_at : PlainCode → List Kind → State → Option Instr → List Change
changes_at code ks s None = []
changes_at code ks s (Some x) = changes_in (done code.types ks s x)

-- what the instruction of a state does to the cells
abbrev pub changes_of : Kinds → PlainCode → State → List Change
changes_of kinds code s = changes_at code (kinds_of kinds s) s (instr_of code s)
