-- A Call or Tail enters a function or finds no frame, and no other instruction does.
use Rattle.std.proofs.Common.{◌≡◌, ◌≢◌, ℕ, zero, suc, Bool, true, false, List, [], ◌∷◌, Option, Some, None, refl}
use Rattle.std.specs.Prelude.{option_and_then}
use Rattle.fip_language.specs.declared.TrapKind.{TrapKind}
use Rattle.fip_machine.specs.cell_code.declared.code.Instr.{Instr}
use Rattle.fip_machine.specs.cell_code.declared.code.Instr.TheVariants as I
use Rattle.fip_machine.specs.cell_code.declared.kind.Kind.{Kind}
use Rattle.fip_machine.specs.cell_code.Plain.{PlainFunction, PlainCode, function_at}
use Rattle.task_semantics.specs.machine_semantics.Cells.{Store, changed_by}
use Rattle.task_semantics.specs.machine_semantics.States.{Frame, State, Next, Went, Entered, Gave, Trapped, TooDeep, Stuck}
use Rattle.task_semantics.specs.machine_semantics.Rows.{Done, read_all, write_all, operated, done, trap}
use Rattle.task_semantics.specs.machine_semantics.Steps.{went_with, went, called_with, called, replaced, destinations, resumed, returned, trapped, act_at}
use Rattle.task_semantics.specs.machine_semantics.Runs.{Out, Over, comes}
use Rattle.fip_machine.specs.Along.{is_call_in}

-- what comes next, by whether the instruction is a call
abbrev pub IsCalling : Bool → Next → Type 0
IsCalling call (Went t) = call ≡ false
IsCalling call (Entered t) = call ≡ true
IsCalling call (Gave ws) = call ≡ false
IsCalling call (Trapped kind line col) = call ≡ false
IsCalling call TooDeep = call ≡ true
IsCalling call Stuck = Unit {0}

with_store : (s : State) (d : Done) (o : Option Store) → IsCalling false (went_with s d o)
with_store s d None = tt
with_store s d (Some store) = refl

has_gone : (s : State) (d : Option Done) → IsCalling false (went s d)
has_gone s None = tt
has_gone s (Some d) = with_store s d (changed_by d.changes s.store)

has_operated : (s : State) (line col : ℕ) (o : Option TrapKind) (d : Option Done) → IsCalling false (trapped s line col o d)
has_operated s line col None d = has_gone s d
has_operated s line col (Some kind) d = refl

has_resumed : (s : State) (w : Frame) (below : List Frame) (ws : Option (List ℕ)) → IsCalling false (resumed s w below ws)
has_resumed s w below None = tt
has_resumed s w below (Some ws) = refl

has_returned : (code : PlainCode) (s : State) (waiting : List Frame) (ws : Option (List ℕ)) → IsCalling false (returned code s waiting ws)
has_returned code s waiting None = tt
has_returned code s [] (Some vs) = refl
has_returned code s (w ∷ below) (Some vs) = has_resumed s w below (option_and_then (λ ds. write_all w.words ds vs) (destinations code w))

with_frame : (s : State) (f : ℕ) (g : PlainFunction) (free : ℕ) (ws : List ℕ) → IsCalling true (called_with s f g free ws)
with_frame s f g zero ws = refl
with_frame s f g (suc free) ws = refl

has_called : (s : State) (f : ℕ) (g : Option PlainFunction) (ws : Option (List ℕ)) → IsCalling true (called s f g ws)
has_called s f None ws = tt
has_called s f (Some g) None = tt
has_called s f (Some g) (Some ws) = with_frame s f g s.free ws

has_replaced : (s : State) (f : ℕ) (g : Option PlainFunction) (ws : Option (List ℕ)) → IsCalling true (replaced s f g ws)
has_replaced s f None ws = tt
has_replaced s f (Some g) None = tt
has_replaced s f (Some g) (Some ws) = refl

pub calling : (code : PlainCode) (ks : List Kind) (s : State) (o : Option Instr) → IsCalling (is_call_in o) (act_at code ks s o)
calling code ks s None = tt
calling code ks s (Some (I.Const d v)) = has_gone s (done code.types ks s (I.Const d v))
calling code ks s (Some (I.Atom d t c)) = has_gone s (done code.types ks s (I.Atom d t c))
calling code ks s (Some (I.Move d r)) = has_gone s (done code.types ks s (I.Move d r))
calling code ks s (Some (I.Arith d o x y line col)) = has_operated s line col (trap (operated s o x y)) (done code.types ks s (I.Arith d o x y line col))
calling code ks s (Some (I.Test r c target)) = has_gone s (done code.types ks s (I.Test r c target))
calling code ks s (Some (I.TestInt r v target)) = has_gone s (done code.types ks s (I.TestInt r v target))
calling code ks s (Some (I.Peek d r i)) = has_gone s (done code.types ks s (I.Peek d r i))
calling code ks s (Some (I.Take r ds)) = has_gone s (done code.types ks s (I.Take r ds))
calling code ks s (Some (I.Put r t c ss)) = has_gone s (done code.types ks s (I.Put r t c ss))
calling code ks s (Some (I.Drop r)) = has_gone s (done code.types ks s (I.Drop r))
calling code ks s (Some (I.Free r)) = has_gone s (done code.types ks s (I.Free r))
calling code ks s (Some (I.Call f ss ds)) = has_called s f (function_at code f) (read_all s.running.words ss)
calling code ks s (Some (I.Tail f ss)) = has_replaced s f (function_at code f) (read_all s.running.words ss)
calling code ks s (Some (I.Ret ss)) = has_returned code s s.waiting (read_all s.running.words ss)
calling code ks s (Some (I.Jump target)) = has_gone s (done code.types ks s (I.Jump target))

-- a call with none left
pub out : (s : State) (n : ℕ) (x : Next) → IsCalling true x → x ≢ Stuck → comes s 0 n x ≡ Over Out s 0 n
out s n (Went t) c k = absurd cc
out s n (Entered t) c k = refl
out s n (Gave ws) c k = absurd cc
out s n (Trapped kind line col) c k = absurd cc
out s n TooDeep c k = refl
out s n Stuck c k = absurd (k refl)
