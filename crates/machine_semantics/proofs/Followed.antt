-- A step changes the store as its instruction's changes say, and a call or return doesn't.
-- The idea: each way that a step may come about is a case, and in each the next state's store is read off.
use Rattle.std.proofs.Common.{◌≡◌, ℕ, zero, suc, refl, sym, ◌∙◌, List, [], ◌∷◌, Option, Some, None}
use Rattle.std.specs.Prelude.{option_and_then}
use Rattle.cell_code.specs.fip_language.declared.TrapKind.{TrapKind}
use Rattle.cell_code.specs.declared.code.Instr.{Instr}
use Rattle.cell_code.specs.declared.code.Instr.TheVariants as I
use Rattle.cell_code.specs.declared.kind.Kind.{Kind}
use Rattle.cell_code.specs.Plain.{PlainFunction, PlainCode, function_at}
use Rattle.machine_semantics.specs.Cells.{Store, Change, changed_by}
use Rattle.machine_semantics.specs.States.{Frame, State, Next, Went, Entered, Gave, Trapped, TooDeep, Stuck}
use Rattle.machine_semantics.specs.Rows.{Done, read_all, write_all, operated, done, trap}
use Rattle.machine_semantics.specs.Steps.{Kinds, went_with, went, called_with, called, replaced, destinations, resumed, returned, trapped, act, act_at, instr_of, kinds_of, next, changes_in, changes_at, changes_of}

-- the store of the next state, where there is one
abbrev pub Followed : List Change → State → Next → Type 0
Followed cs s (Went t) = changed_by cs s.store ≡ Some t.store
Followed cs s (Entered t) = t.store ≡ s.store
Followed cs s (Gave ws) = Unit {0}
Followed cs s (Trapped kind line col) = Unit {0}
Followed cs s TooDeep = Unit {0}
Followed cs s Stuck = Unit {0}

followed_with : (s : State) (d : Done) (o : Option Store) → changed_by d.changes s.store ≡ o → Followed d.changes s (went_with s d o)
followed_with s d None is = tt
followed_with s d (Some store) is = is

followed_went : (s : State) (d : Option Done) → Followed (changes_in d) s (went s d)
followed_went s None = tt
followed_went s (Some d) = followed_with s d (changed_by d.changes s.store) refl

followed_trapped : (s : State) (line col : ℕ) (o : Option TrapKind) (d : Option Done) → Followed (changes_in d) s (trapped s line col o d)
followed_trapped s line col None d = followed_went s d
followed_trapped s line col (Some kind) d = tt

followed_called_with : (s : State) (f : ℕ) (g : PlainFunction) (free : ℕ) (ws : List ℕ) → Followed [] s (called_with s f g free ws)
followed_called_with s f g zero ws = tt
followed_called_with s f g (suc free) ws = refl

followed_called : (s : State) (f : ℕ) (g : Option PlainFunction) (ws : Option (List ℕ)) → Followed [] s (called s f g ws)
followed_called s f None ws = tt
followed_called s f (Some g) None = tt
followed_called s f (Some g) (Some ws) = followed_called_with s f g s.free ws

followed_replaced : (s : State) (f : ℕ) (g : Option PlainFunction) (ws : Option (List ℕ)) → Followed [] s (replaced s f g ws)
followed_replaced s f None ws = tt
followed_replaced s f (Some g) None = tt
followed_replaced s f (Some g) (Some ws) = refl

followed_resumed : (s : State) (w : Frame) (below : List Frame) (ws : Option (List ℕ)) → Followed [] s (resumed s w below ws)
followed_resumed s w below None = tt
followed_resumed s w below (Some ws) = refl

followed_returned : (code : PlainCode) (s : State) (waiting : List Frame) (ws : Option (List ℕ)) → Followed [] s (returned code s waiting ws)
followed_returned code s waiting None = tt
followed_returned code s [] (Some vs) = tt
followed_returned code s (w ∷ below) (Some vs) = followed_resumed s w below (option_and_then (λ ds. write_all w.words ds vs) (destinations code w))

followed_act : (code : PlainCode) (ks : List Kind) (s : State) (x : Instr) → Followed (changes_in (done code.types ks s x)) s (act code ks s x)
followed_act code ks s (I.Const d v) = followed_went s (done code.types ks s (I.Const d v))
followed_act code ks s (I.Atom d t c) = followed_went s (done code.types ks s (I.Atom d t c))
followed_act code ks s (I.Move d r) = followed_went s (done code.types ks s (I.Move d r))
followed_act code ks s (I.Arith d o x y line col) = followed_trapped s line col (trap (operated s o x y)) (done code.types ks s (I.Arith d o x y line col))
followed_act code ks s (I.Test r c target) = followed_went s (done code.types ks s (I.Test r c target))
followed_act code ks s (I.TestInt r v target) = followed_went s (done code.types ks s (I.TestInt r v target))
followed_act code ks s (I.Peek d r i) = followed_went s (done code.types ks s (I.Peek d r i))
followed_act code ks s (I.Take r ds) = followed_went s (done code.types ks s (I.Take r ds))
followed_act code ks s (I.Put r t c ss) = followed_went s (done code.types ks s (I.Put r t c ss))
followed_act code ks s (I.Drop r) = followed_went s (done code.types ks s (I.Drop r))
followed_act code ks s (I.Free r) = followed_went s (done code.types ks s (I.Free r))
followed_act code ks s (I.Call f ss ds) = followed_called s f (function_at code f) (read_all s.running.words ss)
followed_act code ks s (I.Tail f ss) = followed_replaced s f (function_at code f) (read_all s.running.words ss)
followed_act code ks s (I.Ret ss) = followed_returned code s s.waiting (read_all s.running.words ss)
followed_act code ks s (I.Jump target) = followed_went s (done code.types ks s (I.Jump target))

followed_at : (code : PlainCode) (ks : List Kind) (s : State) (x : Option Instr) → Followed (changes_at code ks s x) s (act_at code ks s x)
followed_at code ks s None = tt
followed_at code ks s (Some x) = followed_act code ks s x

pub followed : (kinds : Kinds) (code : PlainCode) (s : State) → Followed (changes_of kinds code s) s (next kinds code s)
followed kinds code s = followed_at code (kinds_of kinds s) s (instr_of code s)
