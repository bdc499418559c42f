-- A step of a task leads from a moment of the run that the definition says to the next one.
-- The idea: what a step ended in is reported by what the definition says comes next; then each way that a next state
-- may come about is a case. Where no call is left, a call ends the run, and nothing else does so.
use Rattle.std.proofs.Common.{◌≡◌, ◌≢◌, ◌⊎◌, inl, inr, ℕ, zero, suc, ◌+◌, ◌-◌, ◌<◌, ◌≤◌, length, take, Bool, true, false, List, [], ◌∷◌, Option, Some, None, refl, sym, ap, subst, ◌∙◌, arith}
use Rattle.std.specs.Prelude.{option_and_then, not}
use Rattle.fip_language.specs.declared.TrapKind.{TrapKind}
use Rattle.cell_code.specs.declared.code.Instr.{Instr}
use Rattle.cell_code.specs.declared.code.Instr.TheVariants as I
use Rattle.cell_code.specs.declared.kind.Kind.{Kind}
use Rattle.cell_store.specs.Made.{Stored}
use Rattle.machine_step.specs.code_verify.Checked.{Checked}
use Rattle.cell_code.specs.Plain.{PlainFunction, PlainCode, plain, function_at}
use Rattle.machine_cells.specs.machine_semantics.Cells.{Store}
use Rattle.machine_cells.specs.machine_semantics.States.{Frame, State, frames_held, words_held, Next, Went, Entered, Gave, Trapped, TooDeep, Stuck}
use Rattle.machine_cells.specs.machine_semantics.Rows.{Done, read_all, write_all, operated, done, trap}
use Rattle.machine_cells.specs.machine_semantics.Steps.{Kinds, went_with, went, called_with, called, replaced, destinations, resumed, returned, trapped, act_at, instr_of, kinds_of, next}
use Rattle.machine_cells.specs.machine_semantics.Cells.{changed_by}
use Rattle.fip_language.specs.Gauge.{highest_frames, highest_words}
use Rattle.machine_cells.specs.machine_semantics.Gauges.{seen}
use Rattle.machine_cells.specs.machine_semantics.Runs.{Value, Trap, Out, Deep, Unsound, Run, Going, Over, state_of, begun, comes, later}
use Rattle.machine_cells.specs.Small.{IsSmall, store_of}
use Rattle.machine_step.specs.machine_frames.Keeping.{Keeps}
use Rattle.machine_step.specs.declared.cursor.Bounds.{Bounds}
use Rattle.machine_step.specs.declared.cursor.Cursor.{Cursor}
use Rattle.machine_step.specs.declared.rows.Beside.{Beside}
use Rattle.machine_step.specs.declared.rows.Stepped.{Stepped}
use Rattle.machine_step.specs.declared.rows.Stepped.TheVariants as S
use Rattle.machine_step.specs.Coming.{Comes, KnowsAt}
use Rattle.machine_step.specs.Going.{Lead, ComesWithMore}
use Rattle.machine_step.specs.Placed.{weight}
use Rattle.fip_machine.specs.declared.machine.Ended.{Ended}
use Rattle.fip_machine.specs.declared.machine.Ended.TheVariants as M
use Rattle.fip_machine.specs.Tasks.{Stand, IsMeasured, IsRaised, ended_by}
use Rattle.fip_machine.specs.Ending.{KnowsRun, IsOver}
use Rattle.fip_machine.specs.Along.{Origin, at_step, UnlessStuck, seen_to, HasMost, IsGoing, state_in, IsReady, IsAlong, HasRun, is_call_in, calls_next, HasEntered, IsDeep, CameTo, end_after, task_of}
use Rattle.fip_machine.specs.Taped.{AlongWith, IfValue, RunWith, EnteredWith, DeepWith, CameWith}
use Rattle.fip_machine.proofs.Mosts.{MostAre, after_later, always, going_state, over_state, stuck_on, most_next, most_stays, most_there, most_of}
use Rattle.fip_machine.proofs.Tasked.{room_same}
pub use Rattle.fip_language.proofs.Facts.{false_of_not as not_on}

-- an instruction that is no call enters no function and requires no frame

abbrev NotCalled : Next → Type 0
NotCalled (Went t) = Unit {0}
NotCalled (Entered t) = ⊥
NotCalled (Gave ws) = Unit {0}
NotCalled (Trapped kind line col) = Unit {0}
NotCalled TooDeep = ⊥
NotCalled Stuck = Unit {0}

with_store : (s : State) (d : Done) (o : Option Store) → NotCalled (went_with s d o)
with_store s d None = tt
with_store s d (Some store) = tt

has_gone : (s : State) (d : Option Done) → NotCalled (went s d)
has_gone s None = tt
has_gone s (Some d) = with_store s d (changed_by d.changes s.store)

has_operated : (s : State) (line col : ℕ) (o : Option TrapKind) (d : Option Done) → NotCalled (trapped s line col o d)
has_operated s line col None d = has_gone s d
has_operated s line col (Some kind) d = tt

has_resumed : (s : State) (w : Frame) (below : List Frame) (ws : Option (List ℕ)) → NotCalled (resumed s w below ws)
has_resumed s w below None = tt
has_resumed s w below (Some ws) = tt

has_returned : (code : PlainCode) (s : State) (waiting : List Frame) (ws : Option (List ℕ)) → NotCalled (returned code s waiting ws)
has_returned code s waiting None = tt
has_returned code s [] (Some vs) = tt
has_returned code s (w ∷ below) (Some vs) = has_resumed s w below (option_and_then (λ ds. write_all w.words ds vs) (destinations code w))

no_call : (code : PlainCode) (ks : List Kind) (s : State) (o : Option Instr) → is_call_in o ≡ false → NotCalled (act_at code ks s o)
no_call code ks s None e = tt
no_call code ks s (Some (I.Const d v)) e = has_gone s (done code.types ks s (I.Const d v))
no_call code ks s (Some (I.Atom d t c)) e = has_gone s (done code.types ks s (I.Atom d t c))
no_call code ks s (Some (I.Move d r)) e = has_gone s (done code.types ks s (I.Move d r))
no_call code ks s (Some (I.Arith d o x y line col)) e = has_operated s line col (trap (operated s o x y)) (done code.types ks s (I.Arith d o x y line col))
no_call code ks s (Some (I.Test r c target)) e = has_gone s (done code.types ks s (I.Test r c target))
no_call code ks s (Some (I.TestInt r v target)) e = has_gone s (done code.types ks s (I.TestInt r v target))
no_call code ks s (Some (I.Peek d r i)) e = has_gone s (done code.types ks s (I.Peek d r i))
no_call code ks s (Some (I.Take r ds)) e = has_gone s (done code.types ks s (I.Take r ds))
no_call code ks s (Some (I.Put r t c ss)) e = has_gone s (done code.types ks s (I.Put r t c ss))
no_call code ks s (Some (I.Drop r)) e = has_gone s (done code.types ks s (I.Drop r))
no_call code ks s (Some (I.Free r)) e = has_gone s (done code.types ks s (I.Free r))
no_call code ks s (Some (I.Call f ss ds)) e = absurd cc
no_call code ks s (Some (I.Tail f ss)) e = absurd cc
no_call code ks s (Some (I.Ret ss)) e = has_returned code s s.waiting (read_all s.running.words ss)
no_call code ks s (Some (I.Jump target)) e = has_gone s (done code.types ks s (I.Jump target))

-- what a step ended in, by the run after it

abbrev EnteredIn : Run → ℕ → Bool → State → List ℕ → Type 0
EnteredIn m zero call new given = call ≡ false → IsOver m M.Out new given
EnteredIn m (suc left) call new given = IsGoing m new left

abbrev DeepIn : Run → ℕ → Bool → State → List ℕ → Type 0
DeepIn m zero call new given = call ≡ false → IsOver m M.Deep new given
DeepIn m (suc left) call new given = IsOver m M.Deep new given

abbrev CameIn : Run → ℕ → Bool → Stepped → State → List ℕ → Type 0
CameIn m left call S.Went new given = IsGoing m new left
CameIn m left call S.Entered new given = EnteredIn m left call new given
CameIn m left call S.Value new given = IsOver m M.Value new given
CameIn m left call (S.Trap kind line col) new given = IsOver m (M.Trap kind line col) new given
CameIn m left call S.Deep new given = DeepIn m left call new given

-- where an instruction could not be done nothing is said
came_stuck : (s : State) (l k left : ℕ) (call : Bool) (r : Stepped) (new : State) (given : List ℕ) → CameIn (Over Unsound s l k) left call r new given
came_stuck s l k left call S.Went new given = tt
came_stuck s l k zero call S.Entered new given = λ e. tt
came_stuck s l k (suc left) call S.Entered new given = tt
came_stuck s l k left call S.Value new given = tt
came_stuck s l k left call (S.Trap kind line col) new given = tt
came_stuck s l k zero call S.Deep new given = λ e. tt
came_stuck s l k (suc left) call S.Deep new given = tt

came : (s : State) (left k : ℕ) (call : Bool) (x : Next) (r : Stepped) (new : State) (given : List ℕ) → (call ≡ false → NotCalled x) → Comes s x r new given → CameIn (comes s left k x) left call r new given
came s left k call (Went t) r new given n h = subst (λ q. CameIn (Going t left k) left call q new given) (sym h.0) (h.1, refl)
came s zero k call (Entered t) r new given n h = subst (λ q. CameIn (Over Out s 0 k) zero call q new given) (sym h.0) (λ e. absurd (n e))
came s (suc left) k call (Entered t) r new given n h = subst (λ q. CameIn (Going t left k) (suc left) call q new given) (sym h.0) (h.1, refl)
came s left k call (Gave vs) r new given n h = subst (λ q. CameIn (Over (Value vs) s left k) left call q new given) (sym h.0) (refl, h.1, h.2)
came s left k call (Trapped kind line col) r new given n h = subst (λ q. CameIn (Over (Trap kind line col) s left k) left call q new given) (sym h.0) (refl, h.1)
came s zero k call TooDeep r new given n h = subst (λ q. CameIn (Over Out s 0 k) zero call q new given) (sym h.0) (λ e. absurd (n e))
came s (suc left) k call TooDeep r new given n h = subst (λ q. CameIn (Over Deep s left k) (suc left) call q new given) (sym h.0) (refl, h.1)
came s left k call Stuck r new given n h = came_stuck s left k left call r new given

came_along : (kinds : Kinds) (code : PlainCode) (m : Run) (left : ℕ) (now : State) (r : Stepped) (new : State) (given : List ℕ) → IsGoing m now left → Comes now (next kinds code now) r new given → CameIn (later kinds code m) left (is_call_in (instr_of code now)) r new given
came_along kinds code (Going s l k) left now r new given h c =
    let at : Comes s (next kinds code s) r new given = subst (λ (u : State). Comes u (next kinds code u) r new given) h.0 c in
    let there : CameIn (comes s l (suc k) (next kinds code s)) l (is_call_in (instr_of code s)) r new given = came s l (suc k) (is_call_in (instr_of code s)) (next kinds code s) r new given (no_call code (kinds_of kinds s) s (instr_of code s)) at in
    let same : CameIn (comes s l (suc k) (next kinds code s)) left (is_call_in (instr_of code s)) r new given = subst (λ q. CameIn (comes s l (suc k) (next kinds code s)) q (is_call_in (instr_of code s)) r new given) (sym h.1) there in
    subst (λ (u : State). CameIn (comes s l (suc k) (next kinds code s)) left (is_call_in (instr_of code u)) r new given) (sym h.0) same
came_along kinds code (Over (Value ws) s l k) left now r new given h c = absurd h
came_along kinds code (Over (Trap kind line col) s l k) left now r new given h c = absurd h
came_along kinds code (Over Out s l k) left now r new given h c = absurd h
came_along kinds code (Over Deep s l k) left now r new given h c = absurd h
came_along kinds code (Over Unsound s l k) left now r new given h c = came_stuck s l k left (is_call_in (instr_of code now)) r new given

-- the task's moment after what a step ended in
came_to : (o : Origin) (t : Stand) (left steps : ℕ) (r : Stepped) (u : Stand) (w : Stored) → u.code ≡ o.code → KnowsRun o.code o.kinds o.first o.calls → IsSmall w.cells → w.pushed ≡ [] → IsMeasured u → (ended_by r ≡ None → u.ended ≡ None) → (UnlessStuck (at_step o steps) (state_of (at_step o steps) ≡ state_in o u w) → UnlessStuck (at_step o steps) (HasMost o steps u)) → CameIn (at_step o steps) left (calls_next o.code t) r (state_in o u w) u.given → CameTo o left (calls_next o.code t) r u w
came_to o t left steps r u w code knows small empty measured ends most came = by r ends came
  where
    along : (l : ℕ) → u.ended ≡ None → IsGoing (at_step o steps) (state_in o u w) l → IsAlong o u w l
    along l e h = record {
      code = code;
      knows = knows;
      going = e;
      small = small;
      empty = empty;
      steps = steps;
      run = h;
      most = most (going_state (at_step o steps) (state_in o u w) l h);
      measured = measured;
    }

    over : (e : Ended) → IsOver (at_step o steps) e (state_in o u w) u.given → HasRun o e u w
    over e h = (steps, h, most (over_state (at_step o steps) e (state_in o u w) u.given h))

    entered : (l : ℕ) (call : Bool) → u.ended ≡ None → EnteredIn (at_step o steps) l call (state_in o u w) u.given → HasEntered o l call u w
    entered zero call e h = λ f. over M.Out (h f)
    entered (suc l) call e h = along l e h

    deep : (l : ℕ) (call : Bool) → DeepIn (at_step o steps) l call (state_in o u w) u.given → IsDeep o l call u w
    deep zero call h = λ f. over M.Deep (h f)
    deep (suc l) call h = over M.Deep h

    by : (r : Stepped) → (ended_by r ≡ None → u.ended ≡ None) → CameIn (at_step o steps) left (calls_next o.code t) r (state_in o u w) u.given → CameTo o left (calls_next o.code t) r u w
    by S.Went ends h = along left (ends refl) h
    by S.Entered ends h = entered left (calls_next o.code t) (ends refl) h
    by S.Value ends h = over M.Value h
    by (S.Trap kind line col) ends h = over (M.Trap kind line col) h
    by S.Deep ends h = deep left (calls_next o.code t) h

-- the same, with something that is said of the steps
came_with : (X : ℕ → Type 0) (o : Origin) (t : Stand) (left steps : ℕ) (r : Stepped) (u : Stand) (w : Stored) → u.code ≡ o.code → KnowsRun o.code o.kinds o.first o.calls → IsSmall w.cells → w.pushed ≡ [] → IsMeasured u → (ended_by r ≡ None → u.ended ≡ None) → (UnlessStuck (at_step o steps) (state_of (at_step o steps) ≡ state_in o u w) → UnlessStuck (at_step o steps) (HasMost o steps u)) → X steps → CameIn (at_step o steps) left (calls_next o.code t) r (state_in o u w) u.given → CameWith X o left (calls_next o.code t) r u w
came_with X o t left steps r u w code knows small empty measured ends most x came = by r ends came
  where
    along : (l : ℕ) → u.ended ≡ None → IsGoing (at_step o steps) (state_in o u w) l → AlongWith X o u w l
    along l e h = record {
      along = record {
        code = code;
        knows = knows;
        going = e;
        small = small;
        empty = empty;
        steps = steps;
        run = h;
        most = most (going_state (at_step o steps) (state_in o u w) l h);
        measured = measured;
      };
      beside = x;
    }

    said : (e : Ended) → IfValue e (X steps)
    said M.Value = x
    said (M.Trap kind line col) = tt
    said M.Out = tt
    said M.Deep = tt

    over : (e : Ended) → IsOver (at_step o steps) e (state_in o u w) u.given → RunWith X o e u w
    over e h = record { run = (steps, h, most (over_state (at_step o steps) e (state_in o u w) u.given h)); beside = said e }

    entered : (l : ℕ) (call : Bool) → u.ended ≡ None → EnteredIn (at_step o steps) l call (state_in o u w) u.given → EnteredWith X o l call u w
    entered zero call e h = λ f. over M.Out (h f)
    entered (suc l) call e h = along l e h

    deep : (l : ℕ) (call : Bool) → DeepIn (at_step o steps) l call (state_in o u w) u.given → DeepWith X o l call u w
    deep zero call h = λ f. over M.Deep (h f)
    deep (suc l) call h = over M.Deep h

    by : (r : Stepped) → (ended_by r ≡ None → u.ended ≡ None) → CameIn (at_step o steps) left (calls_next o.code t) r (state_in o u w) u.given → CameWith X o left (calls_next o.code t) r u w
    by S.Went ends h = along left (ends refl) h
    by S.Entered ends h = entered left (calls_next o.code t) (ends refl) h
    by S.Value ends h = over M.Value h
    by (S.Trap kind line col) ends h = over (M.Trap kind line col) h
    by S.Deep ends h = deep left (calls_next o.code t) h

-- the run after one more step
came_next : (o : Origin) (steps left : ℕ) (old : State) (r : Stepped) (new : State) (given : List ℕ) → IsGoing (at_step o steps) old left → Comes old (next o.kinds (plain o.code.code) old) r new given → CameIn (at_step o (suc steps)) left (is_call_in (instr_of (plain o.code.code) old)) r new given
came_next o steps left old r new given h c = subst (λ (m : Run). CameIn m left (is_call_in (instr_of (plain o.code.code) old)) r new given) (sym (after_later o.kinds (plain o.code.code) steps (begun o.first o.calls))) (came_along o.kinds (plain o.code.code) (at_step o steps) left old r new given h c)

-- A moment with what its Drop releases, if it is at one; or one where an instruction could not be done.
known_or_stuck : (o : Origin) (k left : ℕ) (old : State) → KnowsRun o.code o.kinds o.first o.calls → IsGoing (at_step o k) old left → KnowsAt o.code o.kinds old.running.function old.running.at ⊎ ((s : State) × (l : ℕ) × (n : ℕ) × (at_step o k ≡ Over Unsound s l n))
known_or_stuck o k left old knows going = by (at_step o k) refl going
  where
    by : (m : Run) → at_step o k ≡ m → IsGoing m old left → KnowsAt o.code o.kinds old.running.function old.running.at ⊎ ((s : State) × (l : ℕ) × (n : ℕ) × (at_step o k ≡ Over Unsound s l n))
    by (Going s l n) e h = inl (subst (λ (u : State). KnowsAt o.code o.kinds u.running.function u.running.at) (sym h.0) (knows k l n s e))
    by (Over (Value ws) s l n) e h = absurd h
    by (Over (Trap kind line col) s l n) e h = absurd h
    by (Over Out s l n) e h = absurd h
    by (Over Deep s l n) e h = absurd h
    by (Over Unsound s l n) e h = inr (s, l, n, e)

-- where it could not nothing is said of what comes
stuck_to : (o : Origin) (t : Stand) (left k : ℕ) (r : Stepped) (u : Stand) (w : Stored) (s : State) (l n : ℕ) → at_step o k ≡ Over Unsound s l n → u.code ≡ o.code → KnowsRun o.code o.kinds o.first o.calls → IsSmall w.cells → w.pushed ≡ [] → IsMeasured u → (ended_by r ≡ None → u.ended ≡ None) → CameTo o left (calls_next o.code t) r u w
stuck_to o t left k r u w s l n e code knows small empty measured ends =
    let on : at_step o (suc k) ≡ Over Unsound s l n = after_later o.kinds (plain o.code.code) k (begun o.first o.calls) ∙ ap (later o.kinds (plain o.code.code)) e in
    came_to o t left (suc k) r u w code knows small empty measured ends (λ same. stuck_on o k s l n (HasMost o (suc k) u) e) (subst (λ (m : Run). CameIn m left (calls_next o.code t) r (state_in o u w) u.given) (sym on) (came_stuck s l n left (calls_next o.code t) r (state_in o u w) u.given))

pub stepped : (o : Origin) (t : Stand) (s : Stored) (left : ℕ) (r : Stepped) (u : Stand) (w : Stored) → IsAlong o t s left → u.code ≡ t.code → (IsSmall s.cells → IsSmall w.cells) → (s.pushed ≡ [] → w.pushed ≡ []) → IsMeasured u → (t.ended ≡ None → IsRaised t u) → (t.ended ≡ None → u.ended ≡ ended_by r) → (KnowsAt t.code o.kinds t.running.function t.running.at → t.ended ≡ None → IsSmall s.cells → s.pushed ≡ [] → Comes (state_in o t s) (next o.kinds (plain t.code.code) (state_in o t s)) r (state_in o u w) u.given) → CameTo o left (calls_next t.code t) r u w
stepped o t s left r u w a code small pushed measured raised ends reported =
    let old = state_in o t s in
    let new = state_in o u w in
    let came : CameTo o left (calls_next o.code t) r u w = elim (known_or_stuck o a.steps left old a.knows a.run) [
      | inl known ↦ (
          let knows : KnowsAt t.code o.kinds t.running.function t.running.at = subst (λ (v : Checked). KnowsAt v o.kinds t.running.function t.running.at) (sym a.code) known in
          let here : Comes old (next o.kinds (plain o.code.code) old) r new u.given = subst (λ (v : Checked). Comes old (next o.kinds (plain v.code) old) r new u.given) a.code (reported knows a.going a.small a.empty) in
          came_to o t left (suc a.steps) r u w (code ∙ a.code) a.knows (small a.small) (pushed a.empty) measured (λ e. ends a.going ∙ e) (most_next o a.steps left old t u w a.run a.most measured (raised a.going)) (came_next o a.steps left old r new u.given a.run here))
      | inr z ↦ stuck_to o t left a.steps r u w z.0 z.1 z.2 z.3 (code ∙ a.code) a.knows (small a.small) (pushed a.empty) measured (λ e. ends a.going ∙ e)
    ] in
    subst (λ (v : Checked). CameTo o left (calls_next v t) r u w) (sym a.code) came

-- a step, with something that is said of the steps after it: where its Drop was known, or an instruction could not be
-- done
pub stepped_with : (X : ℕ → Type 0) (o : Origin) (t : Stand) (s : Stored) (left : ℕ) (r : Stepped) (u : Stand) (w : Stored) (a : IsAlong o t s left) → u.code ≡ t.code → (IsSmall s.cells → IsSmall w.cells) → (s.pushed ≡ [] → w.pushed ≡ []) → IsMeasured u → (t.ended ≡ None → IsRaised t u) → (t.ended ≡ None → u.ended ≡ ended_by r) → (KnowsAt t.code o.kinds t.running.function t.running.at → t.ended ≡ None → IsSmall s.cells → s.pushed ≡ [] → Comes (state_in o t s) (next o.kinds (plain t.code.code) (state_in o t s)) r (state_in o u w) u.given) → (KnowsAt t.code o.kinds t.running.function t.running.at → X (suc a.steps)) → ((z : State) (l n : ℕ) → at_step o a.steps ≡ Over Unsound z l n → X (suc a.steps)) → CameWith X o left (calls_next t.code t) r u w
stepped_with X o t s left r u w a code small pushed measured raised ends reported said stuck =
    let old = state_in o t s in
    let new = state_in o u w in
    let came : CameWith X o left (calls_next o.code t) r u w = elim (known_or_stuck o a.steps left old a.knows a.run) [
      | inl known ↦ (
          let knows : KnowsAt t.code o.kinds t.running.function t.running.at = subst (λ (v : Checked). KnowsAt v o.kinds t.running.function t.running.at) (sym a.code) known in
          let here : Comes old (next o.kinds (plain o.code.code) old) r new u.given = subst (λ (v : Checked). Comes old (next o.kinds (plain v.code) old) r new u.given) a.code (reported knows a.going a.small a.empty) in
          came_with X o t left (suc a.steps) r u w (code ∙ a.code) a.knows (small a.small) (pushed a.empty) measured (λ e. ends a.going ∙ e) (most_next o a.steps left old t u w a.run a.most measured (raised a.going)) (said knows) (came_next o a.steps left old r new u.given a.run here))
      | inr z ↦ (
          let on : at_step o (suc a.steps) ≡ Over Unsound z.0 z.1 z.2 = after_later o.kinds (plain o.code.code) a.steps (begun o.first o.calls) ∙ ap (later o.kinds (plain o.code.code)) z.3 in
          came_with X o t left (suc a.steps) r u w (code ∙ a.code) a.knows (small a.small) (pushed a.empty) measured (λ e. ends a.going ∙ e) (λ same. stuck_on o a.steps z.0 z.1 z.2 (HasMost o (suc a.steps) u) z.3) (stuck z.0 z.1 z.2 z.3) (subst (λ (m : Run). CameIn m left (calls_next o.code t) r (state_in o u w) u.given) (sym on) (came_stuck z.0 z.1 z.2 left (calls_next o.code t) r (state_in o u w) u.given)))
    ] in
    subst (λ (v : Checked). CameWith X o left (calls_next v t) r u w) (sym a.code) came

-- turns in which more than one instruction may be done

-- a moment, and the most frames and words that were seen until then
record Moment (o : Origin) (left f w : ℕ) (now : State) : Type 0 where
  pub steps : ℕ
  pub run : IsGoing (at_step o steps) now left
  pub most : UnlessStuck (at_step o steps) (MostAre o steps f w)

one_on : (o : Origin) (left f w : ℕ) (old new : State) (given : List ℕ) → Moment o left f w old → Comes old (next o.kinds (plain o.code.code) old) S.Went new given → Moment o left f w new
one_on o left f w old new given m c = record {
  steps = suc m.steps;
  run = came_next o m.steps left old S.Went new given m.run c;
  most = most_stays o m.steps left f w old new given m.run m.most c;
}

led_on : (o : Origin) (left f w n : ℕ) (old new : State) → Moment o left f w old → Lead o.kinds (plain o.code.code) n old new → Moment o left f w new
led_on o left f w zero old new m l = subst (λ (t : State). Moment o left f w t) (sym l) m
led_on o left f w (suc n) old new m l = one_on o left f w l.0 new [] (led_on o left f w n old l.0 m l.1) l.2

-- what such a turn ended in
turned_to : (o : Origin) (t : Stand) (left steps : ℕ) (r : Stepped) (u : Stand) (w : Stored) (old : State) → u.code ≡ o.code → KnowsRun o.code o.kinds o.first o.calls → IsSmall w.cells → w.pushed ≡ [] → IsMeasured u → IsRaised t u → u.ended ≡ None → is_call_in (instr_of (plain o.code.code) old) ≡ calls_next o.code t → IsGoing (at_step o steps) old left → UnlessStuck (at_step o steps) (HasMost o steps t) → ComesWithMore o.kinds (plain o.code.code) old (next o.kinds (plain o.code.code) old) r (state_in o u w) u.given → CameTo o left (calls_next o.code t) r u w
turned_to o t left steps r u w old code knows small empty measured raised going call run most m = by r m
  where
    last : (r : Stepped) (m : ComesWithMore o.kinds (plain o.code.code) old (next o.kinds (plain o.code.code) old) r (state_in o u w) u.given) → (r ≡ S.Went → ⊥) → CameTo o left (calls_next o.code t) r u w
    last r m n =
        let comes : Comes old (next o.kinds (plain o.code.code) old) r (state_in o u w) u.given = subst (λ (x : State). Comes old (next o.kinds (plain o.code.code) old) r x u.given) (sym (m.last n)) m.comes in
        came_to o t left (suc steps) r u w code knows small empty measured (λ e. going) (most_next o steps left old t u w run most measured raised) (subst (λ b. CameIn (at_step o (suc steps)) left b r (state_in o u w) u.given) call (came_next o steps left old r (state_in o u w) u.given run comes))

    by : (r : Stepped) → ComesWithMore o.kinds (plain o.code.code) old (next o.kinds (plain o.code.code) old) r (state_in o u w) u.given → CameTo o left (calls_next o.code t) r u w
    by S.Went m =
        let first : Moment o left t.most_frames t.most_words old = record { steps = steps; run = run; most = most_of o steps t most } in
        let mid = one_on o left t.most_frames t.most_words old m.mid u.given first m.comes in
        let end = led_on o left t.most_frames t.most_words m.more.0 m.mid (state_in o u w) mid m.more.1 in
        came_to o t left end.steps S.Went u w code knows small empty measured (λ e. going) (most_there o end.steps t u w end.most measured raised) end.run
    by S.Entered m = last S.Entered m (λ e. cc)
    by S.Value m = last S.Value m (λ e. cc)
    by (S.Trap kind line col) m = last (S.Trap kind line col) m (λ e. cc)
    by S.Deep m = last S.Deep m (λ e. cc)

pub turned : (o : Origin) (t : Stand) (s : Stored) (left : ℕ) (r : Stepped) (u : Stand) (w : Stored) → IsAlong o t s left → u.code ≡ t.code → (IsSmall s.cells → IsSmall w.cells) → (s.pushed ≡ [] → w.pushed ≡ []) → IsMeasured u → IsRaised t u → u.ended ≡ None → (KnowsAt t.code o.kinds t.running.function t.running.at → IsSmall s.cells → s.pushed ≡ [] → ComesWithMore o.kinds (plain t.code.code) (state_in o t s) (next o.kinds (plain t.code.code) (state_in o t s)) r (state_in o u w) u.given) → CameTo o left (calls_next t.code t) r u w
turned o t s left r u w a code small pushed measured raised going reported =
    let old = state_in o t s in
    let came : CameTo o left (calls_next o.code t) r u w = elim (known_or_stuck o a.steps left old a.knows a.run) [
      | inl known ↦ (
          let knows : KnowsAt t.code o.kinds t.running.function t.running.at = subst (λ (v : Checked). KnowsAt v o.kinds t.running.function t.running.at) (sym a.code) known in
          let here : ComesWithMore o.kinds (plain o.code.code) old (next o.kinds (plain o.code.code) old) r (state_in o u w) u.given = subst (λ (v : Checked). ComesWithMore o.kinds (plain v.code) old (next o.kinds (plain v.code) old) r (state_in o u w) u.given) a.code (reported knows a.small a.empty) in
          turned_to o t left a.steps r u w old (code ∙ a.code) a.knows (small a.small) (pushed a.empty) measured raised going refl a.run a.most here)
      | inr z ↦ stuck_to o t left a.steps r u w z.0 z.1 z.2 z.3 (code ∙ a.code) a.knows (small a.small) (pushed a.empty) measured (λ e. going)
    ] in
    subst (λ (v : Checked). CameTo o left (calls_next v t) r u w) (sym a.code) came

-- runs to the next call

pub has_gone_on : (o : Origin) (left : ℕ) (call : Bool) (r : Stepped) (u : Stand) (w : Stored) → r ≡ S.Went → CameTo o left call r u w → IsAlong o u w left
has_gone_on o left call r u w e h = subst (λ q. CameTo o left call q u w) e h

entered_less : (o : Origin) (left : ℕ) (call : Bool) (u : Stand) (w : Stored) → 0 < left → HasEntered o left call u w → IsAlong o u w (left - 1)
entered_less o zero call u w some h = absurd (omega (arith, some))
entered_less o (suc left) call u w some h = let less : suc left - 1 ≡ left = omega arith in subst (λ n. IsAlong o u w n) (sym less) h

pub has_entered : (o : Origin) (left : ℕ) (call : Bool) (r : Stepped) (u : Stand) (w : Stored) → r ≡ S.Entered → 0 < left → CameTo o left call r u w → IsAlong o u w (left - 1)
has_entered o left call r u w e some h = entered_less o left call u w some (subst (λ q. CameTo o left call q u w) e h)

deep_ended : (o : Origin) (left : ℕ) (call : Bool) (u : Stand) (w : Stored) → 0 < left → IsDeep o left call u w → HasRun o M.Deep u w
deep_ended o zero call u w some h = absurd (omega (arith, some))
deep_ended o (suc left) call u w some h = h

pub has_ended : (o : Origin) (left : ℕ) (call : Bool) (r : Stepped) (u : Stand) (w : Stored) → r ≢ S.Went → r ≢ S.Entered → 0 < left → CameTo o left call r u w → HasRun o (end_after (Some r)) u w
has_ended o left call S.Went u w n m some h = absurd (n refl)
has_ended o left call S.Entered u w n m some h = absurd (m refl)
has_ended o left call S.Value u w n m some h = h
has_ended o left call (S.Trap kind line col) u w n m some h = h
has_ended o left call S.Deep u w n m some h = deep_ended o left call u w some h

-- runs with no call left

pub has_ended_late : (o : Origin) (r : Stepped) (u : Stand) (w : Stored) → r ≢ S.Went → CameTo o 0 false r u w → HasRun o (end_after (Some r)) u w
has_ended_late o S.Went u w n h = absurd (n refl)
has_ended_late o S.Entered u w n h = h refl
has_ended_late o S.Value u w n h = h
has_ended_late o (S.Trap kind line col) u w n h = h
has_ended_late o S.Deep u w n h = h refl

-- whether a call is next

pub not_off : (b : Bool) → false ≡ not b → b ≡ true
not_off true e = refl
not_off false e = absurd cc

-- a call with none left

out_called_with : (s : State) (f k : ℕ) (g : PlainFunction) (free : ℕ) (ws given : List ℕ) → IsOver (comes s 0 k (called_with s f g free ws)) M.Out s given
out_called_with s f k g zero ws given = (refl, refl)
out_called_with s f k g (suc free) ws given = (refl, refl)

out_called : (s : State) (f k : ℕ) (g : Option PlainFunction) (ws : Option (List ℕ)) (given : List ℕ) → IsOver (comes s 0 k (called s f g ws)) M.Out s given
out_called s f k None ws given = tt
out_called s f k (Some g) None given = tt
out_called s f k (Some g) (Some ws) given = out_called_with s f k g s.free ws given

out_replaced : (s : State) (f k : ℕ) (g : Option PlainFunction) (ws : Option (List ℕ)) (given : List ℕ) → IsOver (comes s 0 k (replaced s f g ws)) M.Out s given
out_replaced s f k None ws given = tt
out_replaced s f k (Some g) None given = tt
out_replaced s f k (Some g) (Some ws) given = (refl, refl)

out_at : (code : PlainCode) (ks : List Kind) (s : State) (k : ℕ) (o : Option Instr) (given : List ℕ) → is_call_in o ≡ true → IsOver (comes s 0 k (act_at code ks s o)) M.Out s given
out_at code ks s k None given e = absurd cc
out_at code ks s k (Some (I.Const d v)) given e = absurd cc
out_at code ks s k (Some (I.Atom d t c)) given e = absurd cc
out_at code ks s k (Some (I.Move d r)) given e = absurd cc
out_at code ks s k (Some (I.Arith d o x y line col)) given e = absurd cc
out_at code ks s k (Some (I.Test r c target)) given e = absurd cc
out_at code ks s k (Some (I.TestInt r v target)) given e = absurd cc
out_at code ks s k (Some (I.Peek d r i)) given e = absurd cc
out_at code ks s k (Some (I.Take r ds)) given e = absurd cc
out_at code ks s k (Some (I.Put r t c ss)) given e = absurd cc
out_at code ks s k (Some (I.Drop r)) given e = absurd cc
out_at code ks s k (Some (I.Free r)) given e = absurd cc
out_at code ks s k (Some (I.Call f ss ds)) given e = out_called s f k (function_at code f) (read_all s.running.words ss) given
out_at code ks s k (Some (I.Tail f ss)) given e = out_replaced s f k (function_at code f) (read_all s.running.words ss) given
out_at code ks s k (Some (I.Ret ss)) given e = absurd cc
out_at code ks s k (Some (I.Jump target)) given e = absurd cc

out_along : (kinds : Kinds) (code : PlainCode) (m : Run) (now : State) (given : List ℕ) → IsGoing m now 0 → is_call_in (instr_of code now) ≡ true → IsOver (later kinds code m) M.Out now given
out_along kinds code (Going s l k) now given h c =
    let at : is_call_in (instr_of code s) ≡ true = subst (λ (u : State). is_call_in (instr_of code u) ≡ true) h.0 c in
    let there : IsOver (comes s 0 (suc k) (next kinds code s)) M.Out s given = out_at code (kinds_of kinds s) s (suc k) (instr_of code s) given at in
    let same : IsOver (comes s l (suc k) (next kinds code s)) M.Out s given = subst (λ q. IsOver (comes s q (suc k) (next kinds code s)) M.Out s given) h.1 there in
    subst (λ (u : State). IsOver (comes s l (suc k) (next kinds code s)) M.Out u given) (sym h.0) same
out_along kinds code (Over (Value ws) s l k) now given h c = absurd h
out_along kinds code (Over (Trap kind line col) s l k) now given h c = absurd h
out_along kinds code (Over Out s l k) now given h c = absurd h
out_along kinds code (Over Deep s l k) now given h c = absurd h
out_along kinds code (Over Unsound s l k) now given h c = tt

pub is_out : (o : Origin) (t : Stand) (s : Stored) → IsAlong o t s 0 → calls_next t.code t ≡ true → HasRun o M.Out t s
is_out o t s a c =
    let call : calls_next o.code t ≡ true = subst (λ (v : Checked). calls_next v t ≡ true) a.code c in
    let on = out_along o.kinds (plain o.code.code) (at_step o a.steps) (state_in o t s) t.given a.run call in
    let over : IsOver (at_step o (suc a.steps)) M.Out (state_in o t s) t.given = subst (λ (m : Run). IsOver m M.Out (state_in o t s) t.given) (sym (after_later o.kinds (plain o.code.code) a.steps (begun o.first o.calls))) on in
    let m = a.measured in
    let f = m.most_frames in
    let w = m.most_words in
    (suc a.steps, over, most_next o a.steps 0 (state_in o t s) t t s a.run a.most m (record { frames = omega (arith, f); words = omega (arith, w) }) (over_state (at_step o (suc a.steps)) M.Out (state_in o t s) t.given over))

-- and with what is said of the steps

pub went_with_more : (X : ℕ → Type 0) (o : Origin) (left : ℕ) (call : Bool) (r : Stepped) (u : Stand) (w : Stored) → r ≡ S.Went → CameWith X o left call r u w → AlongWith X o u w left
went_with_more X o left call r u w e h = subst (λ q. CameWith X o left call q u w) e h

entered_less_with : (X : ℕ → Type 0) (o : Origin) (left : ℕ) (call : Bool) (u : Stand) (w : Stored) → 0 < left → EnteredWith X o left call u w → AlongWith X o u w (left - 1)
entered_less_with X o zero call u w some h = absurd (omega (arith, some))
entered_less_with X o (suc left) call u w some h = let less : suc left - 1 ≡ left = omega arith in subst (λ n. AlongWith X o u w n) (sym less) h

pub entered_with_more : (X : ℕ → Type 0) (o : Origin) (left : ℕ) (call : Bool) (r : Stepped) (u : Stand) (w : Stored) → r ≡ S.Entered → 0 < left → CameWith X o left call r u w → AlongWith X o u w (left - 1)
entered_with_more X o left call r u w e some h = entered_less_with X o left call u w some (subst (λ q. CameWith X o left call q u w) e h)

deep_with : (X : ℕ → Type 0) (o : Origin) (left : ℕ) (call : Bool) (u : Stand) (w : Stored) → 0 < left → DeepWith X o left call u w → RunWith X o M.Deep u w
deep_with X o zero call u w some h = absurd (omega (arith, some))
deep_with X o (suc left) call u w some h = h

pub ended_with_more : (X : ℕ → Type 0) (o : Origin) (left : ℕ) (call : Bool) (r : Stepped) (u : Stand) (w : Stored) → r ≢ S.Went → r ≢ S.Entered → 0 < left → CameWith X o left call r u w → RunWith X o (end_after (Some r)) u w
ended_with_more X o left call S.Went u w n m some h = absurd (n refl)
ended_with_more X o left call S.Entered u w n m some h = absurd (m refl)
ended_with_more X o left call S.Value u w n m some h = h
ended_with_more X o left call (S.Trap kind line col) u w n m some h = h
ended_with_more X o left call S.Deep u w n m some h = deep_with X o left call u w some h

pub ended_late_with : (X : ℕ → Type 0) (o : Origin) (r : Stepped) (u : Stand) (w : Stored) → r ≢ S.Went → CameWith X o 0 false r u w → RunWith X o (end_after (Some r)) u w
ended_late_with X o S.Went u w n h = absurd (n refl)
ended_late_with X o S.Entered u w n h = h refl
ended_late_with X o S.Value u w n h = h
ended_late_with X o (S.Trap kind line col) u w n h = h
ended_late_with X o S.Deep u w n h = h refl

pub out_with : (X : ℕ → Type 0) (o : Origin) (t : Stand) (s : Stored) → AlongWith X o t s 0 → calls_next t.code t ≡ true → RunWith X o M.Out t s
out_with X o t s a c = record { run = is_out o t s a.along c; beside = tt }

-- the beginning

begun_most : (o : Origin) (t : Stand) (s : Stored) (given : ℕ) → IsReady o t s given → HasMost o 0 t
begun_most o t s given r =
    let m = r.measured in
    let frames : highest_frames (seen_to o 0) ≡ t.frames = first_frames o.calls ∙ ap frames_held r.first ∙ sym m.frames in
    let words : highest_words (seen_to o 0) ≡ t.words = first_words o.calls ∙ ap words_held r.first ∙ sym m.words in
    let f = m.most_frames in
    let w = m.most_words in
    let a = r.most_frames in
    let b = r.most_words in
    record { frames = omega (arith, frames, f, a); words = omega (arith, words, w, b) }
  where
    first_frames : (calls : ℕ) → highest_frames (seen o.kinds (plain o.code.code) 0 (begun o.first calls)) ≡ frames_held o.first
    first_frames zero = omega arith
    first_frames (suc calls) = omega arith

    first_words : (calls : ℕ) → highest_words (seen o.kinds (plain o.code.code) 0 (begun o.first calls)) ≡ words_held o.first
    first_words zero = omega arith
    first_words (suc calls) = omega arith

pub ready_out : (o : Origin) (t : Stand) (s : Stored) (calls : ℕ) → calls ≡ 0 → IsReady o t s calls → HasRun o M.Out t s
ready_out o t s calls none r = (0, subst (λ n. IsOver (begun o.first n) M.Out (state_in o t s) t.given) (sym (r.calls ∙ none)) (refl, sym r.first), always (begun o.first o.calls) (HasMost o 0 t) (begun_most o t s calls r))

pub ready_along : (o : Origin) (t : Stand) (s : Stored) (calls : ℕ) → calls ≢ 0 → IsReady o t s calls → IsAlong o t s (calls - 1)
ready_along o t s calls some r = record {
  code = r.code;
  knows = r.knows;
  going = r.going;
  small = r.small;
  empty = r.empty;
  steps = 0;
  run = begins calls some r.calls;
  most = always (begun o.first o.calls) (HasMost o 0 t) (begun_most o t s calls r);
  measured = r.measured;
}
  where
    begins : (n : ℕ) → n ≢ 0 → o.calls ≡ n → IsGoing (begun o.first o.calls) (state_in o t s) (n - 1)
    begins zero some e = absurd (some refl)
    begins (suc n) some e = let less : suc n - 1 ≡ n = omega arith in subst (λ c. IsGoing (begun o.first c) (state_in o t s) (suc n - 1)) (sym e) (sym r.first, less)

begins_at : (o : Origin) (t : Stand) (s : Stored) (calls : ℕ) → IsReady o t s calls → (n : ℕ) → n ≢ 0 → o.calls ≡ n → IsGoing (begun o.first o.calls) (state_in o t s) (n - 1)
begins_at o t s calls r zero some e = absurd (some refl)
begins_at o t s calls r (suc n) some e = let less : suc n - 1 ≡ n = omega arith in subst (λ c. IsGoing (begun o.first c) (state_in o t s) (suc n - 1)) (sym e) (sym r.first, less)

pub ready_along_with : (X : ℕ → Type 0) (o : Origin) (t : Stand) (s : Stored) (calls : ℕ) → calls ≢ 0 → IsReady o t s calls → X 0 → AlongWith X o t s (calls - 1)
ready_along_with X o t s calls some r x = record {
  along = record {
    code = r.code;
    knows = r.knows;
    going = r.going;
    small = r.small;
    empty = r.empty;
    steps = 0;
    run = begins_at o t s calls r calls some r.calls;
    most = always (begun o.first o.calls) (HasMost o 0 t) (begun_most o t s calls r);
    measured = r.measured;
  };
  beside = x;
}

-- a task stays where it is while its words reach further
pub task_same : (v : Checked) (b : Bounds) (ws us : List ℕ) (c : Cursor) (beside : Beside) → c.base + c.registers ≤ length ws → length ws ≤ length us → Keeps (length ws) ws us → task_of v b us c beside ≡ task_of v b ws c beside
task_same v b ws us c beside room more keeps =
    let same = room_same v b [] (store_of [] []) ws us c room more keeps in
    λ i. record {
      code = v;
      running = (same i).running;
      waiting = (same i).waiting;
      free = b.frames - c.frames;
      given = take beside.given beside.results;
      freed = beside.freed;
      ended = None;
      frames = c.frames;
      words = c.base + c.registers + 2;
      most_frames = c.highest.frames;
      most_words = c.highest.words;
      weight = weight c;
    }
