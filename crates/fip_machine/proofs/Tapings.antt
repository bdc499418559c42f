-- What a recorder keeps, step by step.
-- The idea: a step that goes on adds the events of its instruction to those of the steps before, which is just what the
-- recorder is reported.
use Rattle.std.proofs.Common.{◌≡◌, ℕ, zero, suc, ◌+◌, List, [], ◌∷◌, ◌++◌, map, refl, sym, ap, subst, ◌∙◌, arith}
use Rattle.std.proofs.lemmas.List.{append_assoc, append-nil, map-append}
use Rattle.cell_store.specs.Made.{Stored}
use Rattle.cell_trace.specs.declared.tape.Tape.{Tape}
use Rattle.cell_trace.specs.Traced.{Standing, Noted, standing_from}
use Rattle.cell_trace.specs.Taped.{Recorded, IsTape, WasReported}
use Rattle.cell_code.specs.Plain.{PlainCode, plain}
use Rattle.machine_cells.specs.machine_semantics.Cells.{Change}
use Rattle.machine_cells.specs.machine_semantics.States.{State, Next, Went, Entered, Gave, Trapped, TooDeep, Stuck}
use Rattle.machine_cells.specs.machine_semantics.Steps.{Kinds, next, changes_of}
use Rattle.machine_cells.specs.machine_semantics.Runs.{Value, Trap, Out, Deep, Unsound, Run, Going, Over, begun, comes, later, after}
use Rattle.machine_cells.specs.machine_semantics.Traces.{events_of, done_changes, events}
use Rattle.machine_cells.proofs.machine_semantics.Stays.{over_stays}
use Rattle.machine_cells.specs.Telling.{as_reported}
use Rattle.machine_step.specs.Telling.{IsKnown, next_reports}
use Rattle.fip_machine.specs.declared.machine.Ended.{Ended}
use Rattle.fip_machine.specs.declared.machine.Ended.TheVariants as M
use Rattle.fip_machine.specs.Tasks.{Stand}
use Rattle.fip_machine.specs.Ending.{IsOver}
use Rattle.fip_machine.specs.Along.{Origin, at_step, UnlessStuck, IsGoing, IsReady}
use Rattle.fip_machine.specs.Traces.{noted, notes, AtValue}
use Rattle.fip_machine.specs.Taped.{RunWith, steps_of, Taped, HasTape, IsFirstTape}
use Rattle.fip_machine.proofs.Mosts.{after_later, always, stuck_on}
use Rattle.fip_machine.proofs.Alongs.{ready_out}

-- the events of one step more

events_last : (kinds : Kinds) (code : PlainCode) (k : ℕ) (r : Run) (s : State) (l j : ℕ) → after kinds code k r ≡ Going s l j → events kinds code (suc k) r ≡ events kinds code k r ++ events_of (suc j) (done_changes (changes_of kinds code s) (next kinds code s))
events_last kinds code zero r s l j e = subst (λ m. events kinds code 1 m ≡ events kinds code 0 m ++ events_of (suc j) (done_changes (changes_of kinds code s) (next kinds code s))) (sym e) (append-nil (events_of (suc j) (done_changes (changes_of kinds code s) (next kinds code s))))
events_last kinds code (suc k) (Going z m i) s l j e =
    let one = events_of (suc i) (done_changes (changes_of kinds code z) (next kinds code z)) in
    let r = later kinds code (Going z m i) in
    ap (λ es. one ++ es) (events_last kinds code k r s l j e) ∙ sym (append_assoc one (events kinds code k r) (events_of (suc j) (done_changes (changes_of kinds code s) (next kinds code s))))
events_last kinds code (suc k) (Over x z m i) s l j e = let same : Over x z m i ≡ Going s l j = sym (over_stays kinds code (suc k) x z m i) ∙ e in absurd cc

-- as a store is reported of them
notes_of : (n : ℕ) (cs : List Change) → map noted (events_of n cs) ≡ map (λ t. record { step = n; reported = t }) (map as_reported cs)
notes_of n [] = refl
notes_of n (c ∷ cs) = ap (λ xs. record { step = n; reported = as_reported c } ∷ xs) (notes_of n cs)

-- where something comes

unless_comes : (s : State) (l j : ℕ) (x : Next) (P : Type 0) → (IsKnown x → P) → UnlessStuck (comes s l j x) P
unless_comes s l j (Went t) P f = f tt
unless_comes s zero j (Entered t) P f = f tt
unless_comes s (suc l) j (Entered t) P f = f tt
unless_comes s l j (Gave ws) P f = f tt
unless_comes s l j (Trapped kind line col) P f = f tt
unless_comes s zero j TooDeep P f = f tt
unless_comes s (suc l) j TooDeep P f = f tt
unless_comes s l j Stuck P f = tt

steps_come : (s : State) (l j : ℕ) (x : Next) → steps_of (comes s l j x) ≡ j
steps_come s l j (Went t) = refl
steps_come s zero j (Entered t) = refl
steps_come s (suc l) j (Entered t) = refl
steps_come s l j (Gave ws) = refl
steps_come s l j (Trapped kind line col) = refl
steps_come s zero j TooDeep = refl
steps_come s (suc l) j TooDeep = refl
steps_come s l j Stuck = refl

-- a step more is kept
pub tape_next : (o : Origin) (limit k left : ℕ) (old : State) (first mid now : Tape) → IsGoing (at_step o k) old left → ((cs : List Standing) (es : List Noted) (n l : ℕ) → IsTape cs es n l first → IsTape cs es (n + 1) l mid) → (IsKnown (next o.kinds (plain o.code.code) old) → WasReported mid (next_reports o.kinds (plain o.code.code) old) now) → HasTape o limit first k → HasTape o limit now (suc k)
tape_next o limit k left old first mid now going counted reported has = by (at_step o k) refl going has
  where
    code : PlainCode
    code = plain o.code.code

    by : (m : Run) → at_step o k ≡ m → IsGoing m old left → UnlessStuck m (Taped o limit k first) → HasTape o limit now (suc k)
    by (Going s l j) e h t =
        let on : at_step o (suc k) ≡ comes s l (suc j) (next o.kinds code s) = after_later o.kinds code k (begun o.first o.calls) ∙ ap (later o.kinds code) e in
        let count : j ≡ k = ap steps_of (sym e) ∙ t.count in
        subst (λ m. UnlessStuck m (Taped o limit (suc k) now)) (sym on) (unless_comes s l (suc j) (next o.kinds code s) (Taped o limit (suc k) now) (λ known.
        let cells = standing_from 0 o.first.store.cells in
        let es = notes o.kinds code o.first o.calls k in
        let reports = next_reports o.kinds code s in
        let step : k + 1 ≡ suc k = omega arith in
        let ready : IsTape cells es (suc k) limit mid = subst (λ n. IsTape cells es n limit mid) step (counted cells es k limit t.tape) in
        let was : WasReported mid reports now = subst (λ (z : State). IsKnown (next o.kinds code z) → WasReported mid (next_reports o.kinds code z) now) h.0 reported known in
        let grown : IsTape cells (es ++ map (λ u. record { step = suc k; reported = u }) reports) (suc k) limit now = was cells es (suc k) limit ready in
        let last = events_last o.kinds code k (begun o.first o.calls) s l j e in
        let same : es ++ map (λ u. record { step = suc k; reported = u }) reports ≡ notes o.kinds code o.first o.calls (suc k) = ap (λ fs. es ++ fs) (sym (notes_of (suc k) (done_changes (changes_of o.kinds code s) (next o.kinds code s))) ∙ ap (λ n. map noted (events_of (suc n) (done_changes (changes_of o.kinds code s) (next o.kinds code s)))) (sym count)) ∙ sym (map-append noted (events o.kinds code k (begun o.first o.calls)) (events_of (suc j) (done_changes (changes_of o.kinds code s) (next o.kinds code s)))) ∙ ap (map noted) (sym last) in
        record {
          count = ap steps_of on ∙ steps_come s l (suc j) (next o.kinds code s) ∙ ap suc count;
          tape = subst (λ fs. IsTape cells fs (suc k) limit now) same grown;
        }))
    by (Over (Value ws) s l j) e h t = absurd h
    by (Over (Trap kind line col) s l j) e h t = absurd h
    by (Over Out s l j) e h t = absurd h
    by (Over Deep s l j) e h t = absurd h
    by (Over Unsound s l j) e h t = stuck_on o k s l j (Taped o limit (suc k) now) e

pub tape_stuck : (o : Origin) (limit k : ℕ) (now : Tape) (s : State) (l n : ℕ) → at_step o k ≡ Over Unsound s l n → HasTape o limit now (suc k)
tape_stuck o limit k now s l n e = stuck_on o k s l n (Taped o limit (suc k) now) e

-- the beginning

no_steps : (s : State) (calls : ℕ) → steps_of (begun s calls) ≡ 0
no_steps s zero = refl
no_steps s (suc calls) = refl

no_events : (kinds : Kinds) (code : PlainCode) (s : State) (calls : ℕ) → events kinds code 0 (begun s calls) ≡ []
no_events kinds code s calls = refl

pub first_tape : (o : Origin) (limit : ℕ) (t : Tape) → IsTape (standing_from 0 o.first.store.cells) (notes o.kinds (plain o.code.code) o.first o.calls 0) 0 limit t → HasTape o limit t 0
first_tape o limit t h = always (begun o.first o.calls) (Taped o limit 0 t) (record { count = no_steps o.first o.calls; tape = h })

pub first_of : (o : Origin) (t : Stand) (r : Recorded) (cells : Stored) (limit calls : ℕ) → r.store ≡ cells → IsTape (standing_from 0 cells.cells) [] 0 limit r.tape → IsReady o t r.store calls → IsFirstTape o limit r.tape
first_of o t r cells limit calls same loaded ready = subst (λ cs. IsTape (standing_from 0 cs) [] 0 limit r.tape) (ap (λ (s : Stored). s.cells) (sym same) ∙ ap (λ (s : State). s.store.cells) (sym ready.first)) loaded

pub ready_out_taped : (o : Origin) (limit : ℕ) (t : Stand) (s : Stored) (tape : Tape) (calls : ℕ) → calls ≡ 0 → IsReady o t s calls → RunWith (HasTape o limit tape) o M.Out t s
ready_out_taped o limit t s tape calls none r = record { run = ready_out o t s calls none r; beside = tt }

-- the end of a run that gives a value
pub at_value : (o : Origin) (limit n : ℕ) (e : Ended) (new : State) (given : List ℕ) (t : Tape) (P : ℕ → Type 0) → e ≡ M.Value → IsOver (at_step o n) e new given → HasTape o limit t n → (IsTape (standing_from 0 o.first.store.cells) (notes o.kinds (plain o.code.code) o.first o.calls n) n limit t → P n) → AtValue (at_step o n) P
at_value o limit n e new given t P is over has f = by (at_step o n) refl over has
  where
    by : (m : Run) → at_step o n ≡ m → IsOver m e new given → UnlessStuck m (Taped o limit n t) → AtValue m P
    by (Going s l j) same h u = absurd h
    by (Over (Value ws) s l j) same h u = let count : n ≡ j = sym (ap steps_of (sym same) ∙ u.count) in subst P count (f u.tape)
    by (Over (Trap kind line col) s l j) same h u = let z : M.Value ≡ M.Trap kind line col = sym is ∙ h.0 in absurd cc
    by (Over Out s l j) same h u = let z : M.Value ≡ M.Out = sym is ∙ h.0 in absurd cc
    by (Over Deep s l j) same h u = let z : M.Value ≡ M.Deep = sym is ∙ h.0 in absurd cc
    by (Over Unsound s l j) same h u = tt
