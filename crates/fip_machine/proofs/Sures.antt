-- A run that never reaches an instruction that can't be done: at each of its moments what comes next can be done.
-- The idea: instructions that aren't calls take no call, so the run of the definition goes with them; where one could
-- not be done it would be over, unsound.
use Rattle.std.proofs.Common.{◌≡◌, ◌≢◌, ℕ, zero, suc, ◌-◌, List, [], refl, sym, ap, subst, ◌∙◌}
use Rattle.cell_store.specs.Made.{Stored}
use Rattle.machine_step.specs.code_verify.Checked.{Checked}
use Rattle.cell_code.specs.Plain.{plain}
use Rattle.machine_cells.specs.machine_semantics.States.{State, Next, Went, Entered, Gave, Trapped, TooDeep, Stuck}
use Rattle.machine_cells.specs.machine_semantics.Steps.{next}
use Rattle.machine_cells.specs.machine_semantics.Runs.{Value, Trap, Out, Deep, Unsound, Run, Going, Over, begun, comes, later}
use Rattle.machine_step.specs.declared.cursor.Bounds.{Bounds}
use Rattle.machine_step.specs.declared.cursor.Cursor.{Cursor}
use Rattle.machine_step.specs.declared.rows.Beside.{Beside}
use Rattle.machine_step.specs.declared.rows.Stepped.TheVariants as S
use Rattle.machine_step.specs.Coming.{Comes}
use Rattle.machine_step.specs.Going.{Lead}
use Rattle.machine_step.specs.Sure.{CanGo, IsSure}
use Rattle.machine_step.specs.Telling.{IsKnown}
use Rattle.fip_machine.specs.Tasks.{Stand, IsMeasured}
use Rattle.fip_machine.specs.Machines.{Seen}
use Rattle.fip_machine.specs.Ending.{IsSafeRun}
use Rattle.fip_machine.specs.Along.{Origin, at_step, state_in, IsGoing, IsRight, IsAlong, IsSafe, task_of}
use Rattle.fip_machine.proofs.Mosts.{after_later}
use Rattle.fip_machine.proofs.Alongs.{ready_along}
use Rattle.fip_machine.proofs.Wholes.{origin_of, seen_of}

-- the run is in this state at some step
record Stays (o : Origin) (s : State) : Type 0 where
  pub step : ℕ
  pub left : ℕ
  pub done : ℕ
  pub is : at_step o step ≡ Going s left done

step_after : (o : Origin) (k : ℕ) → at_step o (suc k) ≡ later o.kinds (plain o.code.code) (at_step o k)
step_after o k = after_later o.kinds (plain o.code.code) k (begun o.first o.calls)

going_is : (o : Origin) (k : ℕ) (r : Run) (s : State) (left : ℕ) → at_step o k ≡ r → IsGoing r s left → IsRight r → Stays o s
going_is o k (Going u l n) s left e h right = record { step = k; left = l; done = n; is = e ∙ ap (λ (t : State). Going t l n) (sym h.0) }
going_is o k (Over (Value ws) u l n) s left e h right = absurd h
going_is o k (Over (Trap kind line col) u l n) s left e h right = absurd h
going_is o k (Over Out u l n) s left e h right = absurd h
going_is o k (Over Deep u l n) s left e h right = absurd h
going_is o k (Over Unsound u l n) s left e h right = absurd right

known_next : (s : State) (left n : ℕ) (x : Next) → IsRight (comes s left n x) → IsKnown x
known_next s left n (Went t) h = tt
known_next s left n (Entered t) h = tt
known_next s left n (Gave ws) h = tt
known_next s left n (Trapped kind line col) h = tt
known_next s left n TooDeep h = tt
known_next s left n Stuck h = absurd h

-- the step after it
right_next : (o : Origin) (s : State) (h : Stays o s) → ((n : ℕ) → IsRight (at_step o n)) → IsRight (comes s h.left (suc h.done) (next o.kinds (plain o.code.code) s))
right_next o s h never = subst IsRight (step_after o h.step ∙ ap (later o.kinds (plain o.code.code)) h.is) (never (suc h.step))

-- what comes next is known
stays_known : (o : Origin) (s : State) → ((n : ℕ) → IsRight (at_step o n)) → Stays o s → IsKnown (next o.kinds (plain o.code.code) s)
stays_known o s never h = known_next s h.left (suc h.done) (next o.kinds (plain o.code.code) s) (right_next o s h never)

-- an instruction that isn't a call leads to the next state
stays_on : (o : Origin) (s t : State) → ((n : ℕ) → IsRight (at_step o n)) → Stays o s → Comes s (next o.kinds (plain o.code.code) s) S.Went t [] → Stays o t
stays_on o s t never h came = by (next o.kinds (plain o.code.code) s) refl came
  where
    at : (x : Next) → next o.kinds (plain o.code.code) s ≡ x → at_step o (suc h.step) ≡ comes s h.left (suc h.done) x
    at x e = step_after o h.step ∙ ap (later o.kinds (plain o.code.code)) h.is ∙ ap (comes s h.left (suc h.done)) e

    by : (x : Next) → next o.kinds (plain o.code.code) s ≡ x → Comes s x S.Went t [] → Stays o t
    by (Went u) e c = record { step = suc h.step; left = h.left; done = suc h.done; is = at (Went u) e ∙ ap (λ (z : State). Going z h.left (suc h.done)) (sym c.1) }
    by (Entered u) e c = (let n = c.0 in absurd cc)
    by (Gave ws) e c = (let n = c.0 in absurd cc)
    by (Trapped kind line col) e c = (let n = c.0 in absurd cc)
    by TooDeep e c = (let n = c.0 in absurd cc)
    by Stuck e c = absurd (subst IsRight (at Stuck e) (never (suc h.step)))

stays_led : (o : Origin) (s : State) → ((n : ℕ) → IsRight (at_step o n)) → Stays o s → (n : ℕ) (t : State) → Lead o.kinds (plain o.code.code) n s t → Stays o t
stays_led o s never h zero t e = subst (Stays o) (sym e) h
stays_led o s never h (suc n) t l = stays_on o l.0 t never (stays_led o s never h n l.0 l.1) l.2

-- from a moment of the run each instruction up to the next call can be done
along_goes : (o : Origin) (t : Stand) (s : Stored) (left : ℕ) → ((n : ℕ) → IsRight (at_step o n)) → IsAlong o t s left → CanGo o.kinds (plain o.code.code) (state_in o t s)
along_goes o t s left never a n u lead =
    let here = going_is o a.steps (at_step o a.steps) (state_in o t s) left refl a.run (never a.steps) in
    stays_known o u never (stays_led o (state_in o t s) never here n u lead)

pub is_sure : (o : Origin) (v : Checked) (b : Bounds) (ws : List ℕ) (c : Cursor) (x : Beside) (s : Stored) (left : ℕ) → ((n : ℕ) → IsRight (at_step o n)) → IsAlong o (task_of v b ws c x) s left → IsSure v b s.cells s.released ws c
is_sure o v b ws c x s left never a = record {
  small = a.small;
  kinds = o.kinds;
  lent = o.lent;
  goes = subst (λ (w : Checked). CanGo o.kinds (plain w.code) (state_in o (task_of v b ws c x) s)) (sym a.code) (along_goes o (task_of v b ws c x) s left never a);
}

-- the run of a machine

right_of : (r : Run) → ((left steps : ℕ) (last : State) → r ≡ Over Unsound last left steps → ⊥) → IsRight r
right_of (Going s l n) h = tt
right_of (Over (Value ws) s l n) h = tt
right_of (Over (Trap kind line col) s l n) h = tt
right_of (Over Out s l n) h = tt
right_of (Over Deep s l n) h = tt
right_of (Over Unsound s l n) h = h l n s refl

pub safe_from : (m : Seen) (t : Stand) (s : Stored) (calls : ℕ) → seen_of t s ≡ m → calls ≢ 0 → IsMeasured t → IsSafeRun m calls → IsSafe t s (calls - 1)
safe_from m t s calls view some measured = subst (λ (q : Seen). IsSafeRun q calls → IsSafe t s (calls - 1)) view (λ (h : IsSafeRun (seen_of t s) calls).
    let o = origin_of h.kinds h.lent t s calls in
    record {
      origin = o;
      never = λ n. right_of (at_step o n) (h.never n);
      along = ready_along o t s calls some (record {
        code = refl;
        knows = h.knows;
        going = h.going;
        small = h.small;
        empty = h.empty;
        first = refl;
        calls = refl;
        most_frames = refl;
        most_words = refl;
        measured = measured;
      });
    })
