-- After every schedule a loaded task can go on: its run is that of the task alone, which is never stuck and whose Drops
-- the verifier knows. That no instruction is one that can't be done is reported by one turn more.
use Rattle.std.proofs.Common.{◌≡◌, ℕ, suc, List, [], ◌∷◌, ◌++◌, Option, Some, None, refl, sym, ap, subst, ◌∙◌, length, replicate, length-set}
use Rattle.std.specs.Prelude.{slice_get}
use Rattle.fip_tasks.specs.fip_language.Store.{count}
use Rattle.fip_tasks.specs.cell_code.Plain.{PlainCode, plain}
use Rattle.machine_correctness.specs.machine_semantics.Cells.{Store}
use Rattle.machine_correctness.specs.machine_semantics.States.{State, Stuck}
use Rattle.machine_correctness.specs.machine_semantics.Steps.{Kinds, next}
use Rattle.machine_correctness.specs.machine_semantics.Runs.{End, Value, Trap, Out, Deep, Unsound, Run, Going, Over, begun, comes, later, after}
use Rattle.fip_tasks.specs.code_verify.Checked.{Checked}
use Rattle.fip_tasks.specs.machine_step.Coming.{KnowsAt}
use Rattle.fip_tasks.specs.task_semantics.Schedules.{Shared, turn, turned, settled, scheduled, alone, in_store}
use Rattle.fip_tasks.specs.task_semantics.Projected.{Renaming, Begun, BeginTogether, AreLoaded, IsSameEnd, IsSameRun}
use Rattle.fip_tasks.proofs.task_semantics.Scheduling.{each_is_alone}
use Rattle.fip_tasks.proofs.task_semantics.Turns.{goes_on}
use Rattle.machine_correctness.proofs.Drops.{known}
use Rattle.fip_tasks.specs.Shown.{CanGo, CanTurn, CanFinish}
use Rattle.fip_tasks.proofs.Lists.{at_same, there}

-- as many runs as before
turned_number : (kinds : Kinds) (code : PlainCode) (t : Shared) (k : ℕ) (o : Option Run) → length (turned kinds code t k o).runs ≡ length t.runs
turned_number kinds code t k None = refl
turned_number kinds code t k (Some r) = length-set t.runs k (later kinds code (in_store t.store r))

pub number : (kinds : Kinds) (code : PlainCode) (schedule : List ℕ) (t : Shared) → length (scheduled kinds code schedule t).runs ≡ length t.runs
number kinds code [] t = refl
number kinds code (k ∷ ks) t = number kinds code ks (turn kinds code t k) ∙ turned_number kinds code t k (slice_get t.runs k)

-- each task is where it would be alone, by the code that the machine runs
abbrev EachIs : Checked → Kinds → Kinds → List Begun → Shared → PlainCode → Type 0
EachIs v before waits tasks first q = (schedule : List ℕ) (k : ℕ) (t : Begun) (r : Run) → slice_get tasks k ≡ Some t → slice_get (scheduled before q schedule first).runs k ≡ Some r → IsSameRun before waits q t.function t.places (alone before q k schedule (begun t.state t.calls)) (in_store (scheduled before q schedule first).store r)

each : (v : Checked) (before waits : Kinds) (tasks : List Begun) (first : Shared) → AreLoaded before waits (plain v.code) tasks → BeginTogether before waits (plain v.code) tasks first → EachIs v before waits tasks first (plain v.code)
each v before waits tasks first loaded together = each_is_alone before waits (plain v.code) tasks first loaded together

-- no task alone reaches an instruction that can't be done
no_end : (code : PlainCode) (n : ℕ) (f : Renaming) (own shared : Store) (e : End) → IsSameEnd code n f own shared e Unsound → ⊥
no_end code n f own shared (Value ws) h = h
no_end code n f own shared (Trap kind line col) h = h
no_end code n f own shared Out h = h
no_end code n f own shared Deep h = h
no_end code n f own shared Unsound h = h

never : (before waits : Kinds) (code : PlainCode) (n : ℕ) (f : Renaming) (a : Run) (u : State) (left steps : ℕ) → IsSameRun before waits code n f a (Over Unsound u left steps) → ⊥
never before waits code n f (Going s l m) u left steps h = h
never before waits code n f (Over e s l m) u left steps h = no_end code n f s.store u.store e h.0

-- the run after one turn more, whose instruction can't be done
stuck_next : (kinds : Kinds) (code : PlainCode) (t : Shared) (k : ℕ) (u : State) (left steps : ℕ) → slice_get t.runs k ≡ Some (Going u left steps) → next kinds code (record u { store = t.store }) ≡ Stuck → slice_get (turn kinds code t k).runs k ≡ Some (Over Unsound (record u { store = t.store }) left (suc steps))
stuck_next kinds code t k u left steps at x =
    let here : State = record u { store = t.store } in
    let q : Run = later kinds code (Going here left steps) in
    let is : q ≡ Over Unsound here left (suc steps) = ap (comes here left (suc steps)) x in
    let turns : turn kinds code t k ≡ settled t k q = ap (turned kinds code t k) at in
    ap (λ (w : Shared). slice_get w.runs k) turns ∙ at_same t.runs k (Going u left steps) q at ∙ ap (λ (m : Run). Some m) is

pub can_turn : (v : Checked) (before waits : Kinds) (tasks : List Begun) (first : Shared) (schedule : List ℕ) (k : ℕ) → AreLoaded before waits (plain v.code) tasks → BeginTogether before waits (plain v.code) tasks first → CanTurn v before (scheduled before (plain v.code) schedule first) k
can_turn v before waits tasks first schedule k loaded together r at =
    let code = plain v.code in
    let now : Shared = scheduled before code schedule first in
    let task = there now.runs tasks k r (number before code schedule first ∙ together.number) at in
    let t = task.0 in
    by t task.1 r at (alone before code k schedule (begun t.state t.calls)) refl (each v before waits tasks first loaded together schedule k t r task.1 at)
  where
    by : (t : Begun) → slice_get tasks k ≡ Some t → (r : Run) → slice_get (scheduled before (plain v.code) schedule first).runs k ≡ Some r → (m : Run) → after before (plain v.code) (count k schedule) (begun t.state t.calls) ≡ m → IsSameRun before waits (plain v.code) t.function t.places m (in_store (scheduled before (plain v.code) schedule first).store r) → CanGo v before (in_store (scheduled before (plain v.code) schedule first).store r)
    by t on (Going u left steps) at (Going s l n) e h =
        let now : Shared = scheduled before (plain v.code) schedule first in
        let alone_knows : KnowsAt v before s.running.function s.running.at = known v before waits t.function [] t.state t.calls (loaded k t on) (count k schedule) l n s e in
        let running = h.0.running in
        let knows : KnowsAt v before u.running.function u.running.at = subst (λ i. KnowsAt v before u.running.function i) (sym running.at) (subst (λ f. KnowsAt v before f s.running.at) (sym running.function) alone_knows) in
        let never_stuck : next before (plain v.code) (record u { store = now.store }) ≡ Stuck → ⊥ = λ x.
        let more : Shared = scheduled before (plain v.code) (schedule ++ k ∷ []) first in
        let goes : more ≡ turn before (plain v.code) now k = goes_on before (plain v.code) schedule (k ∷ []) first in
        let stuck : Run = Over Unsound (record u { store = now.store }) left (suc steps) in
        let there_stuck : slice_get more.runs k ≡ Some stuck = ap (λ (w : Shared). slice_get w.runs k) goes ∙ stuck_next before (plain v.code) now k u left steps at x in
        never before waits (plain v.code) t.function t.places (alone before (plain v.code) k (schedule ++ k ∷ []) (begun t.state t.calls)) (record u { store = more.store }) left (suc steps) (each v before waits tasks first loaded together (schedule ++ k ∷ []) k t stuck on there_stuck) in
        (knows, never_stuck)
    by t on (Going u left steps) at (Over f s l n) e h = absurd h
    by t on (Over f u left steps) at m e h = tt

pub can_finish : (v : Checked) (before waits : Kinds) (tasks : List Begun) (first : Shared) (schedule : List ℕ) (k : ℕ) → AreLoaded before waits (plain v.code) tasks → BeginTogether before waits (plain v.code) tasks first → CanFinish v before (scheduled before (plain v.code) schedule first) k
can_finish v before waits tasks first schedule k loaded together n =
    subst (λ (w : Shared). CanTurn v before w k) (goes_on before (plain v.code) schedule (replicate n k) first) (can_turn v before waits tasks first (schedule ++ replicate n k) k loaded together)
