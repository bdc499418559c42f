-- Replay of a run's events up to a step gives the store of the state after that step.
-- The idea: the events of a step are its instruction's changes, and all later events have later steps.
use Rattle.std.proofs.Common.{◌≡◌, ℕ, zero, suc, ◌+◌, ◌≤◌, refl, sym, ap, ◌∙◌, List, [], ◌∷◌, ◌++◌, Option, Some, None, nat_le, Bool, true, false, arith, is_some, true≢false}
use Rattle.std.proofs.lemmas.Bool.Decides.{nat_tests}
use Rattle.std.specs.Prelude.{option_and_then, unwrap_or}
use Rattle.cell_code.specs.Plain.{PlainCode}
use Rattle.machine_semantics.specs.Cells.{Store, Change, changed, changed_by}
use Rattle.machine_semantics.specs.States.{State, Next, Went, Entered, Gave, Trapped, TooDeep, Stuck}
use Rattle.machine_semantics.specs.Steps.{Kinds, next, changes_of}
use Rattle.machine_semantics.specs.Runs.{End, Run, Going, Over, state_of, begun, comes, later, after}
use Rattle.machine_semantics.specs.Traces.{Event, events_of, done_changes, events, changed_or, applied_if, replay}
use Rattle.machine_semantics.proofs.Stays.{over_stays}
use Rattle.machine_semantics.proofs.Followed.{Followed, followed}

replay_append : (s : Store) (es fs : List Event) (i : ℕ) → replay s (es ++ fs) i ≡ replay (replay s es i) fs i
replay_append s [] fs i = refl
replay_append s (e ∷ es) fs i = replay_append (applied_if (nat_le e.step i) e s) es fs i

-- events of a later step change nothing
replay_later : (s : Store) (n : ℕ) (cs : List Change) (i : ℕ) → nat_le n i ≡ false → replay s (events_of n cs) i ≡ s
replay_later s n [] i off = refl
replay_later s n (c ∷ cs) i off = ap (λ b. replay (applied_if b (record { step = n; change = c }) s) (events_of n cs) i) off ∙ replay_later s n cs i off

pub some_same : (s t : Store) → Some s ≡ Some t → s ≡ t
some_same s t is = ap (λ o. unwrap_or o s) is

pub none_some : (t : Store) → ◌≡◌ {A = Option Store} None (Some t) → ⊥
none_some t is = true≢false (sym (ap (λ (o : Option Store). is_some o) is))

-- the first change gave o
replay_first : (n : ℕ) (cs : List Change) (i : ℕ) → ((s t : Store) → changed_by cs s ≡ Some t → replay s (events_of n cs) i ≡ t) → (s t : Store) (o : Option Store) → option_and_then (λ u. changed_by cs u) o ≡ Some t → replay (changed_or s o) (events_of n cs) i ≡ t
replay_first n cs i others s t None is = absurd (none_some t is)
replay_first n cs i others s t (Some u) is = others u t is

-- events of a step that was done are applied
replay_done : (s t : Store) (n : ℕ) (cs : List Change) (i : ℕ) → nat_le n i ≡ true → changed_by cs s ≡ Some t → replay s (events_of n cs) i ≡ t
replay_done s t n [] i on is = some_same s t is
replay_done s t n (c ∷ cs) i on is = ap (λ b. replay (applied_if b (record { step = n; change = c }) s) (events_of n cs) i) on ∙ replay_first n cs i (λ u v. replay_done u v n cs i on) s t (changed c s) is

-- a run whose next step is after step j
abbrev pub IsAfter : ℕ → Run → Type 0
IsAfter j (Going s left k) = j ≤ k
IsAfter j (Over e s left k) = Unit {0}

comes_after : (j k : ℕ) → j ≤ k → (s : State) (left : ℕ) (n : Next) → IsAfter j (comes s left k n)
comes_after j k le s left (Went t) = le
comes_after j k le s zero (Entered t) = tt
comes_after j k le s (suc left) (Entered t) = le
comes_after j k le s left (Gave ws) = tt
comes_after j k le s left (Trapped kind line col) = tt
comes_after j k le s zero TooDeep = tt
comes_after j k le s (suc left) TooDeep = tt
comes_after j k le s left Stuck = tt

is_later : (j k : ℕ) → j ≤ k → nat_le (suc k) j ≡ false
is_later j k le = grind (arith, nat_tests)

is_earlier : (j k i : ℕ) → j ≡ k + suc i → nat_le (suc k) j ≡ true
is_earlier j k i is = grind (arith, nat_tests)

unreplayed : (kinds : Kinds) (code : PlainCode) (n : ℕ) (r : Run) (u : Store) (j : ℕ) → IsAfter j r → replay u (events kinds code n r) j ≡ u
unreplayed kinds code zero r u j le = refl
unreplayed kinds code (suc n) (Going s left k) u j le =
    replay_append u (events_of (suc k) (done_changes (changes_of kinds code s) (next kinds code s))) (events kinds code n (later kinds code (Going s left k))) j
    ∙ ap (λ v. replay v (events kinds code n (later kinds code (Going s left k))) j) (replay_later u (suc k) (done_changes (changes_of kinds code s) (next kinds code s)) j (is_later j k le))
    ∙ unreplayed kinds code n (later kinds code (Going s left k)) u j (comes_after j (suc k) (omega arith) s left (next kinds code s))
unreplayed kinds code (suc n) (Over e s left k) u j le = refl

over_replayed : (kinds : Kinds) (code : PlainCode) (n i j : ℕ) (e : End) (s : State) (left k : ℕ) → replay s.store (events kinds code n (Over e s left k)) j ≡ (state_of (after kinds code i (Over e s left k))).store
over_replayed kinds code n i j e s left k = unreplayed kinds code n (Over e s left k) s.store j tt ∙ sym (ap (λ r. (state_of r).store) (over_stays kinds code i e s left k))

-- a step of which the next is x
onward : (kinds : Kinds) (code : PlainCode) (n i j k : ℕ) (cs : List Change) (s : State) (left : ℕ) (x : Next) → nat_le (suc k) j ≡ true → Followed cs s x → ((t : State) (rest : ℕ) → replay t.store (events kinds code n (Going t rest (suc k))) j ≡ (state_of (after kinds code i (Going t rest (suc k)))).store) → replay (replay s.store (events_of (suc k) (done_changes cs x)) j) (events kinds code n (comes s left (suc k) x)) j ≡ (state_of (after kinds code i (comes s left (suc k) x))).store
onward kinds code n i j k cs s left (Went t) on is others = ap (λ v. replay v (events kinds code n (Going t left (suc k))) j) (replay_done s.store t.store (suc k) cs j on is) ∙ others t left
onward kinds code n i j k cs s zero (Entered t) on is others = over_replayed kinds code n i j _ s 0 (suc k)
onward kinds code n i j k cs s (suc left) (Entered t) on is others = ap (λ v. replay v (events kinds code n (Going t left (suc k))) j) (sym is) ∙ others t left
onward kinds code n i j k cs s left (Gave ws) on is others = over_replayed kinds code n i j _ s left (suc k)
onward kinds code n i j k cs s left (Trapped kind line col) on is others = over_replayed kinds code n i j _ s left (suc k)
onward kinds code n i j k cs s zero TooDeep on is others = over_replayed kinds code n i j _ s 0 (suc k)
onward kinds code n i j k cs s (suc left) TooDeep on is others = over_replayed kinds code n i j _ s left (suc k)
onward kinds code n i j k cs s left Stuck on is others = over_replayed kinds code n i j _ s left (suc k)

replayed : (kinds : Kinds) (code : PlainCode) (n i : ℕ) → i ≤ n → (s : State) (left k j : ℕ) → j ≡ k + i → replay s.store (events kinds code n (Going s left k)) j ≡ (state_of (after kinds code i (Going s left k))).store
replayed kinds code n zero le s left k j is = unreplayed kinds code n (Going s left k) s.store j (omega arith)
replayed kinds code zero (suc i) le s left k j is = absurd (omega arith)
replayed kinds code (suc n) (suc i) le s left k j is =
    replay_append s.store (events_of (suc k) (done_changes (changes_of kinds code s) (next kinds code s))) (events kinds code n (later kinds code (Going s left k))) j
    ∙ onward kinds code n i j k (changes_of kinds code s) s left (next kinds code s) (is_earlier j k i is) (followed kinds code s) (λ t rest. replayed kinds code n i (omega arith) t rest (suc k) j (omega arith))

pub replay_is : (kinds : Kinds) (code : PlainCode) (s : State) (calls n i : ℕ) → i ≤ n → replay s.store (events kinds code n (begun s calls)) i ≡ (state_of (after kinds code i (begun s calls))).store
replay_is kinds code s zero n i le = over_replayed kinds code n i i _ s 0 0
replay_is kinds code s (suc left) n i le = replayed kinds code n i le s left 0 i (omega arith)
