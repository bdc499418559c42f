-- What turns change: by cases on the task whose turn it is, and by induction on schedules.
use Rattle.std.proofs.Common.{◌≡◌, ◌≢◌, ℕ, zero, suc, List, [], ◌∷◌, ◌++◌, Some, None, refl, sym, ap, ◌∙◌, replicate, ◌+◌, arith}
use Rattle.std.specs.Prelude.{slice_get, slice_set, Option}
use Rattle.run_loading.specs.fip_language.Store.{count}
use Rattle.run_loading.specs.cell_code.Plain.{PlainCode}
use Rattle.run_loading.specs.machine_semantics.States.{State}
use Rattle.run_loading.specs.machine_semantics.Steps.{Kinds}
use Rattle.run_loading.specs.machine_semantics.Runs.{End, Run, Going, Over, after, later, state_of}
use Rattle.task_semantics.specs.Schedules.{Shared, turn, turned, scheduled, alone, in_store}
use Rattle.task_semantics.proofs.Scheduling.{own_store}

set_other : {A : Type 0} (xs : List A) (j k : ℕ) (x : A) → j ≢ k → slice_get (slice_set xs k x) j ≡ slice_get xs j
set_other [] j k x h = refl
set_other (y ∷ ys) zero zero x h = absurd (h refl)
set_other (y ∷ ys) zero (suc k) x h = refl
set_other (y ∷ ys) (suc j) zero x h = refl
set_other (y ∷ ys) (suc j) (suc k) x h = set_other ys j k x (λ e. h (ap suc e))

stays : (kinds : Kinds) (code : PlainCode) (t : Shared) (j k : ℕ) (o : Option Run) → j ≢ k →
    slice_get (turned kinds code t k o).runs j ≡ slice_get t.runs j
stays kinds code t j k None h = refl
stays kinds code t j k (Some r) h = set_other t.runs j k (later kinds code (in_store t.store r)) h

pub others_stay : (kinds : Kinds) (code : PlainCode) (t : Shared) (j k : ℕ) → j ≢ k →
    slice_get (turn kinds code t k).runs j ≡ slice_get t.runs j
others_stay kinds code t j k h = stays kinds code t j k (slice_get t.runs k) h

pub ended_stays :
    (kinds : Kinds) (code : PlainCode) (t : Shared) (k : ℕ) (e : End) (s : State) (left steps : ℕ) →
    slice_get t.runs k ≡ Some (Over e s left steps) → (turn kinds code t k).store ≡ t.store
ended_stays kinds code t k e s left steps h = ap (λ o. (turned kinds code t k o).store) h

pub goes_on : (kinds : Kinds) (code : PlainCode) (first more : List ℕ) (t : Shared) →
    scheduled kinds code (first ++ more) t ≡ scheduled kinds code more (scheduled kinds code first t)
goes_on kinds code [] more t = refl
goes_on kinds code (k ∷ ks) more t = goes_on kinds code ks more (turn kinds code t k)

-- ---- one task

only : Run → Shared
only r = record { store = (state_of r).store; runs = r ∷ [] }

own_turn : (kinds : Kinds) (code : PlainCode) (r : Run) → turn kinds code (only r) 0 ≡ only (later kinds code r)
unfolding only
own_turn kinds code r = ap (λ q. only (later kinds code q)) (own_store r)

own_turns : (kinds : Kinds) (code : PlainCode) (n : ℕ) (r : Run) →
    scheduled kinds code (replicate n 0) (only r) ≡ only (after kinds code n r)
own_turns kinds code zero r = refl
own_turns kinds code (suc n) r =
    ap (scheduled kinds code (replicate n 0)) (own_turn kinds code r) ∙ own_turns kinds code n (later kinds code r)

one_more : (a b : ℕ) → a ≡ b → 1 + a ≡ suc b
one_more a b h = omega arith

count_all : (n : ℕ) → count 0 (replicate n 0) ≡ n
count_all zero = refl
count_all (suc n) = one_more _ _ (count_all n)

pub one_alone : (kinds : Kinds) (code : PlainCode) (r : Run) (n : ℕ) →
    scheduled kinds code (replicate n 0) (record { store = (state_of r).store; runs = r ∷ [] })
    ≡ record {
      store = (state_of (alone kinds code 0 (replicate n 0) r)).store;
      runs = alone kinds code 0 (replicate n 0) r ∷ [];
    }
unfolding only
one_alone kinds code r n = own_turns kinds code n r ∙ ap (λ m. only (after kinds code m r)) (sym (count_all n))
