-- Held cells only fall, and in a fip run they stay.
use Rattle.std.proofs.Common.{◌≡◌, ℕ, zero, suc, ◌≤◌, Bool, true, false, List, [], ◌∷◌, length, map, Option, Some, None, slice_get, refl, sym, ap, ◌∙◌, subst, true≢false, arith, nat_eq, if◌then◌else◌}
use Rattle.std.proofs.lemmas.Option.{same_Some}
use Rattle.separation.specs.fip_language.Every.{Every}
use Rattle.separation.specs.fip_language.Store.{Cell}
use Rattle.separation.specs.machine_semantics.Cells.{Store, IsStore, IsSized, cell_in, size_in, one_if_some, one_if_true, one_held, held_in, count_held}
use Rattle.separation.specs.machine_semantics.Kept.{Keeps}
use Rattle.separation.specs.machine_semantics.States.{State, Next, Went, Entered, Gave, Trapped, TooDeep, Stuck}
use Rattle.separation.specs.machine_semantics.Steps.{Kinds, next}
use Rattle.separation.specs.machine_semantics.Runs.{Run, Going, Over, state_of, begun, comes, later, after}
use Rattle.separation.specs.cell_code.Plain.{PlainCode}
use Rattle.separation.proofs.machine_semantics.Sizes.{went_keeps, entered_keeps}
use Rattle.separation.specs.code_rules.StackNumbers.{IsFip}
use Rattle.separation.specs.Starts.{IsStart}
use Rattle.separation.proofs.Running.{run_alive}
use Rattle.separation_bounds.specs.Held.{IsHeld}
use Rattle.separation_bounds.proofs.FipRuns.{fip_releases}

-- ---- two stores with cells of the same sizes

same_there : (os ps : List (Option Cell)) (q : ℕ) → map size_in os ≡ map size_in ps → Every IsSized os → Every IsSized ps → one_if_some (cell_in os q) ≡ one_if_some (cell_in ps q)
same_there [] [] q e a b = refl
same_there [] (p ∷ ps) q e a b = cc
same_there (o ∷ os) [] q e a b = cc
same_there (o ∷ os) (p ∷ ps) zero e a b = same_one o p (head_same (size_in o) (size_in p) (map size_in os) (map size_in ps) e) a.0 b.0
  where
    head_same : (m n : ℕ) (ms ns : List ℕ) → m ∷ ms ≡ n ∷ ns → m ≡ n
    head_same m n ms ns e = cc

    same_one : (o p : Option Cell) → size_in o ≡ size_in p → IsSized o → IsSized p → one_if_some o ≡ one_if_some p
    same_one None None e a b = refl
    same_one None (Some c) e a b = let z = b.0 in absurd (let y : ⊥ = omega arith in y)
    same_one (Some c) None e a b = let z = a.0 in absurd (let y : ⊥ = omega arith in y)
    same_one (Some c) (Some d) e a b = refl
same_there (o ∷ os) (p ∷ ps) (suc q) e a b = same_there os ps q (tail_same (size_in o) (size_in p) (map size_in os) (map size_in ps) e) a.1 b.1
  where
    tail_same : (m n : ℕ) (ms ns : List ℕ) → m ∷ ms ≡ n ∷ ns → ms ≡ ns
    tail_same m n ms ns e = cc

flag_falls : (o p : Option Bool) → (o ≡ Some true → p ≡ Some true) → one_if_true p ≡ 0 → one_if_true o ≡ 0
flag_falls None p h e = refl
flag_falls (Some false) p h e = refl
flag_falls (Some true) p h e = let z : one_if_true p ≡ 1 = ap one_if_true (h refl) in absurd (let y : ⊥ = omega arith in y)

pub held_before : (s t : Store) (q : ℕ) → IsStore s → IsStore t → Keeps s t → IsHeld t q → IsHeld s q
held_before s t q a b k h = record {
  there = same_there s.cells t.cells q (sym k.sizes) a.sized b.sized ∙ h.there;
  kept = flag_falls (slice_get s.released q) (slice_get t.released q) (k.released q) h.kept;
}

one_falls : (k : ℕ) (o p : Option Cell) (r f : Bool) → size_in o ≡ size_in p → IsSized o → IsSized p → (r ≡ true → f ≡ true) → one_held k p f ≤ one_held k o r
one_falls k None None r f e a b h = omega arith
one_falls k None (Some c) r f e a b h = let z = b.0 in absurd (omega arith)
one_falls k (Some c) None r f e a b h = let z = a.0 in absurd (omega arith)
one_falls k (Some c) (Some d) true true e a b h = omega arith
one_falls k (Some c) (Some d) true false e a b h = absurd (true≢false (sym (h refl)))
one_falls k (Some c) (Some d) false true e a b h = omega arith
one_falls k (Some c) (Some d) false false e a b h = let z : one_held k (Some c) false ≡ one_held k (Some d) false = ap (λ n. if nat_eq k n then 1 else 0) e in omega arith

held_falls : (k : ℕ) (os ps : List (Option Cell)) (rs fs : List Bool) → map size_in os ≡ map size_in ps → Every IsSized os → Every IsSized ps → length rs ≡ length os → ((q : ℕ) → slice_get rs q ≡ Some true → slice_get fs q ≡ Some true) → held_in k ps fs ≤ held_in k os rs
held_falls k os [] rs fs e a b l h = omega arith
held_falls k os (p ∷ ps) rs [] e a b l h = omega arith
held_falls k [] (p ∷ ps) rs (f ∷ fs) e a b l h = absurd (let z : [] ≡ size_in p ∷ map size_in ps = e in cc)
held_falls k (o ∷ os) (p ∷ ps) [] (f ∷ fs) e a b l h = absurd (omega arith)
held_falls k (o ∷ os) (p ∷ ps) (r ∷ rs) (f ∷ fs) e a b l h =
    let x = one_falls k o p r f (first (size_in o) (size_in p) (map size_in os) (map size_in ps) e) a.0 b.0 (λ z. same_Some f true (h 0 (ap Some z))) in
    let y = held_falls k os ps rs fs (others (size_in o) (size_in p) (map size_in os) (map size_in ps) e) a.1 b.1 (omega arith) (λ q z. h (suc q) z) in
    omega arith
  where
    first : (m n : ℕ) (ms ns : List ℕ) → m ∷ ms ≡ n ∷ ns → m ≡ n
    first m n ms ns e = cc

    others : (m n : ℕ) (ms ns : List ℕ) → m ∷ ms ≡ n ∷ ns → ms ≡ ns
    others m n ms ns e = cc

pub count_falls : (k : ℕ) (s t : Store) → IsStore s → IsStore t → Keeps s t → count_held k t ≤ count_held k s
count_falls k s t a b h = held_falls k s.cells t.cells s.released t.released (sym h.sizes) a.sized b.sized a.wide h.released

-- ---- runs

pub keeps_itself : (s : Store) → Keeps s s
keeps_itself s = record { sizes = refl; released = λ q e. e }

pub keeps_both : (s t u : Store) → Keeps s t → Keeps t u → Keeps s u
keeps_both s t u a b = record { sizes = b.sizes ∙ a.sizes; released = λ q e. b.released q (a.released q e) }

comes_keeps : (s : State) (left n : ℕ) (x : Next) → ((t : State) → x ≡ Went t → Keeps s.store t.store) → ((t : State) → x ≡ Entered t → Keeps s.store t.store) → Keeps s.store (state_of (comes s left n x)).store
comes_keeps s left n (Went t) a b = a t refl
comes_keeps s zero n (Entered t) a b = keeps_itself s.store
comes_keeps s (suc left) n (Entered t) a b = b t refl
comes_keeps s left n (Gave ws) a b = keeps_itself s.store
comes_keeps s left n (Trapped kind line col) a b = keeps_itself s.store
comes_keeps s zero n TooDeep a b = keeps_itself s.store
comes_keeps s (suc left) n TooDeep a b = keeps_itself s.store
comes_keeps s left n Stuck a b = keeps_itself s.store

later_keeps : (kinds : Kinds) (code : PlainCode) (r : Run) → Keeps (state_of r).store (state_of (later kinds code r)).store
later_keeps kinds code (Going s left n) = comes_keeps s left (suc n) (next kinds code s) (went_keeps kinds code s) (entered_keeps kinds code s)
later_keeps kinds code (Over e s left n) = keeps_itself s.store

after_keeps : (kinds : Kinds) (code : PlainCode) (k : ℕ) (r : Run) → Keeps (state_of r).store (state_of (after kinds code k r)).store
after_keeps kinds code zero r = keeps_itself (state_of r).store
after_keeps kinds code (suc k) r = keeps_both (state_of r).store (state_of (later kinds code r)).store (state_of (after kinds code k (later kinds code r))).store (later_keeps kinds code r) (after_keeps kinds code k (later kinds code r))

pub after_later : (kinds : Kinds) (code : PlainCode) (k : ℕ) (r : Run) → after kinds code (suc k) r ≡ later kinds code (after kinds code k r)
after_later kinds code zero r = refl
after_later kinds code (suc k) r = after_later kinds code k (later kinds code r)

step_keeps : (kinds : Kinds) (code : PlainCode) (k : ℕ) (r : Run) → Keeps (state_of (after kinds code k r)).store (state_of (after kinds code (suc k) r)).store
step_keeps kinds code k r = subst (λ u. Keeps (state_of (after kinds code k r)).store (state_of u).store) (sym (after_later kinds code k r)) (later_keeps kinds code (after kinds code k r))

begun_state : (s : State) (calls : ℕ) → state_of (begun s calls) ≡ s
begun_state s zero = refl
begun_state s (suc left) = refl

pub run_held : (c : PlainCode) (before waits : Kinds) (n : ℕ) (kept : List ℕ) (s : State) (calls k q : ℕ) → IsStart c before waits n kept s → IsHeld (state_of (after before c (suc k) (begun s calls))).store q → IsHeld (state_of (after before c k (begun s calls))).store q
run_held c before waits n kept s calls k q t h = held_before (state_of (after before c k (begun s calls))).store (state_of (after before c (suc k) (begun s calls))).store q (run_alive c before waits n kept s calls k t).store (run_alive c before waits n kept s calls (suc k) t).store (step_keeps before c k (begun s calls)) h

pub run_count : (c : PlainCode) (before waits : Kinds) (n : ℕ) (kept : List ℕ) (s : State) (calls k size : ℕ) → IsStart c before waits n kept s → count_held size (state_of (after before c (suc k) (begun s calls))).store ≤ count_held size (state_of (after before c k (begun s calls))).store
run_count c before waits n kept s calls k size t = count_falls size (state_of (after before c k (begun s calls))).store (state_of (after before c (suc k) (begun s calls))).store (run_alive c before waits n kept s calls k t).store (run_alive c before waits n kept s calls (suc k) t).store (step_keeps before c k (begun s calls))

pub start_keeps : (kinds : Kinds) (code : PlainCode) (k : ℕ) (s : State) (calls : ℕ) → Keeps s.store (state_of (after kinds code k (begun s calls))).store
start_keeps kinds code k s calls = subst (λ (u : State). Keeps u.store (state_of (after kinds code k (begun s calls))).store) (begun_state s calls) (after_keeps kinds code k (begun s calls))

back : (s t : Store) → t.released ≡ s.released → Keeps s t → Keeps t s
back s t e k = record { sizes = sym k.sizes; released = λ q on. subst (λ rs. slice_get rs q ≡ Some true) e on }

pub fip_count : (c : PlainCode) (before waits : Kinds) (n : ℕ) (kept : List ℕ) (s : State) (calls k size : ℕ) → IsStart c before waits n kept s → IsFip c n → count_held size (state_of (after before c k (begun s calls))).store ≡ count_held size s.store
fip_count c before waits n kept s calls k size t fip =
    let u : Store = (state_of (after before c k (begun s calls))).store in
    let keeps : Keeps s.store u = start_keeps before c k s calls in
    let good : IsStore u = (run_alive c before waits n kept s calls k t).store in
    let first : IsStore s.store = subst (λ (v : State). IsStore v.store) (begun_state s calls) (run_alive c before waits n kept s calls 0 t).store in
    let down = count_falls size s.store u first good keeps in
    let up = count_falls size u s.store good first (back s.store u (fip_releases c before waits n kept s calls k t fip) keeps) in
    omega arith
