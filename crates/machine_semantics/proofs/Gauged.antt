-- What a gauge reports of the states of a run, by its first state, its last one, and each step.
use Rattle.std.proofs.Common.{◌≡◌, ℕ, zero, suc, ◌≤◌, min, max, refl, sym, ap, ◌∙◌, subst, arith, List, [], ◌∷◌, map}
use Rattle.cell_code.specs.fip_language.Gauge.{Seen, lowest, highest, highest_frames, highest_words}
use Rattle.cell_code.specs.Plain.{PlainCode}
use Rattle.machine_semantics.specs.Cells.{count_held}
use Rattle.machine_semantics.specs.States.{State, Next, Went, Entered, Gave, Trapped, TooDeep, Stuck, frames_held, words_held}
use Rattle.machine_semantics.specs.Steps.{Kinds, next}
use Rattle.machine_semantics.specs.Runs.{End, Run, Going, Over, state_of, begun, comes, later, after}
use Rattle.machine_semantics.specs.Gauges.{seen_of, states, seen}
use Rattle.machine_semantics.proofs.Stays.{over_stays}
use Rattle.machine_semantics.proofs.Falling.{went_holds_less, entered_holds_same}

-- ---- held cells: the first state has the most of each size, and the last one the least

-- the held cells of a moment
abbrev pub held : ℕ → Run → ℕ
held k r = count_held k (state_of r).store

comes_falls : (k : ℕ) (s : State) (left n : ℕ) (x : Next) → ((t : State) → x ≡ Went t → count_held k t.store ≤ count_held k s.store) → ((t : State) → x ≡ Entered t → count_held k t.store ≡ count_held k s.store) → held k (comes s left n x) ≤ count_held k s.store
comes_falls k s left n (Went t) a b = a t refl
comes_falls k s zero n (Entered t) a b = omega arith
comes_falls k s (suc left) n (Entered t) a b = let e = b t refl in omega (arith, e)
comes_falls k s left n (Gave ws) a b = omega arith
comes_falls k s left n (Trapped kind line col) a b = omega arith
comes_falls k s zero n TooDeep a b = omega arith
comes_falls k s (suc left) n TooDeep a b = omega arith
comes_falls k s left n Stuck a b = omega arith

later_falls : (kinds : Kinds) (code : PlainCode) (k : ℕ) → 1 ≤ k → (r : Run) → held k (later kinds code r) ≤ held k r
later_falls kinds code k some (Going s left n) = comes_falls k s left (suc n) (next kinds code s) (λ t e. went_holds_less kinds code k s t some e) (λ t e. entered_holds_same kinds code k s t e)
later_falls kinds code k some (Over e s left n) = omega arith

after_falls : (kinds : Kinds) (code : PlainCode) (k : ℕ) → 1 ≤ k → (n : ℕ) (r : Run) → held k (after kinds code n r) ≤ held k r
after_falls kinds code k some zero r = omega arith
after_falls kinds code k some (suc n) r =
    let first = later_falls kinds code k some r in
    let rest = after_falls kinds code k some n (later kinds code r) in
    omega (arith, first, rest)

-- the lowest of a state and those of a run, of which there is one at least
lowest_more : (kinds : Kinds) (code : PlainCode) (k n : ℕ) (x : Seen) (r : Run) → lowest k (x ∷ seen kinds code n r) ≡ min (x.held k) (lowest k (seen kinds code n r))
lowest_more kinds code k zero x (Going s left m) = refl
lowest_more kinds code k (suc n) x (Going s left m) = refl
lowest_more kinds code k zero x (Over e s left m) = refl
lowest_more kinds code k (suc n) x (Over e s left m) = refl

pub lowest_is_last : (kinds : Kinds) (code : PlainCode) (k : ℕ) → 1 ≤ k → (n : ℕ) (r : Run) → lowest k (seen kinds code n r) ≡ held k (after kinds code n r)
lowest_is_last kinds code k some zero (Going s left m) = refl
lowest_is_last kinds code k some zero (Over e s left m) = refl
lowest_is_last kinds code k some (suc n) (Going s left m) =
    let r : Run = later kinds code (Going s left m) in
    let least = lowest_is_last kinds code k some n r in
    let more = lowest_more kinds code k n (seen_of s) r in
    let first : held k r ≤ count_held k s.store = later_falls kinds code k some (Going s left m) in
    let rest = after_falls kinds code k some n r in
    omega (arith, least, more, first, rest)
lowest_is_last kinds code k some (suc n) (Over e s left m) = sym (ap (held k) (over_stays kinds code (suc n) e s left m))

pub highest_is_first : (kinds : Kinds) (code : PlainCode) (k : ℕ) → 1 ≤ k → (n : ℕ) (r : Run) → highest k (seen kinds code n r) ≡ held k r
highest_is_first kinds code k some zero (Going s left m) = omega arith
highest_is_first kinds code k some zero (Over e s left m) = omega arith
highest_is_first kinds code k some (suc n) (Going s left m) =
    let most = highest_is_first kinds code k some n (later kinds code (Going s left m)) in
    let first : held k (later kinds code (Going s left m)) ≤ count_held k s.store = later_falls kinds code k some (Going s left m) in
    omega (arith, most, first)
highest_is_first kinds code k some (suc n) (Over e s left m) = omega arith

-- ---- the stack: one more step shows one more state

never_going : (kinds : Kinds) (code : PlainCode) (n : ℕ) (e : End) (s : State) (left m : ℕ) (t : State) (l j : ℕ) → after kinds code n (Over e s left m) ≡ Going t l j → ⊥
never_going kinds code n e s left m t l j is = let z : Over e s left m ≡ Going t l j = sym (over_stays kinds code n e s left m) ∙ is in cc

pub frames_more : (kinds : Kinds) (code : PlainCode) (n : ℕ) (r : Run) (t : State) (l j : ℕ) → after kinds code n r ≡ Going t l j → highest_frames (seen kinds code (suc n) r) ≡ max (highest_frames (seen kinds code n r)) (frames_held (state_of (after kinds code (suc n) r)))
frames_more kinds code n (Over e s left m) t l j is = absurd (never_going kinds code n e s left m t l j is)
frames_more kinds code zero (Going s left m) t l j is = one (later kinds code (Going s left m))
  where
    one : (r : Run) → max (frames_held s) (highest_frames (seen kinds code zero r)) ≡ max (max (frames_held s) 0) (frames_held (state_of r))
    one (Going u left m) = omega arith
    one (Over e u left m) = omega arith
frames_more kinds code (suc n) (Going s left m) t l j is = let more = frames_more kinds code n (later kinds code (Going s left m)) t l j is in omega (arith, more)

pub words_more : (kinds : Kinds) (code : PlainCode) (n : ℕ) (r : Run) (t : State) (l j : ℕ) → after kinds code n r ≡ Going t l j → highest_words (seen kinds code (suc n) r) ≡ max (highest_words (seen kinds code n r)) (words_held (state_of (after kinds code (suc n) r)))
words_more kinds code n (Over e s left m) t l j is = absurd (never_going kinds code n e s left m t l j is)
words_more kinds code zero (Going s left m) t l j is = one (later kinds code (Going s left m))
  where
    one : (r : Run) → max (words_held s) (highest_words (seen kinds code zero r)) ≡ max (max (words_held s) 0) (words_held (state_of r))
    one (Going u left m) = omega arith
    one (Over e u left m) = omega arith
words_more kinds code (suc n) (Going s left m) t l j is = let more = words_more kinds code n (later kinds code (Going s left m)) t l j is in omega (arith, more)

-- the last state is among them
pub frames_last : (kinds : Kinds) (code : PlainCode) (n : ℕ) (r : Run) → frames_held (state_of (after kinds code n r)) ≤ highest_frames (seen kinds code n r)
frames_last kinds code zero (Going s left m) = omega arith
frames_last kinds code zero (Over e s left m) = omega arith
frames_last kinds code (suc n) (Going s left m) = let rest = frames_last kinds code n (later kinds code (Going s left m)) in omega (arith, rest)
frames_last kinds code (suc n) (Over e s left m) = let same = ap (λ r. frames_held (state_of r)) (over_stays kinds code (suc n) e s left m) in omega (arith, same)

pub words_last : (kinds : Kinds) (code : PlainCode) (n : ℕ) (r : Run) → words_held (state_of (after kinds code n r)) ≤ highest_words (seen kinds code n r)
words_last kinds code zero (Going s left m) = omega arith
words_last kinds code zero (Over e s left m) = omega arith
words_last kinds code (suc n) (Going s left m) = let rest = words_last kinds code n (later kinds code (Going s left m)) in omega (arith, rest)
words_last kinds code (suc n) (Over e s left m) = let same = ap (λ r. words_held (state_of r)) (over_stays kinds code (suc n) e s left m) in omega (arith, same)
