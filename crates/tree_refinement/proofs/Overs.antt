-- After its end a run shows no more states; and it is at its end after as many steps as it says.
use Rattle.std.proofs.Common.{◌≡◌, ◌∙◌, ℕ, zero, suc, ◌+◌, ◌∷◌, map, refl, sym, ap, subst, arith}
use Rattle.separation_bounds.specs.cell_code.Plain.{PlainCode}
use Rattle.tree_semantics.specs.machine_semantics.Gauges.{seen_of, states, seen}
use Rattle.tree_semantics.specs.machine_semantics.Runs.{Run, End, Going, Over, Ends, begun, comes, later, after}
use Rattle.tree_semantics.specs.machine_semantics.States.{State, Next, Went, Entered, Gave, Trapped, TooDeep, Stuck}
use Rattle.tree_semantics.specs.machine_semantics.Steps.{Kinds, next}
use Rattle.tree_semantics.proofs.machine_semantics.Stays.{over_stays}

-- ---- no more states

states_over : (kinds : Kinds) (code : PlainCode) (m : ℕ) (e : End) (s : State) (left j : ℕ) → states kinds code m (Over e s left j) ≡ states kinds code 0 (Over e s left j)
states_over kinds code zero e s left j = refl
states_over kinds code (suc m) e s left j = refl

states_enough : (kinds : Kinds) (code : PlainCode) (n m : ℕ) (r : Run) (e : End) (last : State) (left steps : ℕ) → after kinds code n r ≡ Over e last left steps → states kinds code (n + m) r ≡ states kinds code n r
states_enough kinds code zero m (Going s l j) e last left steps is = absurd cc
states_enough kinds code (suc n) m (Going s l j) e last left steps is =
    let more : suc n + m ≡ suc (n + m) = omega arith in
    ap (λ k. states kinds code k (Going s l j)) more ∙ ap (λ ss. s ∷ ss) (states_enough kinds code n m (later kinds code (Going s l j)) e last left steps is)
states_enough kinds code n m (Over d s l j) e last left steps is = states_over kinds code (n + m) d s l j ∙ sym (states_over kinds code n d s l j)

pub seen_enough : (kinds : Kinds) (code : PlainCode) (n m : ℕ) (r : Run) (e : End) (last : State) (left steps : ℕ) → after kinds code n r ≡ Over e last left steps → seen kinds code (n + m) r ≡ seen kinds code n r
seen_enough kinds code n m r e last left steps is = ap (λ ss. map seen_of ss) (states_enough kinds code n m r e last left steps is)

-- ---- as many steps

abbrev steps_of : Run → ℕ
steps_of (Going s left steps) = steps
steps_of (Over e s left steps) = steps

comes_steps : (s : State) (left n : ℕ) (x : Next) → steps_of (comes s left n x) ≡ n
comes_steps s left n (Went t) = refl
comes_steps s zero n (Entered t) = refl
comes_steps s (suc left) n (Entered t) = refl
comes_steps s left n (Gave ws) = refl
comes_steps s left n (Trapped kind line col) = refl
comes_steps s zero n TooDeep = refl
comes_steps s (suc left) n TooDeep = refl
comes_steps s left n Stuck = refl

-- The run is over after j more steps, where it says j more than now.
record IsOverAt (kinds : Kinds) (code : PlainCode) (r : Run) (e : End) (last : State) (left steps : ℕ) : Type 0 where
  pub more : ℕ
  pub counted : steps ≡ steps_of r + more
  pub is : after kinds code more r ≡ Over e last left steps

over_at : (kinds : Kinds) (code : PlainCode) (n : ℕ) (r : Run) (e : End) (last : State) (left steps : ℕ) → after kinds code n r ≡ Over e last left steps → IsOverAt kinds code r e last left steps
over_at kinds code n (Over d s l j) e last left steps is =
    let same : Over d s l j ≡ Over e last left steps = sym (over_stays kinds code n d s l j) ∙ is in
    let steps_same : j ≡ steps = ap steps_of same in
    record { more = 0; counted = omega (arith, steps_same); is = same }
over_at kinds code zero (Going s l j) e last left steps is = absurd cc
over_at kinds code (suc n) (Going s l j) e last left steps is =
    let x = over_at kinds code n (later kinds code (Going s l j)) e last left steps is in
    let one = comes_steps s l (suc j) (next kinds code s) in
    let counted = x.counted in
    record { more = suc x.more; counted = omega (arith, one, counted); is = x.is }

begun_steps : (s : State) (calls : ℕ) → steps_of (begun s calls) ≡ 0
begun_steps s zero = refl
begun_steps s (suc left) = refl

-- after so many steps it is at its end
pub at_its_end : (kinds : Kinds) (code : PlainCode) (s : State) (calls : ℕ) (e : End) (last : State) (left steps : ℕ) → Ends kinds code s calls e last left steps → after kinds code steps (begun s calls) ≡ Over e last left steps
at_its_end kinds code s calls e last left steps x =
    let o = over_at kinds code x.enough (begun s calls) e last left steps x.is in
    let none = begun_steps s calls in
    let counted = o.counted in
    let same : o.more ≡ steps = omega (arith, none, counted) in
    subst (λ n. after kinds code n (begun s calls) ≡ Over e last left steps) same o.is

-- so as much is seen of its states up to there
pub seen_at_end : (kinds : Kinds) (code : PlainCode) (s : State) (calls : ℕ) (e : End) (last : State) (left steps : ℕ) → (x : Ends kinds code s calls e last left steps) → seen kinds code steps (begun s calls) ≡ seen kinds code x.enough (begun s calls)
seen_at_end kinds code s calls e last left steps x =
    let turned : x.enough + steps ≡ steps + x.enough = omega arith in
    sym (seen_enough kinds code steps x.enough (begun s calls) e last left steps (at_its_end kinds code s calls e last left steps x))
    ∙ ap (λ n. seen kinds code n (begun s calls)) (sym turned)
    ∙ seen_enough kinds code x.enough steps (begun s calls) e last left steps x.is
