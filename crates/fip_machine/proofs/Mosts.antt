-- The most frames and words over the states of a run.
-- The idea: an instruction that goes on in its frame, and a return, raise neither. So only where a function is entered
-- they may rise, and what is done in one turn without a call leaves them.
use Rattle.std.proofs.Common.{◌≡◌, ℕ, zero, suc, ◌≤◌, max, List, refl, sym, ap, subst, ◌∙◌, arith}
use Rattle.fip_language.specs.Gauge.{highest_frames, highest_words}
use Rattle.cell_store.specs.Made.{Stored}
use Rattle.cell_code.specs.Plain.{PlainCode, plain}
use Rattle.machine_cells.specs.machine_semantics.States.{State, Next, Went, Entered, Gave, Trapped, TooDeep, Stuck, frames_held, words_held}
use Rattle.machine_cells.specs.machine_semantics.Steps.{Kinds, next}
use Rattle.machine_cells.specs.machine_semantics.Runs.{Value, Trap, Out, Deep, Unsound, Run, Going, Over, state_of, begun, comes, later, after}
use Rattle.machine_cells.proofs.machine_semantics.Falling.{IsLower, went_is_lower}
use Rattle.machine_cells.proofs.machine_semantics.Gauged.{frames_more, words_more, frames_last, words_last}
use Rattle.machine_step.specs.declared.rows.Stepped.TheVariants as S
use Rattle.machine_step.specs.Coming.{Comes}
use Rattle.fip_machine.specs.declared.machine.Ended.{Ended}
use Rattle.fip_machine.specs.Tasks.{Stand, IsMeasured, IsRaised}
use Rattle.fip_machine.specs.Ending.{IsOver}
use Rattle.fip_machine.specs.Along.{Origin, at_step, UnlessStuck, seen_to, HasMost, IsGoing, state_in}

pub after_later : (kinds : Kinds) (code : PlainCode) (n : ℕ) (r : Run) → after kinds code (suc n) r ≡ later kinds code (after kinds code n r)
after_later kinds code zero r = refl
after_later kinds code (suc n) r = after_later kinds code n (later kinds code r)

-- what is said unless a run is stuck

pub unless : (m : Run) (P Q : Type 0) → (P → Q) → UnlessStuck m P → UnlessStuck m Q
unless (Going s l n) P Q f p = f p
unless (Over (Value ws) s l n) P Q f p = f p
unless (Over (Trap kind line col) s l n) P Q f p = f p
unless (Over Out s l n) P Q f p = f p
unless (Over Deep s l n) P Q f p = f p
unless (Over Unsound s l n) P Q f p = tt

pub always : (m : Run) (P : Type 0) → P → UnlessStuck m P
always (Going s l n) P p = p
always (Over (Value ws) s l n) P p = p
always (Over (Trap kind line col) s l n) P p = p
always (Over Out s l n) P p = p
always (Over Deep s l n) P p = p
always (Over Unsound s l n) P p = tt

-- the state of a moment

pub going_state : (m : Run) (now : State) (left : ℕ) → IsGoing m now left → UnlessStuck m (state_of m ≡ now)
going_state (Going s l n) now left h = sym h.0
going_state (Over (Value ws) s l n) now left h = absurd h
going_state (Over (Trap kind line col) s l n) now left h = absurd h
going_state (Over Out s l n) now left h = absurd h
going_state (Over Deep s l n) now left h = absurd h
going_state (Over Unsound s l n) now left h = tt

pub over_state : (m : Run) (e : Ended) (new : State) (given : List ℕ) → IsOver m e new given → UnlessStuck m (state_of m ≡ new)
over_state (Going s l n) e new given h = absurd h
over_state (Over (Value ws) s l n) e new given h = sym h.1
over_state (Over (Trap kind line col) s l n) e new given h = sym h.1
over_state (Over Out s l n) e new given h = sym h.1
over_state (Over Deep s l n) e new given h = sym h.1
over_state (Over Unsound s l n) e new given h = tt

-- a task's frames and words are those of its state
held_frames : (o : Origin) (u : Stand) (w : Stored) → IsMeasured u → frames_held (state_in o u w) ≡ u.frames
held_frames o u w m = sym m.frames

held_words : (o : Origin) (u : Stand) (w : Stored) → IsMeasured u → words_held (state_in o u w) ≡ u.words
held_words o u w m = sym m.words

pub stuck_on : (o : Origin) (k : ℕ) (s : State) (l n : ℕ) (Q : Type 0) → at_step o k ≡ Over Unsound s l n → UnlessStuck (at_step o (suc k)) Q
stuck_on o k s l n Q e = subst (λ (m : Run). UnlessStuck m Q) (sym (after_later o.kinds (plain o.code.code) k (begun o.first o.calls) ∙ ap (later o.kinds (plain o.code.code)) e)) tt

-- The next moment shows one state more.
pub most_next : (o : Origin) (k left : ℕ) (old : State) (t u : Stand) (w : Stored) → IsGoing (at_step o k) old left → UnlessStuck (at_step o k) (HasMost o k t) → IsMeasured u → IsRaised t u → UnlessStuck (at_step o (suc k)) (state_of (at_step o (suc k)) ≡ state_in o u w) → UnlessStuck (at_step o (suc k)) (HasMost o (suc k) u)
most_next o k left old t u w going most measured raised there = by (at_step o k) refl going most
  where
    by : (m : Run) → at_step o k ≡ m → IsGoing m old left → UnlessStuck m (HasMost o k t) → UnlessStuck (at_step o (suc k)) (HasMost o (suc k) u)
    by (Over (Value ws) s l n) e h most = absurd h
    by (Over (Trap kind line col) s l n) e h most = absurd h
    by (Over Out s l n) e h most = absurd h
    by (Over Deep s l n) e h most = absurd h
    by (Over Unsound s l n) e h most = stuck_on o k s l n (HasMost o (suc k) u) e
    by (Going s l n) e h most = unless (at_step o (suc k)) (state_of (at_step o (suc k)) ≡ state_in o u w) (HasMost o (suc k) u) (λ same.
        let frames = frames_more o.kinds (plain o.code.code) k (begun o.first o.calls) s l n e in
        let words = words_more o.kinds (plain o.code.code) k (begun o.first o.calls) s l n e in
        let f : frames_held (state_of (at_step o (suc k))) ≡ u.frames = ap frames_held same ∙ held_frames o u w measured in
        let g : words_held (state_of (at_step o (suc k))) ≡ u.words = ap words_held same ∙ held_words o u w measured in
        let a = raised.frames in
        let b = raised.words in
        let c = most.frames in
        let d = most.words in
        record { frames = omega (arith, frames, f, a, c); words = omega (arith, words, g, b, d) }) there

-- ---- moments at which no more is seen than before

-- the most so far are these
pub record MostAre (o : Origin) (k f w : ℕ) : Type 0 where
  pub frames : f ≡ max o.most_frames (highest_frames (seen_to o k))
  pub words : w ≡ max o.most_words (highest_words (seen_to o k))

pub lower_step : (kinds : Kinds) (code : PlainCode) (s : State) (x : Next) (new : State) (given : List ℕ) (l n : ℕ) → next kinds code s ≡ x → Comes s x S.Went new given → UnlessStuck (comes s l n x) (IsLower s (state_of (comes s l n x)))
lower_step kinds code s (Went t) new given l n e c = went_is_lower kinds code s t e
lower_step kinds code s (Entered t) new given l n e c = let z : S.Went ≡ S.Entered = c.0 in absurd cc
lower_step kinds code s (Gave vs) new given l n e c = let z : S.Went ≡ S.Value = c.0 in absurd cc
lower_step kinds code s (Trapped kind line col) new given l n e c = let z : S.Went ≡ S.Trap kind line col = c.0 in absurd cc
lower_step kinds code s TooDeep new given l n e c = let z : S.Went ≡ S.Deep = c.0 in absurd cc
lower_step kinds code s Stuck new given l n e c = tt

-- an instruction that went raises nothing
pub most_stays : (o : Origin) (k left f w : ℕ) (old new : State) (given : List ℕ) → IsGoing (at_step o k) old left → UnlessStuck (at_step o k) (MostAre o k f w) → Comes old (next o.kinds (plain o.code.code) old) S.Went new given → UnlessStuck (at_step o (suc k)) (MostAre o (suc k) f w)
most_stays o k left f w old new given going most c = by (at_step o k) refl going most
  where
    by : (m : Run) → at_step o k ≡ m → IsGoing m old left → UnlessStuck m (MostAre o k f w) → UnlessStuck (at_step o (suc k)) (MostAre o (suc k) f w)
    by (Over (Value ws) s l n) e h most = absurd h
    by (Over (Trap kind line col) s l n) e h most = absurd h
    by (Over Out s l n) e h most = absurd h
    by (Over Deep s l n) e h most = absurd h
    by (Over Unsound s l n) e h most = stuck_on o k s l n (MostAre o (suc k) f w) e
    by (Going s l n) e h most =
        let kinds = o.kinds in
        let code = plain o.code.code in
        let same : at_step o (suc k) ≡ comes s l (suc n) (next kinds code s) = after_later kinds code k (begun o.first o.calls) ∙ ap (later kinds code) e in
        let here : Comes s (next kinds code s) S.Went new given = subst (λ (u : State). Comes u (next kinds code u) S.Went new given) h.0 c in
        let lower : UnlessStuck (at_step o (suc k)) (IsLower s (state_of (at_step o (suc k)))) = subst (λ (m : Run). UnlessStuck m (IsLower s (state_of m))) (sym same) (lower_step kinds code s (next kinds code s) new given l (suc n) refl here) in
        unless (at_step o (suc k)) (IsLower s (state_of (at_step o (suc k)))) (MostAre o (suc k) f w) (λ less.
        let frames = frames_more kinds code k (begun o.first o.calls) s l n e in
        let words = words_more kinds code k (begun o.first o.calls) s l n e in
        let first : frames_held s ≤ highest_frames (seen_to o k) = subst (λ (m : Run). frames_held (state_of m) ≤ highest_frames (seen_to o k)) e (frames_last kinds code k (begun o.first o.calls)) in
        let second : words_held s ≤ highest_words (seen_to o k) = subst (λ (m : Run). words_held (state_of m) ≤ highest_words (seen_to o k)) e (words_last kinds code k (begun o.first o.calls)) in
        let fewer = less.0 in
        let shorter = less.1 in
        let a = most.frames in
        let b = most.words in
        record { frames = omega (arith, frames, first, fewer, a); words = omega (arith, words, second, shorter, b) }) lower

-- a task that is there has them
pub most_there : (o : Origin) (k : ℕ) (t u : Stand) (w : Stored) → UnlessStuck (at_step o k) (MostAre o k t.most_frames t.most_words) → IsMeasured u → IsRaised t u → UnlessStuck (at_step o k) (state_of (at_step o k) ≡ state_in o u w) → UnlessStuck (at_step o k) (HasMost o k u)
most_there o k t u w most measured raised there = both (at_step o k) (MostAre o k t.most_frames t.most_words) (state_of (at_step o k) ≡ state_in o u w) (HasMost o k u) (λ m same.
    let first = frames_last o.kinds (plain o.code.code) k (begun o.first o.calls) in
    let second = words_last o.kinds (plain o.code.code) k (begun o.first o.calls) in
    let f : frames_held (state_of (at_step o k)) ≡ u.frames = ap frames_held same ∙ held_frames o u w measured in
    let g : words_held (state_of (at_step o k)) ≡ u.words = ap words_held same ∙ held_words o u w measured in
    let a = raised.frames in
    let b = raised.words in
    let c = m.frames in
    let d = m.words in
    record { frames = omega (arith, first, f, a, c); words = omega (arith, second, g, b, d) }) most there
  where
    both : (m : Run) (P Q R : Type 0) → (P → Q → R) → UnlessStuck m P → UnlessStuck m Q → UnlessStuck m R
    both (Going s l n) P Q R f p q = f p q
    both (Over (Value ws) s l n) P Q R f p q = f p q
    both (Over (Trap kind line col) s l n) P Q R f p q = f p q
    both (Over Out s l n) P Q R f p q = f p q
    both (Over Deep s l n) P Q R f p q = f p q
    both (Over Unsound s l n) P Q R f p q = tt

pub most_of : (o : Origin) (k : ℕ) (t : Stand) → UnlessStuck (at_step o k) (HasMost o k t) → UnlessStuck (at_step o k) (MostAre o k t.most_frames t.most_words)
most_of o k t h = unless (at_step o k) (HasMost o k t) (MostAre o k t.most_frames t.most_words) (λ m. record { frames = m.frames; words = m.words }) h
