-- What `need` of `finger` gives.
use Rattle.std.proofs.Common.{ℕ, zero, suc, ◌+◌, ◌≤◌, ◌<◌, ◌^◌, pos, arith, lt-ltb, refl}
use Rattle.fip_language.specs.Values.{Int}
use Rattle.instance_semantics.specs.Meaning.{calls_of, flat_meaning}
use Rattle.library_programs.specs.FingerProgram.{finger_program}
use Rattle.library_correctness.specs.Sequences.{One, Two, Three, Sequence, Empty, Single, Deep, sequence_value, spine, GivesNeed}
use Rattle.evaluation_steps.specs.Gives.{GivesLeaving, one, two, nodes}
use Rattle.library_correctness.specs.Bounds.{Suffice}
use Rattle.evaluation_steps.proofs.Steps.{summed}

abbrev full : Sequence → ℕ → ℕ
full Empty n = n
full (Single a x y) n = n
full (Deep (One a x y) q b) n = n
full (Deep (Two a c x) q b) n = n
full (Deep (Three a c e) q b) n = full q (n + 1)

full_few : (s : Sequence) (n : ℕ) → full s n ≤ spine s + n
full_few Empty n = omega arith
full_few (Single a x y) n = omega arith
full_few (Deep (One a x y) q b) n = omega arith
full_few (Deep (Two a c x) q b) n = omega arith
full_few (Deep (Three a c e) q b) n = omega (arith, full_few q (n + 1))

full_runs : (s : Sequence) (n m d k r : ℕ) → spine s + n < 2 ^ 63 → spine s + r ≤ k → k < m → GivesLeaving r (one (Int (pos (full s n)))) (calls_of finger_program m d 1 (two (sequence_value s) (Int (pos n))) k).answer
full_runs s n zero d k r small le lt = absurd (omega arith)
full_runs Empty n (suc m) d k r small le lt = record { left = k; enough = omega arith; is = refl }
full_runs (Single a x y) n (suc m) d k r small le lt = record { left = k; enough = omega arith; is = refl }
full_runs (Deep (One a x y) q b) n (suc m) d k r small le lt = record { left = k; enough = omega arith; is = refl }
full_runs (Deep (Two a c x) q b) n (suc m) d k r small le lt = record { left = k; enough = omega arith; is = refl }
full_runs (Deep (Three a c e) q b) n (suc m) d zero r small le lt = absurd (omega arith)
full_runs (Deep (Three a c e) q b) n (suc m) d (suc k) r small le lt =
    summed (pos (n + 1)) _ _ _ (lt-ltb (n + 1) (2 ^ 63) (omega arith)) (full_runs q (n + 1) m d k r (omega arith) (omega arith) (omega arith))

spine_nodes : (s : Sequence) → spine s ≤ nodes (sequence_value s)
spine_nodes Empty = omega arith
spine_nodes (Single a x y) = omega arith
spine_nodes (Deep f q b) = omega (arith, spine_nodes q)

pub need_gives : (s : Sequence) (n d : ℕ) → nodes (sequence_value s) < 2 ^ 60 → Suffice (one (sequence_value s)) n d → GivesNeed s (flat_meaning finger_program 0 (one (sequence_value s)) n d).answer
unfolding flat_meaning
need_gives s zero d few a = absurd (omega (arith, a.enough_calls))
need_gives s (suc zero) d few a = absurd (omega (arith, a.enough_calls))
need_gives s (suc (suc n)) d few a =
    record { number = full s 3; few = full_few s 3; gives = full_runs s 3 (suc n) d n 0 (omega (arith, spine_nodes s)) (omega (arith, a.enough_calls, spine_nodes s)) (omega arith) }
