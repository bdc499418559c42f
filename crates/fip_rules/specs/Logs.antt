-- For the proofs alone: a list of variables with the last place of each, as a table and a trail.
use Rattle.std.specs.Prelude.{◌≡◌, ℕ, suc, List, [], ◌∷◌, ◌++◌, get_or, Option, Some, None, ◌==◌, nat_lt, not, Bool}
use Rattle.std.specs.Prelude.{false, if◌then◌else◌}
use Rattle.fip_rules.specs.declared.log.Step.{Step}
use Rattle.fip_rules.specs.Shapes.{or_later}

-- the last place of a number in a list that begins at place p
abbrev pub last_from : ℕ → List ℕ → ℕ → Option ℕ
last_from p [] x = None
last_from p (y ∷ ys) x = or_later (if y == x then Some p else None) (last_from (suc p) ys x)

abbrev pub last : List ℕ → ℕ → Option ℕ
last xs x = last_from 0 xs x

-- a place that is there, and not before k
abbrev pub is_from : ℕ → Option ℕ → Bool
is_from k None = false
is_from k (Some l) = not (nat_lt l k)

abbrev pub step_number : Step → ℕ
step_number s = s.number

-- the table has the last place of each number
abbrev pub IsTable : List (Option ℕ) → List ℕ → Type 0
IsTable os xs = (x : ℕ) → get_or os x None ≡ last xs x

-- each step has the place before it
abbrev pub IsTrail : List ℕ → List Step → Type 0
IsTrail xs [] = Unit {0}
IsTrail xs (s ∷ ss) = (s.before ≡ last xs s.number) × IsTrail (xs ++ s.number ∷ []) ss
