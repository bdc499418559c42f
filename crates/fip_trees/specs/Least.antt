-- The least of the violations that a walk notes. They are ordered by place, then rule, then instance, then size, then
-- detail.
use Rattle.std.specs.Prelude.{◌≡◌, ◌⊎◌, ℕ, Bool, true, false, List, [], ◌∷◌, Option, Some, None}
use Rattle.std.specs.Prelude.{◌==◌, nat_lt, if◌then◌else◌}
use Rattle.fip_base.specs.fip_language.declared.Place.{Place}
use Rattle.fip_base.specs.fip_language.declared.rule.Rule.{Rule}
use Rattle.fip_base.specs.fip_language.RuleNumber.{number}
use Rattle.fip_base.specs.declared.refusal.Refusal.{Refusal}
use Rattle.fip_trees.specs.declared.least.Violation.{Violation}

abbrev pub violation : Rule → Place → ℕ → ℕ → List ℕ → Violation
violation r p i k n = record { rule = r; place = p; instance = i; size = k; detail = n }

-- lexicographically smaller
abbrev pub smaller : List ℕ → List ℕ → Bool
smaller [] [] = false
smaller [] (y ∷ ys) = true
smaller (x ∷ xs) [] = false
smaller (x ∷ xs) (y ∷ ys) = if x == y then smaller xs ys else nat_lt x y

-- by what violations are ordered
abbrev pub rank : Violation → List ℕ
rank v = v.place.at ∷ number v.rule ∷ v.instance ∷ v.size ∷ v.detail

abbrev pub comes_before : Violation → Violation → Bool
comes_before v w = smaller (rank v) (rank w)

-- the least so far and one more
abbrev pub better : Option Violation → Violation → Option Violation
better None v = Some v
better (Some w) v = if comes_before v w then Some v else Some w

-- the least so far and a list more
abbrev pub after : Option Violation → List Violation → Option Violation
after o [] = o
after o (v ∷ vs) = after (better o v) vs

abbrev pub In : Violation → List Violation → Type 0
In v [] = ⊥
In v (w ∷ ws) = (v ≡ w) ⊎ In v ws

-- a violation of the list, and none of the list comes before it
pub record IsLeast (vs : List Violation) (v : Violation) : Type 0 where
  pub violated : In v vs
  pub least : (w : Violation) → In w vs → comes_before w v ≡ false

-- the same of what a relation says
pub record IsLeastOf (Violates : Violation → Type 0) (v : Violation) : Type 0 where
  pub violated : Violates v
  pub least : (w : Violation) → Violates w → comes_before w v ≡ false

-- the refusal that names a violation
abbrev pub refusal : Violation → Refusal
refusal v = record { rule = v.rule; place = Some v.place; size = v.size; detail = v.detail }
