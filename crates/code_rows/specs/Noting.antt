-- For the rows, and for what is proved of verify over them: violations that were noted, one after another, and the
-- least of them.
use Rattle.std.specs.Prelude.{◌≡◌, ◌⊎◌, ℕ, Bool, true, false, List, [], ◌∷◌, Option, Some, None, if◌then◌else◌}
use Rattle.std.specs.Prelude.{◌==◌, nat_lt}
use Rattle.code_rules.specs.declared.rule.SoundRule.{SoundRule}
use Rattle.code_rules.specs.Breaks.{digit, IsBefore}
use Rattle.code_rows.specs.declared.least.Violation.{Violation}

-- function n breaks a rule at instruction i
abbrev pub broken : ℕ → ℕ → SoundRule → Violation
broken n i rule = record { function = n; at = i; rule = rule }

-- the first comes before the second, and isn't it
abbrev pub precedes : Violation → Violation → Bool
precedes v w =
    if v.function == w.function then
    (if v.at == w.at then nat_lt (digit v.rule) (digit w.rule) else nat_lt v.at w.at)
    else nat_lt v.function w.function

-- the least so far, and one more
abbrev pub better : Option Violation → Violation → Option Violation
better None v = Some v
better (Some w) v = if precedes v w then Some v else Some w

abbrev pub better_if : Option Violation → Option Violation → Option Violation
better_if o None = o
better_if o (Some v) = better o v

-- nothing that would be noted for this comes before what was noted
abbrev pub is_before : Option Violation → Violation → Bool
is_before None v = false
is_before (Some w) v = if precedes v w then false else true

pub record IsLeastOf (P : ℕ → ℕ → SoundRule → Type 0) (v : Violation) : Type 0 where
  pub broken : P v.function v.at v.rule
  pub least : (m j : ℕ) (other : SoundRule) → P m j other → IsBefore v.function v.at v.rule m j other

-- what was noted of these: none where there is none, else the least
abbrev pub Answers : (ℕ → ℕ → SoundRule → Type 0) → Option Violation → Type 0
Answers P None = (n i : ℕ) (rule : SoundRule) → P n i rule → ⊥
Answers P (Some v) = IsLeastOf P v

-- a rule of an instruction was checked, and noted unless it is kept
abbrev pub noted_unless : ℕ → ℕ → Bool → SoundRule → Option Violation → Option Violation
noted_unless n i true rule o = o
noted_unless n i false rule o = better o (broken n i rule)

-- rules of an instruction were checked, one after another
abbrev pub noted_all : ℕ → ℕ → Option Violation → List (Bool × SoundRule) → Option Violation
noted_all n i o [] = o
noted_all n i o (k ∷ ks) = noted_all n i (noted_unless n i k.0 k.1 o) ks

-- A rule that was checked isn't kept.
abbrev pub InKept : SoundRule → List (Bool × SoundRule) → Type 0
InKept r [] = ⊥
InKept r (k ∷ ks) = ((k.0 ≡ false) × (r ≡ k.1)) ⊎ InKept r ks
