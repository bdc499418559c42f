-- Only what this crate keeps: changes since a time.
use Rattle.std.specs.Prelude.{◌≡◌, ◌⊎◌, ◌<◌, ◌≤◌, ◌==◌, true, length, slice_get, drop, ℕ, List, Option, Some, None}
use Rattle.std.specs.Prelude.{if◌then◌else◌}
use Rattle.code_rules.specs.Kinds.{has}
use Rattle.kind_domain.specs.declared.log.Seen.{Seen}

-- the changes since something was seen, where no new turn was begun
abbrev pub since_of : ℕ → List ℕ → Option Seen → Option (List ℕ)
since_of turn changes None = None
since_of turn changes (Some s) = if s.turn == turn then Some (drop s.changes changes) else None

-- What was seen was seen before the last turn began, or in it, before one of its changes.
abbrev pub AreSights : List (Option Seen) → ℕ → ℕ → Type 0
AreSights seen turn top =
    (l : ℕ) (s : Seen) → slice_get seen l ≡ Some (Some s) →
    (s.turn < turn) ⊎ ((s.turn ≡ turn) × (s.changes ≤ top))

pub record IsLog (items : List ℕ) (top turn : ℕ) (seen : List (Option Seen)) : Type 0 where
  pub within : top ≤ length items
  pub sights : AreSights seen turn top

-- A label map was seen to fit before, and these registers, which have changed since, are those of before and one more.
pub record HasBefore (since : List (Option (List ℕ))) (l : ℕ) (xs : List ℕ) (register : ℕ) : Type 0 where
  pub before : List ℕ
  pub is : slice_get since l ≡ Some (Some before)
  pub more : (q : ℕ) → has before q ≡ true → has xs q ≡ true
  pub new : has xs register ≡ true

-- A label map was seen to fit but for one register.
pub record HasBut (since : List (Option (List ℕ))) (label register l : ℕ) (xs : List ℕ) : Type 0 where
  pub new : has xs register ≡ true
  pub other : (label ≡ l → ⊥) → HasBefore since l xs register
