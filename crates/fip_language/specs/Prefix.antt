-- Where a text goes wrong: the least number t such that nothing is spelled by a text that begins with the first
-- t + 1 items, the end being an item. The items are tokens, characters or bytes. And a machine that takes one item
-- after another, which is how such a place is found.
use Rattle.std.specs.Prelude.{◌≡◌, ℕ, suc, ◌+◌, ◌<◌, ◌≤◌, List, [], ◌∷◌, ◌++◌, take, length, Option, Some, None}

-- something's text begins so
abbrev pub Begins : {T V : Type 0} → (List T → V → Type 0) → List T → Type 0
Begins {T = T} {V = V} Spells front = (more : List T) × (x : V) × Spells (front ++ more) x

pub record IsPlace {T V : Type 0} (Spells : List T → V → Type 0) (ts : List T) (t : ℕ) : Type 0 where
  pub within : t ≤ length ts
  pub before : Begins Spells (take t ts)
  pub there : t < length ts → Begins Spells (take (suc t) ts) → ⊥
  pub at_end : t ≡ length ts → (x : V) → Spells ts x → ⊥

-- what a machine says of a text: it is that of x, or goes wrong at a place
pub data Outcome (V : Type 0) : Type 0 where
  Accepted : (x : V) → Outcome V
  Stopped : (at : ℕ) → Outcome V

abbrev pub end_outcome : {V : Type 0} → Option V → ℕ → Outcome V
end_outcome None at = Stopped at
end_outcome (Some x) at = Accepted x

abbrev pub or_stop : {S V : Type 0} → Option S → ℕ → (S → Outcome V) → Outcome V
or_stop None at go = Stopped at
or_stop (Some s) at go = go s

-- the items one after another, from this place on
abbrev pub run : {S T V : Type 0} → (S → T → Option S) → (S → Option V) → S → List T → ℕ → Outcome V
run step final s [] at = end_outcome (final s) at
run step final s (t ∷ ts) at = or_stop (step s t) at (λ s. run step final s ts (at + 1))
