-- It serves the proofs on lowered code: what holds of what is known at every place. A register that stands for a value
-- isn't written any more, since only new registers and those of credits are written.
use Rattle.std.specs.Prelude.{◌≡◌, ◌<◌, ℕ, List, [], ◌∷◌, Some, slice_get}
use Rattle.lowering_relation.specs.declared.held.Held.TheVariants as H
use Rattle.lowering_relation.specs.declared.held.Credit.{Credit}
use Rattle.lowering_relation.specs.Known.{Known, register_of}

-- register r is no credit's
abbrev pub NotIn : ℕ → List Credit → Type 0
NotIn r [] = Unit {0}
NotIn r (c ∷ cs) = (r ≡ c.register → ⊥) × NotIn r cs

abbrev pub Once : List Credit → Type 0
Once [] = Unit {0}
Once (c ∷ cs) = NotIn c.register cs × Once cs

abbrev pub Below : ℕ → List Credit → Type 0
Below n [] = Unit {0}
Below n (c ∷ cs) = (c.register < n) × Below n cs

-- a register that is used already, and isn't a credit's: it isn't written any more
pub record Fixed (k : Known) (r : ℕ) : Type 0 where
  pub used : r < k.next
  pub kept : NotIn r k.credits

pub record Tidy (k : Known) : Type 0 where
  pub named : (x r : ℕ) → register_of k.names (Some x) ≡ Some r → Fixed k r
  pub bare : (r t c : ℕ) → slice_get k.held r ≡ Some (H.Bare t c) → Fixed k r
  pub once : Once k.credits
  pub below : Below k.next k.credits

-- a register that is fixed, but is no variable's and holds no constructor that was matched
pub record Unknown (k : Known) (d : ℕ) : Type 0 where
  pub fixed : Fixed k d
  pub unnamed : (x r : ℕ) → register_of k.names (Some x) ≡ Some r → r ≡ d → ⊥
  pub no_bare : (r t c : ℕ) → slice_get k.held r ≡ Some (H.Bare t c) → r ≡ d → ⊥
