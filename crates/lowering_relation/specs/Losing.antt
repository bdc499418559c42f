-- It serves the proofs on lowered code: no register or variable is new, nor is what one holds; and that registers are
-- used later on too.
use Rattle.std.specs.Prelude.{◌≡◌, ◌≤◌, ℕ, List, Some, slice_get}
use Rattle.lowering_relation.specs.declared.held.Held.{Held}
use Rattle.lowering_relation.specs.declared.held.Held.TheVariants as H
use Rattle.lowering_relation.specs.Known.{Known}
use Rattle.lowering_relation.specs.Choosing.{FewerCredits}

-- each constructor that was matched was there before
abbrev pub Barer : List Held → List Held → Type 0
Barer hs ks = (r t c : ℕ) → slice_get ks r ≡ Some (H.Bare t c) → slice_get hs r ≡ Some (H.Bare t c)

pub record Loses (k l : Known) : Type 0 where
  pub names : l.names ≡ k.names
  pub next : l.next ≡ k.next
  pub credits : FewerCredits k.credits l.credits
  pub barer : Barer k.held l.held

-- the same, where more registers are used
pub record Resumes (k l : Known) : Type 0 where
  pub names : l.names ≡ k.names
  pub grows : k.next ≤ l.next
  pub credits : FewerCredits k.credits l.credits
  pub barer : Barer k.held l.held
