-- It serves the proof that lowered code is sound: values were computed into registers. Before, what is known is k, and
-- the registers own trees of e beside those of variables; after, X is owned, and beside also the values' trees.
use Rattle.std.specs.Prelude.{◌≡◌, ℕ, suc, ◌+◌, ◌≤◌, Bool, List, length}
use Rattle.derivation_making.specs.ownership_calculus.Terms.{Item}
use Rattle.derivation_making.specs.type_check.Scope.{Scope}
use Rattle.separation.specs.cell_code.Plain.{PlainFunction, PlainCode}
use Rattle.lowering_relation.specs.declared.held.Held.TheVariants as H
use Rattle.lowering_relation.specs.Known.{Known}
use Rattle.lowering_relation.specs.Describing.{held_at}
use Rattle.lowering_soundness.specs.Parts.{Part}
use Rattle.lowering_soundness.specs.Ties.{owners, own, AllHold, owed, Stays, Ties}
use Rattle.lowering_relation.specs.Labels.{reported}

pub record Computed (c : PlainCode) (f : PlainFunction) (fip : Bool) (s : Scope) (B : ℕ → Bool)
    (K : ℕ → Item → ℕ) (X : Item → ℕ) (e : ℕ → ℕ) (at : ℕ) (k : Known) (rs ts : List ℕ) (end : ℕ) (l : Known) :
    Type 0 where
  pub grows : at ≤ end
  pub still : at ≡ end → (r : ℕ) → reported c k r ≡ reported c l r
  pub part : Part c f at (reported c k) end (reported c l)
  pub names : l.names ≡ k.names
  pub next : k.next ≤ l.next
  pub width : length l.held ≡ length k.held
  pub ties : Ties fip c.types s B K X (λ q. owed c.types rs ts q + e q) l
  pub hold : AllHold c.types (held_at l.held) rs ts
  pub empty : (r : ℕ) → suc r ≤ k.next → held_at k.held r ≡ H.Nothing → held_at l.held r ≡ H.Nothing
  pub stays : Stays (held_at k.held) (held_at l.held) (λ q. owners k.names (own X) q + e q)
