-- It serves the proof that lowered code is sound: registers that wait for results, and results that came into them.
use Rattle.std.specs.Prelude.{◌≡◌, ℕ, suc, ◌+◌, ◌≤◌, Bool, List, [], ◌∷◌, Some, length, take}
use Rattle.separation.specs.fip_language.Every.{Among}
use Rattle.derivation_making.specs.ownership_calculus.Terms.{Item, Own, Credit}
use Rattle.derivation_making.specs.type_check.Scope.{Scope, of_binder}
use Rattle.separation.specs.cell_code.Plain.{PlainFunction, PlainCode}
use Rattle.lowering_relation.specs.declared.held.Held.TheVariants as H
use Rattle.lowering_relation.specs.Known.{Known, register_of}
use Rattle.lowering_relation.specs.Describing.{held_at}
use Rattle.lowering_soundness.specs.Parts.{Part}
use Rattle.lowering_soundness.specs.Ties.{owners, own, AllHold, owed, Stays, Ties}
use Rattle.lowering_relation.specs.Labels.{reported}
use Rattle.lowering_relation.specs.Matches.{wide_at}
use Rattle.lowering_relation.specs.Credits.{of_size, LastGone}

-- these registers are used already, hold nothing and are different ones
abbrev pub Waiting : Known → List ℕ → Type 0
Waiting k [] = Unit {0}
Waiting k (d ∷ ds) =
    (held_at k.held d ≡ H.Nothing) × (suc d ≤ k.next) × (Among d ds → ⊥) × Waiting k ds

-- What X owns stays as it is, but that it may be forgotten which constructor was built: its registers, its names and
-- its credits, which are the first of their sizes. What is borrowed from it stays too, and no variable in scope has
-- another register than it had.
pub record Keeps (s : Scope) (X : Item → ℕ) (k l : Known) : Type 0 where
  pub stays : Stays (wide_at (held_at k.held)) (wide_at (held_at l.held)) (owners k.names (own X))
  pub same : (x : ℕ) → 1 ≤ X (Own x) → register_of l.names (Some x) ≡ register_of k.names (Some x)
  pub old : (x u r : ℕ) → of_binder s (Some x) ≡ Some (Some u) → register_of l.names (Some x) ≡ Some r →
      register_of k.names (Some x) ≡ Some r
  pub stack : (n : ℕ) →
      take (X (Credit n)) (of_size n l.credits) ≡ take (X (Credit n)) (of_size n k.credits)

-- From a to b results came into the registers ds; X is still owned, and beside registers own trees of e. No variable
-- got another register.
pub record Settled (c : PlainCode) (f : PlainFunction) (fip : Bool) (s : Scope) (B : ℕ → Bool) (K : ℕ → Item → ℕ)
    (X : Item → ℕ) (e : ℕ → ℕ) (a : ℕ) (k : Known) (ds ts : List ℕ) (b : ℕ) (l : Known) : Type 0 where
  pub grows : a ≤ b
  pub part : Part c f a (reported c k) b (reported c l)
  pub next : k.next ≤ l.next
  pub width : length l.held ≡ length k.held
  pub names : l.names ≡ k.names
  pub ties : Ties fip c.types s B K X (λ q. owed c.types ds ts q + e q) l
  pub hold : AllHold c.types (held_at l.held) ds ts
  pub empty : (r : ℕ) → suc r ≤ k.next → held_at k.held r ≡ H.Nothing → (Among r ds → ⊥) → held_at l.held r ≡ H.Nothing
  pub stays : Stays (held_at k.held) (held_at l.held) (λ q. owners k.names (own X) q + e q)
  pub last : LastGone k.credits l.credits

-- From a to b results came into the registers ds; X is still owned.
pub record Delivered (c : PlainCode) (f : PlainFunction) (fip : Bool) (s : Scope) (B : ℕ → Bool)
    (K : ℕ → Item → ℕ) (X : Item → ℕ) (a : ℕ) (k : Known) (ds ts : List ℕ) (b : ℕ) (l : Known) : Type 0 where
  pub grows : a ≤ b
  pub part : Part c f a (reported c k) b (reported c l)
  pub next : k.next ≤ l.next
  pub width : length l.held ≡ length k.held
  pub names : length l.names ≡ length k.names
  pub ties : Ties fip c.types s B K X (λ q. owed c.types ds ts q + 0) l
  pub hold : AllHold c.types (held_at l.held) ds ts
  pub empty : (r : ℕ) → suc r ≤ k.next → held_at k.held r ≡ H.Nothing → (Among r ds → ⊥) → held_at l.held r ≡ H.Nothing
  pub keeps : Keeps s X k l
