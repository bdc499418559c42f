-- Only what this crate keeps, so that a Take needn't look at what stays: which trees are whole. The froms of each
-- register that reads such a tree lead to the register that owns it, or to one that reads it too and has no from; and
-- what came from a register that owns or reads it reads it too.
use Rattle.kind_domain.specs.Leading.{is_lent_in}
use Rattle.std.specs.Prelude.{◌≡◌, ℕ, zero, suc, Bool, true, false, List, Option, Some, None, set, slice_get}
use Rattle.kind_domain.specs.cell_code.declared.kind.From.{From}
use Rattle.kind_domain.specs.cell_code.declared.kind.Kind.{Kind}
use Rattle.kind_domain.specs.code_rules.Kinds.{at, from_of, is_owned, root_of}

-- After a from, n further froms lead to the owner of a tree, or to a register that reads it and has no from.
abbrev pub Climb : List Kind → Option ℕ → ℕ → Option From → Type 0
Climb ks o zero None = Unit {0}
Climb ks o zero (Some f) = o ≡ Some f.register
Climb ks o (suc n) None = ⊥
Climb ks o (suc n) (Some f) = (is_lent_in o (at ks f.register) ≡ true) × Climb ks o n (from_of (at ks f.register))

abbrev pub HasOwner : List Kind → Option ℕ → Type 0
HasOwner ks None = Unit {0}
HasOwner ks (Some r) = is_owned (at ks r) ≡ true

-- A register that reads a tree and has this from is held.
pub record IsHeld (ks : List Kind) (o : Option ℕ) (from : Option From) : Type 0 where
  pub owner : HasOwner ks o
  pub steps : ℕ
  pub climb : Climb ks o steps from

-- the register that owns the tree that a from leads into, where there is one
abbrev pub tree_of : List Kind → Option From → Option ℕ
tree_of ks None = None
tree_of ks (Some f) = root_of f.register (at ks f.register)

abbrev pub AreHeld : List Kind → Option ℕ → Type 0
AreHeld ks o = (q : ℕ) → is_lent_in o (at ks q) ≡ true → IsHeld ks o (from_of (at ks q))

-- The tree of register r is whole.
pub record IsWhole (ks : List Kind) (r : ℕ) : Type 0 where
  pub held : AreHeld ks (Some r)
  pub closed : (q : ℕ) → tree_of ks (from_of (at ks q)) ≡ Some r → is_lent_in (Some r) (at ks q) ≡ true

-- Each tree is whole that isn't marked as torn.
abbrev pub AreWhole : List Kind → List Bool → Type 0
AreWhole ks torn = (r : ℕ) → slice_get torn r ≡ Some false → IsWhole ks r

-- Where it is known which trees are torn, the others are whole.
abbrev pub AreKnown : List Kind → Option (List Bool) → Type 0
AreKnown ks held = (torn : List Bool) → held ≡ Some torn → AreWhole ks torn

-- The same once the tree of register r is known to be whole.
abbrev pub AreKnownOver : List Kind → ℕ → Option (List Bool) → Type 0
AreKnownOver ks r held = (torn : List Bool) → held ≡ Some torn → AreWhole ks (set torn r false)
