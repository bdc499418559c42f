-- Only what this crate keeps while a cell is taken apart whose tree is whole: which registers are listed, each with
-- the heir that it reaches, so that all that reads the tree and isn't listed reaches the heir that keeps its name.
use Rattle.std.specs.Prelude.{◌≡◌, ◌⊎◌, ℕ, Bool, true, false, ◌&&◌, not, is_some, List, Option, Some, None}
use Rattle.std.specs.Prelude.{if◌then◌else◌}
use Rattle.kind_domain.specs.fip_language.Table.{Table}
use Rattle.kind_domain.specs.cell_code.declared.kind.From.{From}
use Rattle.kind_domain.specs.cell_code.declared.kind.Kind.{Kind}
use Rattle.kind_domain.specs.code_rules.Kinds.{at, has, from_of, is_lent_of, is_owned}
use Rattle.kind_domain.specs.code_rules.Taking.{IsReached, Part, Reaches, is_heir, is_heir_by}
use Rattle.register_kinds.specs.Climbs.{IsWhole}
use Rattle.kind_domain.specs.Leading.{Linked, Links, is_lent, kept_at, names}
use Rattle.register_kinds.specs.Takes.{seen_at}
use Rattle.register_kinds.specs.declared.sorting.Wanted.{Wanted}
use Rattle.register_kinds.specs.declared.sorting.Wanted.TheVariants.{Lost, Loose, Below, Ended}

abbrev pub listed_if : Bool → Option ℕ → Option (Option ℕ)
listed_if true o = Some o
listed_if false o = None

-- the heir, or none, with which register q of kind k is listed, where it is wanted
abbrev pub listing : Table → ℕ → (ℕ → Option Part) → Wanted → ℕ → Kind → Option (Option ℕ)
listing w r parts Lost q k = listed_if (names r (from_of k) && not (is_heir_by w r k (parts q))) None
listing w r parts Loose q k = listed_if (is_lent_of r k && not (is_some (from_of k))) None
listing w r parts (Below p o) q k = listed_if (names p (from_of k)) o
listing w r parts (Ended p o) q k = listed_if (names p (from_of k)) (if is_lent_of r k then o else None)

-- Register q is linked where those that are wanted are.
abbrev pub Candidate : Links → Links → ℕ → Wanted → ℕ → Type 0
Candidate below loose r Lost q = Linked below r q
Candidate below loose r Loose q = Linked loose r q
Candidate below loose r (Below p o) q = Linked below p q
Candidate below loose r (Ended p o) q = Linked below p q

-- A register that is listed with this heir, or none, reaches it; what it came from gets a part or is listed too.
pub record IsGood (w : Table) (ks : List Kind) (r : ℕ) (parts : ℕ → Option Part) (qs : List ℕ) (q : ℕ)
    (o : Option ℕ) : Type 0 where
  pub lent : is_lent (at ks q) ≡ true
  pub other : is_heir w ks r parts q ≡ false
  pub reached : IsReached ks (is_heir w ks r parts) q o
  pub up : (f : From) → from_of (at ks q) ≡ Some f → is_lent_of r (at ks f.register) ≡ true →
      (is_some (parts f.register) ≡ true) ⊎ (has qs f.register ≡ true)

abbrev pub AreGood : Table → List Kind → ℕ → (ℕ → Option Part) → List ℕ → List (Option ℕ) → Type 0
AreGood w ks r parts qs os = (q : ℕ) → has qs q ≡ true → IsGood w ks r parts qs q (kept_at os q)

-- Register r owns a tree, which is whole, and it gets no part.
pub record IsTakable (ks : List Kind) (r : ℕ) (parts : ℕ → Option Part) : Type 0 where
  pub whole : IsWhole ks r
  pub owned : is_owned (at ks r) ≡ true
  pub own : is_some (parts r) ≡ false

-- What reads the tree, is no heir and isn't listed reaches the one that keeps the name.
abbrev pub Rest : Table → List Kind → ℕ → (ℕ → Option Part) → Option ℕ → List ℕ → Type 0
Rest w ks r parts keeper qs = (q : ℕ) → has qs q ≡ false → is_lent_of r (at ks q) ≡ true →
    is_heir w ks r parts q ≡ false → (h : ℕ) × (keeper ≡ Some h) × Reaches ks (is_heir w ks r parts) q h

pub record IsSorted (w : Table) (ks : List Kind) (r : ℕ) (parts : ℕ → Option Part) (keeper : Option ℕ) (qs : List ℕ)
    (os : List (Option ℕ)) : Type 0 where
  pub good : AreGood w ks r parts qs os
  pub rest : Rest w ks r parts keeper qs
  pub kids : (p q : ℕ) → is_some (parts p) ≡ true → is_heir w ks r parts p ≡ false →
      names p (from_of (at ks q)) ≡ true → has qs q ≡ true
  pub down : (p q : ℕ) → has qs q ≡ false → names p (from_of (at ks q)) ≡ true → has qs p ≡ true →
      is_lent_of r (at ks p) ≡ true → (h : ℕ) × (seen_at ks os p ≡ Some h)
