-- Only what the verifier's crates keep: which registers lead to which, and the lists that are kept so that a step needn't
-- look at all registers.
use Rattle.std.specs.Prelude.{◌≡◌, ℕ, zero, suc, Bool, true, false, List, [], ◌∷◌, ◌++◌, Option, Some, None}
use Rattle.std.specs.Prelude.{length, slice_get, take, drop, ◌==◌, ◌||◌, ◌⊎◌}
use Rattle.cell_code.specs.declared.kind.From.{From}
use Rattle.cell_code.specs.declared.kind.Kind.{Kind}
use Rattle.cell_code.specs.declared.kind.Kind.TheVariants.{Gone, Scalar, Owned, Lent, Credit}
use Rattle.code_rules.specs.Kinds.{has, at, from_of, is_lent_of, same_root}

-- A from names register r.
abbrev pub names : ℕ → Option From → Bool
names r None = false
names r (Some f) = f.register == r

abbrev pub is_lent : Kind → Bool
is_lent Gone = false
is_lent (Scalar t) = false
is_lent (Owned t s) = false
is_lent (Lent t s root from) = true
is_lent (Credit k) = false

-- It reads the tree of this register, or, where there is none, of a frame below.
abbrev pub is_lent_in : Option ℕ → Kind → Bool
is_lent_in o Gone = false
is_lent_in o (Scalar t) = false
is_lent_in o (Owned t s) = false
is_lent_in o (Lent t s root from) = same_root root o
is_lent_in o (Credit k) = false

-- A register of this kind leads to register r: it came from its cell, or is borrowed from it.
abbrev pub leads : ℕ → Kind → Bool
leads r k = names r (from_of k) || is_lent_of r k

-- for each register those that may lead to it; with a gap not all that do are listed
pub record Links : Type 0 where
  pub lists : List (List ℕ)
  pub gap : Bool

abbrev pub list_at : List (List ℕ) → ℕ → List ℕ
list_at [] r = []
list_at (xs ∷ ls) zero = xs
list_at (xs ∷ ls) (suc r) = list_at ls r

-- Register q is listed for register r, unless there is a gap.
abbrev pub Linked : Links → ℕ → ℕ → Type 0
Linked links r q = links.gap ≡ false → has (list_at links.lists r) q ≡ true

-- the heir that is kept for a register
abbrev pub kept_at : List (Option ℕ) → ℕ → Option ℕ
kept_at [] q = None
kept_at (o ∷ os) zero = o
kept_at (o ∷ os) (suc q) = kept_at os q

-- registers that are listed, with room for so many; and, while a cell is taken apart, for each register the heir that
-- it was seen to reach
pub record Lents : Type 0 where
  pub held : List ℕ
  pub room : ℕ
  pub reached : List (Option ℕ)

abbrev pub trues : List Bool → ℕ
trues [] = 0
trues (true ∷ bs) = suc (trues bs)
trues (false ∷ bs) = trues bs

-- A list has grown at its end.
abbrev pub Grows : List ℕ → List ℕ → Type 0
Grows old new = (rest : List ℕ) × (new ≡ old ++ rest)

-- The registers that are marked as listed are the first items, and there are as many of these as are marked. Only
-- for these an heir is kept.
pub record AreLents (items : List ℕ) (top : ℕ) (listed : List Bool) (reached : List (Option ℕ)) : Type 0 where
  pub reached_long : length reached ≡ length items
  pub long : length listed ≡ length items
  pub many : top ≡ trues listed
  pub lists : (q : ℕ) → slice_get listed q ≡ Some true → has (take top items) q ≡ true
  pub marks : (q : ℕ) → has (take top items) q ≡ true → slice_get listed q ≡ Some true
  pub only : (q d : ℕ) → kept_at reached q ≡ Some d → has (take top items) q ≡ true

-- A list has each register that leads to register r, or to one in the list.
pub record Gathers (ks : List Kind) (r : ℕ) (qs : List ℕ) : Type 0 where
  pub own : (q : ℕ) → leads r (at ks q) ≡ true → has qs q ≡ true
  pub further : (p q : ℕ) → has qs p ≡ true → leads p (at ks q) ≡ true → has qs q ≡ true

-- What leads to a register of a list is in the list, unless that register is from place n on.
abbrev pub ClosedBelow : List Kind → List ℕ → ℕ → Type 0
ClosedBelow ks qs n =
    (p q : ℕ) → has qs p ≡ true → leads p (at ks q) ≡ true → (has (drop n qs) p ≡ true) ⊎ (has qs q ≡ true)
