-- It serves the proofs on lowered code: how many credits there are, and that the registers which hold them are theirs.
-- Where registers 0 and 2 hold credits of size 2 and these are the only ones, two credits of size 2 are in the list.
use Rattle.std.specs.Prelude.{◌≡◌, ◌≤◌, ◌<◌, ◌+◌, ◌==◌, ◌&&◌, ℕ, Bool, true, false, List, [], ◌∷◌, Option, Some, None}
use Rattle.std.specs.Prelude.{slice_get}
use Rattle.cell_code.specs.fip_language.declared.limits.TheConstants.{MOST_FIELDS}
use Rattle.lowering_relation.specs.declared.held.Held.{Held}
use Rattle.lowering_relation.specs.declared.held.Held.TheVariants as H
use Rattle.lowering_relation.specs.declared.held.Credit.{Credit}
use Rattle.lowering_relation.specs.Known.{Known, is_owned}

-- 1 where it holds
abbrev pub one_if : Bool → ℕ
one_if true = 1
one_if false = 0

-- how many credits of a size there are
abbrev pub sized : ℕ → List Credit → ℕ
sized n [] = 0
sized n (c ∷ cs) = one_if (c.size == n) + sized n cs

-- how many of them are in register r
abbrev pub counted : ℕ → ℕ → List Credit → ℕ
counted n r [] = 0
counted n r (c ∷ cs) = one_if ((c.size == n) && (c.register == r)) + counted n r cs

abbrev pub is_credit : Option Held → Bool
is_credit None = false
is_credit (Some H.Nothing) = false
is_credit (Some (H.Scalar t)) = false
is_credit (Some (H.Owned t b)) = false
is_credit (Some (H.Lent t root)) = false
is_credit (Some (H.Credit n)) = true
is_credit (Some (H.Bare t c)) = false

-- a credit of size n
abbrev pub is_credit_of : ℕ → Option Held → Bool
is_credit_of n None = false
is_credit_of n (Some H.Nothing) = false
is_credit_of n (Some (H.Scalar t)) = false
is_credit_of n (Some (H.Owned t b)) = false
is_credit_of n (Some (H.Lent t root)) = false
is_credit_of n (Some (H.Credit m)) = m == n
is_credit_of n (Some (H.Bare t c)) = false

abbrev pub is_bare : Option Held → Bool
is_bare None = false
is_bare (Some H.Nothing) = false
is_bare (Some (H.Scalar t)) = false
is_bare (Some (H.Owned t b)) = false
is_bare (Some (H.Lent t root)) = false
is_bare (Some (H.Credit n)) = false
is_bare (Some (H.Bare t c)) = true

-- a credit of size n, whose register holds one
abbrev pub is_held_of : List Held → ℕ → Option Credit → Bool
is_held_of hs n None = false
is_held_of hs n (Some c) = (c.size == n) && is_credit (slice_get hs c.register)

-- none is from place a up to b
abbrev pub NoneBetween : ℕ → ℕ → List Held → List Credit → ℕ → Type 0
NoneBetween a b hs cs n = (i : ℕ) → a ≤ i → i < b → is_held_of hs n (slice_get cs i) ≡ false

-- The credits are those that registers hold; a register that isn't used yet holds nothing.
pub record Accounted (k : Known) : Type 0 where
  pub fresh : (r : ℕ) (h : Held) → k.next ≤ r → slice_get k.held r ≡ Some h → h ≡ H.Nothing
  pub credits : (n r : ℕ) → counted n r k.credits ≡ one_if (is_credit_of n (slice_get k.held r))
  pub sizes : (n r : ℕ) → slice_get k.held r ≡ Some (H.Credit n) → (1 ≤ n) × (n ≤ MOST_FIELDS)

-- no register owns a tree that owned none before
abbrev pub FewerTrees : List Held → List Held → Type 0
FewerTrees hs ks = (r : ℕ) → is_owned (slice_get hs r) ≡ false → is_owned (slice_get ks r) ≡ false

-- of the first n registers
abbrev pub NoBares : ℕ → List Held → Type 0
NoBares n hs = (r : ℕ) → r < n → is_bare (slice_get hs r) ≡ false

abbrev pub NoTrees : ℕ → List Held → Type 0
NoTrees n hs = (r : ℕ) → r < n → is_owned (slice_get hs r) ≡ false

-- registers that are used already, and are no credit's
abbrev pub AllSolid : Known → List ℕ → Type 0
AllSolid k [] = Unit {0}
AllSolid k (r ∷ rs) = (r < k.next) × (is_credit (slice_get k.held r) ≡ false) × AllSolid k rs
