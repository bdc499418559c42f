-- Registers that are apart.
use Rattle.std.proofs.Common.{◌≡◌, ◌⊎◌, inl, inr, refl, ℕ, Bool, true, false, List, [], ◌∷◌, ◌++◌}
use Rattle.std.specs.Prelude.{◌==◌, if◌then◌else◌}
use Rattle.std.proofs.lemmas.Bool.{eqb-true}
use Rattle.tree_semantics.specs.fip_language.Every.{Among}
use Rattle.lowering_relation.specs.Spots.{Spot, Spots, MoreSpots, register, below, all_in}
use Rattle.lowering_relation.specs.Reading.{contains}
pub use Rattle.lowering_relation.proofs.LoweredLists.{among_left, among_right}

pub among_either : (x : ℕ) (xs ys : List ℕ) → Among x (xs ++ ys) → Among x xs ⊎ Among x ys
among_either x [] ys h = inr h
among_either x (z ∷ xs) ys (inl e) = inl (inl e)
among_either x (z ∷ xs) ys (inr h) = elim (among_either x xs ys h) [
  | inl a ↦ inl (inr a)
  | inr b ↦ inr b
]

contains_if : (b : Bool) (d r : ℕ) (rs : List ℕ) → (d == r) ≡ b → (if b then true else contains d rs) ≡ true → (contains d rs ≡ true → Among d rs) → Among d (r ∷ rs)
contains_if true d r rs e h f = inl (eqb-true d r e)
contains_if false d r rs e h f = inr (f h)

pub contains_among : (d : ℕ) (rs : List ℕ) → contains d rs ≡ true → Among d rs
contains_among d [] h = absurd (cc)
contains_among d (r ∷ rs) h = contains_if (d == r) d r rs refl h (contains_among d rs)

-- registers of positions

pub in_head : (q : ℕ) (s : Spot) (ss : Spots) → Among q (below s) → Among q (all_in (MoreSpots s ss))
in_head q s ss h = inr (among_left q (below s) (all_in ss) h)

pub in_tail : (q : ℕ) (s : Spot) (ss : Spots) → Among q (all_in ss) → Among q (all_in (MoreSpots s ss))
in_tail q s ss h = inr (among_right q (below s) (all_in ss) h)

pub in_part : (q : ℕ) (s : Spot) (ss : Spots) → Among q (register s ∷ below s) → Among q (all_in (MoreSpots s ss))
in_part q s ss (inl e) = inl e
in_part q s ss (inr b) = in_head q s ss b
