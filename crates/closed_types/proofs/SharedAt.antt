-- The tree at a place is the one of its branch.
use Rattle.std.proofs.Common.{◌≡◌, ◌⊎◌, inl, inr, ℕ, zero, suc, ◌+◌, ◌-◌, ◌<◌, ◌≤◌, List, [], ◌∷◌, length, slice_get, get_or, Some, None, refl, ap, subst, ◌∙◌, arith}
use Rattle.fip_base.specs.fip_language.Every.{Every}
use Rattle.closed_types.specs.Closed.{Closed, Int}
use Rattle.closed_types.specs.SharedTrees.{Branch, tree_of, trees, AreBefore}
use Rattle.closed_types.proofs.SharedTrees.{so_many, following, at_place, before_all, among_at}
use Rattle.fip_base.proofs.fip_language.Facts.{length_of_none as none_past}

get_there : (ts : List Closed) (i : ℕ) (t : Closed) → slice_get ts i ≡ Some t → get_or ts i Int ≡ t
get_there [] i t e = cc
get_there (u ∷ ts) zero t e = let f : u ≡ t = cc in f
get_there (u ∷ ts) (suc i) t e = get_there ts i t e

get_past : (ts : List Closed) (i : ℕ) → length ts ≤ i → get_or ts i Int ≡ Int
get_past [] i h = refl
get_past (u ∷ ts) zero h = absurd (omega (arith, h))
get_past (u ∷ ts) (suc i) h = get_past ts i (omega (arith, h))

pub int_first : (bs : List Branch) → get_or (trees bs) 0 Int ≡ Int
int_first bs = let g = following (Int ∷ []) bs in ap (λ l. get_or l 0 Int) g.1

pub tree_there : (bs : List Branch) (p : ℕ) (b : Branch) → AreBefore 1 bs → slice_get bs p ≡ Some b → get_or (trees bs) (1 + p) Int ≡ tree_of (trees bs) b
tree_there bs p b h e = get_there (trees bs) (1 + p) (tree_of (trees bs) b) (at_place (Int ∷ []) bs p b h e)

pub tree_past : (bs : List Branch) (p : ℕ) → slice_get bs p ≡ None → get_or (trees bs) (1 + p) Int ≡ Int
tree_past bs p e =
    let n = so_many (Int ∷ []) bs in
    let l = none_past bs p e in
    get_past (trees bs) (1 + p) (omega (arith, n, l))

pub within_there : (bs : List Branch) (p : ℕ) (b : Branch) → AreBefore 1 bs → slice_get bs p ≡ Some b → Every (λ i. i < length bs + 1) b.arguments
within_there bs p b h e =
    subst (λ n. Every (λ i. i < n) b.arguments) (let f : 1 + length bs ≡ length bs + 1 = omega arith in f) (before_all 1 bs b h (among_at bs p b e))

-- ---- by the place of a tree

pub tree_by : (bs : List Branch) (p : ℕ) (b : Branch) → AreBefore 1 bs → 1 ≤ p → slice_get bs (p - 1) ≡ Some b → get_or (trees bs) p Int ≡ tree_of (trees bs) b
tree_by bs p b h l e = ap (λ n. get_or (trees bs) n Int) (let f : p ≡ 1 + (p - 1) = omega arith in f) ∙ tree_there bs (p - 1) b h e

pub within_by : (bs : List Branch) (p : ℕ) (b : Branch) → AreBefore 1 bs → slice_get bs (p - 1) ≡ Some b → Every (λ i. i < length bs + 1) b.arguments
within_by bs p b h e = within_there bs (p - 1) b h e

pub none_by : (bs : List Branch) (p : ℕ) → (p ≡ 0) ⊎ (slice_get bs (p - 1) ≡ None) → get_or (trees bs) p Int ≡ Int
none_by bs p (inl e) = ap (λ n. get_or (trees bs) n Int) e ∙ int_first bs
none_by bs zero (inr e) = int_first bs
none_by bs (suc p) (inr e) =
    ap (λ n. get_or (trees bs) n Int) (let f : suc p ≡ 1 + p = omega arith in f)
    ∙ tree_past bs p (ap (slice_get bs) (let f : p ≡ suc p - 1 = omega arith in f) ∙ e)
