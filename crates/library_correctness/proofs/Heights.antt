-- A red-black tree is low: one with fewer than 2^20 keys is at most 40 deep. So trees stay low however many inserts come.
use Rattle.std.proofs.Common.{◌≡◌, ℕ, zero, suc, ◌+◌, ◌*◌, ◌^◌, ◌<◌, ◌≤◌, ℤ, List, [], ◌∷◌, ◌++◌, length, max, inl, inr, arith, length-append, sym, subst}
use Rattle.fip_language.proofs.Search.{le_or_less}
use Rattle.library_correctness.specs.RedBlack.{Red, Black, Tree, Leaf, Branch, Pad, keys, IsRootBlack, HasNoRedPair, HasBlackHeight, IsRedBlack}
use Rattle.library_correctness.proofs.RedBlack.{Top, depth, search, StayLow}
use Rattle.library_correctness.proofs.RedBlackResults.{searched, insert_is, outcome_length}

-- 2 to the power of n
abbrev doubled : ℕ → ℕ
doubled zero = 1
doubled (suc n) = 2 * doubled n

-- the keys of a tree with so many black nodes on each path
many_keys : (t : Tree) (n : ℕ) → HasBlackHeight n t → doubled n ≤ length (keys t) + 1
many_keys Leaf zero h = omega arith
many_keys Leaf (suc n) h = absurd (omega arith)
many_keys (Branch Red l x r) n h = omega (arith, many_keys l n h.0, many_keys r n h.1, length-append (keys l) (x ∷ keys r))
many_keys (Branch Black l x r) zero h = absurd h
many_keys (Branch Black l x r) (suc n) h = omega (arith, many_keys l n h.0, many_keys r n h.1, length-append (keys l) (x ∷ keys r))

grows : (n : ℕ) → 21 ≤ n → 2097152 ≤ doubled n
grows zero le = absurd (omega arith)
grows (suc n) le = elim (le_or_less 21 n) as (λ _. 2097152 ≤ doubled (suc n)) [
  | inl more ↦ omega (arith, grows n more)
  | inr less ↦ let e : n ≡ 20 = omega (arith, le, less) in subst (λ m. 2097152 ≤ doubled (suc m)) (sym e) (omega arith)
]

-- a red node has no red child, so a path has at most one red node more than black ones, and none more below a black root
low : (t : Tree) (n : ℕ) → HasNoRedPair t → HasBlackHeight n t → (depth t ≤ 2 * n + 1) × (IsRootBlack t → depth t ≤ 2 * n)
low Leaf n h b = (omega arith, λ k. omega arith)
low (Branch Red l x r) n h b =
    let a = (low l n h.2 b.0).1 h.0 in
    let c = (low r n h.3 b.1).1 h.1 in
    (omega (arith, a, c), λ k. absurd k)
low (Branch Black l x r) zero h b = absurd b
low (Branch Black l x r) (suc n) h b =
    let a = (low l n h.0 b.0).0 in
    let c = (low r n h.1 b.1).0 in
    (omega (arith, a, c), λ k. omega (arith, a, c))

is_low : (t : Tree) → IsRedBlack t → length (keys t) < 2 ^ 20 → depth t ≤ 40
is_low t h few = elim (le_or_less 21 h.blacks) as (λ _. depth t ≤ 40) [
  | inl more ↦ absurd (omega (arith, grows h.blacks more, many_keys t h.blacks h.height, few))
  | inr less ↦ omega (arith, (low t h.blacks h.no_red_pair h.height).1 h.root, less)
]

pub stay_balanced : (is : List ℤ) (ps : List Pad) (t : Tree) → IsRedBlack t → length (keys t) + length is < 2 ^ 20 → StayLow 40 is ps t
stay_balanced [] ps t h few = tt
stay_balanced (i ∷ is) [] t h few = tt
stay_balanced (i ∷ is) (p ∷ ps) t h few =
    let o = searched t i p h.ordered in
    let s = insert_is t i p h in
    (is_low t h (omega (arith, few)), stay_balanced is ps (search t i p Top).tree s.tree (omega (arith, few, outcome_length t i p (search t i p Top) o)))
