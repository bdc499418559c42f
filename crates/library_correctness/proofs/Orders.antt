-- The order of ints, and lists that rise.
use Rattle.std.proofs.Common.{◌≡◌, true, false, ℤ, int_lt, ◌<ℤ◌, List, [], ◌∷◌, ◌++◌, inl, inr, arith, sym, subst}
use borrow.Author.Differences.{lt_T, lt_in, lt-true, lt-false, same_in}
use Rattle.fip_language.specs.Every.{Every, Among}
use Rattle.library_correctness.specs.RedBlack.{IsAscending}

pub passed : (a b : ℤ) → int_lt a b ≡ true → a <ℤ b
passed a b e = record { lt = lt_in a b (lt-true a b e) }

pub lt_trans : (a b c : ℤ) → a <ℤ b → b <ℤ c → a <ℤ c
lt_trans a b c h k = record { lt = lt_in a c (omega (arith, lt_T a b h.lt, lt_T b c k.lt)) }

pub not_both : (a b : ℤ) → a <ℤ b → b <ℤ a → ⊥
not_both a b h k = omega (arith, lt_T a b h.lt, lt_T b a k.lt)

pub neither : (a b : ℤ) → int_lt a b ≡ false → int_lt b a ≡ false → a ≡ b
neither a b e f = same_in a b (omega (arith, lt-false a b e, lt-false b a f))

pub every_append : (P : ℤ → Type 0) (xs ys : List ℤ) → Every P xs → Every P ys → Every P (xs ++ ys)
every_append P [] ys h k = k
every_append P (x ∷ xs) ys h k = (h.0, every_append P xs ys h.1 k)

pub every_first : (P : ℤ → Type 0) (xs ys : List ℤ) → Every P (xs ++ ys) → Every P xs
every_first P [] ys h = tt
every_first P (x ∷ xs) ys h = (h.0, every_first P xs ys h.1)

pub every_last : (P : ℤ → Type 0) (xs ys : List ℤ) → Every P (xs ++ ys) → Every P ys
every_last P [] ys h = h
every_last P (x ∷ xs) ys h = every_last P xs ys h.1

pub all_below : (a b : ℤ) (xs : List ℤ) → a <ℤ b → Every (λ y. y <ℤ a) xs → Every (λ y. y <ℤ b) xs
all_below a b [] lt h = tt
all_below a b (x ∷ xs) lt h = (lt_trans x a b h.0 lt, all_below a b xs lt h.1)

pub all_above : (a b : ℤ) (xs : List ℤ) → a <ℤ b → Every (λ y. b <ℤ y) xs → Every (λ y. a <ℤ y) xs
all_above a b [] lt h = tt
all_above a b (x ∷ xs) lt h = (lt_trans a b x lt h.0, all_above a b xs lt h.1)

pub ascending_last : (xs ys : List ℤ) → IsAscending (xs ++ ys) → IsAscending ys
ascending_last [] ys h = h
ascending_last (x ∷ xs) ys h = ascending_last xs ys h.1

pub ascending_first : (xs ys : List ℤ) → IsAscending (xs ++ ys) → IsAscending xs
ascending_first [] ys h = tt
ascending_first (x ∷ xs) ys h = (every_first (λ z. x <ℤ z) xs ys h.0, ascending_first xs ys h.1)

-- the items before an item are below it
pub ascending_below : (xs : List ℤ) (y : ℤ) (ys : List ℤ) → IsAscending (xs ++ (y ∷ ys)) → Every (λ z. z <ℤ y) xs
ascending_below [] y ys h = tt
ascending_below (x ∷ xs) y ys h = ((every_last (λ z. x <ℤ z) xs (y ∷ ys) h.0).0, ascending_below xs y ys h.1)

-- an item between those below it and those above it
pub ascending_between : (xs : List ℤ) (i : ℤ) (ys : List ℤ) → IsAscending (xs ++ ys) → Every (λ z. z <ℤ i) xs → Every (λ z. i <ℤ z) ys → IsAscending (xs ++ (i ∷ ys))
ascending_between [] i ys h b a = (a, h)
ascending_between (x ∷ xs) i ys h b a =
    (every_append (λ z. x <ℤ z) xs (i ∷ ys) (every_first (λ z. x <ℤ z) xs ys h.0) (b.0, every_last (λ z. x <ℤ z) xs ys h.0), ascending_between xs i ys h.1 b.1 a)

pub among_append : (i : ℤ) (xs ys : List ℤ) → Among i ys → Among i (xs ++ ys)
among_append i [] ys a = a
among_append i (x ∷ xs) ys a = inr (among_append i xs ys a)

pub among_first : (i : ℤ) (xs ys : List ℤ) → Among i xs → Among i (xs ++ ys)
among_first i [] ys a = absurd a
among_first i (x ∷ xs) ys (inl e) = inl e
among_first i (x ∷ xs) ys (inr a) = inr (among_first i xs ys a)

pub not_below : (i : ℤ) (xs ys : List ℤ) → Every (λ z. z <ℤ i) xs → Among i (xs ++ ys) → Among i ys
not_below i [] ys b a = a
not_below i (x ∷ xs) ys b (inl e) = absurd (not_both x i b.0 (subst (λ z. i <ℤ z) e (subst (λ z. z <ℤ i) (sym e) b.0)))
not_below i (x ∷ xs) ys b (inr a) = not_below i xs ys b.1 a

pub not_above : (i : ℤ) (ys : List ℤ) → Every (λ z. i <ℤ z) ys → Among i ys → ⊥
not_above i [] b a = a
not_above i (y ∷ ys) b (inl e) = not_both i y b.0 (subst (λ z. z <ℤ i) e (subst (λ z. i <ℤ z) (sym e) b.0))
not_above i (y ∷ ys) b (inr a) = not_above i ys b.1 a

pub in_either : (i : ℤ) (xs ys : List ℤ) → (Among i xs → ⊥) → (Among i ys → ⊥) → Among i (xs ++ ys) → ⊥
in_either i [] ys n k a = k a
in_either i (x ∷ xs) ys n k (inl e) = n (inl e)
in_either i (x ∷ xs) ys n k (inr a) = in_either i xs ys (λ b. n (inr b)) k a
