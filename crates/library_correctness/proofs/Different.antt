-- A list that ascends has as many items as there are different ones.
use Rattle.std.proofs.Common.{◌≡◌, ◌↔◌, ◌⊎◌, ℕ, suc, Bool, true, false, ℤ, ◌<ℤ◌, List, [], ◌∷◌, ◌++◌, length, inl, inr, if◌then◌else◌, arith, length-append, refl, sym, ap, subst}
use Rattle.std.specs.Ordering.{int_eq}
use Rattle.std.proofs.lemmas.Bool.Decides.{Decides-int_eq}
use Rattle.fip_language.specs.Every.{Every, Among}
use Rattle.library_correctness.specs.RedBlack.{IsAscending}
use Rattle.library_correctness.specs.Different.{is_among, different}
use Rattle.library_correctness.proofs.Orders.{every_append, every_first, every_last, ascending_last, ascending_below, among_first, among_append, not_below, not_above}
use Rattle.library_correctness.proofs.RedBlackResults.{among_parts, among_more}
use Rattle.fip_language.proofs.Facts.{true_and_false as not_both}

-- ---- whether an item is among others

if_true : (b c : Bool) → (if b then true else c) ≡ true → (b ≡ true) ⊎ (c ≡ true)
if_true true c e = inl refl
if_true false c e = inr e

if_false : (b c : Bool) → (if b then true else c) ≡ false → (b ≡ false) × (c ≡ false)
if_false true c e = absurd (not_both true refl e)
if_false false c e = (refl, e)

is_true : (k : ℤ) (xs : List ℤ) → is_among k xs ≡ true → Among k xs
is_true k [] e = absurd (not_both false e refl)
is_true k (x ∷ xs) e = elim (if_true (int_eq k x) (is_among k xs) e) [
  | inl here ↦ inl ((Decides-int_eq k x).0 here)
  | inr later ↦ inr (is_true k xs later)
]

is_false : (k : ℤ) (xs : List ℤ) → is_among k xs ≡ false → Among k xs → ⊥
is_false k [] e a = a
is_false k (x ∷ xs) e (inl is) = not_both (int_eq k x) ((Decides-int_eq k x).1 is) (if_false (int_eq k x) (is_among k xs) e).0
is_false k (x ∷ xs) e (inr a) = is_false k xs (if_false (int_eq k x) (is_among k xs) e).1 a

-- ---- an item of a list that ascends

pub record Parted (k : ℤ) (xs : List ℤ) : Type 0 where
  pub low : List ℤ
  pub high : List ℤ
  pub is : xs ≡ low ++ (k ∷ high)

parted : (k : ℤ) (xs : List ℤ) → Among k xs → Parted k xs
parted k [] a = absurd a
parted k (x ∷ xs) (inl e) = record { low = []; high = xs; is = ap (λ y. y ∷ xs) (sym e) }
parted k (x ∷ xs) (inr a) = let p = parted k xs a in record { low = x ∷ p.low; high = p.high; is = ap (λ ys. x ∷ ys) p.is }

without : (xs : List ℤ) (k : ℤ) (ys : List ℤ) → IsAscending (xs ++ (k ∷ ys)) → IsAscending (xs ++ ys)
without [] k ys h = h.1
without (x ∷ xs) k ys h =
    (every_append (λ z. x <ℤ z) xs ys (every_first (λ z. x <ℤ z) xs (k ∷ ys) h.0) (every_last (λ z. x <ℤ z) xs (k ∷ ys) h.0).1, without xs k ys h.1)

only_once : (xs : List ℤ) (k : ℤ) (ys : List ℤ) → IsAscending (xs ++ (k ∷ ys)) → Among k (xs ++ ys) → ⊥
only_once xs k ys h a = not_above k ys (ascending_last xs (k ∷ ys) h).0 (not_below k xs ys (ascending_below xs k ys h) a)

-- ---- their number

-- the others are the keys after, where the first doesn't come again
others : (k : ℤ) (ks low high : List ℤ) → IsAscending (low ++ (k ∷ high)) → (Among k ks → ⊥) → ((j : ℤ) → Among j (low ++ (k ∷ high)) ↔ Among j (k ∷ ks)) → (j : ℤ) → Among j (low ++ high) ↔ Among j ks
others k ks low high h new same j = (to, from)
  where
    later : Among j (low ++ high) → (j ≡ k) ⊎ Among j ks → Among j ks
    later a (inl e) = absurd (only_once low k high h (subst (λ i. Among i (low ++ high)) e a))
    later a (inr b) = b

    to : Among j (low ++ high) → Among j ks
    to a = later a ((same j).0 ((among_more k j low high).1 (inr a)))

    left : Among j ks → (j ≡ k) ⊎ Among j (low ++ high) → Among j (low ++ high)
    left a (inl e) = absurd (new (subst (λ i. Among i ks) e a))
    left a (inr b) = b

    from : Among j ks → Among j (low ++ high)
    from a = left a ((among_more k j low high).0 ((same j).1 (inr a)))

-- the keys after are all, where the first comes again
again : (k : ℤ) (ks xs : List ℤ) → Among k ks → ((j : ℤ) → Among j xs ↔ Among j (k ∷ ks)) → (j : ℤ) → Among j xs ↔ Among j ks
again k ks xs there same j = (to, from)
  where
    later : (j ≡ k) ⊎ Among j ks → Among j ks
    later (inl e) = subst (λ i. Among i ks) (sym e) there
    later (inr b) = b

    to : Among j xs → Among j ks
    to a = later ((same j).0 a)

    from : Among j ks → Among j xs
    from a = (same j).1 (inr a)

pub length_different : (ks xs : List ℤ) → IsAscending xs → ((j : ℤ) → Among j xs ↔ Among j ks) → length xs ≡ different ks
length_different [] [] h same = refl
length_different [] (x ∷ xs) h same = absurd ((same x).0 (inl refl))
length_different (k ∷ ks) xs h same =
    by (is_among k ks) refl (length_different ks xs h) (λ ys. length_different ks ys)
  where
    by : (b : Bool) → is_among k ks ≡ b → (((j : ℤ) → Among j xs ↔ Among j ks) → length xs ≡ different ks) → ((ys : List ℤ) → IsAscending ys → ((j : ℤ) → Among j ys ↔ Among j ks) → length ys ≡ different ks) → length xs ≡ (if b then different ks else suc (different ks))
    by true e all rest = all (again k ks xs (is_true k ks e) same)
    by false e all rest =
        let p = parted k xs ((same k).1 (inl refl)) in
        let ascends : IsAscending (p.low ++ (k ∷ p.high)) = subst IsAscending p.is h in
        let sames : (j : ℤ) → Among j (p.low ++ (k ∷ p.high)) ↔ Among j (k ∷ ks) = subst (λ ys. (j : ℤ) → Among j ys ↔ Among j (k ∷ ks)) p.is same in
        let r = rest (p.low ++ p.high) (without p.low k p.high ascends) (others k ks p.low p.high ascends (is_false k ks e) sames) in
        omega (arith, r, ap length p.is, length-append p.low (k ∷ p.high), length-append p.low p.high)
