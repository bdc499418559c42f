-- What is the least of a list.
use Rattle.std.proofs.Common.{◌≡◌, ℕ, ◌<◌, ◌⊎◌, inl, inr, refl, sym, subst, ◌∙◌, List, [], ◌∷◌, ◌++◌, Option, Some, None, Bool, true, false, arith}
use Rattle.std.specs.Prelude.{◌==◌, nat_lt, if◌then◌else◌}
use Rattle.std.proofs.lemmas.Bool.Decides.{nat_tests}
use Rattle.fip_trees.specs.declared.least.Violation.{Violation}
use Rattle.fip_trees.specs.Least.{smaller, rank, comes_before, better, after, In, IsLeast}
use Rattle.fip_base.proofs.fip_language.Facts.{false_of_not_true as is_false, nat_lt_true as is_less, same_number as same_yes, true_and_false as not_both, unequal_apart as same_no}

pub after-append : (o : Option Violation) (xs ys : List Violation) → after o (xs ++ ys) ≡ after (after o xs) ys
after-append o [] ys = refl
after-append o (x ∷ xs) ys = after-append (better o x) xs ys

pub ruleset noting = (after-append)

pub in_left : (v : Violation) (xs ys : List Violation) → In v xs → In v (xs ++ ys)
in_left v [] ys h = absurd h
in_left v (x ∷ xs) ys (inl e) = inl e
in_left v (x ∷ xs) ys (inr h) = inr (in_left v xs ys h)

pub in_right : (v : Violation) (xs ys : List Violation) → In v ys → In v (xs ++ ys)
in_right v [] ys h = h
in_right v (x ∷ xs) ys h = inr (in_right v xs ys h)

pub in_either : (v : Violation) (xs ys : List Violation) → In v (xs ++ ys) → In v xs ⊎ In v ys
in_either v [] ys h = inr h
in_either v (x ∷ xs) ys (inl e) = inl (inl e)
in_either v (x ∷ xs) ys (inr h) = elim (in_either v xs ys h) [ inl g ↦ inl (inr g) | inr g ↦ inr g ]

-- ---- the order

pub never_smaller : (xs : List ℕ) → smaller xs xs ≡ false
never_smaller [] = refl
never_smaller (x ∷ xs) = let r = never_smaller xs in grind (arith, nat_tests)

-- the first of two lists decides, or is the same
abbrev Heads : ℕ → ℕ → Bool → Type 0
Heads x y b = (x < y) ⊎ ((x ≡ y) × (b ≡ true))

heads : (x y : ℕ) (b : Bool) → (if x == y then b else nat_lt x y) ≡ true → Heads x y b
heads x y b h = elim (x == y) as (λ c. (x == y) ≡ c → (if c then b else nat_lt x y) ≡ true → Heads x y b) [
  | true ↦ λ e g. inr (same_yes x y e, g)
  | false ↦ λ e g. inl (is_less x y g)
] refl h

first_less : (x y : ℕ) (b : Bool) → x < y → (if x == y then b else nat_lt x y) ≡ true
first_less x y b h = grind (arith, nat_tests)

first_same : (x y : ℕ) (b : Bool) → x ≡ y → b ≡ true → (if x == y then b else nat_lt x y) ≡ true
first_same x y b h g = grind (arith, nat_tests)

pub smaller_both : (xs ys zs : List ℕ) → smaller xs ys ≡ true → smaller ys zs ≡ true → smaller xs zs ≡ true
smaller_both [] [] zs h g = g
smaller_both [] (y ∷ ys) [] h g = absurd (cc)
smaller_both [] (y ∷ ys) (z ∷ zs) h g = refl
smaller_both (x ∷ xs) [] zs h g = absurd (cc)
smaller_both (x ∷ xs) (y ∷ ys) [] h g = absurd (cc)
smaller_both (x ∷ xs) (y ∷ ys) (z ∷ zs) h g = elim (heads x y (smaller xs ys) h) as (λ r. smaller (x ∷ xs) (z ∷ zs) ≡ true) [
  | inl a ↦ elim (heads y z (smaller ys zs) g) as (λ r. smaller (x ∷ xs) (z ∷ zs) ≡ true) [
    | inl b ↦ first_less x z (smaller xs zs) (omega arith)
    | inr b ↦ first_less x z (smaller xs zs) (let e = b.0 in omega arith)
  ]
  | inr a ↦ elim (heads y z (smaller ys zs) g) as (λ r. smaller (x ∷ xs) (z ∷ zs) ≡ true) [
    | inl b ↦ first_less x z (smaller xs zs) (let e = a.0 in omega arith)
    | inr b ↦ first_same x z (smaller xs zs) (a.0 ∙ b.0) (smaller_both xs ys zs a.1 b.1)
  ]
]

-- ---- the least

-- what doesn't come before one doesn't come before a lesser one
lesser : (u w v : Violation) → comes_before u w ≡ false → comes_before v w ≡ true → comes_before u v ≡ false
lesser u w v h g = is_false (comes_before u v) (λ e. not_both (comes_before u w) (smaller_both (rank u) (rank v) (rank w) e g) h)

-- v is none or not before what was the least so far
abbrev NotBefore : Violation → Option Violation → Type 0
NotBefore v None = ⊥
NotBefore v (Some w) = comes_before v w ≡ false

better_some : (w v : Violation) → ((comes_before v w ≡ true) × (better (Some w) v ≡ Some v)) ⊎ ((comes_before v w ≡ false) × (better (Some w) v ≡ Some w))
better_some w v = elim (comes_before v w) as (λ b. ((b ≡ true) × ((if b then Some v else Some w) ≡ Some v)) ⊎ ((b ≡ false) × ((if b then Some v else Some w) ≡ Some w))) [ true ↦ inl (refl, refl) | false ↦ inr (refl, refl) ]

newest : (o : Option Violation) (v : Violation) → NotBefore v (better o v)
newest None v = never_smaller (rank v)
newest (Some w) v = elim (better_some w v) as (λ r. NotBefore v (better (Some w) v)) [
  | inl h ↦ subst (λ o. NotBefore v o) (sym h.1) (never_smaller (rank v))
  | inr h ↦ subst (λ o. NotBefore v o) (sym h.1) h.0
]

kept : (u : Violation) (o : Option Violation) (v : Violation) → NotBefore u o → NotBefore u (better o v)
kept u None v h = absurd h
kept u (Some w) v h = elim (better_some w v) as (λ r. NotBefore u (better (Some w) v)) [
  | inl g ↦ subst (λ o. NotBefore u o) (sym g.1) (lesser u w v h g.0)
  | inr g ↦ subst (λ o. NotBefore u o) (sym g.1) h
]

kept_all : (u : Violation) (o : Option Violation) (vs : List Violation) → NotBefore u o → NotBefore u (after o vs)
kept_all u o [] h = h
kept_all u o (v ∷ vs) h = kept_all u (better o v) vs (kept u o v h)

least_all : (o : Option Violation) (vs : List Violation) (u : Violation) → In u vs → NotBefore u (after o vs)
least_all o [] u h = absurd h
least_all o (v ∷ vs) u (inl e) = subst (λ x. NotBefore x (after (better o v) vs)) (sym e) (kept_all v (better o v) vs (newest o v))
least_all o (v ∷ vs) u (inr h) = least_all (better o v) vs u h

better_is : (o : Option Violation) (x v : Violation) → better o x ≡ Some v → (o ≡ Some v) ⊎ (v ≡ x)
better_is None x v e = inr (cc)
better_is (Some u) x v e = elim (better_some u x) [ inl h ↦ inr (let f = h.1 in cc) | inr h ↦ inl (let f = h.1 in cc) ]

member : (o : Option Violation) (vs : List Violation) (v : Violation) → after o vs ≡ Some v → (o ≡ Some v) ⊎ In v vs
member o [] v e = inl e
member o (x ∷ xs) v e = elim (member (better o x) xs v e) [
  | inl h ↦ elim (better_is o x v h) [ inl g ↦ inl g | inr g ↦ inr (inl g) ]
  | inr h ↦ inr (inr h)
]

some_always : (o : Option Violation) (x : Violation) → (v : Violation) × (better o x ≡ Some v)
some_always None x = (x, refl)
some_always (Some u) x = elim (better_some u x) [ inl h ↦ (x, h.1) | inr h ↦ (u, h.1) ]

none : (o : Option Violation) (vs : List Violation) → after o vs ≡ None → (o ≡ None) × (vs ≡ [])
none o [] e = (e, refl)
none o (x ∷ xs) e = let h = none (better o x) xs e in let g = (some_always o x).1 in absurd (let k = h.0 in cc)

-- nothing is the least of no violations alone
pub none_of : (vs : List Violation) → after None vs ≡ None → vs ≡ []
none_of vs e = (none None vs e).1

pub least_of : (vs : List Violation) (v : Violation) → after None vs ≡ Some v → IsLeast vs v
least_of vs v e = record {
  violated = elim (member None vs v e) as (λ r. In v vs) [ inl h ↦ absurd (cc) | inr h ↦ h ];
  least = λ w h. subst (λ o. NotBefore w o) e (least_all None vs w h);
}
