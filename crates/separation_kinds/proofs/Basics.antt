-- Tests, lists of kinds by number, and sums.
use Rattle.std.proofs.Common.{◌≡◌, ◌⊎◌, inl, inr, ℕ, zero, suc, ◌+◌, ◌<◌, ◌≤◌, Bool, true, false, ◌&&◌, ◌||◌, not, List, [], ◌∷◌, length, map, Option, Some, None, slice_get, refl, sym, ap, ◌∙◌, true≢false, arith, nat_lt, if◌then◌else◌, ◌==◌}
use Rattle.std.proofs.lemmas.Option.{none-some, same_Some}
use Rattle.std.proofs.lemmas.Bool.Decides.{nat_tests}
use Rattle.machine_semantics.specs.cell_code.declared.kind.Kind.{Kind}
use Rattle.machine_semantics.specs.cell_code.declared.kind.Kind.TheVariants.{Gone}
use Rattle.code_rules.specs.Types.{numbers}
use Rattle.code_rules.specs.Kinds.{at, kind_or_gone}
use Rattle.code_rules.specs.Changes.{become}
use Rattle.separation_kinds.specs.Meanings.{sum_from}
pub use Rattle.machine_semantics.proofs.cell_code.fip_base.fip_language.Facts.{and_both as both, equal_itself as itself, equal_true as equal_is, get_map, get_within, if_false as refused, if_true as chosen, less_or_not, map_length as length_map, nat_lt_of as below_is, nat_lt_true as below, not_true as refuted, or_cases as one_of, or_false_both as neither, same_number as equal, true_is_not_false as apart, true_or_false as or_not, unequal_apart as unequal, unequal_false as unequal_is}

-- ---- tests

pub pick : {A : Type 0} (P : A → Type 0) (b : Bool) (x y : A) → (b ≡ true → P x) → (b ≡ false → P y) → P (if b then x else y)
pick P true x y f g = f refl
pick P false x y f g = g refl

pub no_none : {A : Type 0} {B : Type 0} (o : Option A) (x : A) → o ≡ None → o ≡ Some x → B
no_none o x e f = absurd (none-some x (sym e ∙ f))

-- ---- lists

pub length_numbers : (i n : ℕ) → length (numbers i n) ≡ n
length_numbers i zero = refl
length_numbers i (suc n) = ap suc (length_numbers (suc i) n)

pub length_become : (ks : List Kind) (new : ℕ → Kind) → length (become ks new) ≡ length ks
length_become ks new = length_map new (numbers 0 (length ks)) ∙ length_numbers 0 (length ks)

pub get_number : (i n r : ℕ) → r < n → slice_get (numbers i n) r ≡ Some (i + r)
get_number i zero r h = absurd (omega arith)
get_number i (suc n) zero h = let e : i ≡ i + 0 = omega arith in ap Some e
get_number i (suc n) (suc r) h = let e : suc i + r ≡ i + suc r = omega arith in get_number (suc i) n r (omega arith) ∙ ap Some e

pub at_past : (ks : List Kind) (r : ℕ) → length ks ≤ r → at ks r ≡ Gone
at_past [] r h = refl
at_past (k ∷ ks) zero h = absurd (omega arith)
at_past (k ∷ ks) (suc r) h = at_past ks r (omega arith)

pub at_become : (ks : List Kind) (new : ℕ → Kind) (r : ℕ) → r < length ks → at (become ks new) r ≡ new r
at_become ks new r h = ap kind_or_gone (get_map new (numbers 0 (length ks)) r (0 + r) (get_number 0 (length ks) r h)) ∙ (let e : 0 + r ≡ r = omega arith in ap new e)

pub becomes : (ks : List Kind) (new : ℕ → Kind) → ((r : ℕ) → length ks ≤ r → new r ≡ Gone) → (r : ℕ) → at (become ks new) r ≡ new r
becomes ks new past r = elim (less_or_not r (length ks)) as (λ v. at (become ks new) r ≡ new r) [
  | inl h ↦ at_become ks new r h
  | inr h ↦ at_past (become ks new) r (let e = length_become ks new in omega arith) ∙ sym (past r h)
]

-- ---- sums

pub sum_same : (f g : ℕ → ℕ) (i n : ℕ) → ((r : ℕ) → i ≤ r → r < i + n → f r ≡ g r) → sum_from f i n ≡ sum_from g i n
sum_same f g i zero h = refl
sum_same f g i (suc n) h =
    let a = h i (omega arith) (omega arith) in
    let b = sum_same f g (suc i) n (λ r below above. h r (omega arith) (omega arith)) in
    omega arith

-- two functions that differ at one number
pub sum_set : (f g : ℕ → ℕ) (i n d : ℕ) → i ≤ d → d < i + n → ((r : ℕ) → (r ≡ d → ⊥) → f r ≡ g r) → sum_from f i n + g d ≡ sum_from g i n + f d
sum_set f g i zero d below above h = absurd (omega arith)
sum_set f g i (suc n) d below above h = elim (or_not (i == d)) as (λ v. (f i + sum_from f (suc i) n) + g d ≡ (g i + sum_from g (suc i) n) + f d) [
  | inl e ↦
      let same : i ≡ d = equal i d e in
      let a = ap f same in
      let b = ap g same in
      let rest : sum_from f (suc i) n ≡ sum_from g (suc i) n = sum_same f g (suc i) n (λ r low high. h r (λ k. absurd (omega arith))) in
      omega arith
  | inr e ↦
      let off = unequal i d e in
      let a = h i off in
      let rest = sum_set f g (suc i) n d (omega arith) (omega arith) h in
      omega arith
]

-- one of the numbers that are added up
pub sum_part : (f : ℕ → ℕ) (i n r : ℕ) → i ≤ r → r < i + n → f r ≤ sum_from f i n
sum_part f i zero r low high = absurd (omega arith)
sum_part f i (suc n) r low high = elim (or_not (i == r)) as (λ v. f r ≤ f i + sum_from f (suc i) n) [
  | inl e ↦ let same = ap f (equal i r e) in omega arith
  | inr e ↦ let off = unequal i r e in let rest = sum_part f (suc i) n r (omega arith) (omega arith) in omega arith
]
