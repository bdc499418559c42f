-- The lists of registers that may lead to others, by place.
use Rattle.std.proofs.Common.{◌≡◌, ℕ, zero, suc, ◌<◌, ◌≤◌, inl, inr, List, [], ◌∷◌, ◌++◌, length, map, set, get_or, refl, sym, ap, ◌∙◌, subst, arith}
use Rattle.std.specs.Prelude.{Bool, true, false}
use Rattle.std.proofs.lemmas.Bool.Decides.{eqb_tells}
use Rattle.std.specs.declared.vec.Vec.{Vec}
use Rattle.std.specs.declared.alloc.Global.{Global}
use Rattle.cell_code.specs.declared.kind.Kind.{Kind}
use Rattle.code_rules.specs.Kinds.{at, has}
use Rattle.kind_domain.specs.Leading.{leads, list_at}
use Rattle.kind_domain.specs.Views.{row_of}
use Rattle.std.specs.List.{SwappedAt}
use Rattle.kind_domain.specs.Owners.{swapped}
use Rattle.kind_domain.proofs.LentLists.{has_more, has_new}
use Rattle.kind_domain.proofs.Naming.{swapped_first, swapped_none, swapped_second}
use Rattle.fip_base.proofs.fip_language.Facts.{less_or_not as below_or}

pub list_past : (vs : List (Vec ℕ Global)) (r : ℕ) → length vs ≤ r → list_at (map row_of vs) r ≡ []
list_past [] r h = refl
list_past (v ∷ vs) zero h = absurd (omega arith)
list_past (v ∷ vs) (suc r) h = list_past vs r (omega arith)

pub list_get : (vs : List (Vec ℕ Global)) (r : ℕ) (d : Vec ℕ Global) → r < length vs →
    list_at (map row_of vs) r ≡ row_of (get_or vs r d)
list_get [] r d h = absurd (omega arith)
list_get (v ∷ vs) zero d h = refl
list_get (v ∷ vs) (suc r) d h = list_get vs r d (omega arith)

pub list_own : (vs : List (Vec ℕ Global)) (r : ℕ) (v : Vec ℕ Global) → r < length vs →
    list_at (map row_of (set vs r v)) r ≡ row_of v
list_own [] r v h = absurd (omega arith)
list_own (x ∷ vs) zero v h = refl
list_own (x ∷ vs) (suc r) v h = list_own vs r v (omega arith)

pub list_other : (vs : List (Vec ℕ Global)) (r q : ℕ) (v : Vec ℕ Global) → (r ≡ q → ⊥) →
    list_at (map row_of (set vs r v)) q ≡ list_at (map row_of vs) q
list_other [] r q v h = refl
list_other (x ∷ vs) zero zero v h = absurd (h refl)
list_other (x ∷ vs) zero (suc q) v h = refl
list_other (x ∷ vs) (suc r) zero v h = refl
list_other (x ∷ vs) (suc r) (suc q) v h = list_other vs r q v (λ e. h (ap suc e))

-- One more is listed for a register.
pub linked_new : (vs : List (Vec ℕ Global)) (r x : ℕ) (old v : Vec ℕ Global) → r < length vs →
    v.items ≡ old.items ++ x ∷ [] → has (list_at (map row_of (set vs r v)) r) x ≡ true
linked_new vs r x old v l e = ap (λ xs. has xs x) (list_own vs r v l ∙ e) ∙ has_new old.items x

pub linked_more : (vs : List (Vec ℕ Global)) (r x : ℕ) (old v : Vec ℕ Global) → r < length vs → old ≡ get_or vs r old →
    v.items ≡ old.items ++ x ∷ [] → (p q : ℕ) → has (list_at (map row_of vs) p) q ≡ true →
    has (list_at (map row_of (set vs r v)) p) q ≡ true
linked_more vs r x old v l g e p q h =
    elim (eqb_tells r p) [
      | inl i ↦ subst (λ z. has (list_at (map row_of (set vs r v)) z) q ≡ true) i.1
          (ap (λ xs. has xs q) (list_own vs r v l ∙ e) ∙ has_more old.items x q
          (ap (λ o. has (row_of o) q) g ∙ ap (λ xs. has xs q) (sym (list_get vs r old l))
          ∙ ap (λ z. has (list_at (map row_of vs) z) q) i.1 ∙ h))
      | inr i ↦ ap (λ xs. has xs q) (list_other vs r p v i.1) ∙ h
    ]

-- a register that leads to another is there

pub leads_below : (r : ℕ) (ks : List Kind) (q : ℕ) → leads r (at ks q) ≡ true → q < length ks
leads_below r [] q e = absurd (cc)
leads_below r (k ∷ ks) zero e = omega arith
leads_below r (k ∷ ks) (suc q) e = let h = leads_below r ks q e in omega arith

alone_if : (b : Bool) → (b ≡ true → b ≡ false) → b ≡ false
alone_if true h = h refl
alone_if false h = refl

-- Where none of the registers leads to one that are listed for it, none does.
pub alone_by : (r : ℕ) (ks : List Kind) (xs : List ℕ) → ((q : ℕ) → leads r (at ks q) ≡ true → has xs q ≡ true) →
    ((q : ℕ) → has xs q ≡ true → leads r (at ks q) ≡ false) → (q : ℕ) → leads r (at ks q) ≡ false
alone_by r ks xs h f q = alone_if (leads r (at ks q)) (λ e. f q (h q e))

-- two lists change places

swapped_at : (xs ys : List (Vec ℕ Global)) (d : Vec ℕ Global) (a b r : ℕ) → a < length xs → b < length xs →
    length ys ≡ length xs → SwappedAt xs ys a b →
    list_at (map row_of ys) r ≡ list_at (map row_of xs) (swapped a b r)
swapped_at xs ys d a b r la lb l s =
    elim (eqb_tells r a) [
      | inl x ↦ ap (list_at (map row_of ys)) x.1 ∙ list_get ys a d (omega arith) ∙ ap row_of (s.0 d)
          ∙ sym (list_get xs b d lb) ∙ ap (list_at (map row_of xs)) (sym (swapped_first a b) ∙ ap (swapped a b) (sym x.1))
      | inr x ↦ elim (eqb_tells r b) [
        | inl y ↦ ap (list_at (map row_of ys)) y.1 ∙ list_get ys b d (omega arith) ∙ ap row_of (s.1 d)
            ∙ sym (list_get xs a d la) ∙ ap (list_at (map row_of xs)) (sym (swapped_second a b) ∙ ap (swapped a b) (sym y.1))
        | inr y ↦ elim (below_or r (length xs)) [
          | inl z ↦ list_get ys r d (omega arith) ∙ ap row_of (s.2 r d x.1 y.1) ∙ sym (list_get xs r d z)
              ∙ ap (list_at (map row_of xs)) (sym (swapped_none a b r x.1 y.1))
          | inr z ↦ list_past ys r (omega arith) ∙ sym (list_past xs r z)
              ∙ ap (list_at (map row_of xs)) (sym (swapped_none a b r x.1 y.1))
        ]
      ]
    ]

pub list_swapped : (xs ys : List (Vec ℕ Global)) (a b r : ℕ) → a < length xs → b < length xs →
    length ys ≡ length xs → SwappedAt xs ys a b →
    list_at (map row_of ys) r ≡ list_at (map row_of xs) (swapped a b r)
list_swapped [] ys a b r la lb l s = absurd (omega arith)
list_swapped (x ∷ xs) ys a b r la lb l s = swapped_at (x ∷ xs) ys x a b r la lb l s
