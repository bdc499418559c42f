-- What is noted of a function that is passed.
use Rattle.std.proofs.Common.{◌≡◌, ℕ, ◌⊎◌, inl, inr, Bool, true, false, ◌&&◌, List, [], ◌∷◌, Option, Some, None, refl, sym, ap, subst, ◌∙◌, arith, if◌then◌else◌, IfSome}
use Rattle.std.specs.Prelude.{◌==◌}
use Rattle.std.specs.Map.{lookup}
use Rattle.std.proofs.lemmas.Bool.Decides.{nat_tests}
use Rattle.indexmap.specs.IndexMap.{insert_entry}
use Rattle.closed_types.specs.declared.closed.Passing.{Passing}
use Rattle.closed_types.specs.SharedTrees.{IsNoted}
use Rattle.closed_types.specs.contracts.closed.PassingPartialEq as P
use Rattle.fip_base.proofs.fip_language.Facts.{and_both as and_by, same_number as nat_is}

abbrev pub passing_eq : Passing → Passing → Bool
passing_eq = (P.TheImpl.eq-value).it

passing_is : (p q : Passing) → passing_eq p q ≡ true → p ≡ q
passing_is p q e =
    let f = and_by (p.there == q.there) _ e in
    let g = and_by (p.parameter == q.parameter) (p.passed == q.passed) f.1 in
    let a = nat_is p.there q.there f.0 in
    let b = nat_is p.parameter q.parameter g.0 in
    let d = nat_is p.passed q.passed g.1 in
    λ i. record { there = a i; parameter = b i; passed = d i }

module _ (test : Passing → Bool) (p : Passing) (exact : (q : Passing) → test q ≡ true → p ≡ q) where
  found_by : (b : Bool) (e : Passing × Bool) (es : List (Passing × Bool)) → test e.0 ≡ b → (r : Option Bool) → r ≡ (if b then Some e.1 else lookup test es) → (r ≡ lookup test es → IfSome r (λ x. IsNoted p x es)) → IfSome r (λ x. IsNoted p x (e ∷ es))
  found_by true e es t r h rest =
      subst (λ o. IfSome o (λ x. IsNoted p x (e ∷ es))) (sym h) (inl (λ i. (exact e.0 t i, e.1)))
  found_by false e es t None h rest = tt
  found_by false e es t (Some x) h rest = inr (rest h)

  pub found_noted : (es : List (Passing × Bool)) (r : Option Bool) → r ≡ lookup test es → IfSome r (λ x. IsNoted p x es)
  found_noted [] r h = subst (λ o. IfSome o (λ x. IsNoted p x [])) (sym h) tt
  found_noted (e ∷ es) r h = found_by (test e.0) e es refl r h (found_noted es r)

pub known_noted : (es : List (Passing × Bool)) (p : Passing) (r : Option Bool) → r ≡ lookup (passing_eq p) es → IfSome r (λ x. IsNoted p x es)
known_noted es p r h = found_noted (passing_eq p) p (passing_is p) es r h

noted_by : (d : Bool) (e : Passing × Bool) (es : List (Passing × Bool)) (p : Passing) (b : Bool) (q : Passing) (c : Bool) → passing_eq p e.0 ≡ d → (IsNoted q c (insert_entry passing_eq es p b) → ((q ≡ p) × (c ≡ b)) ⊎ IsNoted q c es) → IsNoted q c (if d then (e.0, b) ∷ es else e ∷ insert_entry passing_eq es p b) → ((q ≡ p) × (c ≡ b)) ⊎ IsNoted q c (e ∷ es)
noted_by true e es p b q c t rest (inl f) = inl (ap (λ (x : Passing × Bool). x.0) f ∙ sym (passing_is p e.0 t), ap (λ (x : Passing × Bool). x.1) f)
noted_by true e es p b q c t rest (inr m) = inr (inr m)
noted_by false e es p b q c t rest (inl f) = inr (inl f)
noted_by false e es p b q c t rest (inr m) = elim (rest m) as (λ _. ((q ≡ p) × (c ≡ b)) ⊎ IsNoted q c (e ∷ es)) [ inl f ↦ inl f | inr n ↦ inr (inr n) ]

pub noted_more : (es : List (Passing × Bool)) (p : Passing) (b : Bool) (q : Passing) (c : Bool) → IsNoted q c (insert_entry passing_eq es p b) → ((q ≡ p) × (c ≡ b)) ⊎ IsNoted q c es
noted_more [] p b q c (inl f) = inl (ap (λ (x : Passing × Bool). x.0) f, ap (λ (x : Passing × Bool). x.1) f)
noted_more [] p b q c (inr m) = absurd m
noted_more (e ∷ es) p b q c m = noted_by (passing_eq p e.0) e es p b q c refl (noted_more es p b q c) m
