-- Whether a list ends in a number.
use Rattle.std.proofs.Common.{◌≡◌, ℕ, ◌-◌, ◌<◌, List, [], ◌∷◌, ◌++◌, length, take, arith, get_or}
use Rattle.std.proofs.Common.{refl, sym, ap, inl, inr, ◌∙◌, subst, length-append, true, false, nat_eq}
use Rattle.std.proofs.Math.Seq.{get_or-append_seam, take-append_seam}
use Rattle.std.proofs.lemmas.Bool.Decides.{nat_tests}
use Rattle.call_groups.specs.Search.{EndsIn}
use Rattle.call_groups.proofs.Whole.{snoc}
use Rattle.fip_base.proofs.fip_language.Facts.{nat_eq_same as same_yes}

same_no : (m n : ℕ) → nat_eq m n ≡ false → m ≡ n → ⊥
same_no m n h e = grind (arith, nat_tests)

last_same : (ys ps : List ℕ) (y s : ℕ) → ys ++ y ∷ [] ≡ ps ++ s ∷ [] → y ≡ s
last_same ys ps y s h =
    let l : length ys ≡ length ps = omega (arith, ap length h, length-append ys (y ∷ []), length-append ps (s ∷ [])) in
    sym (get_or-append_seam ys y [] 0) ∙ (ap (λ zs. get_or zs (length ys) 0) h ∙ (ap (λ k. get_or (ps ++ s ∷ []) k 0) l ∙ get_or-append_seam ps s [] 0))

ends_here : (ys : List ℕ) (y p : ℕ) → EndsIn (nat_eq y p) (ys ++ y ∷ []) p
ends_here ys y p = elim (nat_eq y p) as (λ b. nat_eq y p ≡ b → EndsIn b (ys ++ y ∷ []) p) [
  | true ↦ λ e.
      let l : length (ys ++ y ∷ []) - 1 ≡ length ys = omega (arith, length-append ys (y ∷ [])) in
      sym (ap (λ k. take k (ys ++ y ∷ []) ++ p ∷ []) l ∙ (ap (λ zs. zs ++ p ∷ []) (take-append_seam ys (y ∷ [])) ∙ ap (λ z. ys ++ z ∷ []) (sym (same_yes y p e))))
  | false ↦ λ e ps s h q. same_no y p e (last_same ys ps y s h ∙ q)
] refl

ends_snoc : (xs ys : List ℕ) (x y p n : ℕ) → xs ≡ ys ++ y ∷ [] → n ≡ length xs → x ≡ get_or xs (n - 1) x → EndsIn (nat_eq x p) xs p
ends_snoc xs ys x y p n h l e =
    let k : n - 1 ≡ length ys = omega (arith, ap length h, length-append ys (y ∷ [])) in
    let same : x ≡ y = e ∙ (ap (λ zs. get_or zs (n - 1) x) h ∙ (ap (λ j. get_or (ys ++ y ∷ []) j x) k ∙ get_or-append_seam ys y [] x)) in
    subst (λ z. EndsIn (nat_eq z p) xs p) (sym same) (subst (λ zs. EndsIn (nat_eq y p) zs p) (sym h) (ends_here ys y p))

pub ends_by : (xs : List ℕ) (x p n : ℕ) → n ≡ length xs → 0 < n → x ≡ get_or xs (n - 1) x → EndsIn (nat_eq x p) xs p
ends_by xs x p n l m e = elim (snoc xs) [
  | inl h ↦ absurd (omega (arith, ap length h))
  | inr h ↦ ends_snoc xs h.0 x h.1 p n h.2 l e
]

pub ends_none : (xs : List ℕ) (p n : ℕ) → n ≡ length xs → n ≡ 0 → EndsIn false xs p
ends_none xs p n l z ps s h e = absurd (omega (arith, ap length h, length-append ps (s ∷ [])))
