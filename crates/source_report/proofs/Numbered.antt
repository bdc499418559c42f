-- What is numbered is one list: what two numberings begin with alike goes on alike, until all that is reached is there.
-- And where more than so many are reached, none is so short.
use Rattle.std.proofs.Common.{◌≡◌, ◌≤◌, ◌<◌, ◌+◌, ◌⊎◌, inl, inr, ℕ, zero, suc, Bool, true, false, ◌||◌, List, [], ◌∷◌, ◌++◌, length, if◌then◌else◌, refl, sym, ap, ◌∙◌, subst, arith, append_assoc, append-nil}
use Rattle.std.specs.List.{list_any}
use Rattle.cell_lower.specs.fip_language.Every.{Among}
use Rattle.cell_lower.specs.fip_language.Mentions.{all_of}
use Rattle.static_params.specs.reached_instances.closed_types.Closed.{Closed, same_closed}
use Rattle.static_params.specs.reached_instances.closed_types.Numbering.{with_new, with_all, firsts, Reached, AreNumbered, AreMore, Differ}
use Rattle.static_params.proofs.GoodTypes.{among_either, reached_have}
use Rattle.static_params.proofs.TypeRows.{among_left, among_right, among_of, all_among, same_self}
use Rattle.static_params.proofs.reached_instances.closed_types.SharedTrees.{differ_last}

-- the first goes on to the second
abbrev IsFront : List Closed → List Closed → Type 0
IsFront xs ys = (more : List Closed) × (ys ≡ xs ++ more)

front_on : (xs ys zs : List Closed) → IsFront xs ys → IsFront ys zs → IsFront xs zs
front_on xs ys zs h k = (h.0 ++ k.0, k.1 ∙ ap (λ l. l ++ k.0) h.1 ∙ append_assoc xs h.0 k.0)

new_front : (xs : List Closed) (x : Closed) (b : Bool) → IsFront xs (if b then xs else xs ++ x ∷ [])
new_front xs x true = ([], sym (append-nil xs))
new_front xs x false = (x ∷ [], refl)

all_front : (xs ys : List Closed) → IsFront xs (with_all same_closed xs ys)
all_front xs [] = ([], sym (append-nil xs))
all_front xs (y ∷ ys) = front_on xs (with_new same_closed xs y) (with_all same_closed (with_new same_closed xs y) ys) (new_front xs y (list_any (λ z. same_closed y z) xs)) (all_front (with_new same_closed xs y) ys)

all_both : (xs ys zs : List Closed) → with_all same_closed xs (ys ++ zs) ≡ with_all same_closed (with_all same_closed xs ys) zs
all_both xs [] zs = refl
all_both xs (y ∷ ys) zs = all_both (with_new same_closed xs y) ys zs

of_both : (f : Closed → List Closed) (xs ys : List Closed) → all_of f (xs ++ ys) ≡ all_of f xs ++ all_of f ys
of_both f [] ys = refl
of_both f (x ∷ xs) ys = ap (λ l. f x ++ l) (of_both f xs ys) ∙ sym (append_assoc (f x) (all_of f xs) (all_of f ys))

-- ---- no item occurs twice

not_found : (x : Closed) (xs : List Closed) → list_any (λ y. same_closed x y) xs ≡ false → Among x xs → ⊥
not_found x [] e h = h
not_found x (y ∷ xs) e (inl s) = by (same_closed x y) (sym (ap (same_closed x) s) ∙ same_self x) e
  where
    by : (b : Bool) → b ≡ true → (b || list_any (λ y. same_closed x y) xs) ≡ false → ⊥
    by true f g = absurd (cc)
    by false f g = absurd (cc)
not_found x (y ∷ xs) e (inr h) = by (same_closed x y) e (not_found x xs)
  where
    by : (b : Bool) → (b || list_any (λ y. same_closed x y) xs) ≡ false → (list_any (λ y. same_closed x y) xs ≡ false → Among x xs → ⊥) → ⊥
    by true g later = absurd (cc)
    by false g later = later g h

differ_new : (xs : List Closed) (x : Closed) (b : Bool) → list_any (λ z. same_closed x z) xs ≡ b → Differ xs → Differ (if b then xs else xs ++ x ∷ [])
differ_new xs x true e d = d
differ_new xs x false e d = differ_last xs x (not_found x xs e) d

differ_all : (xs ys : List Closed) → Differ xs → Differ (with_all same_closed xs ys)
differ_all xs [] d = d
differ_all xs (y ∷ ys) d = differ_all (with_new same_closed xs y) ys (differ_new xs y (list_any (λ z. same_closed y z) xs) refl d)

differ_apart : (xs : List Closed) (x : Closed) (ys : List Closed) → Differ (xs ++ x ∷ ys) → Among x xs → ⊥
differ_apart [] x ys d h = h
differ_apart (z ∷ xs) x ys d (inl e) = d.0 (subst (λ w. Among w (xs ++ x ∷ ys)) e (among_right x xs (x ∷ ys) (inl refl)))
differ_apart (z ∷ xs) x ys d (inr h) = differ_apart xs x ys d.1 h

module _ (roots : List Closed) (next : Closed → List Closed) where
  abbrev goes_on : List Closed → List Closed
  goes_on xs = firsts same_closed (roots ++ all_of next xs)

  -- what a front gives is a front of what the whole gives
  front_goes : (xs ys : List Closed) → IsFront xs ys → IsFront (goes_on xs) (goes_on ys)
  front_goes xs ys h =
      let same : goes_on ys ≡ with_all same_closed (goes_on xs) (all_of next h.0) =
      ap goes_on h.1 ∙ ap (λ l. firsts same_closed (roots ++ l)) (of_both next xs h.0) ∙ ap (firsts same_closed) (sym (append_assoc roots (all_of next xs) (all_of next h.0))) ∙
      all_both [] (roots ++ all_of next xs) (all_of next h.0) in
      let front = all_front (goes_on xs) (all_of next h.0) in
      (front.0, same ∙ front.1)

  numbered_differ : (xs : List Closed) → AreNumbered same_closed roots next xs → Differ xs
  numbered_differ xs h = subst (λ l. Differ l) (sym h.ordered) (differ_all [] (roots ++ all_of next xs) tt)

  -- a front that gives nothing new has all that is reached
  closed_has : (xs : List Closed) → goes_on xs ≡ xs → (y : Closed) → Reached roots next y → Among y xs
  closed_has xs e y r =
      reached_have (λ z. Among z xs) roots next
      (λ x a. subst (λ l. Among x l) e (all_among [] (roots ++ all_of next xs) x (among_left x roots (all_of next xs) a)))
      (λ x z a b. subst (λ l. Among z l) e (all_among [] (roots ++ all_of next xs) z (among_right z roots (all_of next xs) (among_of next x z xs a b)))) y r

  whole_by : (xs ys more : List Closed) → goes_on xs ≡ xs → AreNumbered same_closed roots next ys → ys ≡ xs ++ more → ys ≡ xs
  whole_by xs ys [] e h f = f ∙ append-nil xs
  whole_by xs ys (z ∷ more) e h f =
      let there : Among z ys = subst (λ l. Among z l) (sym f) (among_right z xs (z ∷ more) (inl refl)) in
      absurd (differ_apart xs z more (subst (λ l. Differ l) f (numbered_differ ys h)) (closed_has xs e z (h.reached z there)))

  longer : (xs : List Closed) (z : Closed) (more : List Closed) → length xs < length (xs ++ z ∷ more)
  longer [] z more = omega arith
  longer (x ∷ xs) z more = let r = longer xs z more in omega (arith, r)

  front_within : (xs ys : List Closed) → IsFront xs ys → length xs ≤ length ys
  front_within xs ys h = subst (λ l. length xs ≤ length l) (sym h.1) (by xs)
    where
      by : (ws : List Closed) → length ws ≤ length (ws ++ h.0)
      by [] = omega arith
      by (w ∷ ws) = let r = by ws in omega (arith, r)

  mutual
    same_from : (n : ℕ) (l xs ys : List Closed) → AreNumbered same_closed roots next xs → AreNumbered same_closed roots next ys → IsFront l xs → IsFront l ys → IsFront l (goes_on l) → length xs ≤ length l + n → xs ≡ ys
    same_from n l xs ys h k f g (([], e)) s =
        let still : goes_on l ≡ l = e ∙ append-nil l in
        whole_by l xs f.0 still h f.1 ∙ sym (whole_by l ys g.0 still k g.1)
    same_from zero l xs ys h k f g ((z ∷ more, e)) s =
        let on : IsFront (goes_on l) xs = subst (IsFront (goes_on l)) (sym h.ordered) (front_goes l xs f) in
        let short = front_within (goes_on l) xs on in
        let long = subst (λ m. length l < length m) (sym e) (longer l z more) in
        absurd (omega (arith, short, long, s))
    same_from (suc n) l xs ys h k f g ((z ∷ more, e)) s =
        let long = subst (λ m. length l < length m) (sym e) (longer l z more) in
        same_from n (goes_on l) xs ys h k (subst (IsFront (goes_on l)) (sym h.ordered) (front_goes l xs f)) (subst (IsFront (goes_on l)) (sym k.ordered) (front_goes l ys g))
        (front_goes l (goes_on l) (z ∷ more, e)) (omega (arith, long, s))

  pub numbered_once : (xs ys : List Closed) → AreNumbered same_closed roots next xs → AreNumbered same_closed roots next ys → xs ≡ ys
  numbered_once xs ys h k = same_from (length xs) [] xs ys h k (xs, refl) (ys, refl) (goes_on [], refl) (omega arith)

  -- ---- more than n are reached, and at most n are numbered: not both

  without : (x : Closed) (ys : List Closed) → Among x ys → (rest : List Closed) × (length ys ≡ suc (length rest)) × ((z : Closed) → Among z ys → (z ≡ x) ⊎ Among z rest)
  without x [] h = absurd h
  without x (y ∷ ys) (inl e) = (ys, refl, λ z a. elim a as (λ _. (z ≡ x) ⊎ Among z ys) [ inl f ↦ inl (f ∙ sym e) | inr b ↦ inr b ])
  without x (y ∷ ys) (inr h) =
      let r = without x ys h in (
        y ∷ r.0,
        ap suc r.1,
        λ z a. elim a as (λ _. (z ≡ x) ⊎ Among z (y ∷ r.0)) [
          | inl f ↦ inr (inl f)
          | inr b ↦ elim (r.2 z b) as (λ _. (z ≡ x) ⊎ Among z (y ∷ r.0)) [ inl g ↦ inl g | inr c ↦ inr (inr c) ]
        ],
      )

  no_more : (xs ys : List Closed) → Differ xs → ((x : Closed) → Among x xs → Among x ys) → length xs ≤ length ys
  no_more [] ys d h = omega arith
  no_more (x ∷ xs) ys d h =
      let r = without x ys (h x (inl refl)) in
      let fewer = no_more xs r.0 d.1 (λ z a. elim (r.2 z (h z (inr a))) as (λ _. Among z r.0) [
        | inl e ↦ absurd (d.0 (subst (λ w. Among w xs) e a))
        | inr b ↦ b
      ]) in
      let size = r.1 in
      omega (arith, fewer, size)

  pub not_more : (n : ℕ) (xs : List Closed) → AreNumbered same_closed roots next xs → length xs ≤ n → AreMore n roots next → ⊥
  not_more n xs h few more =
      let size = no_more more.some xs more.differ (λ x a. closed_has xs (sym h.ordered) x (more.reached x a)) in
      let many = more.many in
      omega (arith, few, size, many)
