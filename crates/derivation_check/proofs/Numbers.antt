-- Lists that rise, and how often numbers are in them.
use Rattle.std.proofs.Common.{◌≡◌, ℕ, zero, suc, ◌<◌, ◌≤◌, ◌+◌, ◌-◌, refl, sym, ap, ◌∙◌, subst, List, [], ◌∷◌, ◌++◌, length, get_or, take, drop, Option, Some, None, Bool, true, false, arith, nat_eq, nat_lt, ◌⊎◌, inl, inr}
use Rattle.std.proofs.lemmas.Bool.Decides.{nat_tests}
use Rattle.std.specs.Prelude.{slice_get, if◌then◌else◌, ◌==◌}
use Rattle.ownership_calculus.specs.Terms.{one, given}
use Rattle.derivation_trees.specs.declared.derivation.Credit.{Credit}
use Rattle.derivation_check.specs.Owned.{Rising, RisingSizes, amount}
pub use Rattle.fip_base.proofs.fip_language.Facts.{drop_end}

-- ---- lists from a place on

drop_suc : {A : Type 0} (xs : List A) (i : ℕ) (x z : A) → i < length xs → x ≡ get_or xs i z → drop i xs ≡ x ∷ drop (suc i) xs
drop_suc [] i x z l e = absurd (omega arith)
drop_suc {A} (y ∷ ys) zero x z l e = ap (λ (w : A). w ∷ ys) (sym e)
drop_suc (y ∷ ys) (suc i) x z l e = drop_suc ys i x z (omega arith) e

pub drop_item : {A : Type 0} (xs : List A) (i : ℕ) (x z : A) → i < length xs → x ≡ get_or xs i z → drop i xs ≡ x ∷ drop (i + 1) xs
drop_item xs i x z l e = let s : suc i ≡ i + 1 = omega arith in drop_suc xs i x z l e ∙ ap (λ k. x ∷ drop k xs) s

drop_more : {A : Type 0} (i : ℕ) (xs : List A) → drop 1 (drop i xs) ≡ drop (suc i) xs
drop_more zero xs = refl
drop_more (suc i) [] = refl
drop_more (suc i) (x ∷ xs) = drop_more i xs

pub drop_one : {A : Type 0} (i : ℕ) (xs : List A) → drop 1 (drop i xs) ≡ drop (i + 1) xs
drop_one i xs = let s : suc i ≡ i + 1 = omega arith in drop_more i xs ∙ ap (λ k. drop k xs) s

drop_none : {A : Type 0} (xs : List A) (i : ℕ) → i ≤ length xs → drop i xs ≡ [] → i ≡ length xs
drop_none [] i l e = omega arith
drop_none (x ∷ xs) zero l e = absurd (cc)
drop_none (x ∷ xs) (suc i) l e = let h = drop_none xs i (omega arith) e in omega arith

pub drop_nothing : {A : Type 0} (xs : List A) (i : ℕ) → drop i xs ≡ [] → length xs ≤ i
drop_nothing [] i e = omega arith
drop_nothing (x ∷ xs) zero e = absurd (cc)
drop_nothing (x ∷ xs) (suc i) e = let h = drop_nothing xs i e in omega arith

-- ---- rising

pub rising_next : (n d i x : ℕ) (xs : List ℕ) → i < length xs → x ≡ get_or xs i 0 → Rising n d (drop i xs) → (n ≤ x) × (x < d) × Rising (x + 1) d (drop (i + 1) xs)
rising_next n d i x xs l e h = subst (Rising n d) (drop_item xs i x 0 l e) h

pub rising_back : (n d i x : ℕ) (xs : List ℕ) → i < length xs → x ≡ get_or xs i 0 → (n ≤ x) × (x < d) × Rising (x + 1) d (drop (i + 1) xs) → Rising n d (drop i xs)
rising_back n d i x xs l e h = subst (Rising n d) (sym (drop_item xs i x 0 l e)) h

pub rising_end : (n d i : ℕ) (xs : List ℕ) → length xs ≤ i → Rising n d (drop i xs)
rising_end n d i xs l = subst (Rising n d) (sym (drop_end xs i l)) _

-- ---- how often

pub given_here : (x : ℕ) (xs : List ℕ) → 1 ≤ given x (x ∷ xs)
given_here x xs = grind arith

pub given_other : (x y : ℕ) (xs : List ℕ) → (x ≡ y → ⊥) → given x (y ∷ xs) ≡ given x xs
given_other x y xs n = grind arith

-- what is less than all
pub given_before : (n d x : ℕ) (xs : List ℕ) → Rising n d xs → x < n → given x xs ≡ 0
given_before n d x [] h l = refl
given_before n d x (y ∷ ys) h l = given_other x y ys (λ e. omega arith) ∙ given_before (y + 1) d x ys h.2 (omega arith)

-- what is past all
pub given_past : (n d x : ℕ) (xs : List ℕ) → Rising n d xs → d ≤ x → given x xs ≡ 0
given_past n d x [] h l = refl
given_past n d x (y ∷ ys) h l = given_other x y ys (λ e. omega arith) ∙ given_past (y + 1) d x ys h.2 l

-- three lists that rise, the first one just the others together
pub record Halves (c d e : ℕ) (ws os rs : List ℕ) : Type 0 where
  pub first : ℕ
  pub second : ℕ
  pub third : ℕ
  pub whole : Rising first c ws
  pub one : Rising second d os
  pub other : Rising third e rs
  pub sum : (x : ℕ) → given x ws ≡ given x os + given x rs

pub drop_rising : (n d i : ℕ) (xs : List ℕ) → Rising n d xs → (m : ℕ) × (n ≤ m) × Rising m d (drop i xs)
drop_rising n d i [] h = (n, omega arith, rising_end n d i [] (omega arith))
drop_rising n d zero (x ∷ xs) h = (n, omega arith, h)
drop_rising n d (suc i) (x ∷ xs) h = let g = drop_rising (x + 1) d i xs h.2 in (g.0, omega arith, g.2)

pub rising_take : (n d k : ℕ) (xs : List ℕ) → Rising n d xs → Rising n d (take k xs)
rising_take n d zero [] h = _
rising_take n d (suc k) [] h = _
rising_take n d zero (x ∷ xs) h = _
rising_take n d (suc k) (x ∷ xs) h = (h.0, h.1, rising_take (x + 1) d k xs h.2)

pub rising_more : (n d e : ℕ) (xs : List ℕ) → d ≤ e → Rising n d xs → Rising n e xs
rising_more n d e [] l h = _
rising_more n d e (x ∷ xs) l h = (h.0, (let a = h.1 in omega arith), rising_more (x + 1) d e xs l h.2)

-- lists that rise and have the same numbers are the same
pub same_rising : (n d m e : ℕ) (xs ys : List ℕ) → Rising n d xs → Rising m e ys → ((x : ℕ) → given x xs ≡ given x ys) → xs ≡ ys
same_rising n d m e [] [] h g s = refl
same_rising n d m e [] (y ∷ ys) h g s = let a = s y in let b = given_here y ys in absurd (omega arith)
same_rising n d m e (x ∷ xs) [] h g s = let a = s x in let b = given_here x xs in absurd (omega arith)
same_rising n d m e (x ∷ xs) (y ∷ ys) h g s = by (λ f. same_rising (x + 1) d (y + 1) e xs ys h.2 g.2 (tails f)) (nat_lt x y) (nat_lt y x) refl refl
  where
    tails : x ≡ y → (z : ℕ) → given z xs ≡ given z ys
    tails f z = let a = s z in let b = ap (λ v. given z (v ∷ xs)) f in omega arith

    heads : x ≡ y → xs ≡ ys → x ∷ xs ≡ y ∷ ys
    heads f q = cc

    by : (x ≡ y → xs ≡ ys) → (b c : Bool) → nat_lt x y ≡ b → nat_lt y x ≡ c → x ∷ xs ≡ y ∷ ys
    by r true c p q =
        let l : x < y = grind (arith, nat_tests) in
        let a = given_here x xs in
        let k = s x in
        let o = given_other x y ys (λ f. omega arith) in
        let z = given_before (y + 1) e x ys g.2 (omega arith) in absurd (omega arith)
    by r false true p q =
        let l : y < x = grind (arith, nat_tests) in
        let a = given_here y ys in
        let k = s y in
        let o = given_other y x xs (λ f. omega arith) in
        let z = given_before (x + 1) d y xs h.2 (omega arith) in absurd (omega arith)
    by r false false p q =
        let l : y ≤ x = grind (arith, nat_tests) in
        let k : x ≤ y = grind (arith, nat_tests) in
        let f : x ≡ y = omega arith in
        heads f (r f)

-- after a number that isn't below b, none is
pub high_part : (n d i b x y : ℕ) (xs : List ℕ) → Rising n d xs → i < length xs → x ≡ get_or xs i 0 → b ≤ x → y < b → given y (drop i xs) ≡ 0
high_part n d i b x y xs h l e g s =
    let t = drop_rising n d i xs h in
    let u = rising_next t.0 d i x xs l e t.2 in
    ap (given y) (drop_item xs i x 0 l e) ∙ given_other y x (drop (i + 1) xs) (λ f. omega arith) ∙ given_before (x + 1) d y (drop (i + 1) xs) u.2 (omega arith)

pub take_next : (xs : List ℕ) (i x y : ℕ) → i < length xs → x ≡ get_or xs i 0 → given y (take (suc i) xs) ≡ given y (take i xs) + one x y
take_next [] i x y l e = absurd (omega arith)
take_next (z ∷ zs) zero x y l e = let f : z ≡ x = sym e in let g = ap (λ v. one v y) f in omega arith
take_next (z ∷ zs) (suc i) x y l e = let h = take_next zs i x y (omega arith) e in omega arith

pub low_next : (xs : List ℕ) (i x b : ℕ) → i < length xs → x ≡ get_or xs i 0 → x < b → ((y : ℕ) → b ≤ y → given y (take i xs) ≡ 0) → (y : ℕ) → b ≤ y → given y (take (i + 1) xs) ≡ 0
low_next xs i x b l e s h y g =
    let f = take_next xs i x y l e in let k = h y g in let o = given_other y x [] (λ q. omega arith) in
    let j : suc i ≡ i + 1 = omega arith in let m = ap (λ v. given y (take v xs)) j in omega arith

-- ---- one list within another

pub none_given : (f d : ℕ) (fs : List ℕ) → Rising f d fs → ((x : ℕ) → given x fs ≡ 0) → fs ≡ []
none_given f d [] h g = refl
none_given f d (x ∷ xs) h g = let a = given_here x xs in let b = g x in absurd (omega arith)

-- two lists that rise, the first one within the second
pub record Inside (c d : ℕ) (fs ms : List ℕ) : Type 0 where
  pub first : ℕ
  pub second : ℕ
  pub few : Rising first c fs
  pub many : Rising second d ms
  pub sum : (x : ℕ) → given x fs ≤ given x ms

-- the head of the second is that of the first
inside_same : (c d m : ℕ) (fs ms : List ℕ) → Inside c d (m ∷ fs) (m ∷ ms) → Inside c d fs ms
inside_same c d m fs ms h = record {
  first = m + 1;
  second = m + 1;
  few = h.few.2;
  many = h.many.2;
  sum = λ x. let g = h.sum x in omega arith;
}

same_inside : (m : ℕ) (fs ms : List ℕ) → ((x : ℕ) → given x fs ≤ given x ms) → (x : ℕ) → given x (m ∷ fs) ≤ given x (m ∷ ms)
same_inside m fs ms h x = let g = h x in omega arith

one_of : (x m : ℕ) (ms : List ℕ) → (x ≡ m) ⊎ (given x (m ∷ ms) ≡ given x ms)
one_of x m ms = grind arith

-- it is another
inside_other : (c d m : ℕ) (fs ms : List ℕ) → (fs ≡ m ∷ drop 1 fs → ⊥) → Inside c d fs (m ∷ ms) → Inside c d fs ms
inside_other c d m fs ms n h = record {
  first = h.first;
  second = m + 1;
  few = h.few;
  many = h.many.2;
  sum = λ x. of x fs n h;
}
  where
    of : (x : ℕ) (fs : List ℕ) → (fs ≡ m ∷ drop 1 fs → ⊥) → Inside c d fs (m ∷ ms) → given x fs ≤ given x ms
    of x [] n h = omega arith
    of x (f ∷ fs) n h = by_order (nat_lt f m) refl
      where
        by_order : (b : Bool) → nat_lt f m ≡ b → given x (f ∷ fs) ≤ given x ms
        by_order true e =
            let l : f < m = grind (arith, nat_tests) in
            let a = given_here f fs in
            let b = h.sum f in
            let p = given_other f m ms (λ q. omega arith) in
            let k = given_before (m + 1) d f ms h.many.2 (omega arith) in
            omega arith
        by_order false e =
            let l : m ≤ f = grind (arith, nat_tests) in
            let u : f ≡ m → ⊥ = λ q. n (ap (λ (v : ℕ). v ∷ fs) q) in
            let k : m < f = omega arith in
            let z = given_before (f + 1) c m fs h.few.2 (omega arith) in
            let o = given_other m f fs (λ q. u (sym q)) in
            let g = h.sum x in
            let j = one_of x m ms in
            elim j [ inl q ↦ (let w = ap (λ v. given v (f ∷ fs)) q in omega arith) | inr q ↦ omega arith ]

-- where a walk through the second list is at j, and one through the first at i
pub record WithinAt (few many : List ℕ) (i j : ℕ) : Type 0 where
  pub front : i ≤ length few
  pub up : ((x : ℕ) → given x (drop i few) ≤ given x (drop j many)) → (x : ℕ) → given x few ≤ given x many
  pub down : (c d : ℕ) → Inside c d few many → Inside c d (drop i few) (drop j many)

pub within_start : (few many : List ℕ) → WithinAt few many 0 0
within_start few many = record { front = omega arith; up = λ h. h; down = λ c d h. h }

pub within_step : (fs ms : List ℕ) (i j m : ℕ) → WithinAt fs ms i j → j < length ms → m ≡ get_or ms j 0 → i < length fs → drop i fs ≡ m ∷ drop (i + 1) fs → WithinAt fs ms (i + 1) (j + 1)
within_step fs ms i j m w l e b f = record {
  front = omega arith;
  up = λ h. w.up (λ x. let g = h x in let a = ap (given x) f in let b = ap (given x) (drop_item ms j m 0 l e) in omega arith);
  down = λ c d h. inside_same c d m (drop (i + 1) fs) (drop (j + 1) ms) (subst (λ ys. Inside c d (m ∷ drop (i + 1) fs) ys) (drop_item ms j m 0 l e) (subst (λ ys. Inside c d ys (drop j ms)) f (w.down c d h)));
}

pub within_skip : (fs ms : List ℕ) (i j m : ℕ) → WithinAt fs ms i j → j < length ms → m ≡ get_or ms j 0 → (drop i fs ≡ m ∷ drop (i + 1) fs → ⊥) → WithinAt fs ms i (j + 1)
within_skip fs ms i j m w l e n = record {
  front = w.front;
  up = λ h. w.up (λ x. let g = h x in let b = ap (given x) (drop_item ms j m 0 l e) in omega arith);
  down = λ c d h.
      inside_other c d m (drop i fs) (drop (j + 1) ms) (λ q. n (q ∙ ap (λ (ys : List ℕ). m ∷ ys) (drop_one i fs)))
      (subst (λ ys. Inside c d (drop i fs) ys) (drop_item ms j m 0 l e) (w.down c d h));
}

pub within_sound : (fs ms : List ℕ) (i j : ℕ) → WithinAt fs ms i j → i ≡ length fs → (x : ℕ) → given x fs ≤ given x ms
within_sound fs ms i j w e = w.up (λ x. let f = ap (given x) (drop_end fs i (omega arith)) in omega arith)

pub within_complete : (c d : ℕ) (fs ms : List ℕ) (i j : ℕ) → WithinAt fs ms i j → length ms ≤ j → Rising 0 c fs → Rising 0 d ms → ((x : ℕ) → given x fs ≤ given x ms) → i ≡ length fs
within_complete c d fs ms i j w l a b s =
    let h = w.down c d record { first = 0; second = 0; few = a; many = b; sum = s } in
    drop_none fs i w.front (none_given h.first c (drop i fs) h.few (λ x. let g = h.sum x in let e = ap (given x) (drop_end ms j l) in omega arith))

-- ---- one list as two

halves_one : (c d e m : ℕ) (ws os rs : List ℕ) → Halves c d e (m ∷ ws) (m ∷ os) rs → Halves c d e ws os rs
halves_one c d e m ws os rs h = record {
  first = m + 1;
  second = m + 1;
  third = h.third;
  whole = h.whole.2;
  one = h.one.2;
  other = h.other;
  sum = λ x. let g = h.sum x in omega arith;
}

halves_other : (c d e m : ℕ) (ws os rs : List ℕ) → Halves c d e (m ∷ ws) os (m ∷ rs) → Halves c d e ws os rs
halves_other c d e m ws os rs h = record {
  first = m + 1;
  second = h.second;
  third = m + 1;
  whole = h.whole.2;
  one = h.one;
  other = h.other.2;
  sum = λ x. let g = h.sum x in omega arith;
}

-- a list that rises has its least element first
first_least : (n d m : ℕ) (xs : List ℕ) → Rising n d xs → (xs ≡ m ∷ drop 1 xs → ⊥) → 1 ≤ given m xs → (k : ℕ) × (k < m) × (1 ≤ given k xs)
first_least n d m [] h q l = absurd (omega arith)
first_least n d m (x ∷ xs) h q l =
    let u : m ≡ x → ⊥ = λ e. q (ap (λ (v : ℕ). v ∷ xs) (sym e)) in
    let o = given_other m x xs u in
    let a = given_here x xs in
    by_order (nat_lt x m) refl u o a
  where
    by_order : (b : Bool) → nat_lt x m ≡ b → (m ≡ x → ⊥) → given m (x ∷ xs) ≡ given m xs → 1 ≤ given x (x ∷ xs) → (k : ℕ) × (k < m) × (1 ≤ given k (x ∷ xs))
    by_order true e u o a = (x, grind (arith, nat_tests), a)
    by_order false e u o a =
        let t : m ≤ x = grind (arith, nat_tests) in
        let v = given_before (x + 1) d m xs h.2 (omega arith) in absurd (omega arith)

-- the first of the whole heads one of the two
halves_none : (c d e m : ℕ) (ws os rs : List ℕ) → (os ≡ m ∷ drop 1 os → ⊥) → (rs ≡ m ∷ drop 1 rs → ⊥) → Halves c d e (m ∷ ws) os rs → ⊥
halves_none c d e m ws os rs p q h =
    let a = given_here m ws in
    let s = h.sum m in
    by (nat_lt 0 (given m os)) refl a s
  where
    early : (k : ℕ) → k < m → given k (m ∷ ws) ≡ 0
    early k l = given_other k m ws (λ f. omega arith) ∙ given_before (m + 1) c k ws h.whole.2 (omega arith)

    by : (b : Bool) → nat_lt 0 (given m os) ≡ b → 1 ≤ given m (m ∷ ws) → given m (m ∷ ws) ≡ given m os + given m rs → ⊥
    by true f a s =
        let l : 0 < given m os = grind (arith, nat_tests) in
        let t = first_least h.second d m os h.one p (omega arith) in
        let z = early t.0 t.1 in let g = h.sum t.0 in let k = t.2 in omega arith
    by false f a s =
        let l : given m os ≤ 0 = grind (arith, nat_tests) in
        let t = first_least h.third e m rs h.other q (omega arith) in
        let z = early t.0 t.1 in let g = h.sum t.0 in let k = t.2 in omega arith

pub record SplitAt (ws os rs : List ℕ) (j i k : ℕ) : Type 0 where
  pub one : i ≤ length os
  pub other : k ≤ length rs
  pub up : ((x : ℕ) → given x (drop j ws) ≡ given x (drop i os) + given x (drop k rs)) → (x : ℕ) → given x ws ≡ given x os + given x rs
  pub down : (c d e : ℕ) → Halves c d e ws os rs → Halves c d e (drop j ws) (drop i os) (drop k rs)

pub split_start : (ws os rs : List ℕ) → SplitAt ws os rs 0 0 0
split_start ws os rs = record { one = omega arith; other = omega arith; up = λ h. h; down = λ c d e h. h }

pub split_one : (ws os rs : List ℕ) (j i k m : ℕ) → SplitAt ws os rs j i k → j < length ws → m ≡ get_or ws j 0 → i < length os → drop i os ≡ m ∷ drop (i + 1) os → SplitAt ws os rs (j + 1) (i + 1) k
split_one ws os rs j i k m w l e b f = record {
  one = omega arith;
  other = w.other;
  up = λ h. w.up (λ x. let g = h x in let a = ap (given x) f in let b = ap (given x) (drop_item ws j m 0 l e) in omega arith);
  down = λ c d r h. halves_one c d r m (drop (j + 1) ws) (drop (i + 1) os) (drop k rs) (subst (λ ys. Halves c d r (m ∷ drop (j + 1) ws) ys (drop k rs)) f (subst (λ ys. Halves c d r ys (drop i os) (drop k rs)) (drop_item ws j m 0 l e) (w.down c d r h)));
}

pub split_other : (ws os rs : List ℕ) (j i k m : ℕ) → SplitAt ws os rs j i k → j < length ws → m ≡ get_or ws j 0 → k < length rs → drop k rs ≡ m ∷ drop (k + 1) rs → SplitAt ws os rs (j + 1) i (k + 1)
split_other ws os rs j i k m w l e b f = record {
  one = w.one;
  other = omega arith;
  up = λ h. w.up (λ x. let g = h x in let a = ap (given x) f in let b = ap (given x) (drop_item ws j m 0 l e) in omega arith);
  down = λ c d r h. halves_other c d r m (drop (j + 1) ws) (drop i os) (drop (k + 1) rs) (subst (λ ys. Halves c d r (m ∷ drop (j + 1) ws) (drop i os) ys) f (subst (λ ys. Halves c d r ys (drop i os) (drop k rs)) (drop_item ws j m 0 l e) (w.down c d r h)));
}

pub split_refused : (c d r : ℕ) (ws os rs : List ℕ) (j i k m : ℕ) → SplitAt ws os rs j i k → j < length ws → m ≡ get_or ws j 0 → (drop i os ≡ m ∷ drop (i + 1) os → ⊥) → (drop k rs ≡ m ∷ drop (k + 1) rs → ⊥) → Rising 0 c ws → Rising 0 d os → Rising 0 r rs → ((x : ℕ) → given x ws ≡ given x os + given x rs) → ⊥
split_refused c d r ws os rs j i k m w l e p q a b f s =
    halves_none c d r m (drop (j + 1) ws) (drop i os) (drop k rs)
    (λ g. p (g ∙ ap (λ (ys : List ℕ). m ∷ ys) (drop_one i os)))
    (λ g. q (g ∙ ap (λ (ys : List ℕ). m ∷ ys) (drop_one k rs)))
    (subst (λ ys. Halves c d r ys (drop i os) (drop k rs)) (drop_item ws j m 0 l e) (w.down c d r record { first = 0; second = 0; third = 0; whole = a; one = b; other = f; sum = s }))

pub split_sound : (ws os rs : List ℕ) (j i k : ℕ) → SplitAt ws os rs j i k → length ws ≤ j → i ≡ length os → k ≡ length rs → (x : ℕ) → given x ws ≡ given x os + given x rs
split_sound ws os rs j i k w l e f = w.up (λ x. let a = ap (given x) (drop_end ws j l) in let b = ap (given x) (drop_end os i (omega arith)) in let c = ap (given x) (drop_end rs k (omega arith)) in omega arith)

pub split_complete : (c d r : ℕ) (ws os rs : List ℕ) (j i k : ℕ) → SplitAt ws os rs j i k → length ws ≤ j → Rising 0 c ws → Rising 0 d os → Rising 0 r rs → ((x : ℕ) → given x ws ≡ given x os + given x rs) → (i ≡ length os) × (k ≡ length rs)
split_complete c d r ws os rs j i k w l a b f s =
    let h = w.down c d r record { first = 0; second = 0; third = 0; whole = a; one = b; other = f; sum = s } in (
      drop_none os i w.one (none_given h.second d (drop i os) h.one (λ x. let g = h.sum x in let e = ap (given x) (drop_end ws j l) in omega arith)),
      drop_none rs k w.other (none_given h.third r (drop k rs) h.other (λ x. let g = h.sum x in let e = ap (given x) (drop_end ws j l) in omega arith)),
    )

pub ruleset within = (within_start, within_sound, within_complete)

pub ruleset splitting = (split_start, split_sound, split_complete, split_refused)
