-- Variables in scope: a derivation's numbers, and those of the calculus.
use Rattle.std.proofs.Common.{◌≡◌, ◌⊎◌, inl, inr, ℕ, zero, suc, ◌<◌, ◌≤◌, ◌+◌, ◌-◌, refl, sym, ap, ◌∙◌, subst, List, [], ◌∷◌, ◌++◌, length, Option, Some, None, Bool, true, false, not, ◌||◌, ◌&&◌, arith, nat_eq, nat_lt}
use Rattle.std.specs.Prelude.{◌==◌, if◌then◌else◌}
use Rattle.std.proofs.lemmas.Bool.Decides.{nat_tests}
use Rattle.tail_groups.specs.fip_trees.declared.program.Binder.{Binder}
use Rattle.derivation_walk.specs.fip_rules.Marks.{Mark}
use Rattle.derivation_walk.specs.fip_rules.World.{World}
use Rattle.derivation_walk.specs.fip_rules.Shapes.{Names, mark, or_later}
use Rattle.derivation_walk.specs.fip_rules.Shapes as S
use Rattle.derivation_making.specs.ownership_calculus.Terms.{Item, Own, Credit, has, given, one}
use Rattle.derivation_making.specs.ownership_calculus.Rules.{Fits, worth, Extends, setting}
use Rattle.derivation_making.specs.ownership_calculus.Rules as C
use Rattle.derivation_making.specs.ownership_agreement.Bodies.{Scalars, variables, entering, inside}
use Rattle.derivation_walk.specs.derivation_trees.declared.derivation.Credit as D
use Rattle.derivation_walk.specs.derivation_trees.Trees.{Tree, Missing, Branch}
use Rattle.derivation_making.specs.derivation_check.Owned.{owned, root, Rising, IsOwned}
use Rattle.derivation_making.specs.derivation_check.Scopes.{Known, Scope, known, named, binding, lending, AreNumbered}
use Rattle.derivation_making.specs.derivation_check.Calculus.{numbers, own_variables}
use Rattle.derivation_agreement.proofs.Sharing.{count_of, env, fits_same}
use Rattle.tail_groups.proofs.fip_language.Facts.{and_not_true as and_false, and_true_back as and_true, or_false_first as or_rest, or_first, same_some_implicit as some_same, unequal_apart as not_same}
pub use Rattle.tail_groups.proofs.fip_language.Facts.{equal_true as number_test, if_false as passed_over, if_true as chosen, same_number, true_or_false as either, unequal_false as other_test}

-- ---- numbers

pub one_true : (x y : ℕ) → (x == y) ≡ true → one x y ≡ 1
one_true x y e = chosen (x == y) 1 0 e

pub one_false : (x y : ℕ) → (x == y) ≡ false → one x y ≡ 0
one_false x y e = passed_over (x == y) 1 0 e

pub one_same : (x y : ℕ) → x ≡ y → one x y ≡ 1
one_same x y e = one_true x y (number_test x y e)

pub one_other : (x y : ℕ) → (x ≡ y → ⊥) → one x y ≡ 0
one_other x y e = one_false x y (other_test x y e)

pub given_before : (n d x : ℕ) (xs : List ℕ) → Rising n d xs → x < n → given x xs ≡ 0
given_before n d x [] h l = refl
given_before n d x (y ∷ ys) h l = let a = one_other y x (λ e. omega arith) in let g = given_before (y + 1) d x ys h.2 (omega arith) in omega arith

pub given_past : (n d x : ℕ) (xs : List ℕ) → Rising n d xs → d ≤ x → given x xs ≡ 0
given_past n d x [] h l = refl
given_past n d x (y ∷ ys) h l = let a = one_other y x (λ e. omega arith) in let g = given_past (y + 1) d x ys h.2 l in omega arith

one_most : (x y : ℕ) → one x y ≤ 1
one_most x y = by (x == y) refl
  where
    by : (b : Bool) → (x == y) ≡ b → one x y ≤ 1
    by true e = let g = one_true x y e in omega arith
    by false e = let g = one_false x y e in omega arith

pub given_most : (n d x : ℕ) (xs : List ℕ) → Rising n d xs → given x xs ≤ 1
given_most n d x [] h = omega arith
given_most n d x (y ∷ ys) h = by (y == x) refl (given_most (y + 1) d x ys h.2)
  where
    by : (b : Bool) → (y == x) ≡ b → given x ys ≤ 1 → given x (y ∷ ys) ≤ 1
    by true e g =
        let s = same_number y x e in
        let a = given_before (y + 1) d x ys h.2 (omega arith) in
        let o = one_most y x in omega arith
    by false e g = let o = one_false y x e in omega arith

-- a variable that a list has is below the list's bound
pub given_below : (n d x : ℕ) (xs : List ℕ) → Rising n d xs → given x xs ≡ 1 → x < d
given_below n d x xs h e = by (nat_lt x d) refl
  where
    by : (b : Bool) → nat_lt x d ≡ b → x < d
    by true f = grind (arith, nat_tests)
    by false f = let l : d ≤ x = grind (arith, nat_tests) in let g = given_past n d x xs h l in absurd (omega arith)

some_given : (m n : ℕ) → nat_lt 0 n ≡ nat_lt 0 (0 + n)
some_given m n = let e : n ≡ 0 + n = omega arith in ap (nat_lt 0) e

pub has_given : (n : ℕ) (xs : List ℕ) → has xs n ≡ nat_lt 0 (given n xs)
has_given n [] = refl
has_given n (x ∷ xs) = by (x == n) refl (has_given n xs)
  where
    by : (b : Bool) → (x == n) ≡ b → has xs n ≡ nat_lt 0 (given n xs) → has (x ∷ xs) n ≡ nat_lt 0 (given n (x ∷ xs))
    by true e h =
        let o = one_true x n e in
        let l : 0 < given n (x ∷ xs) = omega arith in
        let t : nat_lt 0 (given n (x ∷ xs)) ≡ true = grind (arith, nat_tests) in
        or_first (x == n) (has xs n) e ∙ sym t
    by false e h =
        let o = one_false x n e in
        let l : given n xs ≡ given n (x ∷ xs) = omega arith in
        or_rest (x == n) (has xs n) e ∙ h ∙ ap (nat_lt 0) l

pub has_none : (n : ℕ) (xs : List ℕ) → given n xs ≡ 0 → has xs n ≡ false
has_none n xs e = has_given n xs ∙ ap (nat_lt 0) e

positive : (n : ℕ) → nat_lt 0 (suc n) ≡ true
positive n = let l : 0 < suc n = omega arith in grind (arith, nat_tests)

left_one : (a b : ℕ) → a ≤ 1 → b ≤ a → nat_lt 0 (a - b) ≡ (nat_lt 0 a && not (nat_lt 0 b))
left_one zero b l m = let f : zero - b ≡ 0 = omega arith in ap (nat_lt 0) f
left_one (suc a) zero l m = let f : suc a - zero ≡ suc a = omega arith in ap (nat_lt 0) f ∙ and_true (nat_lt 0 (suc a))
left_one (suc a) (suc b) l m = let f : suc a - suc b ≡ 0 = omega arith in ap (nat_lt 0) f ∙ sym (and_false (nat_lt 0 (suc a)) (nat_lt 0 (suc b)) (positive b))

pub left_has : (n : ℕ) (xs ys : List ℕ) → given n xs ≤ 1 → given n ys ≤ given n xs → nat_lt 0 (given n xs - given n ys) ≡ (has xs n && not (has ys n))
left_has n xs ys l m = left_one (given n xs) (given n ys) l m ∙ both (has_given n xs) (has_given n ys)
  where
    both : has xs n ≡ nat_lt 0 (given n xs) → has ys n ≡ nat_lt 0 (given n ys) → (nat_lt 0 (given n xs) && not (nat_lt 0 (given n ys))) ≡ (has xs n && not (has ys n))
    both e f = cc

pub numbers_rise : (w : World) (n d : ℕ) (bs : List Binder) → n ≤ d → Rising n (d + length bs) (numbers w d bs)
numbers_rise w n d [] l = tt
numbers_rise w n d (b ∷ bs) l = by (w.scalar b.ty) refl (numbers_rise w n (d + 1) bs (omega arith)) (numbers_rise w (d + 1) (d + 1) bs (omega arith))
  where
    top : d + 1 + length bs ≡ d + length (b ∷ bs)
    top = omega arith

    by : (t : Bool) → w.scalar b.ty ≡ t → Rising n (d + 1 + length bs) (numbers w (d + 1) bs) → Rising (d + 1) (d + 1 + length bs) (numbers w (d + 1) bs) → Rising n (d + length (b ∷ bs)) (numbers w d (b ∷ bs))
    by true e f g = subst (Rising n (d + length (b ∷ bs))) (sym (chosen (w.scalar b.ty) (numbers w (d + 1) bs) (d ∷ numbers w (d + 1) bs) e)) (subst (λ k. Rising n k (numbers w (d + 1) bs)) top f)
    by false e f g = subst (Rising n (d + length (b ∷ bs))) (sym (passed_over (w.scalar b.ty) (numbers w (d + 1) bs) (d ∷ numbers w (d + 1) bs) e)) (l, omega arith, subst (λ k. Rising (d + 1) k (numbers w (d + 1) bs)) top g)

-- ---- the innermost variable of a number, by its mark

pub end_same : (ms : List Mark) (m : Mark) (y : ℕ) → m.number ≡ y → S.known (ms ++ m ∷ []) y ≡ Some m.id
end_same [] m y e = chosen (m.number == y) (Some m.id) None (number_test m.number y e)
end_same (l ∷ ms) m y e = ap (or_later (if l.number == y then Some l.id else None)) (end_same ms m y e)

pub end_other : (ms : List Mark) (m : Mark) (y : ℕ) → (m.number ≡ y → ⊥) → S.known (ms ++ m ∷ []) y ≡ S.known ms y
end_other [] m y e = passed_over (m.number == y) (Some m.id) None (other_test m.number y e)
end_other (l ∷ ms) m y e = ap (or_later (if l.number == y then Some l.id else None)) (end_other ms m y e)

-- ---- among some binders, or not

pub record IsNew (w : World) (own : Bool) (c : Names) (d : ℕ) (bs : List Binder) (vs : List Known) (sc : Scalars) (y : ℕ) : Type 0 where
  pub variable : Known
  pub is_known : known (named d own bs ++ vs) y ≡ Some variable
  pub number : c.next + variable.number ≡ d + y
  pub is_owned : variable.owned ≡ own
  pub least : c.next ≤ y
  pub most : y < c.next + length bs
  pub listed : has (variables w c.next bs) y ≡ not (w.scalar variable.ty)
  pub counted : given variable.number (numbers w d bs) ≡ (if w.scalar variable.ty then 0 else 1)
  pub scalar : entering w c.next sc bs y ≡ w.scalar variable.ty
  pub marked : S.known (inside w own c bs).marks y ≡ Some y

pub record IsOld (w : World) (own : Bool) (c : Names) (d : ℕ) (bs : List Binder) (vs : List Known) (sc : Scalars) (y : ℕ) : Type 0 where
  pub is_known : known (named d own bs ++ vs) y ≡ known vs y
  pub listed : has (variables w c.next bs) y ≡ false
  pub scalar : entering w c.next sc bs y ≡ sc y
  pub marked : S.known (inside w own c bs).marks y ≡ S.known c.marks y

listed_skip : (s : Bool) (c y : ℕ) (ys : List ℕ) → (c ≡ y → ⊥) → has (if s then ys else c ∷ ys) y ≡ has ys y
listed_skip true c y ys n = refl
listed_skip false c y ys n = or_rest (c == y) (has ys y) (other_test c y n)

listed_here : (s : Bool) (c y : ℕ) (ys : List ℕ) → c ≡ y → has ys y ≡ false → has (if s then ys else c ∷ ys) y ≡ not s
listed_here true c y ys e h = h
listed_here false c y ys e h = or_first (c == y) (has ys y) (number_test c y e)

counted_skip : (s : Bool) (d n : ℕ) (ys : List ℕ) → (d ≡ n → ⊥) → given n (if s then ys else d ∷ ys) ≡ given n ys
counted_skip true d n ys e = refl
counted_skip false d n ys e = let a = one_other d n e in omega arith

counted_here : (s : Bool) (d : ℕ) (ys : List ℕ) → given d ys ≡ 0 → given d (if s then ys else d ∷ ys) ≡ (if s then 0 else 1)
counted_here true d ys e = e
counted_here false d ys e = let a = one_same d d refl in omega arith

known_skip : (b : Binder) (d : ℕ) (own : Bool) (vs : List Known) (y : ℕ) → (b.number ≡ y → ⊥) → known (record { binder = b.number; number = d; ty = b.ty; owned = own } ∷ vs) y ≡ known vs y
known_skip b d own vs y n = passed_over (b.number == y) (Some record { binder = b.number; number = d; ty = b.ty; owned = own }) (known vs y) (other_test b.number y n)

known_here : (b : Binder) (d : ℕ) (own : Bool) (vs : List Known) (y : ℕ) → b.number ≡ y → known (record { binder = b.number; number = d; ty = b.ty; owned = own } ∷ vs) y ≡ Some record { binder = b.number; number = d; ty = b.ty; owned = own }
known_here b d own vs y n = chosen (b.number == y) (Some record { binder = b.number; number = d; ty = b.ty; owned = own }) (known vs y) (number_test b.number y n)

pub entered_here : (sc : Scalars) (c y : ℕ) (s : Bool) → c ≡ y → (if c == y then s else sc y) ≡ s
entered_here sc c y s e = chosen (c == y) s (sc y) (number_test c y e)

pub entered_skip : (sc : Scalars) (c y : ℕ) (s : Bool) → (c ≡ y → ⊥) → (if c == y then s else sc y) ≡ sc y
entered_skip sc c y s e = passed_over (c == y) s (sc y) (other_test c y e)

pub where_is : (w : World) (own : Bool) (c : Names) (d : ℕ) (bs : List Binder) (vs : List Known) (sc : Scalars) (y : ℕ) → AreNumbered c.next d bs → IsNew w own c d bs vs sc y ⊎ IsOld w own c d bs vs sc y
where_is w own c d [] vs sc y h = inr record { is_known = refl; listed = refl; scalar = refl; marked = refl }
where_is w own c d (b ∷ bs) vs sc y h =
    let z : c.next + 1 ≡ suc c.next = omega arith in
    by (where_is w own (record { marks = c.marks ++ mark c.next b ∷ []; next = suc c.next }) (d + 1) bs vs (λ x. if c.next == x then w.scalar b.ty else sc x) y (subst (λ k. AreNumbered k (d + 1) bs) z h.2)) (either (c.next == y))
  where
    by : IsNew w own (record { marks = c.marks ++ mark c.next b ∷ []; next = suc c.next }) (d + 1) bs vs (λ x. if c.next == x then w.scalar b.ty else sc x) y ⊎ IsOld w own (record { marks = c.marks ++ mark c.next b ∷ []; next = suc c.next }) (d + 1) bs vs (λ x. if c.next == x then w.scalar b.ty else sc x) y → ((c.next == y) ≡ true) ⊎ ((c.next == y) ≡ false) → IsNew w own c d (b ∷ bs) vs sc y ⊎ IsOld w own c d (b ∷ bs) vs sc y
    by (inl r) k =
        let l = r.least in
        let m = r.number in
        let u : c.next ≡ y → ⊥ = λ e. omega arith in
        let v : b.number ≡ y → ⊥ = λ e. (let f = h.0 in omega arith) in
        let x : d ≡ r.variable.number → ⊥ = λ e. omega arith in
        inl record {
          variable = r.variable;
          is_known = known_skip b d own (named (d + 1) own bs ++ vs) y v ∙ r.is_known;
          number = omega arith;
          is_owned = r.is_owned;
          least = omega arith;
          most = let n = r.most in omega arith;
          listed = listed_skip (w.scalar b.ty) c.next y (variables w (suc c.next) bs) u ∙ r.listed;
          counted = counted_skip (w.scalar b.ty) d r.variable.number (numbers w (d + 1) bs) x ∙ r.counted;
          scalar = r.scalar;
          marked = r.marked;
        }
    by (inr r) (inl k) =
        let e = same_number c.next y k in
        let f : b.number ≡ y = h.0 ∙ e in
        let g = given_before (d + 1) (d + 1 + length bs) d (numbers w (d + 1) bs) (numbers_rise w (d + 1) (d + 1) bs (omega arith)) (omega arith) in
        inl record {
          variable = record { binder = b.number; number = d; ty = b.ty; owned = own };
          is_known = known_here b d own (named (d + 1) own bs ++ vs) y f;
          number = omega arith;
          is_owned = refl;
          least = omega arith;
          most = omega arith;
          listed = listed_here (w.scalar b.ty) c.next y (variables w (suc c.next) bs) e r.listed;
          counted = counted_here (w.scalar b.ty) d (numbers w (d + 1) bs) g;
          scalar = r.scalar ∙ entered_here sc c.next y (w.scalar b.ty) e;
          marked = r.marked ∙ end_same c.marks (mark c.next b) y f ∙ ap (λ (n : ℕ). Some n) e;
        }
    by (inr r) (inr k) =
        let u = not_same c.next y k in
        let v : b.number ≡ y → ⊥ = λ e. u (sym h.0 ∙ e) in
        inr record {
          is_known = known_skip b d own (named (d + 1) own bs ++ vs) y v ∙ r.is_known;
          listed = listed_skip (w.scalar b.ty) c.next y (variables w (suc c.next) bs) u ∙ r.listed;
          scalar = r.scalar ∙ entered_skip sc c.next y (w.scalar b.ty) u;
          marked = r.marked ∙ end_other c.marks (mark c.next b) y v;
        }

-- ---- a scope, as the calculus sees it

abbrev pub seen_as : ℕ → Option Known → Option ℕ
seen_as x None = None
seen_as x (Some v) = Some x

-- Below c and d are the numbers of all variables in scope: those of the calculus, and the derivation's.
pub record Sees (w : World) (s : Scope) (c d : ℕ) (ms : List Mark) (sc : Scalars) (B : ℕ → Bool) : Type 0 where
  pub marks : (x : ℕ) → S.known ms x ≡ seen_as x (known s.variables x)
  pub scalars : (x : ℕ) (v : Known) → known s.variables x ≡ Some v → sc x ≡ w.scalar v.ty
  pub lent : (x : ℕ) (v : Known) → known s.variables x ≡ Some v → w.scalar v.ty ≡ false → B x ≡ (not v.owned || s.lent v.number)
  pub below : (x : ℕ) (v : Known) → known s.variables x ≡ Some v → (x < c) × (v.number < d)
  pub apart : (x y : ℕ) (v u : Known) → known s.variables x ≡ Some v → known s.variables y ≡ Some u → v.number ≡ u.number → x ≡ y
  pub unlent : (n : ℕ) → d ≤ n → s.lent n ≡ false

pub later : (w : World) (s : Scope) (c d e f : ℕ) (ms : List Mark) (sc : Scalars) (B : ℕ → Bool) → c ≤ e → d ≤ f → Sees w s c d ms sc B → Sees w s e f ms sc B
later w s c d e f ms sc B l m h = record {
  marks = h.marks;
  scalars = h.scalars;
  lent = h.lent;
  below = λ x v k. let g = h.below x v k in (omega arith, omega arith);
  apart = h.apart;
  unlent = λ n g. h.unlent n (omega arith);
}

pub unknown : (w : World) (s : Scope) (c d : ℕ) (ms : List Mark) (sc : Scalars) (B : ℕ → Bool) (y : ℕ) → Sees w s c d ms sc B → c ≤ y → known s.variables y ≡ None
unknown w s c d ms sc B y h l = by (known s.variables y) refl
  where
    by : (o : Option Known) → known s.variables y ≡ o → known s.variables y ≡ None
    by None e = e
    by (Some v) e = let g = (h.below y v e).0 in absurd (omega arith)

-- ---- inside what a let binds

lent_more : (o l t : Bool) → ((not o || l) || t) ≡ (not o || (l || t))
lent_more true l t = refl
lent_more false l t = refl

variables_root : (d n : ℕ) (p : Tree) → IsOwned d p → root p (Own n) ≡ given n (own_variables p)
variables_root d n Missing h = absurd h
variables_root d n (Branch r xs cs ts) h = refl

pub sees_lending : (w : World) (s : Scope) (c d f : ℕ) (ms : List Mark) (sc : Scalars) (B : ℕ → Bool) (xs : List ℕ) (cs : List D.Credit) (p : Tree) → Sees w s c d ms sc B → Rising 0 d xs → IsOwned d p → ((i : Item) → root p i ≤ owned xs cs i) → d ≤ f → Sees w (lending xs (own_variables p) s) c f ms sc (C.lending B (env s.variables (λ i. owned xs cs i - root p i)))
sees_lending w s c d f ms sc B xs cs p h r o l m = record {
  marks = h.marks;
  scalars = h.scalars;
  lent = λ x v k e.
      let a = h.lent x v k e in
      let q = variables_root d v.number p o in
      let z = l (Own v.number) in
      let b : nat_lt 0 (env s.variables (λ i. owned xs cs i - root p i) (Own x)) ≡ (has xs v.number && not (has (own_variables p) v.number)) =
      ap (λ u. nat_lt 0 (count_of (λ i. owned xs cs i - root p i) u)) k
      ∙ ap (λ n. nat_lt 0 (given v.number xs - n)) q
      ∙ left_has v.number xs (own_variables p) (given_most 0 d v.number xs r) (omega arith) in
      both (B x) (nat_lt 0 (env s.variables (λ i. owned xs cs i - root p i) (Own x))) (not v.owned || s.lent v.number) (has xs v.number && not (has (own_variables p) v.number)) a b
      ∙ lent_more v.owned (s.lent v.number) (has xs v.number && not (has (own_variables p) v.number));
  below = λ x v k. let g = h.below x v k in (g.0, omega arith);
  apart = h.apart;
  unlent = λ n g.
      let a = h.unlent n (omega arith) in
      let b = has_none n xs (given_past 0 d n xs r (omega arith)) in
      none (s.lent n) (has xs n) (not (has (own_variables p) n)) a b;
}
  where
    both : (a b e f : Bool) → a ≡ e → b ≡ f → (a || b) ≡ (e || f)
    both a b e f g k = cc

    none : (a b e : Bool) → a ≡ false → b ≡ false → (a || (b && e)) ≡ false
    none true b e f g = absurd (cc)
    none false true e f g = absurd (cc)
    none false false e f g = refl

-- ---- within binders

set_here : (ys : List ℕ) (b : Bool) (B : ℕ → Bool) (y : ℕ) → has ys y ≡ true → setting ys b B y ≡ b
set_here ys b B y e = chosen (has ys y) b (B y) e

set_skip : (ys : List ℕ) (b : Bool) (B : ℕ → Bool) (y : ℕ) → has ys y ≡ false → setting ys b B y ≡ B y
set_skip ys b B y e = passed_over (has ys y) b (B y) e

pub sees_open : (w : World) (own : Bool) (s : Scope) (b : ℕ) (c : Names) (d e f : ℕ) (bs : List Binder) (sc : Scalars) (B : ℕ → Bool) → Sees w s b d c.marks sc B → b ≤ c.next → AreNumbered c.next d bs → c.next + length bs ≤ e → d + length bs ≤ f → Sees w (binding d own bs s) e f (inside w own c bs).marks (entering w c.next sc bs) (setting (variables w c.next bs) (not own) B)
sees_open w own s b c d e f bs sc B h l a m n = record {
  marks = λ x. elim (where_is w own c d bs s.variables sc x a) as (λ z. S.known (inside w own c bs).marks x ≡ seen_as x (known (named d own bs ++ s.variables) x)) [
    | inl r ↦ r.marked ∙ ap (seen_as x) (sym r.is_known)
    | inr r ↦ r.marked ∙ h.marks x ∙ ap (seen_as x) (sym r.is_known)
  ];
  scalars = λ x v k. elim (where_is w own c d bs s.variables sc x a) as (λ z. entering w c.next sc bs x ≡ w.scalar v.ty) [
    | inl r ↦ r.scalar ∙ ap (λ (u : Known). w.scalar u.ty) (some_same (sym r.is_known ∙ k))
    | inr r ↦ r.scalar ∙ h.scalars x v (sym r.is_known ∙ k)
  ];
  lent = λ x v k q. elim (where_is w own c d bs s.variables sc x a) as (λ z. setting (variables w c.next bs) (not own) B x ≡ (not v.owned || s.lent v.number)) [
    | inl r ↦ new_lent x v r k q
    | inr r ↦ set_skip (variables w c.next bs) (not own) B x r.listed ∙ h.lent x v (sym r.is_known ∙ k) q
  ];
  below = λ x v k. elim (where_is w own c d bs s.variables sc x a) as (λ z. (x < e) × (v.number < f)) [
    | inl r ↦ (let i = ap (λ (u : Known). u.number) (some_same (sym r.is_known ∙ k)) in let j = r.number in let y = r.most in let z = r.least in (omega arith, omega arith))
    | inr r ↦ (let i = h.below x v (sym r.is_known ∙ k) in (omega arith, omega arith))
  ];
  apart = λ x y v u k j q. elim (where_is w own c d bs s.variables sc x a) as (λ z. x ≡ y) [
    | inl r ↦ new_apart x y v u r k j q
    | inr r ↦ old_apart x y v u r k j q
  ];
  unlent = λ k g. h.unlent k (omega arith);
}
  where
    new_lent : (x : ℕ) (v : Known) → IsNew w own c d bs s.variables sc x → known (named d own bs ++ s.variables) x ≡ Some v → w.scalar v.ty ≡ false → setting (variables w c.next bs) (not own) B x ≡ (not v.owned || s.lent v.number)
    new_lent x v r k q =
        let i : r.variable ≡ v = some_same (sym r.is_known ∙ k) in
        let t : has (variables w c.next bs) x ≡ true = r.listed ∙ ap (λ (u : Known). not (w.scalar u.ty)) i ∙ ap not q in
        let o : v.owned ≡ own = sym (ap (λ (u : Known). u.owned) i) ∙ r.is_owned in
        let g = ap (λ (u : Known). u.number) i in
        let j = r.number in
        let z = r.least in
        let y = h.unlent v.number (omega arith) in
        set_here (variables w c.next bs) (not own) B x t ∙ made own v.owned (s.lent v.number) o y
      where
        made : (a b l : Bool) → b ≡ a → l ≡ false → not a ≡ (not b || l)
        made true true true e f = absurd (cc)
        made true true false e f = refl
        made true false l e f = absurd (cc)
        made false true l e f = absurd (cc)
        made false false l e f = refl

    new_apart : (x y : ℕ) (v u : Known) → IsNew w own c d bs s.variables sc x → known (named d own bs ++ s.variables) x ≡ Some v → known (named d own bs ++ s.variables) y ≡ Some u → v.number ≡ u.number → x ≡ y
    new_apart x y v u r k j q =
        let i = ap (λ (u : Known). u.number) (some_same (sym r.is_known ∙ k)) in
        let p = r.number in
        let z = r.least in
        elim (where_is w own c d bs s.variables sc y a) as (λ z. x ≡ y) [
          | inl t ↦ (let g = ap (λ (u : Known). u.number) (some_same (sym t.is_known ∙ j)) in let o = t.number in omega arith)
          | inr t ↦ absurd (let g = (h.below y u (sym t.is_known ∙ j)).1 in omega arith)
        ]

    old_apart : (x y : ℕ) (v u : Known) → IsOld w own c d bs s.variables sc x → known (named d own bs ++ s.variables) x ≡ Some v → known (named d own bs ++ s.variables) y ≡ Some u → v.number ≡ u.number → x ≡ y
    old_apart x y v u r k j q =
        let i = h.below x v (sym r.is_known ∙ k) in
        elim (where_is w own c d bs s.variables sc y a) as (λ z. x ≡ y) [
          | inl t ↦ absurd (let g = ap (λ (u : Known). u.number) (some_same (sym t.is_known ∙ j)) in let o = t.number in let z = t.least in omega arith)
          | inr t ↦ h.apart x y v u (sym r.is_known ∙ k) (sym t.is_known ∙ j) q
        ]

-- how often a binder occurs in what there is
abbrev share : Bool → Bool → ℕ
share own scalar = if own then (if scalar then 0 else 1) else 0

-- R is what is left of what there was, and Q what there is within the binders: the same below d, and the binders'.
pub opens : (fip : Bool) (w : World) (own : Bool) (s : Scope) (b : ℕ) (c : Names) (d : ℕ) (bs : List Binder) (sc : Scalars) (B : ℕ → Bool) (R Q : Item → ℕ) (ks : List ℕ) → Sees w s b d c.marks sc B → b ≤ c.next → AreNumbered c.next d bs → ((n : ℕ) → n < d → Q (Own n) ≡ R (Own n)) → ((n : ℕ) → d ≤ n → Q (Own n) ≡ (if own then given n (numbers w d bs) else 0)) → ((k : ℕ) → Q (Credit k) ≡ R (Credit k) + given k ks) → Extends fip own (variables w c.next bs) ks (env s.variables R) (env (named d own bs ++ s.variables) Q)
opens fip w own s b c d bs sc B R Q ks h l a f g k = record {
  bound = λ y e. elim (where_is w own c d bs s.variables sc y a) as (λ z. env (named d own bs ++ s.variables) Q (Own y) ≡ worth own) [
    | inl r ↦ new_bound y r e
    | inr r ↦ absurd (let z = r.listed in cc)
  ];
  hidden = λ y e. elim (where_is w own c d bs s.variables sc y a) as (λ z. Fits fip (env s.variables R (Own y)) 0) [
    | inl r ↦ fits_same fip (env s.variables R (Own y)) 0 (ap (count_of R) (unknown w s b d c.marks sc B y h (let z = r.least in omega arith)))
    | inr r ↦ absurd (let z = r.listed in cc)
  ];
  others = λ y e. elim (where_is w own c d bs s.variables sc y a) as (λ z. env (named d own bs ++ s.variables) Q (Own y) ≡ env s.variables R (Own y)) [
    | inl r ↦ new_other y r e
    | inr r ↦ ap (count_of Q) r.is_known ∙ old_other y (known s.variables y) refl
  ];
  credits = k;
}
  where
    new_bound : (y : ℕ) → IsNew w own c d bs s.variables sc y → has (variables w c.next bs) y ≡ true → env (named d own bs ++ s.variables) Q (Own y) ≡ worth own
    new_bound y r e =
        let p = r.number in let z = r.least in
        let q : not (w.scalar r.variable.ty) ≡ true = sym r.listed ∙ e in
        ap (count_of Q) r.is_known ∙ g r.variable.number (omega arith) ∙ ap (λ (m : ℕ). if own then m else 0) r.counted ∙ made own (w.scalar r.variable.ty) q
      where
        made : (o t : Bool) → not t ≡ true → share o t ≡ worth o
        made true true e = absurd (cc)
        made true false e = refl
        made false t e = refl

    new_other : (y : ℕ) → IsNew w own c d bs s.variables sc y → has (variables w c.next bs) y ≡ false → env (named d own bs ++ s.variables) Q (Own y) ≡ env s.variables R (Own y)
    new_other y r e =
        let p = r.number in let z = r.least in
        let q : not (w.scalar r.variable.ty) ≡ false = sym r.listed ∙ e in
        ap (count_of Q) r.is_known ∙ g r.variable.number (omega arith) ∙ ap (λ (m : ℕ). if own then m else 0) r.counted ∙ made own (w.scalar r.variable.ty) q
        ∙ sym (ap (count_of R) (unknown w s b d c.marks sc B y h (omega arith)))
      where
        made : (o t : Bool) → not t ≡ false → share o t ≡ 0
        made true true e = refl
        made true false e = absurd (cc)
        made false t e = refl

    old_other : (y : ℕ) (o : Option Known) → known s.variables y ≡ o → count_of Q (known s.variables y) ≡ count_of R (known s.variables y)
    old_other y None e = ap (count_of Q) e ∙ sym (ap (count_of R) e)
    old_other y (Some v) e = ap (count_of Q) e ∙ f v.number (h.below y v e).1 ∙ sym (ap (count_of R) e)
