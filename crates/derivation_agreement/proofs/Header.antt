-- A function's parameters: a derivation's numbers, and those of the calculus.
use Rattle.std.proofs.Common.{◌≡◌, ◌⊎◌, inl, inr, ℕ, zero, suc, ◌<◌, ◌≤◌, ◌+◌, refl, sym, ap, ◌∙◌, subst, List, [], ◌∷◌, ◌++◌, length, Option, Some, None, Bool, true, false, not, ◌||◌, ◌&&◌, arith}
use Rattle.std.specs.Prelude.{◌==◌, if◌then◌else◌}
use Rattle.tail_groups.specs.fip_base.declared.plain.Param.{Param}
use Rattle.tail_groups.specs.fip_trees.declared.program.Binder.{Binder}
use Rattle.tail_groups.specs.fip_trees.Tree.{Instance}
use Rattle.derivation_walk.specs.fip_rules.Marks.{Mark}
use Rattle.derivation_walk.specs.fip_rules.World.{World, is_fip}
use Rattle.derivation_walk.specs.fip_rules.Shapes.{Names, mark, within}
use Rattle.derivation_walk.specs.fip_rules.Shapes as S
use Rattle.derivation_making.specs.ownership_calculus.Terms.{Item, Own, Credit, has, given}
use Rattle.derivation_making.specs.ownership_calculus.Rules.{Fits, setting, Derivation, WEAKEN}
use Rattle.derivation_making.specs.ownership_calculus.Functions as F
use Rattle.derivation_making.specs.ownership_agreement.Bodies.{Scalars, borrowed_parameters, owned_parameters, entering_parameters, no_variables, term_block, body_term}
use Rattle.derivation_walk.specs.derivation_trees.Trees.{Tree}
use Rattle.derivation_making.specs.derivation_check.Owned.{root}
use Rattle.derivation_making.specs.derivation_check.Scopes.{Known, Scope, known, parameters, AreNumbered}
use Rattle.derivation_making.specs.derivation_check.Accepted as A
use Rattle.derivation_agreement.proofs.Sharing.{count_of, env, fits_same}
use Rattle.derivation_agreement.proofs.Scoping.{Sees, seen_as, same_number, number_test, other_test, one_same, one_other, either, end_same, end_other, has_none, chosen, passed_over}
use Rattle.tail_groups.proofs.fip_language.Facts.{or_false_first as or_rest, or_first, same_some_implicit as some_same, unequal_apart as is_not}
use Rattle.derivation_agreement.proofs.Scoping.{entered_here, entered_skip}

-- whether a parameter is owned and not scalar, and whether it is borrowed
abbrev is_own : Bool → Bool → Bool
is_own s l = not s && not l

abbrev is_borrowed : Bool → Bool → Bool
is_borrowed s l = not s && l

pub record IsParameter (w : World) (n : ℕ) (ps : List Param) (bs : List Binder) (sc : Scalars) (ms : List Mark) (y : ℕ) : Type 0 where
  pub variable : Known
  pub is_known : known (parameters n ps) y ≡ Some variable
  pub number : variable.number ≡ y
  pub least : n ≤ y
  pub most : y < n + length ps
  pub scalar : entering_parameters w n sc ps bs y ≡ w.scalar variable.ty
  pub own : has (owned_parameters w n ps bs) y ≡ is_own (w.scalar variable.ty) (not variable.owned)
  pub borrowed : has (borrowed_parameters w n ps bs) y ≡ is_borrowed (w.scalar variable.ty) (not variable.owned)
  pub counted : given y (A.owned_parameters w n ps) ≡ (if is_own (w.scalar variable.ty) (not variable.owned) then 1 else 0)
  pub marked : S.known (within (record { marks = ms; next = n }) (S.parameters w ps bs)).marks y ≡ Some y

pub record IsNone (w : World) (n : ℕ) (ps : List Param) (bs : List Binder) (sc : Scalars) (ms : List Mark) (y : ℕ) : Type 0 where
  pub is_known : known (parameters n ps) y ≡ None
  pub scalar : entering_parameters w n sc ps bs y ≡ sc y
  pub own : has (owned_parameters w n ps bs) y ≡ false
  pub borrowed : has (borrowed_parameters w n ps bs) y ≡ false
  pub counted : given y (A.owned_parameters w n ps) ≡ 0
  pub marked : S.known (within (record { marks = ms; next = n }) (S.parameters w ps bs)).marks y ≡ S.known ms y

own_skip : (s l : Bool) (n y : ℕ) (ys : List ℕ) → (n ≡ y → ⊥) → has (if s then ys else (if l then ys else n ∷ ys)) y ≡ has ys y
own_skip true l n y ys e = refl
own_skip false true n y ys e = refl
own_skip false false n y ys e = or_rest (n == y) (has ys y) (other_test n y e)

own_here : (s l : Bool) (n y : ℕ) (ys : List ℕ) → n ≡ y → has ys y ≡ false → has (if s then ys else (if l then ys else n ∷ ys)) y ≡ is_own s l
own_here true l n y ys e h = h
own_here false true n y ys e h = h
own_here false false n y ys e h = or_first (n == y) (has ys y) (number_test n y e)

borrowed_skip : (s l : Bool) (n y : ℕ) (ys : List ℕ) → (n ≡ y → ⊥) → has (if s then ys else (if l then n ∷ ys else ys)) y ≡ has ys y
borrowed_skip true l n y ys e = refl
borrowed_skip false false n y ys e = refl
borrowed_skip false true n y ys e = or_rest (n == y) (has ys y) (other_test n y e)

borrowed_here : (s l : Bool) (n y : ℕ) (ys : List ℕ) → n ≡ y → has ys y ≡ false → has (if s then ys else (if l then n ∷ ys else ys)) y ≡ is_borrowed s l
borrowed_here true l n y ys e h = h
borrowed_here false false n y ys e h = h
borrowed_here false true n y ys e h = or_first (n == y) (has ys y) (number_test n y e)

counted_skip : (s l : Bool) (n y : ℕ) (ys : List ℕ) → (n ≡ y → ⊥) → given y (if s || l then ys else n ∷ ys) ≡ given y ys
counted_skip true l n y ys e = refl
counted_skip false true n y ys e = refl
counted_skip false false n y ys e = let a = one_other n y e in omega arith

counted_here : (s l : Bool) (n y : ℕ) (ys : List ℕ) → n ≡ y → given y ys ≡ 0 → given y (if s || l then ys else n ∷ ys) ≡ (if is_own s l then 1 else 0)
counted_here true l n y ys e h = h
counted_here false true n y ys e h = h
counted_here false false n y ys e h = let a = one_same n y e in omega arith

known_skip : (p : Param) (n y : ℕ) (vs : List Known) → (n ≡ y → ⊥) → known (record { binder = n; number = n; ty = p.ty; owned = not p.lent } ∷ vs) y ≡ known vs y
known_skip p n y vs e = passed_over (n == y) (Some record { binder = n; number = n; ty = p.ty; owned = not p.lent }) (known vs y) (other_test n y e)

known_here : (p : Param) (n y : ℕ) (vs : List Known) → n ≡ y → known (record { binder = n; number = n; ty = p.ty; owned = not p.lent } ∷ vs) y ≡ Some record { binder = n; number = n; ty = p.ty; owned = not p.lent }
known_here p n y vs e = chosen (n == y) (Some record { binder = n; number = n; ty = p.ty; owned = not p.lent }) (known vs y) (number_test n y e)

twice : (b : Bool) → not (not b) ≡ b
twice true = refl
twice false = refl

pub where_is : (w : World) (n : ℕ) (ps : List Param) (bs : List Binder) (sc : Scalars) (ms : List Mark) (y : ℕ) → length bs ≡ length ps → AreNumbered n n bs → IsParameter w n ps bs sc ms y ⊎ IsNone w n ps bs sc ms y
where_is w n [] [] sc ms y e h = inr record { is_known = refl; scalar = refl; own = refl; borrowed = refl; counted = refl; marked = refl }
where_is w n (p ∷ ps) [] sc ms y e h = absurd (omega arith)
where_is w n [] (b ∷ bs) sc ms y e h = absurd (omega arith)
where_is w n (p ∷ ps) (b ∷ bs) sc ms y e h =
    let z : n + 1 ≡ suc n = omega arith in
    by (where_is w (suc n) ps bs (λ x. if n == x then w.scalar p.ty else sc x) (ms ++ mark n b ∷ []) y (omega arith) (subst (λ k. AreNumbered k k bs) z h.2)) (either (n == y))
  where
    next : suc n ≡ n + 1
    next = omega arith

    known_next : known (parameters (suc n) ps) y ≡ known (parameters (n + 1) ps) y
    known_next = ap (λ k. known (parameters k ps) y) next

    given_next : given y (A.owned_parameters w (n + 1) ps) ≡ given y (A.owned_parameters w (suc n) ps)
    given_next = ap (λ k. given y (A.owned_parameters w k ps)) (sym next)

    by : IsParameter w (suc n) ps bs (λ x. if n == x then w.scalar p.ty else sc x) (ms ++ mark n b ∷ []) y ⊎ IsNone w (suc n) ps bs (λ x. if n == x then w.scalar p.ty else sc x) (ms ++ mark n b ∷ []) y → ((n == y) ≡ true) ⊎ ((n == y) ≡ false) → IsParameter w n (p ∷ ps) (b ∷ bs) sc ms y ⊎ IsNone w n (p ∷ ps) (b ∷ bs) sc ms y
    by (inl r) k =
        let l = r.least in
        let m = r.most in
        let u : n ≡ y → ⊥ = λ e. omega arith in
        inl record {
          variable = r.variable;
          is_known = known_skip p n y (parameters (n + 1) ps) u ∙ sym known_next ∙ r.is_known;
          number = r.number;
          least = omega arith;
          most = omega arith;
          scalar = r.scalar;
          own = own_skip (w.scalar p.ty) p.lent n y (owned_parameters w (suc n) ps bs) u ∙ r.own;
          borrowed = borrowed_skip (w.scalar p.ty) p.lent n y (borrowed_parameters w (suc n) ps bs) u ∙ r.borrowed;
          counted = counted_skip (w.scalar p.ty) p.lent n y (A.owned_parameters w (n + 1) ps) u ∙ given_next ∙ r.counted;
          marked = r.marked;
        }
    by (inr r) (inl k) =
        let f = same_number n y k in
        let g : b.number ≡ y = h.0 ∙ f in
        inl record {
          variable = record { binder = n; number = n; ty = p.ty; owned = not p.lent };
          is_known = known_here p n y (parameters (n + 1) ps) f;
          number = f;
          least = omega arith;
          most = omega arith;
          scalar = r.scalar ∙ entered_here sc n y (w.scalar p.ty) f;
          own = own_here (w.scalar p.ty) p.lent n y (owned_parameters w (suc n) ps bs) f r.own ∙ ap (is_own (w.scalar p.ty)) (sym (twice p.lent));
          borrowed = borrowed_here (w.scalar p.ty) p.lent n y (borrowed_parameters w (suc n) ps bs) f r.borrowed ∙ ap (is_borrowed (w.scalar p.ty)) (sym (twice p.lent));
          counted = counted_here (w.scalar p.ty) p.lent n y (A.owned_parameters w (n + 1) ps) f (given_next ∙ r.counted) ∙ ap (λ (l : Bool). if is_own (w.scalar p.ty) l then 1 else 0) (sym (twice p.lent));
          marked = r.marked ∙ end_same ms (mark n b) y g ∙ ap (λ (m : ℕ). Some m) f;
        }
    by (inr r) (inr k) =
        let u = is_not n y k in
        let v : b.number ≡ y → ⊥ = λ e. u (sym h.0 ∙ e) in
        inr record {
          is_known = known_skip p n y (parameters (n + 1) ps) u ∙ sym known_next ∙ r.is_known;
          scalar = r.scalar ∙ entered_skip sc n y (w.scalar p.ty) u;
          own = own_skip (w.scalar p.ty) p.lent n y (owned_parameters w (suc n) ps bs) u ∙ r.own;
          borrowed = borrowed_skip (w.scalar p.ty) p.lent n y (borrowed_parameters w (suc n) ps bs) u ∙ r.borrowed;
          counted = counted_skip (w.scalar p.ty) p.lent n y (A.owned_parameters w (n + 1) ps) u ∙ given_next ∙ r.counted;
          marked = r.marked ∙ end_other ms (mark n b) y v;
        }

-- what a function's variables are
pub sees_header : (w : World) (ps : List Param) (bs : List Binder) (c : ℕ) → length bs ≡ length ps → AreNumbered 0 0 bs → length ps ≤ c → Sees w (record { variables = parameters 0 ps; lent = λ x. false }) c (length ps) (within (record { marks = []; next = 0 }) (S.parameters w ps bs)).marks (entering_parameters w 0 no_variables ps bs) (setting (owned_parameters w 0 ps bs) false (has (borrowed_parameters w 0 ps bs)))
sees_header w ps bs c e h l = record {
  marks = λ x. elim (where_is w 0 ps bs no_variables [] x e h) as (λ z. S.known (within (record { marks = []; next = 0 }) (S.parameters w ps bs)).marks x ≡ seen_as x (known (parameters 0 ps) x)) [
    | inl r ↦ r.marked ∙ ap (seen_as x) (sym r.is_known)
    | inr r ↦ r.marked ∙ ap (seen_as x) (sym r.is_known)
  ];
  scalars = λ x v k. elim (where_is w 0 ps bs no_variables [] x e h) as (λ z. entering_parameters w 0 no_variables ps bs x ≡ w.scalar v.ty) [
    | inl r ↦ r.scalar ∙ ap (λ (u : Known). w.scalar u.ty) (some_same (sym r.is_known ∙ k))
    | inr r ↦ absurd (let z : None ≡ Some v = sym r.is_known ∙ k in cc)
  ];
  lent = λ x v k q. elim (where_is w 0 ps bs no_variables [] x e h) as (λ z. setting (owned_parameters w 0 ps bs) false (has (borrowed_parameters w 0 ps bs)) x ≡ (not v.owned || false)) [
    | inl r ↦ lent_is x v r k q
    | inr r ↦ absurd (let z : None ≡ Some v = sym r.is_known ∙ k in cc)
  ];
  below = λ x v k. elim (where_is w 0 ps bs no_variables [] x e h) as (λ z. (x < c) × (v.number < length ps)) [
    | inl r ↦ (let i = ap (λ (u : Known). u.number) (some_same (sym r.is_known ∙ k)) in let j = r.number in let y = r.most in (omega arith, omega arith))
    | inr r ↦ absurd (let z : None ≡ Some v = sym r.is_known ∙ k in cc)
  ];
  apart = λ x y v u k j q. let a = numbered x v k in let b = numbered y u j in omega arith;
  unlent = λ n g. refl;
}
  where
    numbered : (x : ℕ) (v : Known) → known (parameters 0 ps) x ≡ Some v → v.number ≡ x
    numbered x v k = elim (where_is w 0 ps bs no_variables [] x e h) as (λ z. v.number ≡ x) [
      | inl r ↦ sym (ap (λ (u : Known). u.number) (some_same (sym r.is_known ∙ k))) ∙ r.number
      | inr r ↦ absurd (let z : None ≡ Some v = sym r.is_known ∙ k in cc)
    ]

    lent_is : (x : ℕ) (v : Known) → IsParameter w 0 ps bs no_variables [] x → known (parameters 0 ps) x ≡ Some v → w.scalar v.ty ≡ false → setting (owned_parameters w 0 ps bs) false (has (borrowed_parameters w 0 ps bs)) x ≡ (not v.owned || false)
    lent_is x v r k q =
        let i : r.variable ≡ v = some_same (sym r.is_known ∙ k) in
        let a = r.own ∙ ap (λ (u : Known). is_own (w.scalar u.ty) (not u.owned)) i ∙ ap (λ s. is_own s (not v.owned)) q in
        let b = r.borrowed ∙ ap (λ (u : Known). is_borrowed (w.scalar u.ty) (not u.owned)) i ∙ ap (λ s. is_borrowed s (not v.owned)) q in
        by v.owned (has (owned_parameters w 0 ps bs) x) (has (borrowed_parameters w 0 ps bs) x) a b
      where
        by : (o m n : Bool) → m ≡ is_own false (not o) → n ≡ is_borrowed false (not o) → (if m then false else n) ≡ (not o || false)
        by true true n e f = refl
        by true false n e f = absurd (cc)
        by false true n e f = absurd (cc)
        by false false n e f = f

-- what a function starts with
pub starts_env : (w : World) (d : Instance) (t : Tree) → length d.binders ≡ length d.params → AreNumbered 0 0 d.binders → ((i : Item) → root t i ≡ A.starting w d i) → (i : Item) → env (parameters 0 d.params) (root t) i ≡ F.starting (owned_parameters w 0 d.params d.binders) d.credits i
starts_env w d t e h s (Credit k) = s (Credit k)
starts_env w d t e h s (Own x) = elim (where_is w 0 d.params d.binders no_variables [] x e h) as (λ z. count_of (root t) (known (parameters 0 d.params) x) ≡ (if has (owned_parameters w 0 d.params d.binders) x then 1 else 0)) [
  | inl r ↦ ap (count_of (root t)) r.is_known ∙ ap (λ n. root t (Own n)) r.number ∙ s (Own x) ∙ r.counted ∙ ap (λ (b : Bool). if b then 1 else 0) (sym r.own)
  | inr r ↦ ap (count_of (root t)) r.is_known ∙ ap (λ (b : Bool). if b then 1 else 0) (sym r.own)
]
