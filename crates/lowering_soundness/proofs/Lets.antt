-- What is borrowed by what a let binds, and the let's variables come into scope.
use Rattle.std.proofs.Common.{◌≡◌, inl, inr, ℕ, suc, ◌+◌, ◌<◌, ◌≤◌, Bool, true, false, ◌||◌, List, [], ◌∷◌, ◌++◌, length, map, Option, Some, None, refl, sym, ap, ap₂, ◌∙◌, subst, true≢false, arith, append_assoc, if◌then◌else◌, ◌==◌}
use Rattle.std.specs.Prelude.{nat_lt}
use Rattle.separation.specs.fip_language.Table.{Table}
use Rattle.lowering_relation.specs.fip_trees.declared.program.Binder.{Binder}
use Rattle.derivation_making.specs.fip_rules.World as R
use Rattle.derivation_making.specs.type_check.Binders.{entry, entries}
use Rattle.derivation_making.specs.type_check.Found.{or_found}
use Rattle.derivation_making.specs.type_check.Scope.{Scope, of_binder}
use Rattle.derivation_making.specs.type_check.Typing.{Bind, Annotated}
use Rattle.derivation_making.specs.ownership_calculus.Terms.{Item, Own, Credit, has, one, given}
use Rattle.derivation_making.specs.ownership_calculus.Rules.{Fits, lending}
use Rattle.derivation_making.specs.ownership_calculus.Rules as O
use Rattle.derivation_making.specs.ownership_calculus.ByCases.{Opens}
use Rattle.derivation_making.proofs.ownership_calculus.Fit.{fits_same}
use Rattle.derivation_making.specs.ownership_agreement.Bodies.{variables}
use Rattle.derivation_making.proofs.ownership_agreement.Basics.{not_owned}
use Rattle.separation.specs.cell_code.Plain.{PlainCode}
use Rattle.separation.specs.code_rules.Types.{is_type, is_scalar_type}
use Rattle.separation.proofs.separation_kinds.Basics.{chosen, refused, or_not, less_or_not, equal, equal_is, unequal, unequal_is, below, one_of}
use Rattle.lowering_relation.specs.declared.held.Held.{Held}
use Rattle.lowering_relation.specs.declared.held.Held.TheVariants as H
use Rattle.lowering_relation.specs.Known.{Known, register_of}
use Rattle.lowering_relation.specs.Describing.{held_at}
use Rattle.lowering_soundness.specs.Giving.{is_owned_of}
use Rattle.lowering_soundness.specs.Ties.{one_if, owners, own, is_read_of, LiesIn, Ties}
use Rattle.lowering_soundness.specs.Placed.{NoneFrom, InOrder, AreTypes}
use Rattle.lowering_soundness.proofs.Owners.{owners_least}
use Rattle.lowering_soundness.proofs.Scoping.{entries_of, SlotsHold, old_there}
use Rattle.lowering_soundness.proofs.Naming.{sole, soles, sole_credit, Unborrowed}
use Rattle.lowering_soundness.proofs.Tying.{lies_scalar as scalar_lies}

-- ---- fewer variables in scope, or fewer that are borrowed

pub ties_within : (fip : Bool) (w : Table) (s z : Scope) (B D : ℕ → Bool) (K L : ℕ → Item → ℕ) (T : Item → ℕ) (e : ℕ → ℕ) (k : Known) → Ties fip w s B K T e k → ((x u : ℕ) → of_binder z (Some x) ≡ Some (Some u) → of_binder s (Some x) ≡ Some (Some u)) → ((x u : ℕ) → of_binder z (Some x) ≡ Some (Some u) → D x ≡ true → (B x ≡ true) × (L x ≡ K x)) → Ties fip w z D L T e k
ties_within fip w s z B D K L T e k t inside fewer = record {
  variables = λ x r u n o. (let v = t.variables x r u n (inside x u o) in record {
    scalar = v.scalar;
    owned = v.owned;
    read = λ a b. v.read a (fewer x u o b).0;
  });
  trees = t.trees;
  lent = λ x r u n o b. (let y = fewer x u o b in subst (λ m. LiesIn (owners k.names (own m)) r (held_at k.held r)) (sym y.1) (t.lent x r u n (inside x u o) y.0));
  rooted = t.rooted;
  bares = t.bares;
  sizes = t.sizes;
  credits = t.credits;
  fresh = t.fresh;
  named = t.named;
}

-- ---- what the body of a let gets is borrowed by what it binds

owned_read : (t : ℕ) (h : Held) → is_owned_of t h ≡ true → is_read_of t h ≡ true
owned_read t H.Nothing e = e
owned_read t (H.Scalar u) e = e
owned_read t (H.Owned u b) e = e
owned_read t (H.Lent u root) e = absurd (true≢false (sym e))
owned_read t (H.Credit n) e = e
owned_read t (H.Bare u c) e = e

owned_lies : (n : ℕ → ℕ) (r t : ℕ) (h : Held) → is_owned_of t h ≡ true → 1 ≤ n r → LiesIn n r h
owned_lies n r t H.Nothing e m = tt
owned_lies n r t (H.Scalar u) e m = tt
owned_lies n r t (H.Owned u b) e m = m
owned_lies n r t (H.Lent u root) e m = absurd (true≢false (sym e))
owned_lies n r t (H.Credit k) e m = tt
owned_lies n r t (H.Bare u c) e m = tt

abbrev pub lent_in : (ℕ → Bool) → (ℕ → Item → ℕ) → (Item → ℕ) → ℕ → Item → ℕ
lent_in B K R x = if B x then K x else R

pub ties_lending : (fip : Bool) (w : Table) (s : Scope) (B : ℕ → Bool) (K : ℕ → Item → ℕ) (T R : Item → ℕ) (e : ℕ → ℕ) (k : Known) → ((x : ℕ) → R (Own x) ≤ T (Own x)) → Ties fip w s B K T e k → Ties fip w s (lending B R) (lent_in B K R) T e k
ties_lending fip w s B K T R e k less t = record {
  variables = λ x r u n o. (let v = t.variables x r u n o in record {
    scalar = v.scalar;
    owned = v.owned;
    read = λ a b. elim (or_not (B x)) as (λ v. is_read_of u (held_at k.held r) ≡ true) [
      | inl y ↦ v.read a y
      | inr y ↦ owned_read u (held_at k.held r) (v.owned a (let z = less x in let p = positive x y b in omega (arith, z, p)))
    ];
  });
  trees = t.trees;
  lent = λ x r u n o b. elim (or_not (B x)) as (λ v. LiesIn (owners k.names (own (lent_in B K R x))) r (held_at k.held r)) [
    | inl y ↦ subst (λ m. LiesIn (owners k.names (own m)) r (held_at k.held r)) (sym (chosen (B x) (K x) R y)) (t.lent x r u n o y)
    | inr y ↦ subst (λ m. LiesIn (owners k.names (own m)) r (held_at k.held r)) (sym (refused (B x) (K x) R y)) (own_lies x r u n o (positive x y b))
  ];
  rooted = t.rooted;
  bares = t.bares;
  sizes = t.sizes;
  credits = t.credits;
  fresh = t.fresh;
  named = t.named;
}
  where
    positive : (x : ℕ) → B x ≡ false → lending B R x ≡ true → 1 ≤ R (Own x)
    positive x y b = elim (one_of (B x) (nat_lt 0 (R (Own x))) b) as (λ v. 1 ≤ R (Own x)) [
      | inl z ↦ absurd (true≢false (sym z ∙ y))
      | inr z ↦ (let i = below 0 (R (Own x)) z in omega (arith, i))
    ]

    own_lies : (x r u : ℕ) → register_of k.names (Some x) ≡ Some r → of_binder s (Some x) ≡ Some (Some u) → 1 ≤ R (Own x) → LiesIn (owners k.names (own R)) r (held_at k.held r)
    own_lies x r u n o m = elim (or_not (is_scalar_type w u)) as (λ v. LiesIn (owners k.names (own R)) r (held_at k.held r)) [
      | inl y ↦ scalar_lies (owners k.names (own R)) r u (held_at k.held r) ((t.variables x r u n o).scalar y)
      | inr y ↦ owned_lies (owners k.names (own R)) r u (held_at k.held r) ((t.variables x r u n o).owned y (let z = less x in omega (arith, z, m))) (let z = owners_least k.names (own R) x r n in omega (arith, z, m))
    ]

-- ---- scopes

pub scope_later : (s : Scope) (n : ℕ) (bs : List Binder) (ts : List ℕ) (x : ℕ) → InOrder n bs → x < n → of_binder (s ++ entries_of bs ts) (Some x) ≡ of_binder s (Some x)
scope_later s n [] ts x order low = ap (λ s. of_binder s (Some x)) (append_none s)
  where
    append_none : (s : Scope) → s ++ [] ≡ s
    append_none [] = refl
    append_none (e ∷ s) = ap (λ s. e ∷ s) (append_none s)
scope_later s n (b ∷ bs) [] x order low = ap (λ s. of_binder s (Some x)) (append_none s)
  where
    append_none : (s : Scope) → s ++ [] ≡ s
    append_none [] = refl
    append_none (e ∷ s) = ap (λ s. e ∷ s) (append_none s)
scope_later s n (b ∷ bs) (t ∷ ts) x order low =
    ap (λ s. of_binder s (Some x)) (sym (append_assoc s (entry (Some t) b ∷ []) (entries_of bs ts)))
    ∙ (scope_later (s ++ entry (Some t) b ∷ []) (suc n) bs ts x order.1 (omega (arith, low))
    ∙ old_there s b t x (λ e. absurd (let y = order.0 in let z : ⊥ = omega (arith, e, y, low) in z)))

-- the variables of a let's binders
pub entries_same : (bs : List Binder) (ts : List ℕ) → Bind true bs ts → entries bs (map Some ts) ≡ entries_of bs ts
entries_same [] [] h = refl
entries_same [] (t ∷ ts) h = absurd h
entries_same (b ∷ bs) [] h = absurd h
entries_same (b ∷ bs) (t ∷ ts) h =
    ap₂ (λ o es. entry o b ∷ es) (found b.annotation t h.0.0) (entries_same bs ts h.1)
  where
    found : (a : Option ℕ) (t : ℕ) → Annotated a t → or_found a (Some t) ≡ Some t
    found None t h = refl
    found (Some u) t h = ap Some h

pub bind_many : (bs : List Binder) (ts : List ℕ) → Bind true bs ts → length bs ≡ length ts
bind_many [] [] h = refl
bind_many [] (t ∷ ts) h = absurd h
bind_many (b ∷ bs) [] h = absurd h
bind_many (b ∷ bs) (t ∷ ts) h = ap suc (bind_many bs ts h.1)

pub bind_slots : (c : PlainCode) (bs : List Binder) (ts : List ℕ) → Bind true bs ts → AreTypes c ts → SlotsHold c bs ts
bind_slots c [] [] h a = tt
bind_slots c [] (t ∷ ts) h a = absurd h
bind_slots c (b ∷ bs) [] h a = absurd h
bind_slots c (b ∷ bs) (t ∷ ts) h a = ((h.0.1, a.0), bind_slots c bs ts h.1 a.1)

-- ---- what the variables of binders are owned

one_is : (x y : ℕ) → x ≡ y → one x y ≡ 1
one_is x y e = chosen (x == y) 1 0 (equal_is x y e)

one_isnt : (x y : ℕ) → (x ≡ y → ⊥) → one x y ≡ 0
one_isnt x y ne = refused (x == y) 1 0 (unequal_is x y ne)

pub soles_credit : (w : Table) (n : ℕ) (ts : List ℕ) (k : ℕ) → soles w n ts (Credit k) ≡ 0
soles_credit w n [] k = refl
soles_credit w n (t ∷ ts) k = let a = sole_credit w t n k in let b = soles_credit w (suc n) ts k in omega (arith, a, b)

module _ (c : PlainCode) (w : R.World) (scalars : (t : ℕ) → is_type c.types t ≡ true → w.scalar t ≡ is_scalar_type c.types t) where
  -- each that isn't scalar is owned once
  pub soles_has : (n : ℕ) (bs : List Binder) (ts : List ℕ) (y : ℕ) → SlotsHold c bs ts → soles c.types n ts (Own y) ≡ one_if (has (variables w n bs) y)
  soles_has n [] [] y h = refl
  soles_has n [] (t ∷ ts) y h = absurd h
  soles_has n (b ∷ bs) [] y h = absurd h
  soles_has n (b ∷ bs) (t ∷ ts) y h = by (is_scalar_type c.types t) refl (soles_has (suc n) bs ts y h.1)
    where
      scalar : w.scalar b.ty ≡ is_scalar_type c.types t
      scalar = ap w.scalar h.0.0 ∙ scalars t h.0.1

      by : (b' : Bool) → is_scalar_type c.types t ≡ b' → soles c.types (suc n) ts (Own y) ≡ one_if (has (variables w (suc n) bs) y) → (sole c.types t n (Own y) + soles c.types (suc n) ts (Own y)) ≡ one_if (has (variables w n (b ∷ bs)) y)
      by true e rest =
          let a : sole c.types t n (Own y) ≡ 0 = chosen (is_scalar_type c.types t) 0 (one n y) e in
          let z : sole c.types t n (Own y) + soles c.types (suc n) ts (Own y) ≡ soles c.types (suc n) ts (Own y) = omega (arith, a) in
          z ∙ (rest ∙ ap (λ ys. one_if (has ys y)) (sym (chosen (w.scalar b.ty) (variables w (suc n) bs) (n ∷ variables w (suc n) bs) (scalar ∙ e))))
      by false e rest =
          let a : sole c.types t n (Own y) ≡ one n y = refused (is_scalar_type c.types t) 0 (one n y) e in
          let z : sole c.types t n (Own y) + soles c.types (suc n) ts (Own y) ≡ one n y + one_if (has (variables w (suc n) bs) y) = omega (arith, a, rest) in
          z ∙ (both ∙ ap (λ ys. one_if (has ys y)) (sym (refused (w.scalar b.ty) (variables w (suc n) bs) (n ∷ variables w (suc n) bs) (scalar ∙ e))))
        where
          both : one n y + one_if (has (variables w (suc n) bs) y) ≡ one_if ((n == y) || has (variables w (suc n) bs) y)
          both = elim (or_not (n == y)) as (λ v. one n y + one_if (has (variables w (suc n) bs) y) ≡ one_if ((n == y) || has (variables w (suc n) bs) y)) [
            | inl same ↦
                (let z = equal n y same in
                let a = one_is n y z in
                let b : one_if (has (variables w (suc n) bs) y) ≡ 0 = ap one_if (not_owned w (suc n) y bs (omega (arith, z))) in
                let l : one n y + one_if (has (variables w (suc n) bs) y) ≡ 1 = omega (arith, a, b) in
                l ∙ ap (λ b. one_if (b || has (variables w (suc n) bs) y)) (sym same))
            | inr other ↦
                (let a = one_isnt n y (unequal n y other) in
                let l : one n y + one_if (has (variables w (suc n) bs) y) ≡ one_if (has (variables w (suc n) bs) y) = omega (arith, a) in
                l ∙ ap (λ b. one_if (b || has (variables w (suc n) bs) y)) (sym other))
          ]

  pub has_from : (n : ℕ) (bs : List Binder) (y : ℕ) → has (variables w n bs) y ≡ true → n ≤ y
  has_from n bs y h = elim (less_or_not y n) as (λ v. n ≤ y) [
    | inl low ↦ absurd (true≢false (sym h ∙ not_owned w n y bs low))
    | inr e ↦ e
  ]

  -- what the let's body gets
  pub opens_fits : (fip : Bool) (n : ℕ) (bs : List Binder) (ts : List ℕ) (R Q : Item → ℕ) → Opens fip true (variables w n bs) [] R Q → NoneFrom n R → SlotsHold c bs ts → (i : Item) → Fits fip (R i + soles c.types n ts i) (Q i)
  opens_fits fip n bs ts R Q opens none slots (Credit k) =
      let a = soles_credit c.types n ts k in
      let z : R (Credit k) + given k [] ≡ R (Credit k) + soles c.types n ts (Credit k) = omega (arith, a) in
      subst (λ m. Fits fip m (Q (Credit k))) z (opens.credits k)
  opens_fits fip n bs ts R Q opens none slots (Own y) = elim (or_not (has (variables w n bs) y)) as (λ v. Fits fip (R (Own y) + soles c.types n ts (Own y)) (Q (Own y))) [
    | inl h ↦
        (let a = none y (has_from n bs y h) in
        let b = soles_has n bs ts y slots ∙ ap one_if h in
        let d = opens.bound y h in
        let z : Q (Own y) ≡ R (Own y) + soles c.types n ts (Own y) = omega (arith, a, b, d) in
        subst (λ m. Fits fip m (Q (Own y))) z (fits_same fip (Q (Own y))))
    | inr h ↦
        (let b = soles_has n bs ts y slots ∙ ap one_if h in
        let z : R (Own y) ≡ R (Own y) + soles c.types n ts (Own y) = omega (arith, b) in
        subst (λ m. Fits fip m (Q (Own y))) z (opens.others y h))
  ]

  -- none of them is borrowed
  pub unborrowed : (fip : Bool) (K : ℕ → Item → ℕ) (B : ℕ → Bool) (n : ℕ) (bs : List Binder) (ts : List ℕ) → SlotsHold c bs ts → Unborrowed fip c.types (O.setting (variables w n bs) false B) K n ts
  unborrowed fip K B n bs ts slots = from n bs ts slots (λ y h. chosen (has (variables w n bs) y) false (B y) h)
    where
      from : (m : ℕ) (ds : List Binder) (us : List ℕ) → SlotsHold c ds us → ((y : ℕ) → has (variables w m ds) y ≡ true → O.setting (variables w n bs) false B y ≡ false) → Unborrowed fip c.types (O.setting (variables w n bs) false B) K m us
      from m [] [] h all = tt
      from m [] (u ∷ us) h all = absurd h
      from m (d ∷ ds) [] h all = absurd h
      from m (d ∷ ds) (u ∷ us) h all =
          ((λ e. all m (first e)), from (suc m) ds us h.1 (λ y z. all y (later y z)))
        where
          scalar : w.scalar d.ty ≡ is_scalar_type c.types u
          scalar = ap w.scalar h.0.0 ∙ scalars u h.0.1

          first : is_scalar_type c.types u ≡ false → has (variables w m (d ∷ ds)) m ≡ true
          first e = ap (λ ys. has ys m) (refused (w.scalar d.ty) (variables w (suc m) ds) (m ∷ variables w (suc m) ds) (scalar ∙ e)) ∙ ap (λ b. b || has (variables w (suc m) ds) m) (equal_is m m refl)

          or_true : (a b : Bool) → b ≡ true → (a || b) ≡ true
          or_true true b e = refl
          or_true false b e = e

          later : (y : ℕ) → has (variables w (suc m) ds) y ≡ true → has (variables w m (d ∷ ds)) y ≡ true
          later y z = elim (or_not (w.scalar d.ty)) as (λ v. has (variables w m (d ∷ ds)) y ≡ true) [
            | inl e ↦ ap (λ ys. has ys y) (chosen (w.scalar d.ty) (variables w (suc m) ds) (m ∷ variables w (suc m) ds) e) ∙ z
            | inr e ↦ ap (λ ys. has ys y) (refused (w.scalar d.ty) (variables w (suc m) ds) (m ∷ variables w (suc m) ds) e) ∙ or_true (m == y) (has (variables w (suc m) ds) y) z
          ]
