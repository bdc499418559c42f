-- Values in registers get names: what is known of registers goes with the variables in scope, and with the new ones.
use Rattle.std.proofs.Common.{◌≡◌, ◌⊎◌, inl, inr, ℕ, zero, suc, ◌+◌, ◌<◌, ◌≤◌, Bool, true, false, List, [], ◌∷◌, ◌++◌, length, Option, Some, refl, sym, ap, ◌∙◌, subst, subst₂, true≢false, arith, append_assoc, if◌then◌else◌, ◌==◌}
use Rattle.separation.specs.fip_language.Table.{Table}
use Rattle.lowering_relation.specs.fip_trees.declared.program.Binder.{Binder}
use Rattle.derivation_making.specs.type_check.Binders.{entry}
use Rattle.derivation_making.specs.type_check.Scope.{Scope, of_binder}
use Rattle.derivation_making.specs.ownership_calculus.Terms.{Item, Own, Credit, only, one}
use Rattle.derivation_making.specs.ownership_calculus.Rules.{Fits}
use Rattle.separation.specs.code_rules.Types.{is_scalar_type}
use Rattle.separation.proofs.separation_kinds.Basics.{chosen, refused, or_not, less_or_not, equal, unequal, unequal_is}
use Rattle.lowering_relation.specs.declared.held.Held.{Held}
use Rattle.lowering_relation.specs.declared.held.Held.TheVariants as H
use Rattle.lowering_relation.specs.Known.{Known, register_of, named, naming}
use Rattle.lowering_relation.specs.LoweredBodies.{with_names}
use Rattle.lowering_relation.proofs.LoweredLists.{same_some}
use Rattle.lowering_relation.specs.Describing.{held_at, is_tree}
use Rattle.lowering_soundness.specs.Ties.{one_if, is_register, owners, own, HoldsValue, AllHold, owe, owed, HoldsVariable, LiesIn, Ties}
use Rattle.lowering_soundness.specs.Placed.{NoneFrom, InOrder}
use Rattle.lowering_soundness.proofs.Owners.{owners_same, owners_sum, owners_only, owners_none}
use Rattle.lowering_soundness.proofs.Writing.{is_given, value_given}
use Rattle.lowering_soundness.proofs.Arguments.{ties_owe, ties_worth}
use Rattle.lowering_soundness.proofs.Scoping.{entries_of, new_or_old}
use Rattle.tail_groups.proofs.fip_language.Facts.{if_zero_zero as cond_none}
use Rattle.lowering_soundness.proofs.Tying.{lies_scalar}

-- ---- names

pub register_new : (names : List (Option ℕ)) (x r : ℕ) → x < length names → register_of (named names x r) (Some x) ≡ Some r
register_new [] x r h = absurd (omega (arith, h))
register_new (o ∷ os) zero r h = refl
register_new (o ∷ os) (suc x) r h = register_new os x r (omega (arith, h))

pub register_old : (names : List (Option ℕ)) (x r y : ℕ) → (x ≡ y → ⊥) → register_of (named names x r) (Some y) ≡ register_of names (Some y)
register_old [] x r y ne = refl
register_old (o ∷ os) zero r zero ne = absurd (ne refl)
register_old (o ∷ os) zero r (suc y) ne = refl
register_old (o ∷ os) (suc x) r zero ne = refl
register_old (o ∷ os) (suc x) r (suc y) ne = register_old os x r y (λ e. ne (ap suc e))

pub length_named : (names : List (Option ℕ)) (x r : ℕ) → length (named names x r) ≡ length names
length_named [] x r = refl
length_named (o ∷ os) zero r = refl
length_named (o ∷ os) (suc x) r = ap suc (length_named os x r)

-- of a variable of which nothing is owned it doesn't matter which register it has
pub owners_renamed : (names : List (Option ℕ)) (T : ℕ → ℕ) (x r q : ℕ) → T x ≡ 0 → owners (named names x r) T q ≡ owners names T q
owners_renamed [] T x r q e = refl
owners_renamed (o ∷ os) T zero r q e =
    let a = cond_none (is_register (Some r) q) (T 0) e in
    let b = cond_none (is_register o q) (T 0) e in
    omega (arith, a, b)
owners_renamed (o ∷ os) T (suc x) r q e =
    let z = owners_renamed os (λ y. T (suc y)) x r q e in
    omega (arith, z)

-- ---- what is new

-- one owned variable, unless its type is scalar
abbrev pub sole : Table → ℕ → ℕ → Item → ℕ
sole w t x i = if is_scalar_type w t then 0 else only x i

abbrev pub soles : Table → ℕ → List ℕ → Item → ℕ
soles w n [] i = 0
soles w n (t ∷ ts) i = sole w t n i + soles w (suc n) ts i

sole_is : (w : Table) (t x : ℕ) (i : Item) → is_scalar_type w t ≡ true → sole w t x i ≡ 0
sole_is w t x i e = chosen (is_scalar_type w t) 0 (only x i) e

sole_not : (w : Table) (t x : ℕ) (i : Item) → is_scalar_type w t ≡ false → sole w t x i ≡ only x i
sole_not w t x i e = refused (is_scalar_type w t) 0 (only x i) e

one_other : (x y : ℕ) → (x ≡ y → ⊥) → one x y ≡ 0
one_other x y ne = refused (x == y) 1 0 (unequal_is x y ne)

pub sole_other : (w : Table) (t x y : ℕ) → (x ≡ y → ⊥) → sole w t x (Own y) ≡ 0
sole_other w t x y ne = elim (or_not (is_scalar_type w t)) as (λ v. sole w t x (Own y) ≡ 0) [
  | inl e ↦ sole_is w t x (Own y) e
  | inr e ↦ sole_not w t x (Own y) e ∙ one_other x y ne
]

pub sole_credit : (w : Table) (t x n : ℕ) → sole w t x (Credit n) ≡ 0
sole_credit w t x n = elim (or_not (is_scalar_type w t)) as (λ v. sole w t x (Credit n) ≡ 0) [
  | inl e ↦ sole_is w t x (Credit n) e
  | inr e ↦ sole_not w t x (Credit n) e
]

given_not_nothing : (h : Held) → is_given h ≡ true → h ≡ H.Nothing → ⊥
given_not_nothing h e z = true≢false (sym e ∙ ap is_given z)

module _ (fip : Bool) (w : Table) (B : ℕ → Bool) (K : ℕ → Item → ℕ) where
  -- the register of a new variable owns its tree
  owners_new : (names : List (Option ℕ)) (T : Item → ℕ) (x r t q : ℕ) → x < length names → T (Own x) ≡ 0 → owners (named names x r) (own (λ i. T i + sole w t x i)) q ≡ owners names (own T) q + owe w t r q
  owners_new names T x r t q within none =
      let parts = owners_sum (named names x r) (own T) (own (sole w t x)) q in
      let before = owners_renamed names (own T) x r q none in
      let new = elim (or_not (is_scalar_type w t)) as (λ v. owners (named names x r) (own (sole w t x)) q ≡ owe w t r q) [
        | inl e ↦ owners_none (named names x r) (own (sole w t x)) q (λ y. sole_is w t x (Own y) e) ∙ sym (chosen (is_scalar_type w t) 0 (one_if (r == q)) e)
        | inr e ↦ owners_same (named names x r) (own (sole w t x)) (one x) q (λ y. sole_not w t x (Own y) e) ∙ (owners_only (named names x r) x r q (register_new names x r within) ∙ sym (refused (is_scalar_type w t) 0 (one_if (r == q)) e))
      ] in
      omega (arith, parts, before, new)

  -- one value gets a name
  pub name_one : (s : Scope) (T : Item → ℕ) (e : ℕ → ℕ) (k : Known) (b : Binder) (n r t : ℕ) → Ties fip w s B K T (λ q. owe w t r q + e q) k → HoldsValue w t (held_at k.held r) → ((x u : ℕ) → of_binder s (Some x) ≡ Some (Some u) → x < n) → NoneFrom n T → ((z y : ℕ) → K z (Own y) ≤ T (Own y)) → (is_scalar_type w t ≡ false → B n ≡ false) → n < length k.names → b.number ≡ n → Ties fip w (s ++ entry (Some t) b ∷ []) B K (λ i. T i + sole w t n i) e (naming k b.number r)
  name_one s T e k b n r t ties v before none kept owned within number = subst (λ x. Ties fip w (s ++ entry (Some t) b ∷ []) B K (λ i. T i + sole w t n i) e (naming k x r)) (sym number) (record {
    variables = variable;
    trees = λ q. subst (Fits fip (one_if (is_tree (held_at k.held q)))) (let z = owners_new k.names T n r t q within (none n (omega arith)) in omega (arith, z)) (ties.trees q);
    lent = lying;
    rooted = ties.rooted;
    bares = ties.bares;
    sizes = λ m. subst (Fits fip (Rattle.lowering_soundness.specs.Ties.sized m k.credits)) (let z = sole_credit w t n m in omega (arith, z)) (ties.sizes m);
    credits = ties.credits;
    fresh = ties.fresh;
    named = λ x p h. elim (or_not (n == x)) as (λ v. suc p ≤ k.next) [
      | inl y ↦ elim (less_or_not p k.next) as (λ v. suc p ≤ k.next) [
        | inl less ↦ omega (arith, less)
        | inr past ↦ absurd (given_not_nothing (held_at k.held r) (value_given w t (held_at k.held r) v) (ties.fresh r (let z = same_register x p y h in omega (arith, past, z))))
      ]
      | inr y ↦ ties.named x p (sym (register_old k.names n r x (unequal n x y)) ∙ h)
    ];
  })
    where
      same_register : (x p : ℕ) → (n == x) ≡ true → register_of (named k.names n r) (Some x) ≡ Some p → r ≡ p
      same_register x p y h = same_some r p (sym (register_new k.names n r within) ∙ (ap (λ x. register_of (named k.names n r) (Some x)) (equal n x y) ∙ h))

      scope : (x u : ℕ) → of_binder (s ++ entry (Some t) b ∷ []) (Some x) ≡ Some (Some u) → ((n ≡ x) × (t ≡ u)) ⊎ ((n ≡ x → ⊥) × (of_binder s (Some x) ≡ Some (Some u)))
      scope x u h = elim (new_or_old s b t x u h) as (λ v. ((n ≡ x) × (t ≡ u)) ⊎ ((n ≡ x → ⊥) × (of_binder s (Some x) ≡ Some (Some u)))) [
        | inl y ↦ inl (sym number ∙ y.0, y.1)
        | inr y ↦ inr ((λ z. y.0 (number ∙ z)), y.1)
      ]

      same_register_by : (x p : ℕ) → n ≡ x → register_of (named k.names n r) (Some x) ≡ Some p → r ≡ p
      same_register_by x p y h = same_some r p (sym (register_new k.names n r within) ∙ (ap (λ x. register_of (named k.names n r) (Some x)) y ∙ h))

      variable : (x p u : ℕ) → register_of (named k.names n r) (Some x) ≡ Some p → of_binder (s ++ entry (Some t) b ∷ []) (Some x) ≡ Some (Some u) → HoldsVariable w u (held_at k.held p) (T (Own x) + sole w t n (Own x)) (B x)
      variable x p u h o = elim (scope x u o) as (λ v. HoldsVariable w u (held_at k.held p) (T (Own x) + sole w t n (Own x)) (B x)) [
        | inl y ↦
            (let value : HoldsValue w u (held_at k.held p) = subst₂ (λ u p. HoldsValue w u (held_at k.held p)) y.1 (same_register_by x p y.0 h) v in
            record {
              scalar = value.scalar;
              owned = λ a m. value.owned a;
              read = λ a m. absurd (true≢false (sym m ∙ (ap B (sym y.0) ∙ owned (ap (is_scalar_type w) y.1 ∙ a))));
            })
        | inr y ↦
            (let was = ties.variables x p u (sym (register_old k.names n r x y.0) ∙ h) y.1 in
            let z = sole_other w t n x y.0 in
            record {
              scalar = was.scalar;
              owned = λ a m. was.owned a (omega (arith, m, z));
              read = was.read;
            })
      ]

      lying : (x p u : ℕ) → register_of (named k.names n r) (Some x) ≡ Some p → of_binder (s ++ entry (Some t) b ∷ []) (Some x) ≡ Some (Some u) → B x ≡ true → LiesIn (owners (named k.names n r) (own (K x))) p (held_at k.held p)
      lying x p u h o m = elim (scope x u o) as (λ v. LiesIn (owners (named k.names n r) (own (K x))) p (held_at k.held p)) [
        | inl y ↦ elim (or_not (is_scalar_type w t)) as (λ v. LiesIn (owners (named k.names n r) (own (K x))) p (held_at k.held p)) [
          | inl a ↦ lies_scalar (owners (named k.names n r) (own (K x))) p t (held_at k.held p) (ap (held_at k.held) (sym (same_register_by x p y.0 h)) ∙ v.scalar a)
          | inr a ↦ absurd (true≢false (sym m ∙ (ap B (sym y.0) ∙ owned a)))
        ]
        | inr y ↦
            (let same : owners k.names (own (K x)) ≡ owners (named k.names n r) (own (K x)) = λ i q. sym (owners_renamed k.names (own (K x)) n r q (let z = kept x n in let y = none n (omega arith) in omega (arith, z, y))) i in
            subst (λ f. LiesIn f p (held_at k.held p)) same (ties.lent x p u (sym (register_old k.names n r x y.0) ∙ h) y.1 m))
      ]

  -- of variables from n on none is borrowed, unless it is scalar
  abbrev pub Unborrowed : ℕ → List ℕ → Type 0
  Unborrowed n [] = Unit {0}
  Unborrowed n (t ∷ ts) = (is_scalar_type w t ≡ false → B n ≡ false) × Unborrowed (suc n) ts

  pub scope_one : (s : Scope) (b : Binder) (n t : ℕ) → b.number ≡ n → ((x u : ℕ) → of_binder s (Some x) ≡ Some (Some u) → x < n) → (x u : ℕ) → of_binder (s ++ entry (Some t) b ∷ []) (Some x) ≡ Some (Some u) → x < suc n
  scope_one s b n t number before x u h = elim (new_or_old s b t x u h) as (λ v. x < suc n) [
    | inl e ↦ (let z = e.0 in omega (arith, z, number))
    | inr e ↦ (let z = before x u e.1 in omega (arith, z))
  ]

  none_more : (n t : ℕ) (T : Item → ℕ) → NoneFrom n T → NoneFrom (suc n) (λ i. T i + sole w t n i)
  none_more n t T none y low =
      let a = none y (omega (arith, low)) in
      let b = sole_other w t n y (λ e. absurd (let z : ⊥ = omega (arith, e, low) in z)) in
      omega (arith, a, b)

  append_none : (s : Scope) → s ++ [] ≡ s
  append_none [] = refl
  append_none (e ∷ s) = ap (λ s. e ∷ s) (append_none s)

  -- values get names
  pub name_all : (s : Scope) (T : Item → ℕ) (e : ℕ → ℕ) (k : Known) (bs : List Binder) (n : ℕ) (rs ts : List ℕ) → Ties fip w s B K T (λ q. owed w rs ts q + e q) k → AllHold w (held_at k.held) rs ts → ((x u : ℕ) → of_binder s (Some x) ≡ Some (Some u) → x < n) → NoneFrom n T → ((z y : ℕ) → K z (Own y) ≤ T (Own y)) → Unborrowed n ts → n + length bs ≤ length k.names → InOrder n bs → length bs ≡ length ts → Ties fip w (s ++ entries_of bs ts) B K (λ i. T i + soles w n ts i) e (with_names k bs rs)
  name_all s T e k [] n [] [] ties hold before none kept un within order many =
      subst (λ s. Ties fip w s B K (λ i. T i + 0) e k) (sym (append_none s))
      (ties_worth fip w s B K T (λ i. T i + 0) e k (λ i. omega arith) (ties_owe fip w s B K T (λ q. 0 + e q) e k (λ q. omega arith) ties))
  name_all s T e k [] n (r ∷ rs) [] ties hold before none kept un within order many = absurd hold
  name_all s T e k [] n rs (t ∷ ts) ties hold before none kept un within order many = absurd (omega (arith, many))
  name_all s T e k (b ∷ bs) n rs [] ties hold before none kept un within order many = absurd (omega (arith, many))
  name_all s T e k (b ∷ bs) n [] (t ∷ ts) ties hold before none kept un within order many = absurd hold
  name_all s T e k (b ∷ bs) n (r ∷ rs) (t ∷ ts) ties hold before none kept un within order many =
      let first = name_one s T (λ q. owed w rs ts q + e q) k b n r t (ties_owe fip w s B K T (λ q. (owe w t r q + owed w rs ts q) + e q) (λ q. owe w t r q + (owed w rs ts q + e q)) k (λ q. omega arith) ties) hold.0 before none kept un.0 (omega (arith, within)) order.0 in
      let wide = length_named k.names b.number r in
      let rest = name_all (s ++ entry (Some t) b ∷ []) (λ i. T i + sole w t n i) e (naming k b.number r) bs (suc n) rs ts first hold.1 (scope_one s b n t order.0 before) (none_more n t T none)
      (λ z y. let a = kept z y in omega (arith, a)) un.1 (omega (arith, within, wide)) order.1 (omega (arith, many)) in
      subst (λ s. Ties fip w s B K (λ i. T i + (sole w t n i + soles w (suc n) ts i)) e (with_names k (b ∷ bs) (r ∷ rs))) (append_assoc s (entry (Some t) b ∷ []) (entries_of bs ts))
      (ties_worth fip w ((s ++ entry (Some t) b ∷ []) ++ entries_of bs ts) B K (λ i. (T i + sole w t n i) + soles w (suc n) ts i) (λ i. T i + (sole w t n i + soles w (suc n) ts i)) e (with_names k (b ∷ bs) (r ∷ rs)) (λ i. omega arith) rest)
