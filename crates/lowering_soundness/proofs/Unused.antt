-- Trees that an expression doesn't use up stay where it gives values, an operator's result or those of a call, though
-- no variable owns them.
use Rattle.std.proofs.Common.{◌≡◌, inl, inr, ℕ, zero, suc, ◌+◌, ◌-◌, ◌≤◌, Bool, true, false, ◌&&◌, ◌||◌, not, List, [], ◌∷◌, ◌++◌, length, map, slice_get, Option, Some, None, refl, sym, ap, ◌∙◌, subst, true≢false, arith, append_assoc, if◌then◌else◌, ◌==◌}
use Rattle.std.proofs.lemmas.Option.{none-some}
use Rattle.separation.specs.fip_language.Every.{Among}
use Rattle.separation.specs.fip_language.Table.{Table}
use Rattle.separation.specs.fip_base.declared.plain.Param.{Param}
use Rattle.separation.specs.fip_language.declared.Place.{Place}
use Rattle.separation.specs.fip_language.declared.Operator.{Operator}
use Rattle.lowering_relation.specs.fip_trees.Tree.{Argument, Variable, Literal, Constructor, Arguments, NoArguments, MoreArguments, Instance}
use Rattle.derivation_making.specs.fip_rules.World as R
use Rattle.derivation_making.specs.fip_rules.World.{lends, lends_to}
use Rattle.derivation_making.specs.fip_rules.Shapes.{Names}
use Rattle.derivation_making.specs.type_check.Scope.{Scope}
use Rattle.derivation_making.specs.type_check.World as W
use Rattle.derivation_making.specs.type_check.Typing.{HasType, HaveTypes}
use Rattle.derivation_making.specs.ownership_calculus.Terms.{Item, Own, size, paid, charge}
use Rattle.derivation_making.specs.ownership_calculus.Terms as C
use Rattle.derivation_making.specs.ownership_calculus.Rules.{Fits, Lends}
use Rattle.derivation_making.specs.ownership_calculus.ByCases.{DerivesValue, DerivesValues, DerivesPassed}
use Rattle.derivation_making.specs.ownership_calculus.Clean.{used_up, all_used_up, lent_used_up, passed_used_up}
use Rattle.derivation_making.proofs.ownership_calculus.Fit.{fits_le, fits_same}
use Rattle.derivation_making.proofs.ownership_calculus.Counts.{args_fits, gifts_fits}
use Rattle.derivation_making.specs.ownership_agreement.Bodies.{Scalars, variable, value, values, lent_value, passed}
use Rattle.separation.specs.cell_code.Plain.{PlainFunction, PlainCode}
use Rattle.separation.specs.code_rules.Types.{is_scalar_type}
use Rattle.separation.proofs.separation_kinds.Basics.{refused, chosen, or_not, equal, equal_is, less_or_not}
use Rattle.lowering_relation.specs.Known.{Known, register_of}
use Rattle.lowering_relation.specs.Values.{Setting}
use Rattle.lowering_relation.specs.LoweredBodies.{Into}
use Rattle.lowering_relation.specs.Describing.{Holding, held_at, is_tree}
use Rattle.lowering_relation.specs.Labels.{reported, Quiet}
use Rattle.lowering_relation.specs.Uses.{uses, uses_all, takes_of, uses_passed}
use Rattle.lowering_relation.specs.LaidBodies.{ValuesLaid, GiveLaid, OperatorLaid, CalledLaid}
use Rattle.lowering_soundness.specs.Ties.{one_if, is_register, owners, own, owed, AllHold, Stays, Ties}
use Rattle.lowering_soundness.specs.Laid.{Shares}
use Rattle.lowering_soundness.specs.Delivered.{Waiting}
use Rattle.lowering_soundness.specs.Placed.{Placed, Callees, ParamsTyped}
use Rattle.lowering_soundness.proofs.Owners.{owners_sum}
use Rattle.lowering_soundness.proofs.Tying.{ties_fits}
use Rattle.lowering_soundness.proofs.Arguments.{int_scalar}
use Rattle.lowering_soundness.proofs.Asking.{no_field}
use Rattle.lowering_soundness.proofs.Leaves.{get_after, length_more, values_done, give_into, operator_into, called_into}

-- ---- what is just asked

mutual
  exact_value : (fip : Bool) (O : Item → ℕ) (a : C.Value) → DerivesValue fip O a → DerivesValue fip (used_up a) a
  exact_value fip O (C.Named x) d = λ i. fits_same fip (used_up (C.Named x) i)
  exact_value fip O C.Scalar d = λ i. fits_same fip 0
  exact_value fip O (C.Built as') d = (all_used_up as', (λ i. fits_same fip (paid (size as') i + all_used_up as' i)), exact_values fip d.0 as' d.2)

  exact_values : (fip : Bool) (O : Item → ℕ) (as' : C.Values) → DerivesValues fip O as' → DerivesValues fip (all_used_up as') as'
  exact_values fip O C.NoValues d = λ i. fits_same fip 0
  exact_values fip O (C.MoreValues a as') d = (used_up a, all_used_up as', (λ i. fits_same fip (used_up a i + all_used_up as' i)), exact_value fip d.0 a d.3, exact_values fip d.1 as' d.4)

lends_none : (B : ℕ → Bool) (a : C.Value) → Lends B a → (i : Item) → lent_used_up a i ≡ 0
lends_none B (C.Named x) h i = refl
lends_none B C.Scalar h i = refl
lends_none B (C.Built as') h i = absurd h

more_passed : (fip : Bool) (B : ℕ → Bool) (O P : Item → ℕ) (gs : C.Passed) → ((i : Item) → O i ≡ P i) → DerivesPassed fip B O gs → DerivesPassed fip B P gs
more_passed fip B O P (C.Header ks) same d = λ i. subst (λ n. Fits fip n (charge ks i)) (same i) (d i)
more_passed fip B O P (C.PassLent a gs) same d = (d.0, more_passed fip B O P gs same d.1)
more_passed fip B O P (C.PassOwned a gs) same d = (d.0, d.1, (λ i. subst (λ n. Fits fip n (d.0 i + d.1 i)) (same i) (d.2 i)), d.3, d.4)

exact_passed : (fip : Bool) (B : ℕ → Bool) (O : Item → ℕ) (gs : C.Passed) → DerivesPassed fip B O gs → DerivesPassed fip B (passed_used_up gs) gs
exact_passed fip B O (C.Header ks) d = λ i. fits_same fip (charge ks i)
exact_passed fip B O (C.PassLent a gs) d =
    (d.0, more_passed fip B (passed_used_up gs) (passed_used_up (C.PassLent a gs)) gs (λ i. let z = lends_none B a d.0 i in omega (arith, z)) (exact_passed fip B O gs d.1))
exact_passed fip B O (C.PassOwned a gs) d =
    (used_up a, passed_used_up gs, (λ i. fits_same fip (used_up a i + passed_used_up gs i)), exact_value fip d.0 a d.3, exact_passed fip B d.1 gs d.4)

-- ---- registers that nobody owns

-- a register that is owned is that of a variable
owners_some : (ns : List (Option ℕ)) (T : ℕ → ℕ) (r : ℕ) → 1 ≤ owners ns T r → (x : ℕ) × (register_of ns (Some x) ≡ Some r) × (1 ≤ T x)
owners_some [] T r more = absurd (let z : ⊥ = omega (arith, more) in z)
owners_some (o ∷ os) T r more = elim (less_or_not 0 (owners os (λ x. T (suc x)) r)) as (λ v. (x : ℕ) × (register_of (o ∷ os) (Some x) ≡ Some r) × (1 ≤ T x)) [
  | inl rest ↦ (let y = owners_some os (λ x. T (suc x)) r (omega (arith, rest)) in (suc y.0, y.1, y.2))
  | inr none ↦ first o refl (let z = more in omega (arith, z, none))
]
  where
    first : (p : Option ℕ) → o ≡ p → 1 ≤ (if is_register o r then T 0 else 0) → (x : ℕ) × (register_of (o ∷ os) (Some x) ≡ Some r) × (1 ≤ T x)
    first None e some = absurd (let z : (if is_register o r then T 0 else 0) ≡ 0 = ap (λ p. if is_register p r then T 0 else 0) e in let y : ⊥ = omega (arith, z, some) in y)
    first (Some q) e some = elim (or_not (q == r)) as (λ v. (x : ℕ) × (register_of (o ∷ os) (Some x) ≡ Some r) × (1 ≤ T x)) [
      | inl same ↦ (0, ap (λ p. register_of (p ∷ os) (Some 0)) e ∙ ap Some (equal q r same), (let z : (if is_register o r then T 0 else 0) ≡ T 0 = ap (λ p. if is_register p r then T 0 else 0) e ∙ chosen (q == r) (T 0) 0 same in omega (arith, z, some)))
      | inr other ↦ absurd (let z : (if is_register o r then T 0 else 0) ≡ 0 = ap (λ p. if is_register p r then T 0 else 0) e ∙ refused (q == r) (T 0) 0 other in let y : ⊥ = omega (arith, z, some) in y)
    ]

-- trees that T doesn't own
abbrev others : Known → (Item → ℕ) → ℕ → ℕ
others k T r = one_if (is_tree (held_at k.held r)) - owners k.names (own T) r

loosen : (w : Table) (s : Scope) (B : ℕ → Bool) (K : ℕ → Item → ℕ) (P O X : Item → ℕ) (k : Known) → ((i : Item) → O i ≤ P i) → Ties false w s B K (λ i. P i + X i) (λ q. 0) k → Ties false w s B K (λ i. O i + X i) (others k (λ i. O i + X i)) k
loosen w s B K P O X k less ties = record {
  variables = t.variables;
  trees = λ r. (let z = t.trees r in omega (arith, z));
  lent = t.lent;
  rooted = t.rooted;
  bares = t.bares;
  sizes = t.sizes;
  credits = t.credits;
  fresh = t.fresh;
  named = t.named;
}
  where
    t : Ties false w s B K (λ i. O i + X i) (λ q. 0) k
    t = ties_fits false w s B K (λ i. P i + X i) (λ i. O i + X i) (λ q. 0) k ties (λ i. let z = less i in omega (arith, z))

-- a tree that O doesn't own stays with X and with those that neither owns
stays_unused : (O X : Item → ℕ) (k : Known) (h : Holding) (r : ℕ) → owners k.names (own O) r ≡ 0 → is_tree (held_at k.held r) ≡ true → Stays (held_at k.held) h (λ q. owners k.names (own X) q + others k (λ i. O i + X i) q) → h r ≡ held_at k.held r
stays_unused O X k h r none tree stays =
    let sum = owners_sum k.names (own O) (own X) r in
    let one = ap one_if tree in
    stays.tree r (omega (arith, sum, one, none)) tree

-- values with trees are owed
owed_tree : (w : Table) (g : Holding) (rs ts : List ℕ) (r : ℕ) → Among r rs → AllHold w g rs ts → is_tree (g r) ≡ true → 1 ≤ owed w rs ts r
owed_tree w g [] ts r a hold tree = absurd a
owed_tree w g (q ∷ rs) [] r a hold tree = absurd hold
owed_tree w g (q ∷ rs) (t ∷ ts) r (inr a) hold tree = let z = owed_tree w g rs ts r a hold.1 tree in omega (arith, z)
owed_tree w g (q ∷ rs) (t ∷ ts) r (inl e) hold tree = elim (or_not (is_scalar_type w t)) as (λ v. 1 ≤ owed w (q ∷ rs) (t ∷ ts) r) [
  | inl scalar ↦ absurd (true≢false (sym tree ∙ ap is_tree (ap g e ∙ hold.0.scalar scalar)))
  | inr some ↦ (let a = refused (is_scalar_type w t) 0 (one_if (q == r)) some in let b = ap one_if (equal_is q r (sym e)) in omega (arith, a, b))
]

one_most : (b : Bool) → one_if b ≤ 1
one_most true = omega arith
one_most false = omega arith

module _ (c : PlainCode) (st : Setting) (wd : W.World) (w : R.World) (shares : Shares c st wd) (callees : Callees c st wd w) where
  -- ---- what is asked for is used

  scalar_none : (z : Scope) (sc : Scalars) (n : Names) → Placed c z sc n → (b : Bool) (a : Argument) (t x : ℕ) → HasType true wd z b a t → is_scalar_type c.types t ≡ true → used_up (value sc n.marks a) (Own x) ≡ 0
  scalar_none z sc n placed b (Variable None m p) t x typed scalar = absurd (none-some (Some t) typed)
  scalar_none z sc n placed b (Variable (Some y) m p) t x typed scalar =
      ap (λ o. used_up (variable sc o) (Own x)) (placed.seen y t typed) ∙ ap (λ v. used_up v (Own x)) (chosen (sc y) C.Scalar (C.Named y) (placed.scalar y t typed ∙ scalar))
  scalar_none z sc n placed b (Literal i p) t x typed scalar = refl
  scalar_none z sc n placed b (Constructor u d m l p NoArguments) t x typed scalar = refl
  scalar_none z sc n placed b (Constructor u d m l p (MoreArguments a as')) t x typed scalar = absurd (no_field c st wd w shares callees z t m a as' typed.2 scalar)

  or_left : (a b : Bool) → a ≡ true → (a || b) ≡ true
  or_left true b e = refl
  or_left false b e = absurd (true≢false (sym e))

  or_right : (a b : Bool) → b ≡ true → (a || b) ≡ true
  or_right true b e = refl
  or_right false b e = e

  mutual
    value_uses : (z : Scope) (sc : Scalars) (n : Names) → Placed c z sc n → (b : Bool) (a : Argument) (t x : ℕ) → HasType true wd z b a t → 1 ≤ used_up (value sc n.marks a) (Own x) → uses x a ≡ true
    value_uses z sc n placed b (Variable None m p) t x typed more = absurd (none-some (Some t) typed)
    value_uses z sc n placed b (Variable (Some y) m p) t x typed more = by (sc y) (y == x) refl refl
      where
        by : (u v : Bool) → sc y ≡ u → (y == x) ≡ v → (y == x) ≡ true
        by u true e d = d
        by true false e d = absurd (let none = ap (λ o. used_up (variable sc o) (Own x)) (placed.seen y t typed) ∙ ap (λ b. used_up (if b then C.Scalar else C.Named y) (Own x)) e in let z : ⊥ = omega (arith, none, more) in z)
        by false false e d = absurd (let none = ap (λ o. used_up (variable sc o) (Own x)) (placed.seen y t typed) ∙ (ap (λ b. used_up (if b then C.Scalar else C.Named y) (Own x)) e ∙ ap (λ b. if b then 1 else 0) d) in let z : ⊥ = omega (arith, none, more) in z)
    value_uses z sc n placed b (Literal i p) t x typed more = absurd (let z : ⊥ = omega (arith, more) in z)
    value_uses z sc n placed b (Constructor u d m l p as') t x typed more = values_use z sc n placed true as' (W.fields_of wd t m) x typed.2 (built (size (values sc n.marks as')) more)
      where
        built : (k : ℕ) → 1 ≤ paid k (Own x) + all_used_up (values sc n.marks as') (Own x) → 1 ≤ all_used_up (values sc n.marks as') (Own x)
        built zero h = omega (arith, h)
        built (suc k) h = omega (arith, h)

    values_use : (z : Scope) (sc : Scalars) (n : Names) → Placed c z sc n → (b : Bool) (as' : Arguments) (ts : List ℕ) (x : ℕ) → HaveTypes true wd z b as' ts → 1 ≤ all_used_up (values sc n.marks as') (Own x) → uses_all x as' ≡ true
    values_use z sc n placed b NoArguments ts x typed more = absurd (let z : ⊥ = omega (arith, more) in z)
    values_use z sc n placed b (MoreArguments a as') [] x typed more = absurd typed
    values_use z sc n placed b (MoreArguments a as') (t ∷ ts) x typed more = elim (less_or_not 0 (used_up (value sc n.marks a) (Own x))) as (λ v. (uses x a || uses_all x as') ≡ true) [
      | inl some ↦ or_left (uses x a) (uses_all x as') (value_uses z sc n placed b a t x typed.0 (omega (arith, some)))
      | inr none ↦ or_right (uses x a) (uses_all x as') (values_use z sc n placed b as' ts x typed.1 (omega (arith, none, more)))
    ]

  passed_uses : (z : Scope) (sc : Scalars) (n : Names) → Placed c z sc n → (fip : Bool) (B : ℕ → Bool) (O : Item → ℕ) (g : ℕ) (d : Instance) (qs ps : List Param) (as' : Arguments) (x : ℕ) → slice_get w.instances g ≡ Some d → d.params ≡ qs ++ ps → ParamsTyped c ps → HaveTypes true wd z true as' (map W.type_of ps) → DerivesPassed fip B O (passed w sc n.marks g (length qs) as') → 1 ≤ passed_used_up (passed w sc n.marks g (length qs) as') (Own x) → uses_passed (Some d) x (length qs) as' ≡ true
  passed_uses z sc n placed fip B O g d qs ps NoArguments x there parts types typed derived more = absurd (no_charge (Rattle.derivation_making.specs.ownership_agreement.Bodies.header w g) more)
    where
      no_charge : (ks : List ℕ) → 1 ≤ charge ks (Own x) → ⊥
      no_charge ks h = let z : ⊥ = omega (arith, h) in z
  passed_uses z sc n placed fip B O g d qs [] (MoreArguments a as') x there parts types typed derived more = absurd typed
  passed_uses z sc n placed fip B O g d qs (p ∷ ps) (MoreArguments a as') x there parts types typed derived more =
      by (λ P y some. passed_uses z sc n placed fip B P g d (qs ++ p ∷ []) ps as' x there (parts ∙ sym (append_assoc qs (p ∷ []) ps)) types.1 typed.1 y some) (lends w g (length qs)) refl derived more
    where
      param : slice_get d.params (length qs) ≡ Some p
      param = ap (λ ps. slice_get ps (length qs)) parts ∙ get_after qs p ps

      lent : lends w g (length qs) ≡ (p.lent && not (w.scalar p.ty))
      lent = ap (λ o. lends_to w o (length qs)) there ∙ ap (R.lends_parameter w) param

      Rest : Type 0
      Rest = (P : Item → ℕ) → DerivesPassed fip B P (passed w sc n.marks g (length (qs ++ p ∷ [])) as') → 1 ≤ passed_used_up (passed w sc n.marks g (length (qs ++ p ∷ [])) as') (Own x) → uses_passed (Some d) x (length (qs ++ p ∷ [])) as' ≡ true

      rest : Rest → (P : Item → ℕ) → DerivesPassed fip B P (passed w sc n.marks g (suc (length qs)) as') → 1 ≤ passed_used_up (passed w sc n.marks g (suc (length qs)) as') (Own x) → uses_passed (Some d) x (suc (length qs)) as' ≡ true
      rest again P y some =
          let same = length_more qs p in
          subst (λ j. uses_passed (Some d) x j as' ≡ true) same
          (again P (subst (λ j. DerivesPassed fip B P (passed w sc n.marks g j as')) (sym same) y) (subst (λ j. 1 ≤ passed_used_up (passed w sc n.marks g j as') (Own x)) (sym same) some))

      here : (b : Bool) → p.lent ≡ b → (p.lent && not (w.scalar p.ty)) ≡ false → 1 ≤ used_up (value sc n.marks a) (Own x) → (takes_of (Some d) (length qs) && uses x a) ≡ true
      here false e off some = ap (λ o. Rattle.lowering_relation.specs.Uses.is_taken o && uses x a) param ∙ (ap (λ b. not b && uses x a) e ∙ value_uses z sc n placed true a p.ty x typed.0 some)
      here true e off some =
          let scalar : w.scalar p.ty ≡ true = un (w.scalar p.ty) (ap (λ b. b && not (w.scalar p.ty)) (sym e) ∙ off) in
          absurd (let none = scalar_none z sc n placed true a p.ty x typed.0 (sym (callees.scalars p.ty types.0) ∙ scalar) in let y : ⊥ = omega (arith, none, some) in y)
        where
          un : (b : Bool) → not b ≡ false → b ≡ true
          un true e = refl
          un false e = absurd (true≢false e)

      by : Rest → (b : Bool) → lends w g (length qs) ≡ b → DerivesPassed fip B O (if b then C.PassLent (lent_value w sc n.marks a) (passed w sc n.marks g (suc (length qs)) as') else C.PassOwned (value sc n.marks a) (passed w sc n.marks g (suc (length qs)) as')) → 1 ≤ passed_used_up (if b then C.PassLent (lent_value w sc n.marks a) (passed w sc n.marks g (suc (length qs)) as') else C.PassOwned (value sc n.marks a) (passed w sc n.marks g (suc (length qs)) as')) (Own x) → uses_passed (Some d) x (length qs) (MoreArguments a as') ≡ true
      by again true e y some = or_right (takes_of (Some d) (length qs) && uses x a) (uses_passed (Some d) x (suc (length qs)) as') (rest again O y.1 (let none = lends_none B (lent_value w sc n.marks a) y.0 (Own x) in omega (arith, none, some)))
      by again false e y some = elim (less_or_not 0 (used_up (value sc n.marks a) (Own x))) as (λ v. uses_passed (Some d) x (length qs) (MoreArguments a as') ≡ true) [
        | inl more ↦ or_left (takes_of (Some d) (length qs) && uses x a) (uses_passed (Some d) x (suc (length qs)) as') (here p.lent refl (sym lent ∙ e) (omega (arith, more)))
        | inr none ↦ or_right (takes_of (Some d) (length qs) && uses x a) (uses_passed (Some d) x (suc (length qs)) as') (rest again y.1 y.4 (omega (arith, none, some)))
      ]

  -- ---- trees that aren't used

  module _ (f : PlainFunction) (s : Scope) (sc : Scalars) (n : Names) (B : ℕ → Bool) (K : ℕ → Item → ℕ) (placed : Placed c s sc n) where
    -- no variable of which register r is known is used
    unowned : (O : Item → ℕ) (k : Known) (r : ℕ) (u : ℕ → Bool) → ((x : ℕ) → register_of k.names (Some x) ≡ Some r → u x ≡ false) → ((x : ℕ) → 1 ≤ O (Own x) → u x ≡ true) → owners k.names (own O) r ≡ 0
    unowned O k r u unused used = elim (less_or_not 0 (owners k.names (own O) r)) as (λ v. owners k.names (own O) r ≡ 0) [
      | inl more ↦ (let y = owners_some k.names (own O) r (omega (arith, more)) in absurd (true≢false (sym (used y.0 y.2) ∙ unused y.0 y.1)))
      | inr none ↦ omega (arith, none)
    ]

    pub values_stay : (fip : Bool) → fip ≡ false → (P X : Item → ℕ) (at : ℕ) (k : Known) (as' : Arguments) (rs : List ℕ) (mid : ℕ) (m : Known) (b : Bool) (ts : List ℕ) → ValuesLaid c st f at k as' rs mid m → HaveTypes true wd s b as' ts → DerivesValues fip P (values sc n.marks as') → ((z y : ℕ) → K z (Own y) ≤ X (Own y)) → Ties fip c.types s B K (λ i. P i + X i) (λ q. 0) k → Quiet f at mid (reported c k) → length k.held ≡ f.registers → (r : ℕ) → is_tree (held_at k.held r) ≡ true → ((x : ℕ) → register_of k.names (Some x) ≡ Some r → uses_all x as' ≡ false) → (held_at m.held r ≡ held_at k.held r) × (Among r rs → ⊥)
    values_stay true weak P X at k as' rs mid m b ts h typed d kept ties quiet wide r tree unused = absurd (true≢false weak)
    values_stay false weak P X at k as' rs mid m b ts h typed d kept ties quiet wide r tree unused = (same, apart)
      where
        O : Item → ℕ
        O = all_used_up (values sc n.marks as')

        e : ℕ → ℕ
        e = others k (λ i. all_used_up (values sc n.marks as') i + X i)

        none : owners k.names (own (all_used_up (values sc n.marks as'))) r ≡ 0
        none = unowned (all_used_up (values sc n.marks as')) k r (λ x. uses_all x as') unused (λ x more. values_use s sc n placed b as' ts x typed more)

        comp : Rattle.lowering_soundness.specs.Computed.Computed c f false s B K X (others k (λ i. all_used_up (values sc n.marks as') i + X i)) at k rs ts mid m
        comp =
            values_done c f st wd w false shares callees s sc n B K placed O X e at k as' rs mid m b ts h typed (exact_values false P (values sc n.marks as') d) kept
            (loosen c.types s B K P O X k (λ i. fits_le false (P i) (O i) (args_fits false P (values sc n.marks as') d i)) ties) quiet wide

        same : held_at m.held r ≡ held_at k.held r
        same = stays_unused O X k (held_at m.held) r none tree comp.stays

        apart : Among r rs → ⊥
        apart a =
            let owes = owed_tree c.types (held_at m.held) rs ts r a comp.hold (ap is_tree same ∙ tree) in
            let le = comp.ties.trees r in
            let names = ap (λ ns. owners ns (own X) r) comp.names in
            let sum = owners_sum k.names (own O) (own X) r in
            let one = ap one_if tree in
            let most = one_most (is_tree (held_at m.held r)) in
            let z : ⊥ = omega (arith, owes, le, names, sum, one, most, none) in
            z

    pub give_stays : (fip : Bool) → fip ≡ false → (P X : Item → ℕ) (at : ℕ) (k : Known) (as' : Arguments) (ds : List ℕ) (end : ℕ) (l : Known) (b : Bool) (ts : List ℕ) → GiveLaid c st fip f at k as' (Into ds) end l → HaveTypes true wd s b as' ts → DerivesValues fip P (values sc n.marks as') → ((z y : ℕ) → K z (Own y) ≤ X (Own y)) → Ties fip c.types s B K (λ i. P i + X i) (λ q. 0) k → Waiting k ds → length ds ≡ length ts → length k.held ≡ f.registers → (r : ℕ) → is_tree (held_at k.held r) ≡ true → ((x : ℕ) → register_of k.names (Some x) ≡ Some r → uses_all x as' ≡ false) → held_at l.held r ≡ held_at k.held r
    give_stays true weak P X at k as' ds end l b ts h typed d kept ties wait many wide r tree unused = absurd (true≢false weak)
    give_stays false weak P X at k as' ds end l b ts h typed d kept ties wait many wide r tree unused =
        let O = all_used_up (values sc n.marks as') in
        let none = unowned O k r (λ x. uses_all x as') unused (λ x more. values_use s sc n placed b as' ts x typed more) in
        let x = give_into c f st wd w false shares callees s sc n B K placed O X (others k (λ i. O i + X i)) at k as' ds end l b ts h typed (exact_values false P (values sc n.marks as') d) kept
        (loosen c.types s B K P O X k (λ i. fits_le false (P i) (O i) (args_fits false P (values sc n.marks as') d i)) ties) wait many wide in
        stays_unused O X k (held_at l.held) r none tree x.stays

    pub operator_stays : (fip : Bool) → fip ≡ false → (P X : Item → ℕ) (at : ℕ) (k : Known) (o : Operator) (p : Place) (x y : Argument) (ds : List ℕ) (end : ℕ) (l : Known) → OperatorLaid c st fip f at k o p x y (Into ds) end l → HasType true wd s true x 0 → HasType true wd s true y 0 → DerivesValues fip P (values sc n.marks (MoreArguments x (MoreArguments y NoArguments))) → ((z y : ℕ) → K z (Own y) ≤ X (Own y)) → Ties fip c.types s B K (λ i. P i + X i) (λ q. 0) k → Waiting k ds → length ds ≡ 1 → length k.held ≡ f.registers → (r : ℕ) → is_tree (held_at k.held r) ≡ true → held_at l.held r ≡ held_at k.held r
    operator_stays true weak P X at k o p x y ds end l h tx ty d kept ties wait many wide r tree = absurd (true≢false weak)
    operator_stays false weak P X at k o p x y ds end l h tx ty d kept ties wait many wide r tree =
        let as' = MoreArguments x (MoreArguments y NoArguments) in
        let O = all_used_up (values sc n.marks as') in
        let none = unowned O k r (λ z. false) (λ z is. refl) (λ z more. (let a = scalar_none s sc n placed true x 0 z tx (int_scalar c.types) in let b = scalar_none s sc n placed true y 0 z ty (int_scalar c.types) in absurd (let e : ⊥ = omega (arith, a, b, more) in e))) in
        let y = operator_into c f st wd w false shares callees s sc n B K placed O X (others k (λ i. O i + X i)) at k o p x y ds end l h tx ty (exact_values false P (values sc n.marks as') d) kept
        (loosen c.types s B K P O X k (λ i. fits_le false (P i) (O i) (args_fits false P (values sc n.marks as') d i)) ties) wait many wide in
        stays_unused O X k (held_at l.held) r none tree y.stays

    pub call_stays : (fip : Bool) → fip ≡ false → (P X : Item → ℕ) (at : ℕ) (k : Known) (g : ℕ) (as' : Arguments) (ds : List ℕ) (end : ℕ) (l : Known) → CalledLaid c st fip f at k g as' (Into ds) end l → HaveTypes true wd s true as' (W.head wd g).parameters → DerivesPassed fip B P (passed w sc n.marks g 0 as') → ((z y : ℕ) → K z (Own y) ≤ X (Own y)) → Ties fip c.types s B K (λ i. P i + X i) (λ q. 0) k → Waiting k ds → length ds ≡ length (W.head wd g).results → length k.held ≡ f.registers → (r : ℕ) → is_tree (held_at k.held r) ≡ true → ((x : ℕ) → register_of k.names (Some x) ≡ Some r → uses_passed (slice_get st.instances g) x 0 as' ≡ false) → held_at l.held r ≡ held_at k.held r
    call_stays true weak P X at k g as' ds end l h typed d kept ties wait many wide r tree unused = absurd (true≢false weak)
    call_stays false weak P X at k g as' ds end l h typed d kept ties wait many wide r tree unused =
        let i = h.call.instance in
        let gs = passed w sc n.marks g 0 as' in
        let O = passed_used_up gs in
        let there : slice_get w.instances g ≡ Some i = ap (λ is. slice_get is g) callees.same ∙ h.call.there in
        let params = subst (λ ts. HaveTypes true wd s true as' ts) (ap (λ (h : W.Head). h.parameters) (callees.heads g i h.call.there)) typed in
        let none = unowned O k r (λ x. uses_passed (slice_get st.instances g) x 0 as') unused
        (λ x more. ap (λ o. uses_passed o x 0 as') h.call.there ∙ passed_uses s sc n placed false B P g i [] i.params as' x there refl (callees.typed g i h.call.there) params d more) in
        let y = called_into c f st wd w false shares callees s sc n B K placed O X (others k (λ i. O i + X i)) at k g as' ds end l h typed (exact_passed false B P gs d) kept
        (loosen c.types s B K P O X k (λ i. fits_le false (P i) (O i) (gifts_fits false B P gs d i)) ties) wait many wide in
        stays_unused O X k (held_at l.held) r none tree y.stays
