-- Where a function is entered: the registers of its parameters and of its header's credits go with what is owned and what
-- is borrowed.
use Rattle.std.proofs.Common.{◌≡◌, ◌⊎◌, inl, inr, ℕ, zero, suc, ◌+◌, ◌<◌, ◌≤◌, Bool, true, false, ◌&&◌, ◌||◌, not, List, [], ◌∷◌, ◌++◌, length, map, Option, Some, None, refl, sym, ap, ap₂, ◌∙◌, subst, subst₂, true≢false, arith, append_assoc, slice_set, if◌then◌else◌, ◌==◌}
use Rattle.separation.specs.fip_language.Table.{Table}
use Rattle.separation.specs.fip_base.declared.plain.Param.{Param}
use Rattle.lowering_relation.specs.fip_trees.declared.program.Binder.{Binder}
use Rattle.derivation_making.specs.fip_rules.World as R
use Rattle.derivation_making.specs.type_check.Binders.{entry}
use Rattle.derivation_making.specs.type_check.Scope.{Scope, of_binder}
use Rattle.derivation_making.specs.ownership_calculus.Terms.{Item, Own, Credit, has, one, only, charge}
use Rattle.derivation_making.specs.ownership_calculus.Rules.{Fits}
use Rattle.derivation_making.specs.ownership_calculus.Rules as O
use Rattle.derivation_making.specs.ownership_calculus.Functions.{starting}
use Rattle.derivation_making.proofs.ownership_calculus.Fit.{fits_same}
use Rattle.derivation_making.specs.ownership_agreement.Bodies.{borrowed_parameters, owned_parameters}
use Rattle.separation.specs.cell_code.Plain.{PlainCode}
use Rattle.separation.specs.code_rules.Types.{is_type, is_scalar_type, fields}
use Rattle.separation.proofs.separation_kinds.Basics.{chosen, refused, or_not, both, refuted, equal, equal_is, unequal, unequal_is, itself}
use Rattle.lowering_relation.specs.declared.held.Held.{Held}
use Rattle.lowering_relation.specs.declared.held.Held.TheVariants as H
use Rattle.lowering_relation.specs.Known.{Known, register_of, named, naming, with_next}
use Rattle.lowering_relation.specs.Values.{Setting, is_scalar}
use Rattle.lowering_relation.specs.LoweredBodies.{given_if}
use Rattle.lowering_relation.specs.LoweredFunctions.{param_held, with_param, with_params, unless_in, with_next_credit, with_credits}
use Rattle.lowering_relation.specs.Describing.{Holding, held_at, setting, is_tree}
use Rattle.lowering_soundness.specs.Giving.{is_credit_of}
use Rattle.lowering_soundness.specs.Ties.{one_if, owners, sized, counted, own, HoldsValue, Balanced, Rooted, HoldsVariable, LiesIn, BareRight, Ties}
use Rattle.lowering_soundness.specs.Passed.{borrows}
use Rattle.lowering_soundness.specs.Placed.{NoneFrom, InOrder, ParamsTyped}
use Rattle.lowering_soundness.proofs.Owners.{owners_same, sized_both, counted_both}
use Rattle.lowering_soundness.proofs.Tying.{ties_on}
use Rattle.lowering_soundness.proofs.Helds.{held_set_fn, length_set}
use Rattle.lowering_soundness.proofs.Writing.{is_idle, setting_other, setting_here, setting_stays, set_ties}
use Rattle.lowering_soundness.proofs.Arguments.{ties_worth}
use Rattle.lowering_soundness.proofs.Scoping.{entries_of, new_or_old}
use Rattle.lowering_soundness.proofs.Naming.{register_new, register_old, length_named, owners_renamed, sole, sole_other, sole_credit, name_one}

-- ---- a register gets something that is no tree

pub setting_tree : (g : Holding) (d : ℕ) (h : Held) (q : ℕ) → is_tree (g d) ≡ false → is_tree h ≡ false → is_tree (setting g d h q) ≡ is_tree (g q)
setting_tree g d h q none new = elim (or_not (q == d)) as (λ v. is_tree (setting g d h q) ≡ is_tree (g q)) [
  | inl e ↦ ap is_tree (chosen (q == d) h (g q) e) ∙ (new ∙ sym (ap (λ p. is_tree (g p)) (equal q d e) ∙ none))
  | inr e ↦ ap is_tree (refused (q == d) h (g q) e)
]

pub setting_balanced : (fip : Bool) (g : Holding) (d : ℕ) (h : Held) (n : ℕ → ℕ) → is_tree (g d) ≡ false → is_tree h ≡ false → Balanced fip g n → Balanced fip (setting g d h) n
setting_balanced fip g d h n none new b q = subst (λ t. Fits fip (one_if t) (n q)) (sym (setting_tree g d h q none new)) (b q)

pub setting_rooted : (g : Holding) (d : ℕ) (h : Held) → is_tree (g d) ≡ false → is_tree h ≡ false → ((t q : ℕ) → h ≡ H.Lent t (Some q) → ⊥) → Rooted g → Rooted (setting g d h)
setting_rooted g d h none new unlent rooted r t q e = elim (or_not (r == d)) as (λ v. is_tree (setting g d h q) ≡ true) [
  | inl z ↦ absurd (unlent t q (sym (chosen (r == d) h (g r) z) ∙ e))
  | inr z ↦ setting_tree g d h q none new ∙ rooted r t q (sym (refused (r == d) h (g r) z) ∙ e)
]

-- the same of a register that is borrowed from one that owns a tree
pub setting_rooted_in : (g : Holding) (d : ℕ) (h : Held) → is_tree (g d) ≡ false → is_tree h ≡ false → ((t q : ℕ) → h ≡ H.Lent t (Some q) → is_tree (g q) ≡ true) → Rooted g → Rooted (setting g d h)
setting_rooted_in g d h none new roots rooted r t q e = elim (or_not (r == d)) as (λ v. is_tree (setting g d h q) ≡ true) [
  | inl z ↦ setting_tree g d h q none new ∙ roots t q (sym (chosen (r == d) h (g r) z) ∙ e)
  | inr z ↦ setting_tree g d h q none new ∙ rooted r t q (sym (refused (r == d) h (g r) z) ∙ e)
]

pub setting_bares : (w : Table) (g : Holding) (d : ℕ) (h : Held) → ((t k : ℕ) → h ≡ H.Bare t k → ⊥) → BareRight w g → BareRight w (setting g d h)
setting_bares w g d h none bares r t k e = elim (or_not (r == d)) as (λ v. (is_scalar_type w t ≡ false) × (length (fields w t k) ≡ 0)) [
  | inl z ↦ absurd (none t k (sym (chosen (r == d) h (g r) z) ∙ e))
  | inr z ↦ bares r t k (sym (refused (r == d) h (g r) z) ∙ e)
]

pub setting_count : (g : Holding) (d : ℕ) (h : Held) (n q : ℕ) → is_credit_of n (g d) ≡ false → is_credit_of n h ≡ false → is_credit_of n (setting g d h q) ≡ is_credit_of n (g q)
setting_count g d h n q none new = elim (or_not (q == d)) as (λ v. is_credit_of n (setting g d h q) ≡ is_credit_of n (g q)) [
  | inl e ↦ ap (is_credit_of n) (chosen (q == d) h (g q) e) ∙ (new ∙ sym (ap (λ p. is_credit_of n (g p)) (equal q d e) ∙ none))
  | inr e ↦ ap (is_credit_of n) (refused (q == d) h (g q) e)
]

pub setting_fresh : (g : Holding) (n : ℕ) (h : Held) → ((r : ℕ) → n ≤ r → g r ≡ H.Nothing) → (r : ℕ) → suc n ≤ r → setting g n h r ≡ H.Nothing
setting_fresh g n h fresh r past = setting_other g n h r (λ z. absurd (let y : ⊥ = omega (arith, z, past) in y)) ∙ fresh r (omega (arith, past))

-- ---- what is owned of parameters

abbrev pub taken : Table → Param → ℕ → Item → ℕ
taken w p n i = if borrows w p then 0 else sole w p.ty n i

abbrev pub takens : Table → ℕ → List Param → Item → ℕ
takens w n [] i = 0
takens w n (p ∷ ps) i = taken w p n i + takens w (suc n) ps i

-- which parameters are borrowed
abbrev pub Borrowing : Table → (ℕ → Bool) → ℕ → List Param → Type 0
Borrowing w B n [] = Unit {0}
Borrowing w B n (p ∷ ps) = (is_scalar_type w p.ty ≡ false → B n ≡ p.lent) × Borrowing w B (suc n) ps

given_value : (w : Table) (t : ℕ) → HoldsValue w t (given_if (is_scalar_type w t) t)
given_value w t = by (is_scalar_type w t) refl
  where
    by : (b : Bool) → is_scalar_type w t ≡ b → HoldsValue w t (given_if b t)
    by true e = record { scalar = λ x. refl; owned = λ x. absurd (true≢false (sym e ∙ x)) }
    by false e = record { scalar = λ x. absurd (true≢false (sym x ∙ e)); owned = λ x. itself t }

given_no_credit : (b : Bool) (t n : ℕ) → is_credit_of n (given_if b t) ≡ false
given_no_credit true t n = refl
given_no_credit false t n = refl

module _ (fip : Bool) (w : Table) (st : Setting) (B : ℕ → Bool) (K : ℕ → Item → ℕ) (unkept : (z y : ℕ) → K z (Own y) ≡ 0) (scalars : (t : ℕ) → is_type w t ≡ true → is_scalar st t ≡ is_scalar_type w t) where
  kept : (T : Item → ℕ) (z y : ℕ) → K z (Own y) ≤ T (Own y)
  kept T z y = let a = unkept z y in omega (arith, a)

  -- a parameter that is owned, or scalar
  param_owned : (s : Scope) (T : Item → ℕ) (k : Known) (b : Binder) (t : ℕ) → Ties fip w s B K T (λ q. 0) k → suc k.next ≤ length k.held → k.next < length k.names → b.number ≡ k.next → ((x u : ℕ) → of_binder s (Some x) ≡ Some (Some u) → x < k.next) → NoneFrom k.next T → (is_scalar_type w t ≡ false → B k.next ≡ false) → Ties fip w (s ++ entry (Some t) b ∷ []) B K (λ i. T i + sole w t k.next i) (λ q. 0) (naming (with_next k (given_if (is_scalar_type w t) t)) b.number k.next)
  param_owned s T k b t ties room within number before none owned =
      let h = given_if (is_scalar_type w t) t in
      let g = held_at k.held in
      let v = given_value w t in
      let empty = ties.fresh k.next (omega arith) in
      let held : held_at (slice_set k.held k.next h) ≡ setting g k.next h = held_set_fn k.held k.next h room in
      let set = set_ties fip w s B K T T (λ q. 0) k (with_next k h) k.next t h ties (λ x. refl) (kept T) (ap is_idle empty) v held refl (omega arith) ties.sizes
      (λ n r. ties.credits n r ∙ ap one_if (sym (ap (λ y. is_credit_of n (y r)) held ∙ setting_count g k.next h n r (ap (is_credit_of n) empty) (given_no_credit (is_scalar_type w t) t n))))
      (λ r past. ap (λ y. y r) held ∙ setting_fresh g k.next h ties.fresh r past) in
      name_one fip w B K s T (λ q. 0) (with_next k h) b k.next k.next t set (subst (HoldsValue w t) (sym (ap (λ y. y k.next) held ∙ setting_here g k.next h)) v) before none (kept T) owned within number

  -- one that is borrowed
  param_lent : (s : Scope) (T : Item → ℕ) (k : Known) (b : Binder) (t : ℕ) → Ties fip w s B K T (λ q. 0) k → suc k.next ≤ length k.held → k.next < length k.names → b.number ≡ k.next → NoneFrom k.next T → is_scalar_type w t ≡ false → B k.next ≡ true → Ties fip w (s ++ entry (Some t) b ∷ []) B K T (λ q. 0) (naming (with_next k (H.Lent t None)) b.number k.next)
  param_lent s T k b t ties room within number none tree lent = subst (λ x. Ties fip w (s ++ entry (Some t) b ∷ []) B K T (λ q. 0) (naming (with_next k h) x n)) (sym number) (record {
    variables = variable;
    trees = λ q. subst (λ m. Fits fip (one_if (is_tree (held_at (slice_set k.held n h) q))) (m + 0)) (sym (owners_renamed k.names (own T) n n q (none n (omega arith)))) (set.trees q);
    lent = lying;
    rooted = set.rooted;
    bares = set.bares;
    sizes = set.sizes;
    credits = set.credits;
    fresh = set.fresh;
    named = λ x p y. elim (or_not (n == x)) as (λ v. suc p ≤ suc n) [
      | inl same ↦ (let z = here x p (equal n x same) y in omega (arith, z))
      | inr other ↦ set.named x p (there x p (unequal n x other) y)
    ];
  })
    where
      h : Held
      h = H.Lent t None

      n : ℕ
      n = k.next

      g : Holding
      g = held_at k.held

      empty : held_at k.held k.next ≡ H.Nothing
      empty = ties.fresh k.next (omega arith)

      held : held_at (slice_set k.held k.next (H.Lent t None)) ≡ setting (held_at k.held) k.next (H.Lent t None)
      held = held_set_fn k.held k.next (H.Lent t None) room

      unlent : (u q : ℕ) → H.Lent t None ≡ H.Lent u (Some q) → ⊥
      unlent u q e = absurd (cc)

      unbare : (u q : ℕ) → H.Lent t None ≡ H.Bare u q → ⊥
      unbare u q e = absurd (cc)

      set : Ties fip w s B K T (λ q. 0) (with_next k (H.Lent t None))
      set =
          let no_tree = ap is_tree empty in
          ties_on fip w s B K T T (λ q. 0) (λ q. 0) (λ q. 0) k (with_next k (H.Lent t None)) ties (λ x. omega arith) (kept T) refl (omega arith)
          (subst (λ x. Rattle.lowering_soundness.specs.Ties.Stays (held_at k.held) x (λ q. owners k.names (own T) q + 0)) (sym held) (setting_stays (held_at k.held) k.next (H.Lent t None) (λ q. owners k.names (own T) q + 0) (ap is_idle empty)))
          (subst (λ x. Balanced fip x (λ q. owners k.names (own T) q + 0)) (sym held) (setting_balanced fip (held_at k.held) k.next (H.Lent t None) (λ q. owners k.names (own T) q + 0) no_tree refl ties.trees))
          (subst Rooted (sym held) (setting_rooted (held_at k.held) k.next (H.Lent t None) no_tree refl unlent ties.rooted))
          (subst (BareRight w) (sym held) (setting_bares w (held_at k.held) k.next (H.Lent t None) unbare ties.bares))
          ties.sizes
          (λ m r. ties.credits m r ∙ ap one_if (sym (ap (λ y. is_credit_of m (y r)) held ∙ setting_count (held_at k.held) k.next (H.Lent t None) m r (ap (is_credit_of m) empty) refl)))
          (λ r past. ap (λ y. y r) held ∙ setting_fresh (held_at k.held) k.next (H.Lent t None) ties.fresh r past)

      here : (x p : ℕ) → k.next ≡ x → register_of (named k.names k.next k.next) (Some x) ≡ Some p → k.next ≡ p
      here x p e y = Rattle.lowering_relation.proofs.LoweredLists.same_some k.next p (sym (register_new k.names k.next k.next within) ∙ (ap (λ x. register_of (named k.names k.next k.next) (Some x)) e ∙ y))

      there : (x p : ℕ) → (k.next ≡ x → ⊥) → register_of (named k.names k.next k.next) (Some x) ≡ Some p → register_of k.names (Some x) ≡ Some p
      there x p ne y = sym (register_old k.names k.next k.next x ne) ∙ y

      lent_here : held_at (slice_set k.held k.next (H.Lent t None)) k.next ≡ H.Lent t None
      lent_here = ap (λ y. y k.next) held ∙ setting_here (held_at k.held) k.next (H.Lent t None)

      scope : (x u : ℕ) → of_binder (s ++ entry (Some t) b ∷ []) (Some x) ≡ Some (Some u) → ((k.next ≡ x) × (t ≡ u)) ⊎ ((k.next ≡ x → ⊥) × (of_binder s (Some x) ≡ Some (Some u)))
      scope x u y = elim (new_or_old s b t x u y) as (λ v. ((k.next ≡ x) × (t ≡ u)) ⊎ ((k.next ≡ x → ⊥) × (of_binder s (Some x) ≡ Some (Some u)))) [
        | inl z ↦ inl (sym number ∙ z.0, z.1)
        | inr z ↦ inr ((λ e. z.0 (number ∙ e)), z.1)
      ]

      variable : (x p u : ℕ) → register_of (named k.names k.next k.next) (Some x) ≡ Some p → of_binder (s ++ entry (Some t) b ∷ []) (Some x) ≡ Some (Some u) → HoldsVariable w u (held_at (slice_set k.held k.next (H.Lent t None)) p) (T (Own x)) (B x)
      variable x p u y o = elim (scope x u o) as (λ v. HoldsVariable w u (held_at (slice_set k.held k.next (H.Lent t None)) p) (T (Own x)) (B x)) [
        | inl z ↦
            subst₂ (λ u h. HoldsVariable w u h (T (Own x)) (B x)) z.1 (sym (ap (held_at (slice_set k.held k.next (H.Lent t None))) (sym (here x p z.0 y)) ∙ lent_here)) (record {
              scalar = λ e. absurd (true≢false (sym e ∙ tree));
              owned = λ e more. absurd (let a = none x (let e = z.0 in omega (arith, e)) in let f : ⊥ = omega (arith, a, more) in f);
              read = λ e m. itself t;
            })
        | inr z ↦ set.variables x p u (there x p z.0 y) z.1
      ]

      lying : (x p u : ℕ) → register_of (named k.names k.next k.next) (Some x) ≡ Some p → of_binder (s ++ entry (Some t) b ∷ []) (Some x) ≡ Some (Some u) → B x ≡ true → LiesIn (owners (named k.names k.next k.next) (own (K x))) p (held_at (slice_set k.held k.next (H.Lent t None)) p)
      lying x p u y o m = elim (scope x u o) as (λ v. LiesIn (owners (named k.names k.next k.next) (own (K x))) p (held_at (slice_set k.held k.next (H.Lent t None)) p)) [
        | inl z ↦ subst (LiesIn (owners (named k.names k.next k.next) (own (K x))) p) (sym (ap (held_at (slice_set k.held k.next (H.Lent t None))) (sym (here x p z.0 y)) ∙ lent_here)) tt
        | inr z ↦
            (let same : owners k.names (own (K x)) ≡ owners (named k.names k.next k.next) (own (K x)) = λ i q. sym (owners_renamed k.names (own (K x)) k.next k.next q (unkept x k.next)) i in
            subst (λ f. LiesIn f p (held_at (slice_set k.held k.next (H.Lent t None)) p)) same (set.lent x p u (there x p z.0 y) z.1 m))
      ]

  param_one : (s : Scope) (T : Item → ℕ) (k : Known) (p : Param) (b : Binder) → is_type w p.ty ≡ true → Ties fip w s B K T (λ q. 0) k → suc k.next ≤ length k.held → k.next < length k.names → b.number ≡ k.next → ((x u : ℕ) → of_binder s (Some x) ≡ Some (Some u) → x < k.next) → NoneFrom k.next T → (is_scalar_type w p.ty ≡ false → B k.next ≡ p.lent) → Ties fip w (s ++ entry (Some p.ty) b ∷ []) B K (λ i. T i + taken w p k.next i) (λ q. 0) (with_param st k p b)
  param_one s T k p b typed ties room within number before none borrowed = by (borrows w p) refl
    where
      same : param_held st p ≡ (if p.lent && not (is_scalar_type w p.ty) then H.Lent p.ty None else given_if (is_scalar_type w p.ty) p.ty)
      same = ap (λ b. if p.lent && not b then H.Lent p.ty None else given_if b p.ty) (scalars p.ty typed)

      with_held : (h : Held) → param_held st p ≡ h → naming (with_next k h) b.number k.next ≡ with_param st k p b
      with_held h e = ap (λ h. naming (with_next k h) b.number k.next) (sym e)

      not_lent : (l sc : Bool) → (l && not sc) ≡ false → sc ≡ false → l ≡ false
      not_lent true true e f = absurd (true≢false f)
      not_lent true false e f = absurd (true≢false e)
      not_lent false sc e f = refl

      by : (x : Bool) → borrows w p ≡ x → Ties fip w (s ++ entry (Some p.ty) b ∷ []) B K (λ i. T i + taken w p k.next i) (λ q. 0) (with_param st k p b)
      by true e =
          let parts = both p.lent (not (is_scalar_type w p.ty)) e in
          let tree = refuted (is_scalar_type w p.ty) parts.1 in
          subst (Ties fip w (s ++ entry (Some p.ty) b ∷ []) B K (λ i. T i + taken w p k.next i) (λ q. 0)) (with_held (H.Lent p.ty None) (same ∙ chosen (borrows w p) (H.Lent p.ty None) (given_if (is_scalar_type w p.ty) p.ty) e))
          (ties_worth fip w (s ++ entry (Some p.ty) b ∷ []) B K T (λ i. T i + taken w p k.next i) (λ q. 0) (naming (with_next k (H.Lent p.ty None)) b.number k.next) (λ i. let z = chosen (borrows w p) 0 (sole w p.ty k.next i) e in omega (arith, z))
          (param_lent s T k b p.ty ties room within number none tree (borrowed tree ∙ parts.0)))
      by false e =
          subst (Ties fip w (s ++ entry (Some p.ty) b ∷ []) B K (λ i. T i + taken w p k.next i) (λ q. 0)) (with_held (given_if (is_scalar_type w p.ty) p.ty) (same ∙ refused (borrows w p) (H.Lent p.ty None) (given_if (is_scalar_type w p.ty) p.ty) e))
          (ties_worth fip w (s ++ entry (Some p.ty) b ∷ []) B K (λ i. T i + sole w p.ty k.next i) (λ i. T i + taken w p k.next i) (λ q. 0) (naming (with_next k (given_if (is_scalar_type w p.ty) p.ty)) b.number k.next) (λ i. let z = refused (borrows w p) 0 (sole w p.ty k.next i) e in omega (arith, z))
          (param_owned s T k b p.ty ties room within number before none (λ tree. borrowed tree ∙ not_lent p.lent (is_scalar_type w p.ty) e tree)))

  taken_other : (p : Param) (n y : ℕ) → (n ≡ y → ⊥) → taken w p n (Own y) ≡ 0
  taken_other p n y ne = Rattle.separation.proofs.separation_kinds.Basics.pick (λ m. m ≡ 0) (borrows w p) 0 (sole w p.ty n (Own y)) (λ e. refl) (λ e. sole_other w p.ty n y ne)

  none_more : (p : Param) (n : ℕ) (T : Item → ℕ) → NoneFrom n T → NoneFrom (suc n) (λ i. T i + taken w p n i)
  none_more p n T none y low =
      let a = none y (omega (arith, low)) in
      let b = taken_other p n y (λ e. absurd (let z : ⊥ = omega (arith, e, low) in z)) in
      omega (arith, a, b)

  abbrev pub types_of : List Param → List ℕ
  types_of [] = []
  types_of (p ∷ ps) = p.ty ∷ types_of ps

  scope_one : (s : Scope) (b : Binder) (n t : ℕ) → b.number ≡ n → ((x u : ℕ) → of_binder s (Some x) ≡ Some (Some u) → x < n) → (x u : ℕ) → of_binder (s ++ entry (Some t) b ∷ []) (Some x) ≡ Some (Some u) → x < suc n
  scope_one s b n t number before x u h = elim (new_or_old s b t x u h) as (λ v. x < suc n) [
    | inl e ↦ (let z = e.0 in omega (arith, z, number))
    | inr e ↦ (let z = before x u e.1 in omega (arith, z))
  ]

  append_none : (s : Scope) → s ++ [] ≡ s
  append_none [] = refl
  append_none (e ∷ s) = ap (λ s. e ∷ s) (append_none s)

  -- what is known after the parameters
  pub record Entered (s : Scope) (T : Item → ℕ) (n m : ℕ) (k : Known) (ps : List Param) (bs : List Binder) : Type 0 where
    pub ties : Ties fip w (s ++ entries_of bs (types_of ps)) B K (λ i. T i + takens w n ps i) (λ q. 0) (with_params st k ps bs)
    pub next : (with_params st k ps bs).next ≡ n + length ps
    pub width : length (with_params st k ps bs).held ≡ m
    pub names : length (with_params st k ps bs).names ≡ length k.names
    pub none : NoneFrom (n + length ps) (λ i. T i + takens w n ps i)

  pub params_all : (s : Scope) (T : Item → ℕ) (n : ℕ) (k : Known) (ps : List Param) (bs : List Binder) → length bs ≡ length ps → InOrder n bs → ((c : PlainCode) → c.types ≡ w → ParamsTyped c ps) → Ties fip w s B K T (λ q. 0) k → k.next ≡ n → n + length ps ≤ length k.held → n + length ps ≤ length k.names → ((x u : ℕ) → of_binder s (Some x) ≡ Some (Some u) → x < n) → NoneFrom n T → Borrowing w B n ps → Entered s T n (length k.held) k ps bs
  params_all s T n k [] [] many order typed ties at room within before none borrowing = record {
    ties = subst (λ s. Ties fip w s B K (λ i. T i + 0) (λ q. 0) k) (sym (append_none s)) (ties_worth fip w s B K T (λ i. T i + 0) (λ q. 0) k (λ i. omega arith) ties);
    next = omega (arith, at);
    width = refl;
    names = refl;
    none = λ y low. (let z = none y (omega (arith, low)) in omega (arith, z));
  }
  params_all s T n k [] (b ∷ bs) many order typed ties at room within before none borrowing = absurd (omega (arith, many))
  params_all s T n k (p ∷ ps) [] many order typed ties at room within before none borrowing = absurd (omega (arith, many))
  params_all s T n k (p ∷ ps) (b ∷ bs) many order typed ties at room within before none borrowing =
      let l = with_param st k p b in
      let first : Ties fip w (s ++ entry (Some p.ty) b ∷ []) B K (λ i. T i + taken w p n i) (λ q. 0) l =
      subst (λ m. Ties fip w (s ++ entry (Some p.ty) b ∷ []) B K (λ i. T i + taken w p m i) (λ q. 0) l) at
      (param_one s T k p b (typed (record { types = w; functions = [] }) refl).0 ties (omega (arith, room, at)) (omega (arith, within, at)) (order.0 ∙ sym at)
      (λ x u h. let z = before x u h in omega (arith, z, at)) (λ y low. none y (omega (arith, low, at))) (λ tree. ap B at ∙ borrowing.0 tree)) in
      let wide = length_set k.held k.next (param_held st p) in
      let names = length_named k.names b.number k.next in
      let rest = params_all (s ++ entry (Some p.ty) b ∷ []) (λ i. T i + taken w p n i) (suc n) l ps bs (omega (arith, many)) order.1 (λ c e. (typed c e).1) first (omega (arith, at)) (omega (arith, room, wide)) (omega (arith, within, names))
      (scope_one s b n p.ty order.0 before) (none_more p n T none) borrowing.1 in
      record {
        ties = subst (λ s. Ties fip w s B K (λ i. T i + (taken w p n i + takens w (suc n) ps i)) (λ q. 0) (with_params st l ps bs)) (append_assoc s (entry (Some p.ty) b ∷ []) (entries_of bs (types_of ps)))
            (ties_worth fip w ((s ++ entry (Some p.ty) b ∷ []) ++ entries_of bs (types_of ps)) B K (λ i. (T i + taken w p n i) + takens w (suc n) ps i) (λ i. T i + (taken w p n i + takens w (suc n) ps i)) (λ q. 0) (with_params st l ps bs) (λ i. omega arith) rest.ties);
        next = (let z = rest.next in omega (arith, z));
        width = rest.width ∙ wide;
        names = rest.names ∙ names;
        none = λ y low. (let z = rest.none y (omega (arith, low)) in omega (arith, z));
      }

  -- ---- credits

  unless_id : (r : ℕ) (names : List (Option ℕ)) → ((x p : ℕ) → register_of names (Some x) ≡ Some p → p ≡ r → ⊥) → map (unless_in r) names ≡ names
  unless_id r [] apart = refl
  unless_id r (None ∷ os) apart = ap (λ os. None ∷ os) (unless_id r os (λ x p h. apart (suc x) p h))
  unless_id r (Some q ∷ os) apart =
      ap₂ (λ o os. o ∷ os) (refused (q == r) None (Some q) (unequal_is q r (apart zero q refl))) (unless_id r os (λ x p h. apart (suc x) p h))

  cond_and : (a b : Bool) → one_if (a && b) + 0 ≡ one_if (a && b)
  cond_and a b = omega arith

  one_test : (m n : ℕ) → one m n ≡ one_if (m == n)
  one_test m n = by (m == n)
    where
      by : (b : Bool) → (if b then 1 else 0) ≡ one_if b
      by true = refl
      by false = refl

  -- a credit of size m is in the next register
  pub credit_one : (s : Scope) (T : Item → ℕ) (k : Known) (m : ℕ) → Ties fip w s B K T (λ q. 0) k → suc k.next ≤ length k.held → Ties fip w s B K (λ i. T i + charge (m ∷ []) i) (λ q. 0) (with_next_credit k m)
  credit_one s T k m ties room =
      ties_on fip w s B K T (λ i. T i + charge (m ∷ []) i) (λ q. 0) (λ q. 0) (λ q. 0) k (with_next_credit k m) ties (λ x. omega arith) (kept (λ i. T i + charge (m ∷ []) i))
      (unless_id n k.names (λ x p h e. absurd (let z = ties.named x p h in let y : ⊥ = omega (arith, z, e) in y))) (omega arith)
      (subst (λ x. Rattle.lowering_soundness.specs.Ties.Stays g x (λ q. owners k.names (own Charged) q + 0)) (sym held) (setting_stays g n h (λ q. owners k.names (own Charged) q + 0) (ap is_idle empty)))
      (subst (λ x. Balanced fip x (λ q. owners k.names (own Charged) q + 0)) (sym held) (setting_balanced fip g n h (λ q. owners k.names (own Charged) q + 0) no_tree refl trees))
      (subst Rooted (sym held) (setting_rooted g n h no_tree refl unlent ties.rooted))
      (subst (BareRight w) (sym held) (setting_bares w g n h unbare ties.bares))
      (λ i. subst (λ a. Fits fip a (T (Credit i) + charge (m ∷ []) (Credit i))) (sym (sized_both i k.credits (record { size = m; register = n } ∷ []))) (subst (λ a. Fits fip (sized i k.credits + a) (T (Credit i) + (one m i + 0))) (charge_is i) (added i (sized i k.credits) (T (Credit i)) (one m i + 0) (ties.sizes i))))
      counts
      (λ r past. ap (λ y. y r) held ∙ setting_fresh g n h ties.fresh r past)
    where
      n : ℕ
      n = k.next

      g : Holding
      g = held_at k.held

      h : Held
      h = H.Credit m

      Charged : Item → ℕ
      Charged i = T i + charge (m ∷ []) i

      empty : held_at k.held k.next ≡ H.Nothing
      empty = ties.fresh k.next (omega arith)

      no_tree : is_tree (held_at k.held k.next) ≡ false
      no_tree = ap is_tree empty

      held : held_at (slice_set k.held k.next (H.Credit m)) ≡ setting (held_at k.held) k.next (H.Credit m)
      held = held_set_fn k.held k.next (H.Credit m) room

      unlent : (u q : ℕ) → H.Credit m ≡ H.Lent u (Some q) → ⊥
      unlent u q e = absurd (cc)

      unbare : (u q : ℕ) → H.Credit m ≡ H.Bare u q → ⊥
      unbare u q e = absurd (cc)

      charge_is : (i : ℕ) → one m i + 0 ≡ sized i (record { size = m; register = k.next } ∷ [])
      charge_is i = let z = one_test m i in omega (arith, z)

      added : (i a b d : ℕ) → Fits fip a b → Fits fip (a + d) (b + d)
      added i a b d e = Rattle.derivation_making.proofs.ownership_calculus.Fit.fits_sum fip (a + d) a d b d (fits_same fip (a + d)) e (fits_same fip d)

      counts : (i r : ℕ) → counted i r (k.credits ++ (record { size = m; register = k.next } ∷ [])) ≡ one_if (is_credit_of i (held_at (slice_set k.held k.next (H.Credit m)) r))
      counts i r =
          counted_both i r k.credits (record { size = m; register = k.next } ∷ [])
          ∙ (by (r == k.next) refl
          ∙ sym (ap (λ y. one_if (is_credit_of i (y r))) held))
        where
          front : counted i r k.credits ≡ one_if (is_credit_of i (held_at k.held r))
          front = ties.credits i r

          and_false : (b : Bool) → (b && false) ≡ false
          and_false true = refl
          and_false false = refl

          and_true : (b : Bool) → (b && true) ≡ b
          and_true true = refl
          and_true false = refl

          by : (b : Bool) → (r == k.next) ≡ b → counted i r k.credits + (one_if ((m == i) && (k.next == r)) + 0) ≡ one_if (is_credit_of i (setting (held_at k.held) k.next (H.Credit m) r))
          by true e =
              let same = equal r k.next e in
              let a : counted i r k.credits ≡ 0 = front ∙ ap (λ h. one_if (is_credit_of i h)) (ap (held_at k.held) same ∙ empty) in
              let b : one_if ((m == i) && (k.next == r)) ≡ one_if (m == i) = ap one_if (ap (λ b. (m == i) && b) (equal_is k.next r (sym same)) ∙ and_true (m == i)) in
              let d : one_if (is_credit_of i (setting (held_at k.held) k.next (H.Credit m) r)) ≡ one_if (m == i) = ap (λ h. one_if (is_credit_of i h)) (chosen (r == k.next) (H.Credit m) (held_at k.held r) e) in
              omega (arith, a, b, d)
          by false e =
              let ne = unequal r k.next e in
              let b : one_if ((m == i) && (k.next == r)) ≡ 0 = ap one_if (ap (λ b. (m == i) && b) (unequal_is k.next r (λ z. ne (sym z))) ∙ and_false (m == i)) in
              let d : one_if (is_credit_of i (setting (held_at k.held) k.next (H.Credit m) r)) ≡ one_if (is_credit_of i (held_at k.held r)) = ap (λ h. one_if (is_credit_of i h)) (refused (r == k.next) (H.Credit m) (held_at k.held r) e) in
              let a = front in
              omega (arith, a, b, d)

      trees : Balanced fip (held_at k.held) (λ q. owners k.names (own Charged) q + 0)
      trees q = subst (λ a. Fits fip (one_if (is_tree (held_at k.held q))) (a + 0)) (owners_same k.names (own T) (own Charged) q (λ x. omega arith)) (ties.trees q)

  pub record Credited (s : Scope) (T : Item → ℕ) (k : Known) (ms : List ℕ) (l : Known) : Type 0 where
    pub ties : Ties fip w s B K (λ i. T i + charge ms i) (λ q. 0) l
    pub next : l.next ≡ k.next + length ms
    pub width : length l.held ≡ length k.held
    pub names : length l.names ≡ length k.names

  charge_more : (m : ℕ) (ms : List ℕ) (i : Item) → charge (m ∷ []) i + charge ms i ≡ charge (m ∷ ms) i
  charge_more m ms (Own x) = omega arith
  charge_more m ms (Credit k) = omega arith

  charge_none : (i : Item) → charge [] i ≡ 0
  charge_none (Own x) = refl
  charge_none (Credit k) = refl

  pub credits_all : (s : Scope) (T : Item → ℕ) (k : Known) (ms : List ℕ) → Ties fip w s B K T (λ q. 0) k → k.next + length ms ≤ length k.held → Credited s T k ms (with_credits k ms)
  credits_all s T k [] ties room = record {
    ties = ties_worth fip w s B K T (λ i. T i + charge [] i) (λ q. 0) k (λ i. let z = charge_none i in omega (arith, z)) ties;
    next = omega arith;
    width = refl;
    names = refl;
  }
  credits_all s T k (m ∷ ms) ties room =
      let wide = length_set k.held k.next (H.Credit m) in
      let rest = credits_all s (λ i. T i + charge (m ∷ []) i) (with_next_credit k m) ms (credit_one s T k m ties (omega (arith, room))) (omega (arith, room, wide)) in
      record {
        ties = ties_worth fip w s B K (λ i. (T i + charge (m ∷ []) i) + charge ms i) (λ i. T i + charge (m ∷ ms) i) (λ q. 0) (with_credits (with_next_credit k m) ms) (λ i. let z = charge_more m ms i in omega (arith, z)) rest.ties;
        next = (let z = rest.next in omega (arith, z));
        width = rest.width ∙ wide;
        names = rest.names ∙ Rattle.separation.proofs.separation_kinds.Basics.length_map (unless_in k.next) k.names;
      }

-- ---- what a function starts with

module _ (c : PlainCode) (w : R.World) (scalars : (t : ℕ) → is_type c.types t ≡ true → w.scalar t ≡ is_scalar_type c.types t) where
  owned_later : (n x : ℕ) (ps : List Param) (bs : List Binder) → x < n → has (owned_parameters w n ps bs) x ≡ false
  owned_later n x ps [] low = refl
  owned_later n x [] (b ∷ bs) low = refl
  owned_later n x (p ∷ ps) (b ∷ bs) low = by (w.scalar p.ty) p.lent (owned_later (suc n) x ps bs (omega (arith, low)))
    where
      by : (a l : Bool) → has (owned_parameters w (suc n) ps bs) x ≡ false → has (if a then owned_parameters w (suc n) ps bs else (if l then owned_parameters w (suc n) ps bs else n ∷ owned_parameters w (suc n) ps bs)) x ≡ false
      by true l h = h
      by false true h = h
      by false false h = ap (λ b. b || has (owned_parameters w (suc n) ps bs) x) (unequal_is n x (λ e. absurd (let z : ⊥ = omega (arith, e, low) in z))) ∙ h

  taken_by : (p : Param) (n : ℕ) (i : Item) (a l : Bool) → is_scalar_type c.types p.ty ≡ a → p.lent ≡ l → taken c.types p n i ≡ (if a then 0 else (if l then 0 else only n i))
  taken_by p n i true true d e = chosen_or (borrows c.types p) d
    where
      chosen_or : (b : Bool) → is_scalar_type c.types p.ty ≡ true → (if b then 0 else sole c.types p.ty n i) ≡ 0
      chosen_or true y = refl
      chosen_or false y = chosen (is_scalar_type c.types p.ty) 0 (only n i) y
  taken_by p n i true false d e = chosen_or (borrows c.types p) d
    where
      chosen_or : (b : Bool) → is_scalar_type c.types p.ty ≡ true → (if b then 0 else sole c.types p.ty n i) ≡ 0
      chosen_or true y = refl
      chosen_or false y = chosen (is_scalar_type c.types p.ty) 0 (only n i) y
  taken_by p n i false true d e = chosen (borrows c.types p) 0 (sole c.types p.ty n i) (ap₂ (λ l s. l && not s) e d)
  taken_by p n i false false d e = refused (borrows c.types p) 0 (sole c.types p.ty n i) (ap₂ (λ l s. l && not s) e d) ∙ refused (is_scalar_type c.types p.ty) 0 (only n i) d

  one_test_of : (m n : ℕ) → one m n ≡ one_if (m == n)
  one_test_of m n = by (m == n)
    where
      by : (b : Bool) → (if b then 1 else 0) ≡ one_if b
      by true = refl
      by false = refl

  takens_has : (n : ℕ) (ps : List Param) (bs : List Binder) (x : ℕ) → length bs ≡ length ps → ParamsTyped c ps → takens c.types n ps (Own x) ≡ one_if (has (owned_parameters w n ps bs) x)
  takens_has n [] [] x many typed = refl
  takens_has n [] (b ∷ bs) x many typed = absurd (omega (arith, many))
  takens_has n (p ∷ ps) [] x many typed = absurd (omega (arith, many))
  takens_has n (p ∷ ps) (b ∷ bs) x many typed = by (is_scalar_type c.types p.ty) p.lent refl refl (takens_has (suc n) ps bs x (omega (arith, many)) typed.1)
    where
      later : List ℕ
      later = owned_parameters w (suc n) ps bs

      list : (a l : Bool) → is_scalar_type c.types p.ty ≡ a → p.lent ≡ l → owned_parameters w n (p ∷ ps) (b ∷ bs) ≡ (if a then owned_parameters w (suc n) ps bs else (if l then owned_parameters w (suc n) ps bs else n ∷ owned_parameters w (suc n) ps bs))
      list a l d e = ap₂ (λ a l. if a then owned_parameters w (suc n) ps bs else (if l then owned_parameters w (suc n) ps bs else n ∷ owned_parameters w (suc n) ps bs)) (scalars p.ty typed.0 ∙ d) e

      by : (a l : Bool) → is_scalar_type c.types p.ty ≡ a → p.lent ≡ l → takens c.types (suc n) ps (Own x) ≡ one_if (has (owned_parameters w (suc n) ps bs) x) → taken c.types p n (Own x) + takens c.types (suc n) ps (Own x) ≡ one_if (has (owned_parameters w n (p ∷ ps) (b ∷ bs)) x)
      by true l d e rest =
          let a = taken_by p n (Own x) true l d e in
          let z : taken c.types p n (Own x) + takens c.types (suc n) ps (Own x) ≡ takens c.types (suc n) ps (Own x) = omega (arith, a) in
          z ∙ (rest ∙ ap (λ ys. one_if (has ys x)) (sym (list true l d e)))
      by false true d e rest =
          let a = taken_by p n (Own x) false true d e in
          let z : taken c.types p n (Own x) + takens c.types (suc n) ps (Own x) ≡ takens c.types (suc n) ps (Own x) = omega (arith, a) in
          z ∙ (rest ∙ ap (λ ys. one_if (has ys x)) (sym (list false true d e)))
      by false false d e rest =
          let a = taken_by p n (Own x) false false d e in
          let z : taken c.types p n (Own x) + takens c.types (suc n) ps (Own x) ≡ one n x + one_if (has (owned_parameters w (suc n) ps bs) x) = omega (arith, a, rest) in
          z ∙ (both_one ∙ ap (λ ys. one_if (has ys x)) (sym (list false false d e)))
        where
          both_one : one n x + one_if (has (owned_parameters w (suc n) ps bs) x) ≡ one_if ((n == x) || has (owned_parameters w (suc n) ps bs) x)
          both_one = elim (or_not (n == x)) as (λ v. one n x + one_if (has (owned_parameters w (suc n) ps bs) x) ≡ one_if ((n == x) || has (owned_parameters w (suc n) ps bs) x)) [
            | inl same ↦
                (let z = equal n x same in
                let a = one_test_of n x ∙ ap one_if same in
                let b = ap one_if (owned_later (suc n) x ps bs (omega (arith, z))) in
                let l : one n x + one_if (has (owned_parameters w (suc n) ps bs) x) ≡ 1 = omega (arith, a, b) in
                l ∙ ap (λ b. one_if (b || has (owned_parameters w (suc n) ps bs) x)) (sym same))
            | inr other ↦
                (let a = one_test_of n x ∙ ap one_if other in
                let l : one n x + one_if (has (owned_parameters w (suc n) ps bs) x) ≡ one_if (has (owned_parameters w (suc n) ps bs) x) = omega (arith, a) in
                l ∙ ap (λ b. one_if (b || has (owned_parameters w (suc n) ps bs) x)) (sym other))
          ]

  taken_credit : (p : Param) (n k : ℕ) → taken c.types p n (Credit k) ≡ 0
  taken_credit p n k = Rattle.separation.proofs.separation_kinds.Basics.pick (λ m. m ≡ 0) (borrows c.types p) 0 (sole c.types p.ty n (Credit k)) (λ e. refl) (λ e. sole_credit c.types p.ty n k)

  takens_credit : (n : ℕ) (ps : List Param) (k : ℕ) → takens c.types n ps (Credit k) ≡ 0
  takens_credit n [] k = refl
  takens_credit n (p ∷ ps) k = let a = taken_credit p n k in let b = takens_credit (suc n) ps k in omega (arith, a, b)

  if_one : (b : Bool) → one_if b ≡ (if b then 1 else 0)
  if_one true = refl
  if_one false = refl

  pub starts : (ps : List Param) (bs : List Binder) (ks : List ℕ) (i : Item) → length bs ≡ length ps → ParamsTyped c ps → takens c.types 0 ps i + charge ks i ≡ starting (owned_parameters w 0 ps bs) ks i
  starts ps bs ks (Own x) many typed = let a = takens_has 0 ps bs x many typed in let b = if_one (has (owned_parameters w 0 ps bs) x) in omega (arith, a, b)
  starts ps bs ks (Credit k) many typed = let a = takens_credit 0 ps k in omega (arith, a)

  -- which are borrowed
  pub borrowings : (n : ℕ) (ps : List Param) (bs : List Binder) → length bs ≡ length ps → ParamsTyped c ps → Borrowing c.types (O.setting (owned_parameters w n ps bs) false (has (borrowed_parameters w n ps bs))) n ps
  borrowings n ps bs many typed = from n ps bs many typed (λ x h. h) (λ x low h. h) (λ x h. h)
    where
      B : ℕ → Bool
      B = O.setting (owned_parameters w n ps bs) false (has (borrowed_parameters w n ps bs))

      from : (m : ℕ) (qs : List Param) (ds : List Binder) → length ds ≡ length qs → ParamsTyped c qs → ((x : ℕ) → has (owned_parameters w m qs ds) x ≡ true → has (owned_parameters w n ps bs) x ≡ true) → ((x : ℕ) → m ≤ x → has (owned_parameters w n ps bs) x ≡ true → has (owned_parameters w m qs ds) x ≡ true) → ((x : ℕ) → has (borrowed_parameters w m qs ds) x ≡ true → has (borrowed_parameters w n ps bs) x ≡ true) → Borrowing c.types (O.setting (owned_parameters w n ps bs) false (has (borrowed_parameters w n ps bs))) m qs
      from m [] ds many typed own back lent = tt
      from m (q ∷ qs) [] many typed own back lent = absurd (omega (arith, many))
      from m (q ∷ qs) (d ∷ ds) many typed own back lent =
          (first, from (suc m) qs ds (omega (arith, many)) typed.1 (λ x h. own x (own_on x h)) (λ x low h. strip x low (back x (omega (arith, low)) h)) (λ x h. lent x (lent_on x h)))
        where
          owners_by : (a l : Bool) → w.scalar q.ty ≡ a → q.lent ≡ l → owned_parameters w m (q ∷ qs) (d ∷ ds) ≡ (if a then owned_parameters w (suc m) qs ds else (if l then owned_parameters w (suc m) qs ds else m ∷ owned_parameters w (suc m) qs ds))
          owners_by a l e f = ap₂ (λ a l. if a then owned_parameters w (suc m) qs ds else (if l then owned_parameters w (suc m) qs ds else m ∷ owned_parameters w (suc m) qs ds)) e f

          lents_by : (a l : Bool) → w.scalar q.ty ≡ a → q.lent ≡ l → borrowed_parameters w m (q ∷ qs) (d ∷ ds) ≡ (if a then borrowed_parameters w (suc m) qs ds else (if l then m ∷ borrowed_parameters w (suc m) qs ds else borrowed_parameters w (suc m) qs ds))
          lents_by a l e f = ap₂ (λ a l. if a then borrowed_parameters w (suc m) qs ds else (if l then m ∷ borrowed_parameters w (suc m) qs ds else borrowed_parameters w (suc m) qs ds)) e f

          or_right : (a b : Bool) → b ≡ true → (a || b) ≡ true
          or_right true b e = refl
          or_right false b e = e

          own_on : (x : ℕ) → has (owned_parameters w (suc m) qs ds) x ≡ true → has (owned_parameters w m (q ∷ qs) (d ∷ ds)) x ≡ true
          own_on x h = by (w.scalar q.ty) q.lent
            where
              by : (a l : Bool) → has (if a then owned_parameters w (suc m) qs ds else (if l then owned_parameters w (suc m) qs ds else m ∷ owned_parameters w (suc m) qs ds)) x ≡ true
              by true l = h
              by false true = h
              by false false = or_right (m == x) (has (owned_parameters w (suc m) qs ds) x) h

          lent_on : (x : ℕ) → has (borrowed_parameters w (suc m) qs ds) x ≡ true → has (borrowed_parameters w m (q ∷ qs) (d ∷ ds)) x ≡ true
          lent_on x h = by (w.scalar q.ty) q.lent
            where
              by : (a l : Bool) → has (if a then borrowed_parameters w (suc m) qs ds else (if l then m ∷ borrowed_parameters w (suc m) qs ds else borrowed_parameters w (suc m) qs ds)) x ≡ true
              by true l = h
              by false true = or_right (m == x) (has (borrowed_parameters w (suc m) qs ds) x) h
              by false false = h

          strip : (x : ℕ) → suc m ≤ x → has (owned_parameters w m (q ∷ qs) (d ∷ ds)) x ≡ true → has (owned_parameters w (suc m) qs ds) x ≡ true
          strip x low h = by (w.scalar q.ty) q.lent h
            where
              by : (a l : Bool) → has (if a then owned_parameters w (suc m) qs ds else (if l then owned_parameters w (suc m) qs ds else m ∷ owned_parameters w (suc m) qs ds)) x ≡ true → has (owned_parameters w (suc m) qs ds) x ≡ true
              by true l y = y
              by false true y = y
              by false false y = sym (ap (λ b. b || has (owned_parameters w (suc m) qs ds) x) (unequal_is m x (λ e. absurd (let z : ⊥ = omega (arith, e, low) in z)))) ∙ y

          -- after what was borrowed it isn't owned
          not_owned_here : q.lent ≡ true → has (owned_parameters w n ps bs) m ≡ false
          not_owned_here e = elim (or_not (has (owned_parameters w n ps bs) m)) as (λ v. has (owned_parameters w n ps bs) m ≡ false) [
            | inl h ↦ absurd (true≢false (sym (back m (omega arith) h) ∙ none (w.scalar q.ty)))
            | inr h ↦ h
          ]
            where
              later : has (owned_parameters w (suc m) qs ds) m ≡ false
              later = owned_later (suc m) m qs ds (omega arith)

              none : (a : Bool) → has (owned_parameters w m (q ∷ qs) (d ∷ ds)) m ≡ false
              none a = ap (λ ys. has ys m) (owners_by (w.scalar q.ty) true refl e) ∙ by (w.scalar q.ty)
                where
                  by : (a : Bool) → has (if a then owned_parameters w (suc m) qs ds else (if true then owned_parameters w (suc m) qs ds else m ∷ owned_parameters w (suc m) qs ds)) m ≡ false
                  by true = later
                  by false = later

          first : is_scalar_type c.types q.ty ≡ false → B m ≡ q.lent
          first tree = by q.lent refl
            where
              scalar : w.scalar q.ty ≡ false
              scalar = scalars q.ty typed.0 ∙ tree

              by : (l : Bool) → q.lent ≡ l → B m ≡ q.lent
              by true e =
                  refused (has (owned_parameters w n ps bs) m) false (has (borrowed_parameters w n ps bs) m) (not_owned_here e)
                  ∙ (lent m (ap (λ ys. has ys m) (lents_by false true scalar e) ∙ ap (λ b. b || has (borrowed_parameters w (suc m) qs ds) m) (itself m)) ∙ sym e)
              by false e =
                  chosen (has (owned_parameters w n ps bs) m) false (has (borrowed_parameters w n ps bs) m) (own m (ap (λ ys. has ys m) (owners_by false false scalar e) ∙ ap (λ b. b || has (owned_parameters w (suc m) qs ds) m) (itself m))) ∙ sym e
