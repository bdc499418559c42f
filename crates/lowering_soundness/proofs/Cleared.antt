-- Registers and names at the entry of a clause, one after another: what is known goes with the variables in scope.
use Rattle.std.proofs.Common.{◌≡◌, ◌⊎◌, inl, inr, ℕ, zero, suc, ◌+◌, ◌<◌, ◌≤◌, Bool, true, false, ◌&&◌, List, [], ◌∷◌, ◌++◌, length, map, slice_set, Option, Some, None, refl, sym, ap, ◌∙◌, subst, subst₂, true≢false, arith, if◌then◌else◌, ◌==◌}
use Rattle.separation.specs.fip_language.Table.{Table}
use Rattle.lowering_relation.specs.fip_trees.declared.program.Binder.{Binder}
use Rattle.derivation_making.specs.type_check.Binders.{entry}
use Rattle.derivation_making.specs.type_check.Scope.{Scope, of_binder}
use Rattle.derivation_making.specs.ownership_calculus.Terms.{Item, Own, Credit, one, charge}
use Rattle.derivation_making.specs.ownership_calculus.Rules.{Fits}
use Rattle.derivation_making.proofs.ownership_calculus.Fit.{fits_same, fits_sum}
use Rattle.separation.specs.code_rules.Types.{is_scalar_type}
use Rattle.separation.proofs.separation_kinds.Basics.{pick, chosen, refused, or_not, equal, equal_is, unequal, unequal_is}
use Rattle.lowering_relation.specs.declared.held.Held.{Held}
use Rattle.lowering_relation.specs.declared.held.Held.TheVariants as H
use Rattle.lowering_relation.specs.Known.{Known, register_of, named, naming, holding}
use Rattle.lowering_relation.specs.LoweredFunctions.{unless_in}
use Rattle.lowering_relation.specs.Entering.{unnaming}
use Rattle.lowering_relation.specs.Describing.{Holding, held_at, setting, is_tree}
use Rattle.lowering_soundness.specs.Giving.{is_owned_of, is_credit_of}
use Rattle.lowering_soundness.specs.Ties.{one_if, is_register, owners, sized, counted, own, is_read_of, Balanced, Rooted, Stays, HoldsVariable, LiesIn, BareRight, Ties}
use Rattle.lowering_relation.specs.Matches.{widened, wide}
use Rattle.lowering_soundness.proofs.Owners.{owners_same, owners_less, sized_both, counted_both}
use Rattle.lowering_soundness.proofs.Tying.{ties_on}
use Rattle.lowering_soundness.proofs.Helds.{held_set_fn}
use Rattle.lowering_soundness.proofs.Writing.{is_idle, setting_other, setting_stays}
use Rattle.lowering_soundness.proofs.Starting.{setting_balanced, setting_rooted, setting_rooted_in, setting_bares, setting_count}
use Rattle.lowering_soundness.proofs.Scoping.{new_or_old}
use Rattle.lowering_soundness.proofs.Naming.{register_new, register_old, owners_renamed}
use Rattle.lowering_soundness.proofs.EntryHeld.{held_wide}

-- ---- which constructor was built is forgotten

pub wide_owned : (u : ℕ) (h : Held) → is_owned_of u (widened h) ≡ is_owned_of u h
wide_owned u H.Nothing = refl
wide_owned u (H.Scalar t) = refl
wide_owned u (H.Owned t b) = refl
wide_owned u (H.Lent t root) = refl
wide_owned u (H.Credit n) = refl
wide_owned u (H.Bare t c) = refl

pub wide_read : (u : ℕ) (h : Held) → is_read_of u (widened h) ≡ is_read_of u h
wide_read u H.Nothing = refl
wide_read u (H.Scalar t) = refl
wide_read u (H.Owned t b) = refl
wide_read u (H.Lent t root) = refl
wide_read u (H.Credit n) = refl
wide_read u (H.Bare t c) = refl

pub wide_tree : (h : Held) → is_tree (widened h) ≡ is_tree h
wide_tree H.Nothing = refl
wide_tree (H.Scalar t) = refl
wide_tree (H.Owned t b) = refl
wide_tree (H.Lent t root) = refl
wide_tree (H.Credit n) = refl
wide_tree (H.Bare t c) = refl

wide_credit : (n : ℕ) (h : Held) → is_credit_of n (widened h) ≡ is_credit_of n h
wide_credit n H.Nothing = refl
wide_credit n (H.Scalar t) = refl
wide_credit n (H.Owned t b) = refl
wide_credit n (H.Lent t root) = refl
wide_credit n (H.Credit m) = refl
wide_credit n (H.Bare t c) = refl

pub wide_lies : (n : ℕ → ℕ) (r : ℕ) (h : Held) → LiesIn n r h → LiesIn n r (widened h)
wide_lies n r H.Nothing l = l
wide_lies n r (H.Scalar t) l = l
wide_lies n r (H.Owned t b) l = l
wide_lies n r (H.Lent t None) l = l
wide_lies n r (H.Lent t (Some q)) l = l
wide_lies n r (H.Credit m) l = l
wide_lies n r (H.Bare t c) l = l

wide_is_lent : (h : Held) (t : ℕ) (root : Option ℕ) → widened h ≡ H.Lent t root → h ≡ H.Lent t root
wide_is_lent H.Nothing t root e = e
wide_is_lent (H.Scalar u) t root e = e
wide_is_lent (H.Owned u b) t root e = absurd (cc)
wide_is_lent (H.Lent u o) t root e = e
wide_is_lent (H.Credit n) t root e = e
wide_is_lent (H.Bare u c) t root e = e

pub wide_is_bare : (h : Held) (t c : ℕ) → widened h ≡ H.Bare t c → h ≡ H.Bare t c
wide_is_bare H.Nothing t c e = e
wide_is_bare (H.Scalar u) t c e = e
wide_is_bare (H.Owned u b) t c e = absurd (cc)
wide_is_bare (H.Lent u o) t c e = e
wide_is_bare (H.Credit n) t c e = e
wide_is_bare (H.Bare u d) t c e = e

pub ties_wide : (fip : Bool) (w : Table) (s : Scope) (B : ℕ → Bool) (K : ℕ → Item → ℕ) (T : Item → ℕ) (e : ℕ → ℕ) (k : Known) → Ties fip w s B K T e k → Ties fip w s B K T e (wide k)
ties_wide fip w s B K T e k t = record {
  variables = λ x r u n o. (let v = t.variables x r u n o in let same = held_wide k.held r in record {
    scalar = λ f. same ∙ ap widened (v.scalar f);
    owned = λ f m. ap (is_owned_of u) same ∙ (wide_owned u (held_at k.held r) ∙ v.owned f m);
    read = λ f m. ap (is_read_of u) same ∙ (wide_read u (held_at k.held r) ∙ v.read f m);
  });
  trees = λ r. subst (λ b. Fits fip (one_if b) (owners k.names (own T) r + e r)) (sym (ap is_tree (held_wide k.held r) ∙ wide_tree (held_at k.held r))) (t.trees r);
  lent = λ x r u n o m. subst (LiesIn (owners k.names (own (K x))) r) (sym (held_wide k.held r)) (wide_lies (owners k.names (own (K x))) r (held_at k.held r) (t.lent x r u n o m));
  rooted = λ r u q z. ap is_tree (held_wide k.held q) ∙ (wide_tree (held_at k.held q) ∙ t.rooted r u q (wide_is_lent (held_at k.held r) u (Some q) (sym (held_wide k.held r) ∙ z)));
  bares = λ r u d z. t.bares r u d (wide_is_bare (held_at k.held r) u d (sym (held_wide k.held r) ∙ z));
  sizes = t.sizes;
  credits = λ n r. t.credits n r ∙ ap one_if (sym (ap (is_credit_of n) (held_wide k.held r) ∙ wide_credit n (held_at k.held r)));
  fresh = λ r low. held_wide k.held r ∙ ap widened (t.fresh r low);
  named = t.named;
}

-- ---- names that go

pub unless_register : (r : ℕ) (names : List (Option ℕ)) (x p : ℕ) → register_of (map (unless_in r) names) (Some x) ≡ Some p → register_of names (Some x) ≡ Some p
unless_register r [] x p h = absurd (cc)
unless_register r (None ∷ os) zero p h = h
unless_register r (Some q ∷ os) zero p h = by (q == r) h
  where
    by : (b : Bool) → Rattle.lowering_relation.specs.Known.joined (Some (if b then None else Some q)) ≡ Some p → Some q ≡ Some p
    by true h = absurd (cc)
    by false h = h
unless_register r (o ∷ os) (suc x) p h = unless_register r os x p h

pub unless_owners : (r : ℕ) (names : List (Option ℕ)) (T : ℕ → ℕ) (q : ℕ) → owners names T r ≡ 0 → owners (map (unless_in r) names) T q ≡ owners names T q
unless_owners r [] T q none = refl
unless_owners r (None ∷ os) T q none = let z = unless_owners r os (λ x. T (suc x)) q (let z = none in omega (arith, z)) in omega (arith, z)
unless_owners r (Some p ∷ os) T q none =
    let rest = unless_owners r os (λ x. T (suc x)) q (let z = none in omega (arith, z)) in
    let first = by (p == r) refl none in
    omega (arith, rest, first)
  where
    by : (b : Bool) → (p == r) ≡ b → (if p == r then T 0 else 0) + owners os (λ x. T (suc x)) r ≡ 0 → (if is_register (if b then None else Some p) q then T 0 else 0) ≡ (if p == q then T 0 else 0)
    by true e z =
        let t : T 0 ≡ 0 = (let a = chosen (p == r) (T 0) 0 e in omega (arith, a, z)) in
        pick (λ n. 0 ≡ n) (p == q) (T 0) 0 (λ y. sym t) (λ y. refl)
    by false e z = refl

-- names without one
unnamed_new : (names : List (Option ℕ)) (x p : ℕ) → register_of (slice_set names x None) (Some x) ≡ Some p → ⊥
unnamed_new [] x p h = absurd (cc)
unnamed_new (o ∷ os) zero p h = absurd (cc)
unnamed_new (o ∷ os) (suc x) p h = unnamed_new os x p h

pub unnamed_old : (names : List (Option ℕ)) (x y : ℕ) → (x ≡ y → ⊥) → register_of (slice_set names x None) (Some y) ≡ register_of names (Some y)
unnamed_old [] x y ne = refl
unnamed_old (o ∷ os) zero zero ne = absurd (ne refl)
unnamed_old (o ∷ os) zero (suc y) ne = refl
unnamed_old (o ∷ os) (suc x) zero ne = refl
unnamed_old (o ∷ os) (suc x) (suc y) ne = unnamed_old os x y (λ e. ne (ap suc e))

pub unnamed_owners : (names : List (Option ℕ)) (T : ℕ → ℕ) (x q : ℕ) → T x ≡ 0 → owners (slice_set names x None) T q ≡ owners names T q
unnamed_owners [] T x q e = refl
unnamed_owners (o ∷ os) T zero q e = let b = zero_if (is_register o q) (T 0) e in omega (arith, b)
  where
    zero_if : (b : Bool) (n : ℕ) → n ≡ 0 → (if b then n else 0) ≡ 0
    zero_if true n e = e
    zero_if false n e = refl
unnamed_owners (o ∷ os) T (suc x) q e = let z = unnamed_owners os (λ y. T (suc y)) x q e in omega (arith, z)

pub length_unnamed : (names : List (Option ℕ)) (x : ℕ) → length (slice_set names x None) ≡ length names
length_unnamed [] x = refl
length_unnamed (o ∷ os) zero = refl
length_unnamed (o ∷ os) (suc x) = ap suc (length_unnamed os x)

-- what is read lies in trees that are owned
abbrev pub Kept : (ℕ → Item → ℕ) → (Item → ℕ) → Type 0
Kept K T = (z y : ℕ) → K z (Own y) ≤ T (Own y)

module _ (fip : Bool) (w : Table) (B : ℕ → Bool) (K : ℕ → Item → ℕ) where
  pub unless_ties : (s : Scope) (T : Item → ℕ) (e : ℕ → ℕ) (k : Known) (r : ℕ) → Kept K T → Ties fip w s B K T e k → owners k.names (own T) r ≡ 0 → Ties fip w s B K T e (record k { names = map (unless_in r) k.names })
  unless_ties s T e k r kept t none = record {
    variables = λ x p u n o. t.variables x p u (unless_register r k.names x p n) o;
    trees = λ q. subst (λ a. Fits fip (one_if (is_tree (held_at k.held q))) (a + e q)) (sym (unless_owners r k.names (own T) q none)) (t.trees q);
    lent = λ x p u n o m. subst (λ g. LiesIn g p (held_at k.held p)) (same x) (t.lent x p u (unless_register r k.names x p n) o m);
    rooted = t.rooted;
    bares = t.bares;
    sizes = t.sizes;
    credits = t.credits;
    fresh = t.fresh;
    named = λ x p n. t.named x p (unless_register r k.names x p n);
  }
    where
      same : (x : ℕ) → owners k.names (own (K x)) ≡ owners (map (unless_in r) k.names) (own (K x))
      same x = λ i q. sym (unless_owners r k.names (own (K x)) q (let z = owners_less k.names (own T) (own (K x)) r (λ y. kept x y) in omega (arith, z, none))) i

  -- ---- an empty register gets something that is no tree

  pub idle_ties : (s : Scope) (T : Item → ℕ) (e : ℕ → ℕ) (k : Known) (d : ℕ) (h : Held) → Kept K T → Ties fip w s B K T e k → held_at k.held d ≡ H.Nothing → d < length k.held → d < k.next → is_tree h ≡ false → ((u q : ℕ) → h ≡ H.Lent u (Some q) → is_tree (held_at k.held q) ≡ true) → ((n : ℕ) → is_credit_of n h ≡ false) → BareRight w (setting (held_at k.held) d h) → Ties fip w s B K T e (holding k d h)
  idle_ties s T e k d h kept t empty room used none roots no_credit bares =
      ties_on fip w s B K T T e e e k (holding k d h) t (λ x. omega arith) kept refl (omega arith)
      (subst (λ x. Stays (held_at k.held) x (λ q. owners k.names (own T) q + e q)) (sym held) (setting_stays (held_at k.held) d h (λ q. owners k.names (own T) q + e q) (ap is_idle empty)))
      (subst (λ x. Balanced fip x (λ q. owners k.names (own T) q + e q)) (sym held) (setting_balanced fip (held_at k.held) d h (λ q. owners k.names (own T) q + e q) (ap is_tree empty) none t.trees))
      (subst Rooted (sym held) (setting_rooted_in (held_at k.held) d h (ap is_tree empty) none roots t.rooted))
      (subst (BareRight w) (sym held) bares)
      t.sizes
      (λ m r. t.credits m r ∙ ap one_if (sym (ap (λ y. is_credit_of m (y r)) held ∙ setting_count (held_at k.held) d h m r (ap (is_credit_of m) empty) (no_credit m))))
      (λ r past. ap (λ y. y r) held ∙ (setting_other (held_at k.held) d h r (λ z. absurd (let y : ⊥ = omega (arith, z, past, used) in y)) ∙ t.fresh r past))
    where
      held : held_at (slice_set k.held d h) ≡ setting (held_at k.held) d h
      held = held_set_fn k.held d h room

  -- a cell that was taken apart
  pub credit_ties : (s : Scope) (T : Item → ℕ) (e : ℕ → ℕ) (k : Known) (m n : ℕ) → Kept K T → Ties fip w s B K T e k → held_at k.held n ≡ H.Nothing → n < length k.held → n < k.next → Ties fip w s B K (λ i. T i + charge (m ∷ []) i) e (record k { held = slice_set k.held n (H.Credit m); credits = k.credits ++ (record { size = m; register = n } ∷ []) })
  credit_ties s T e k m n kept t empty room used =
      ties_on fip w s B K T Charged e e e k after t (λ x. omega arith) (λ z y. (let a = kept z y in omega (arith, a))) refl (omega arith)
      (subst (λ x. Stays g x (λ q. owners k.names (own Charged) q + e q)) (sym held) (setting_stays g n h (λ q. owners k.names (own Charged) q + e q) (ap is_idle empty)))
      (subst (λ x. Balanced fip x (λ q. owners k.names (own Charged) q + e q)) (sym held) (setting_balanced fip g n h (λ q. owners k.names (own Charged) q + e q) (ap is_tree empty) refl trees))
      (subst Rooted (sym held) (setting_rooted g n h (ap is_tree empty) refl unlent t.rooted))
      (subst (BareRight w) (sym held) (setting_bares w g n h unbare t.bares))
      (λ i. subst (λ a. Fits fip a (T (Credit i) + charge (m ∷ []) (Credit i))) (sym (sized_both i k.credits (record { size = m; register = n } ∷ []))) (subst (λ a. Fits fip (sized i k.credits + a) (T (Credit i) + (one m i + 0))) (charge_is i) (added (sized i k.credits) (T (Credit i)) (one m i + 0) (t.sizes i))))
      counts
      (λ r past. ap (λ y. y r) held ∙ (setting_other g n h r (λ z. absurd (let y : ⊥ = omega (arith, z, past, used) in y)) ∙ t.fresh r past))
    where
      g : Holding
      g = held_at k.held

      h : Held
      h = H.Credit m

      Charged : Item → ℕ
      Charged i = T i + charge (m ∷ []) i

      after : Known
      after = record k { held = slice_set k.held n (H.Credit m); credits = k.credits ++ (record { size = m; register = n } ∷ []) }

      held : held_at (slice_set k.held n (H.Credit m)) ≡ setting (held_at k.held) n (H.Credit m)
      held = held_set_fn k.held n (H.Credit m) room

      unlent : (u q : ℕ) → H.Credit m ≡ H.Lent u (Some q) → ⊥
      unlent u q e = absurd (cc)

      unbare : (u q : ℕ) → H.Credit m ≡ H.Bare u q → ⊥
      unbare u q e = absurd (cc)

      one_test : (m n : ℕ) → one m n ≡ one_if (m == n)
      one_test m n = by (m == n)
        where
          by : (b : Bool) → (if b then 1 else 0) ≡ one_if b
          by true = refl
          by false = refl

      charge_is : (i : ℕ) → one m i + 0 ≡ sized i (record { size = m; register = n } ∷ [])
      charge_is i = let z = one_test m i in omega (arith, z)

      added : (a b d : ℕ) → Fits fip a b → Fits fip (a + d) (b + d)
      added a b d e = fits_sum fip (a + d) a d b d (fits_same fip (a + d)) e (fits_same fip d)

      trees : Balanced fip (held_at k.held) (λ q. owners k.names (own Charged) q + e q)
      trees q = subst (λ a. Fits fip (one_if (is_tree (held_at k.held q))) (a + e q)) (owners_same k.names (own T) (own Charged) q (λ x. omega arith)) (t.trees q)

      counts : (i r : ℕ) → counted i r (k.credits ++ (record { size = m; register = n } ∷ [])) ≡ one_if (is_credit_of i (held_at (slice_set k.held n (H.Credit m)) r))
      counts i r =
          counted_both i r k.credits (record { size = m; register = n } ∷ [])
          ∙ (by (r == n) refl
          ∙ sym (ap (λ y. one_if (is_credit_of i (y r))) held))
        where
          front : counted i r k.credits ≡ one_if (is_credit_of i (held_at k.held r))
          front = t.credits i r

          and_false : (b : Bool) → (b && false) ≡ false
          and_false true = refl
          and_false false = refl

          and_true : (b : Bool) → (b && true) ≡ b
          and_true true = refl
          and_true false = refl

          by : (b : Bool) → (r == n) ≡ b → counted i r k.credits + (one_if ((m == i) && (n == r)) + 0) ≡ one_if (is_credit_of i (setting (held_at k.held) n (H.Credit m) r))
          by true e =
              let same = equal r n e in
              let a : counted i r k.credits ≡ 0 = front ∙ ap (λ h. one_if (is_credit_of i h)) (ap (held_at k.held) same ∙ empty) in
              let b : one_if ((m == i) && (n == r)) ≡ one_if (m == i) = ap one_if (ap (λ b. (m == i) && b) (equal_is n r (sym same)) ∙ and_true (m == i)) in
              let d : one_if (is_credit_of i (setting (held_at k.held) n (H.Credit m) r)) ≡ one_if (m == i) = ap (λ h. one_if (is_credit_of i h)) (chosen (r == n) (H.Credit m) (held_at k.held r) e) in
              omega (arith, a, b, d)
          by false e =
              let ne = unequal r n e in
              let b : one_if ((m == i) && (n == r)) ≡ 0 = ap one_if (ap (λ b. (m == i) && b) (unequal_is n r (λ z. ne (sym z))) ∙ and_false (m == i)) in
              let d : one_if (is_credit_of i (setting (held_at k.held) n (H.Credit m) r)) ≡ one_if (is_credit_of i (held_at k.held r)) = ap (λ h. one_if (is_credit_of i h)) (refused (r == n) (H.Credit m) (held_at k.held r) e) in
              let a = front in
              omega (arith, a, b, d)

  -- ---- a variable that is only borrowed, and one without a register

  scope_of : (s : Scope) (b : Binder) (t n x u : ℕ) → b.number ≡ n → of_binder (s ++ entry (Some t) b ∷ []) (Some x) ≡ Some (Some u) → ((n ≡ x) × (t ≡ u)) ⊎ ((n ≡ x → ⊥) × (of_binder s (Some x) ≡ Some (Some u)))
  scope_of s b t n x u number y = elim (new_or_old s b t x u y) as (λ v. ((n ≡ x) × (t ≡ u)) ⊎ ((n ≡ x → ⊥) × (of_binder s (Some x) ≡ Some (Some u)))) [
    | inl z ↦ inl (sym number ∙ z.0, z.1)
    | inr z ↦ inr ((λ e. z.0 (number ∙ e)), z.1)
  ]

  pub name_lent : (s : Scope) (T : Item → ℕ) (e : ℕ → ℕ) (k : Known) (b : Binder) (n d t : ℕ) → Kept K T → Ties fip w s B K T e k → is_read_of t (held_at k.held d) ≡ true → LiesIn (owners k.names (own (K n))) d (held_at k.held d) → is_scalar_type w t ≡ false → d < k.next → T (Own n) ≡ 0 → n < length k.names → b.number ≡ n → Ties fip w (s ++ entry (Some t) b ∷ []) B K T e (naming k b.number d)
  name_lent s T e k b n d t kept ties read lies tree used none within number = subst (λ x. Ties fip w (s ++ entry (Some t) b ∷ []) B K T e (naming k x d)) (sym number) (record {
    variables = variable;
    trees = λ q. subst (λ a. Fits fip (one_if (is_tree (held_at k.held q))) (a + e q)) (sym (owners_renamed k.names (own T) n d q none)) (ties.trees q);
    lent = lying;
    rooted = ties.rooted;
    bares = ties.bares;
    sizes = ties.sizes;
    credits = ties.credits;
    fresh = ties.fresh;
    named = λ x p h. elim (or_not (n == x)) as (λ v. suc p ≤ k.next) [
      | inl y ↦ (let same = here x p (equal n x y) h in omega (arith, used, same))
      | inr y ↦ ties.named x p (there x p (unequal n x y) h)
    ];
  })
    where
      here : (x p : ℕ) → n ≡ x → register_of (named k.names n d) (Some x) ≡ Some p → d ≡ p
      here x p e y = Rattle.lowering_relation.proofs.LoweredLists.same_some d p (sym (register_new k.names n d within) ∙ (ap (λ x. register_of (named k.names n d) (Some x)) e ∙ y))

      same : (x : ℕ) → owners k.names (own (K x)) ≡ owners (named k.names n d) (own (K x))
      same x = λ i q. sym (owners_renamed k.names (own (K x)) n d q (let z = kept x n in omega (arith, z, none))) i

      there : (x p : ℕ) → (n ≡ x → ⊥) → register_of (named k.names n d) (Some x) ≡ Some p → register_of k.names (Some x) ≡ Some p
      there x p ne y = sym (register_old k.names n d x ne) ∙ y

      variable : (x p u : ℕ) → register_of (named k.names n d) (Some x) ≡ Some p → of_binder (s ++ entry (Some t) b ∷ []) (Some x) ≡ Some (Some u) → HoldsVariable w u (held_at k.held p) (T (Own x)) (B x)
      variable x p u y o = elim (scope_of s b t n x u number o) as (λ v. HoldsVariable w u (held_at k.held p) (T (Own x)) (B x)) [
        | inl z ↦
            subst₂ (λ u p. HoldsVariable w u (held_at k.held p) (T (Own x)) (B x)) z.1 (here x p z.0 y) (record {
              scalar = λ e. absurd (true≢false (sym e ∙ tree));
              owned = λ e more. absurd (let a = ap (λ x. T (Own x)) z.0 in let f : ⊥ = omega (arith, none, a, more) in f);
              read = λ e m. read;
            })
        | inr z ↦ ties.variables x p u (there x p z.0 y) z.1
      ]

      lying : (x p u : ℕ) → register_of (named k.names n d) (Some x) ≡ Some p → of_binder (s ++ entry (Some t) b ∷ []) (Some x) ≡ Some (Some u) → B x ≡ true → LiesIn (owners (named k.names n d) (own (K x))) p (held_at k.held p)
      lying x p u y o m = elim (scope_of s b t n x u number o) as (λ v. LiesIn (owners (named k.names n d) (own (K x))) p (held_at k.held p)) [
        | inl z ↦ subst₂ (λ x p. LiesIn (owners (named k.names n d) (own (K x))) p (held_at k.held p)) z.0 (here x p z.0 y) (subst (λ g. LiesIn g d (held_at k.held d)) (same n) lies)
        | inr z ↦ subst (λ g. LiesIn g p (held_at k.held p)) (same x) (ties.lent x p u (there x p z.0 y) z.1 m)
      ]

  pub name_none : (s : Scope) (T : Item → ℕ) (e : ℕ → ℕ) (k : Known) (b : Binder) (n t : ℕ) → Kept K T → Ties fip w s B K T e k → T (Own n) ≡ 0 → b.number ≡ n → Ties fip w (s ++ entry (Some t) b ∷ []) B K T e (unnaming k b.number)
  name_none s T e k b n t kept ties none number = subst (λ x. Ties fip w (s ++ entry (Some t) b ∷ []) B K T e (unnaming k x)) (sym number) (record {
    variables = λ x p u y o. elim (scope_of s b t n x u number o) as (λ v. HoldsVariable w u (held_at k.held p) (T (Own x)) (B x)) [
      | inl z ↦ absurd (gone x p z.0 y)
      | inr z ↦ ties.variables x p u (there x p z.0 y) z.1
    ];
    trees = λ q. subst (λ a. Fits fip (one_if (is_tree (held_at k.held q))) (a + e q)) (sym (unnamed_owners k.names (own T) n q none)) (ties.trees q);
    lent = λ x p u y o m. elim (scope_of s b t n x u number o) as (λ v. LiesIn (owners (slice_set k.names n None) (own (K x))) p (held_at k.held p)) [
      | inl z ↦ absurd (gone x p z.0 y)
      | inr z ↦ subst (λ g. LiesIn g p (held_at k.held p)) (same x) (ties.lent x p u (there x p z.0 y) z.1 m)
    ];
    rooted = ties.rooted;
    bares = ties.bares;
    sizes = ties.sizes;
    credits = ties.credits;
    fresh = ties.fresh;
    named = λ x p h. elim (or_not (n == x)) as (λ v. suc p ≤ k.next) [
      | inl y ↦ absurd (gone x p (equal n x y) h)
      | inr y ↦ ties.named x p (there x p (unequal n x y) h)
    ];
  })
    where
      same : (x : ℕ) → owners k.names (own (K x)) ≡ owners (slice_set k.names n None) (own (K x))
      same x = λ i q. sym (unnamed_owners k.names (own (K x)) n q (let z = kept x n in omega (arith, z, none))) i

      gone : (x p : ℕ) → n ≡ x → register_of (slice_set k.names n None) (Some x) ≡ Some p → ⊥
      gone x p e h = unnamed_new k.names n p (ap (λ x. register_of (slice_set k.names n None) (Some x)) e ∙ h)

      there : (x p : ℕ) → (n ≡ x → ⊥) → register_of (slice_set k.names n None) (Some x) ≡ Some p → register_of k.names (Some x) ≡ Some p
      there x p ne y = sym (unnamed_old k.names n x ne) ∙ y
