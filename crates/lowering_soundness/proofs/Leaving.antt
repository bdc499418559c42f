-- Instructions that give up what is left are as required, and the registers that are kept hold what they held.
use Rattle.std.proofs.Common.{◌≡◌, inl, inr, ℕ, zero, suc, ◌≤◌, Bool, true, false, List, [], ◌∷◌, length, Option, Some, None, refl, sym, ap, ◌∙◌, subst, true≢false, arith, if◌then◌else◌, ◌==◌}
use Rattle.separation.specs.fip_language.Table.{Table}
use Rattle.separation.specs.cell_code.declared.code.Instr.TheVariants as I
use Rattle.separation.specs.cell_code.Plain.{PlainFunction, PlainCode}
use Rattle.separation.specs.code_rules.Types.{is_scalar_type, fields}
use Rattle.separation.proofs.separation_kinds.Basics.{pick, chosen, refused, or_not, equal, unequal_is, itself}
use Rattle.lowering_relation.specs.declared.held.Held.{Held}
use Rattle.lowering_relation.specs.declared.held.Held.TheVariants as H
use Rattle.lowering_relation.specs.Known.{Known, lent_by, without}
use Rattle.lowering_relation.specs.Describing.{Holding, held_at, kinds_of, setting, is_tree}
use Rattle.lowering_soundness.specs.Covering.{using, using_all}
use Rattle.lowering_soundness.specs.Giving.{is_credit_of, LendsNothing}
use Rattle.lowering_soundness.specs.Parts.{Part}
use Rattle.lowering_soundness.specs.Ties.{one_if, counted, Rooted, BareRight}
use Rattle.lowering_relation.specs.Labels.{Quiet}
use Rattle.lowering_relation.specs.GivenUp.{EndsBare, Drops, Frees, GivesOne, GivesUp}
use Rattle.lowering_soundness.proofs.SoundStraight.{bare_row, drop_row, free_row}
use Rattle.lowering_soundness.proofs.Parts.{one_row, no_row, both_parts}
use Rattle.lowering_soundness.proofs.Balance.{using_either, using_other, rooted_using}
use Rattle.lowering_soundness.proofs.Helds.{held_within, held_set_fn, held_used_fn}
use Rattle.lowering_soundness.proofs.Writing.{setting_other, setting_here, credit_using, bares_using}
use Rattle.lowering_soundness.proofs.Arguments.{quiet_back}
use Rattle.lowering_soundness.proofs.Cells.{taken_credit, counted_left, no_tree_using, using_all_beside}
use Rattle.lowering_soundness.proofs.GivingUp.{NoTrees, no_trees_setting, using_all_swap, following, after_setting, after_using, after_was}

pub lends_nothing : (g : Holding) (r : ℕ) → Rooted g → is_tree (g r) ≡ false → LendsNothing g r
lends_nothing g r rooted none q = by (g q) refl
  where
    by_root : (t : ℕ) (root : Option ℕ) → g q ≡ H.Lent t root → lent_by r root (H.Lent t root) ≡ H.Lent t root
    by_root t None e = refl
    by_root t (Some p) e = refused (p == r) H.Nothing (H.Lent t (Some p)) (unequal_is p r (λ z. true≢false (sym (rooted q t p e) ∙ (ap (λ x. is_tree (g x)) z ∙ none))))

    by : (h : Held) → g q ≡ h → without r h ≡ h
    by H.Nothing e = refl
    by (H.Scalar t) e = refl
    by (H.Owned t b) e = refl
    by (H.Lent t root) e = by_root t root e
    by (H.Credit n) e = refl
    by (H.Bare t c) e = refl

pub cleared_rooted : (g : Holding) (r : ℕ) → Rooted g → is_tree (g r) ≡ false → Rooted (setting g r H.Nothing)
cleared_rooted g r rooted none q t p e = elim (or_not (q == r)) as (λ v. is_tree (setting g r H.Nothing p) ≡ true) [
  | inl z ↦ absurd (other (sym (chosen (q == r) H.Nothing (g q) z) ∙ e))
  | inr z ↦ stays (rooted q t p (sym (refused (q == r) H.Nothing (g q) z) ∙ e))
]
  where
    other : H.Nothing ≡ H.Lent t (Some p) → ⊥
    other z = absurd (cc)

    stays : is_tree (g p) ≡ true → is_tree (setting g r H.Nothing p) ≡ true
    stays tree = ap is_tree (setting_other g r H.Nothing p (λ same. true≢false (sym tree ∙ (ap (λ x. is_tree (g x)) same ∙ none)))) ∙ tree

pub cleared_bares : (w : Table) (g : Holding) (r : ℕ) → BareRight w g → BareRight w (setting g r H.Nothing)
cleared_bares w g r bares q t c e = elim (or_not (q == r)) as (λ v. (is_scalar_type w t ≡ false) × (length (fields w t c) ≡ 0)) [
  | inl z ↦ absurd (other (sym (chosen (q == r) H.Nothing (g q) z) ∙ e))
  | inr z ↦ bares q t c (sym (refused (q == r) H.Nothing (g q) z) ∙ e)
]
  where
    other : H.Nothing ≡ H.Bare t c → ⊥
    other z = absurd (cc)

-- a register that nothing gives up: what it holds, and what is known of it
pub record Safe (h k : Held) : Type 0 where
  pub bare : (t c : ℕ) → h ≡ H.Bare t c → ⊥
  pub lent : (t q : ℕ) → h ≡ H.Lent t (Some q) → ⊥
  pub tree : is_tree k ≡ false
  pub credit : (n : ℕ) → k ≡ H.Credit n → ⊥

-- g is held, and what is known is so after registers that are used up and credits that are spent; some registers are kept
pub record Leaves (w : Table) (us cs : List ℕ) (keep : ℕ → Type 0) (g : Holding) (k : Known) : Type 0 where
  pub known : following us cs g ≡ held_at k.held
  pub trees : NoTrees (using_all g us) cs
  pub rooted : Rooted g
  pub bares : BareRight w g
  pub counts : (n r : ℕ) → counted n r k.credits ≡ one_if (is_credit_of n (held_at k.held r))
  pub safe : (r : ℕ) → keep r → Safe (g r) (held_at k.held r)

-- no more is known, but for constructors that were matched
pub record Fewer (g h : Holding) : Type 0 where
  pub tree : (r : ℕ) → is_tree (h r) ≡ true → is_tree (g r) ≡ true
  pub credit : (r n : ℕ) → h r ≡ H.Credit n → g r ≡ H.Credit n

-- after some were given up h is held
pub record Gave (c : PlainCode) (f : PlainFunction) (us cs : List ℕ) (keep : ℕ → Type 0) (g : Holding) (at : ℕ) (k : Known) (end : ℕ) (l : Known) : Type 0 where
  pub held : Holding
  pub leaves : Leaves c.types us cs keep held l
  pub grows : at ≤ end
  pub still : at ≡ end → (r : ℕ) → kinds_of c.types g r ≡ kinds_of c.types held r
  pub part : Part c f at (kinds_of c.types g) end (kinds_of c.types held)
  pub agree : (r : ℕ) → keep r → held r ≡ g r
  pub fewer : Fewer (held_at k.held) (held_at l.held)

pub gives_grow : (f : PlainFunction) (fip : Bool) (n at : ℕ) (k : Known) (end : ℕ) (l : Known) → GivesUp fip f n at k end l → at ≤ end
gives_grow f fip zero at k end l h = let z = h.0 in omega (arith, z)
gives_grow f fip (suc n) at k end l h = let z = gives_grow f fip n (suc at) h.0 end l h.2 in omega (arith, z)

module _ (c : PlainCode) (f : PlainFunction) (us cs : List ℕ) (keep : ℕ → Type 0) where
  some_held : (h i : Held) → h ≡ i → (i ≡ H.Nothing → ⊥) → h ≡ H.Nothing → ⊥
  some_held h i e ne z = ne (sym e ∙ z)

  -- what is known of a register is so
  was_held : (g : Holding) (k : Known) (r : ℕ) → following us cs g ≡ held_at k.held → (held_at k.held r ≡ H.Nothing → ⊥) → g r ≡ held_at k.held r
  was_held g k r e some =
      let at_r : following us cs g r ≡ held_at k.held r = ap (λ x. x r) e in
      sym (after_was us cs g r (some_held (following us cs g r) (held_at k.held r) at_r some)) ∙ at_r

  clear_fewer : (k l : Known) (r : ℕ) → held_at l.held ≡ setting (held_at k.held) r H.Nothing → Fewer (held_at k.held) (held_at l.held)
  clear_fewer k l r e = record { tree = tree; credit = credit }
    where
      here : (q : ℕ) → held_at l.held q ≡ setting (held_at k.held) r H.Nothing q
      here q = ap (λ x. x q) e

      by_tree : (b : Bool) (h : Held) → is_tree (if b then H.Nothing else h) ≡ true → is_tree h ≡ true
      by_tree true h x = absurd (true≢false (sym x))
      by_tree false h x = x

      tree : (q : ℕ) → is_tree (held_at l.held q) ≡ true → is_tree (held_at k.held q) ≡ true
      tree q x = by_tree (q == r) (held_at k.held q) (sym (ap is_tree (here q)) ∙ x)

      by_credit : (b : Bool) (h : Held) (n : ℕ) → (if b then H.Nothing else h) ≡ H.Credit n → h ≡ H.Credit n
      by_credit true h n x = absurd (cc)
      by_credit false h n x = x

      credit : (q n : ℕ) → held_at l.held q ≡ H.Credit n → held_at k.held q ≡ H.Credit n
      credit q n x = by_credit (q == r) (held_at k.held q) n (sym (here q) ∙ x)

  -- a register that owns no tree is cleared
  clears : (g : Holding) (k l : Known) (r : ℕ) → Leaves c.types us cs keep g k → is_tree (g r) ≡ false → ((q : ℕ) → keep q → q ≡ r → ⊥) → held_at l.held ≡ setting (held_at k.held) r H.Nothing → ((n q : ℕ) → counted n q l.credits ≡ one_if (is_credit_of n (held_at l.held q))) → Leaves c.types us cs keep (setting g r H.Nothing) l
  clears g k l r h none apart held counts = record {
    known = after_setting us cs g r none ∙ (ap (λ x. setting x r H.Nothing) h.known ∙ sym held);
    trees = subst (λ x. NoTrees x cs) (sym (using_all_beside us g r none)) (no_trees_setting cs (using_all g us) r h.trees);
    rooted = cleared_rooted g r h.rooted none;
    bares = cleared_bares c.types g r h.bares;
    counts = counts;
    safe = λ q kept. (let s = h.safe q kept in let ne = apart q kept in record {
      bare = λ t d e. s.bare t d (sym (setting_other g r H.Nothing q ne) ∙ e);
      lent = λ t p e. s.lent t p (sym (setting_other g r H.Nothing q ne) ∙ e);
      tree = ap (λ x. is_tree (x q)) held ∙ (ap is_tree (setting_other (held_at k.held) r H.Nothing q ne) ∙ s.tree);
      credit = λ n e. s.credit n (sym (setting_other (held_at k.held) r H.Nothing q ne) ∙ (sym (ap (λ x. x q) held) ∙ e));
    });
  }

  kept_apart : (g : Holding) (k : Known) (r : ℕ) → Leaves c.types us cs keep g k → (Safe (g r) (held_at k.held r) → ⊥) → (q : ℕ) → keep q → q ≡ r → ⊥
  kept_apart g k r h unsafe q kept e = unsafe (subst (λ x. Safe (g x) (held_at k.held x)) e (h.safe q kept))

  no_credit_bare : (n : ℕ) (h : Held) (t d : ℕ) → h ≡ H.Bare t d → is_credit_of n h ≡ false
  no_credit_bare n h t d e = ap (is_credit_of n) e

  bare_one : (g : Holding) (at : ℕ) (k l : Known) → Leaves c.types us cs keep g k → EndsBare f at k l → Quiet f at (suc at) (kinds_of c.types g) → Gave c f us cs keep g at k (suc at) l
  bare_one g at k l h e quiet =
      let r = e.register in
      let bare : g r ≡ H.Bare e.type e.constructor = was_held g k r h.known (λ z. other (sym e.held ∙ z)) ∙ e.held in
      let none = ap is_tree bare in
      let held : held_at l.held ≡ setting (held_at k.held) r H.Nothing = ap (λ (m : Known). held_at m.held) e.known ∙ held_set_fn k.held r H.Nothing (held_within k.held r (λ z. other (sym e.held ∙ z))) in
      record {
        held = setting g r H.Nothing;
        leaves = clears g k l r h none (kept_apart g k r h (λ s. s.bare e.type e.constructor bare)) held
            (λ n q. ap (λ (m : Known). counted n q m.credits) e.known ∙ (h.counts n q ∙ ap one_if (same n q ∙ sym (ap (λ x. is_credit_of n (x q)) held))));
        grows = omega arith;
        still = λ z q. absurd (let y : ⊥ = omega (arith, z) in y);
        part = one_row c f at (kinds_of c.types g) (kinds_of c.types (setting g r H.Nothing)) (I.Take r []) e.written refl (bare_row c f g r e.type e.constructor bare (h.bares r e.type e.constructor bare).1 (lends_nothing g r h.rooted none)) (quiet.first (omega arith));
        agree = λ q kept. setting_other g r H.Nothing q (kept_apart g k r h (λ s. s.bare e.type e.constructor bare) q kept);
        fewer = clear_fewer k l r held;
      }
    where
      other : H.Bare e.type e.constructor ≡ H.Nothing → ⊥
      other z = absurd (cc)

      same : (n q : ℕ) → is_credit_of n (held_at k.held q) ≡ is_credit_of n (setting (held_at k.held) e.register H.Nothing q)
      same n q = pick (λ x. is_credit_of n (held_at k.held q) ≡ is_credit_of n x) (q == e.register) H.Nothing (held_at k.held q)
          (λ y. ap (λ p. is_credit_of n (held_at k.held p)) (equal q e.register y) ∙ no_credit_bare n (held_at k.held e.register) e.type e.constructor e.held) (λ y. refl)

  free_one : (g : Holding) (at : ℕ) (k l : Known) → Leaves c.types us cs keep g k → Frees f at k l → Quiet f at (suc at) (kinds_of c.types g) → Gave c f us cs keep g at k (suc at) l
  free_one g at k l h e quiet =
      let r = e.register in
      let credit : g r ≡ H.Credit e.size = was_held g k r h.known (λ z. other (sym known ∙ z)) ∙ known in
      let none = ap is_tree credit in
      let held : held_at l.held ≡ setting (held_at k.held) r H.Nothing = ap (λ (m : Known). held_at m.held) e.known ∙ held_set_fn k.held r H.Nothing (held_within k.held r (λ z. other (sym known ∙ z))) in
      record {
        held = setting g r H.Nothing;
        leaves = clears g k l r h none (kept_apart g k r h (λ s. s.credit e.size known)) held
            (λ n q. ap (λ (m : Known). counted n q m.credits) e.known ∙ counted_left k.credits e.size r e.rest (held_at k.held) (held_at l.held) e.taken h.counts
            (λ m. ap (λ x. is_credit_of m (x r)) held ∙ ap (is_credit_of m) (setting_here (held_at k.held) r H.Nothing))
            (λ m p ne. ap (λ x. is_credit_of m (x p)) held ∙ ap (is_credit_of m) (setting_other (held_at k.held) r H.Nothing p ne)) n q);
        grows = omega arith;
        still = λ z q. absurd (let y : ⊥ = omega (arith, z) in y);
        part = one_row c f at (kinds_of c.types g) (kinds_of c.types (setting g r H.Nothing)) (I.Free r) e.written refl (free_row c f g r e.size (ap (is_credit_of e.size) credit ∙ itself e.size)) (quiet.first (omega arith));
        agree = λ q kept. setting_other g r H.Nothing q (kept_apart g k r h (λ s. s.credit e.size known) q kept);
        fewer = clear_fewer k l r held;
      }
    where
      known : held_at k.held e.register ≡ H.Credit e.size
      known = taken_credit k.credits e.size e.register e.rest (held_at k.held) e.taken h.counts

      other : H.Credit e.size ≡ H.Nothing → ⊥
      other z = absurd (cc)

  -- a tree is dropped
  unlent : (g : Holding) (r q : ℕ) → ((t p : ℕ) → g q ≡ H.Lent t (Some p) → ⊥) → without r (g q) ≡ g q
  unlent g r q none = by (g q) refl
    where
      by : (h : Held) → g q ≡ h → without r h ≡ h
      by H.Nothing e = refl
      by (H.Scalar t) e = refl
      by (H.Owned t b) e = refl
      by (H.Lent t None) e = refl
      by (H.Lent t (Some p)) e = absurd (none t p e)
      by (H.Credit n) e = refl
      by (H.Bare t d) e = refl

  no_trees_using : (ds : List ℕ) (g : Holding) (r : ℕ) → NoTrees g ds → NoTrees (using g r) ds
  no_trees_using [] g r h = tt
  no_trees_using (p ∷ ds) g r h = (no_tree_using g r p h.0, no_trees_using ds g r h.1)

  drop_fewer : (k l : Known) (r : ℕ) → held_at l.held ≡ using (held_at k.held) r → Fewer (held_at k.held) (held_at l.held)
  drop_fewer k l r e = record {
    tree = λ q x. elim (using_either (held_at k.held) r q) as (λ v. is_tree (held_at k.held q) ≡ true) [
      | inl same ↦ sym (ap is_tree (here q ∙ same)) ∙ x
      | inr none ↦ absurd (true≢false (sym x ∙ ap is_tree (here q ∙ none)))
    ];
    credit = λ q n x. elim (using_either (held_at k.held) r q) as (λ v. held_at k.held q ≡ H.Credit n) [
      | inl same ↦ sym (here q ∙ same) ∙ x
      | inr none ↦ absurd (other n (sym (here q ∙ none) ∙ x))
    ];
  }
    where
      here : (q : ℕ) → held_at l.held q ≡ using (held_at k.held) r q
      here q = ap (λ x. x q) e

      other : (n : ℕ) → H.Nothing ≡ H.Credit n → ⊥
      other n z = absurd (cc)

  drop_one : (g : Holding) (at : ℕ) (k l : Known) → Leaves c.types us cs keep g k → Drops f at k l → Quiet f at (suc at) (kinds_of c.types g) → Gave c f us cs keep g at k (suc at) l
  drop_one g at k l h e quiet =
      let r = e.register in
      let held : held_at l.held ≡ using (held_at k.held) r = ap (λ (m : Known). held_at m.held) e.known ∙ held_used_fn k.held r in
      let tree : is_tree (g r) ≡ true = ap is_tree (was_held g k r h.known (λ z. true≢false (sym e.tree ∙ ap is_tree z))) ∙ e.tree in
      let fewer = drop_fewer k l r held in
      record {
        held = using g r;
        leaves = record {
          known = after_using us cs g r h.trees ∙ (ap (λ x. using x r) h.known ∙ sym held);
          trees = subst (λ x. NoTrees x cs) (sym (using_all_swap us g r)) (no_trees_using cs (using_all g us) r h.trees);
          rooted = rooted_using g r h.rooted;
          bares = bares_using c.types g r h.bares;
          counts = λ n q. ap (λ (m : Known). counted n q m.credits) e.known ∙ (h.counts n q ∙ ap one_if (sym (ap (λ x. is_credit_of n (x q)) held ∙ credit_using (held_at k.held) r q n)));
          safe = λ q kept. (let s = h.safe q kept in let same = kept_same q kept in record {
            bare = λ t d z. s.bare t d (sym same ∙ z);
            lent = λ t p z. s.lent t p (sym same ∙ z);
            tree = no_more_tree q (fewer.tree q) s.tree;
            credit = λ n z. s.credit n (fewer.credit q n z);
          });
        };
        grows = omega arith;
        still = λ z q. absurd (let y : ⊥ = omega (arith, z) in y);
        part = one_row c f at (kinds_of c.types g) (kinds_of c.types (using g r)) (I.Drop r) e.written refl (drop_row c f g r tree) (quiet.first (omega arith));
        agree = kept_same;
        fewer = fewer;
      }
    where
      kept_same : (q : ℕ) → keep q → using g e.register q ≡ g q
      kept_same q kept =
          let s = h.safe q kept in
          using_other g e.register q (λ z. true≢false (sym e.tree ∙ (ap (λ x. is_tree (held_at k.held x)) (sym z) ∙ s.tree))) (unlent g e.register q s.lent)

      no_more_tree : (q : ℕ) → (is_tree (held_at l.held q) ≡ true → is_tree (held_at k.held q) ≡ true) → is_tree (held_at k.held q) ≡ false → is_tree (held_at l.held q) ≡ false
      no_more_tree q up none = elim (or_not (is_tree (held_at l.held q))) as (λ v. is_tree (held_at l.held q) ≡ false) [
        | inl x ↦ absurd (true≢false (sym (up x) ∙ none))
        | inr x ↦ x
      ]

  one_given : (fip : Bool) (g : Holding) (at : ℕ) (k l : Known) → Leaves c.types us cs keep g k → GivesOne fip f at k l → Quiet f at (suc at) (kinds_of c.types g) → Gave c f us cs keep g at k (suc at) l
  one_given fip g at k l h (inl e) quiet = bare_one g at k l h e quiet
  one_given fip g at k l h (inr e) quiet = elim e.1 as (λ v. Gave c f us cs keep g at k (suc at) l) [
    | inl d ↦ drop_one g at k l h d quiet
    | inr d ↦ free_one g at k l h d quiet
  ]

  pub gives : (fip : Bool) (n : ℕ) (g : Holding) (at : ℕ) (k : Known) (end : ℕ) (l : Known) → Leaves c.types us cs keep g k → GivesUp fip f n at k end l → Quiet f at end (kinds_of c.types g) → Gave c f us cs keep g at k end l
  gives fip zero g at k end l h e quiet =
      let there : Gave c f us cs keep g at k at k = record {
        held = g;
        leaves = h;
        grows = omega arith;
        still = λ z r. refl;
        part = no_row c f at (kinds_of c.types g) (kinds_of c.types g) (λ r. refl);
        agree = λ r kept. refl;
        fewer = record { tree = λ r x. x; credit = λ r n x. x };
      } in
      subst (λ b. Gave c f us cs keep g at k b l) (sym e.0) (subst (λ l. Gave c f us cs keep g at k at l) (sym e.1) there)
  gives fip (suc n) g at k end l h e quiet =
      let later = gives_grow f fip n (suc at) e.0 end l e.2 in
      let first = one_given fip g at k e.0 h e.1 (record { first = λ z. quiet.first (omega (arith, later)); others = λ p x y. quiet.others p x (omega (arith, y, later)) }) in
      let rest = gives fip n first.held (suc at) e.0 end l first.leaves e.2 (quiet_back f at (suc at) end (kinds_of c.types g) (kinds_of c.types first.held) (omega arith) quiet (λ z. absurd (let y : ⊥ = omega (arith, z) in y))) in
      record {
        held = rest.held;
        leaves = rest.leaves;
        grows = omega (arith, later);
        still = λ z q. absurd (let y : ⊥ = omega (arith, z, later) in y);
        part = both_parts c f at (suc at) end (kinds_of c.types g) (kinds_of c.types first.held) (kinds_of c.types rest.held) first.part rest.part;
        agree = λ q kept. rest.agree q kept ∙ first.agree q kept;
        fewer = record { tree = λ q x. first.fewer.tree q (rest.fewer.tree q x); credit = λ q m x. first.fewer.credit q m (rest.fewer.credit q m x) };
      }
