-- One value is computed: a variable's is in its register; a literal and a constructor without fields come into a new one,
-- or the latter was matched; a constructor with fields is put into the cell of a credit.
use Rattle.std.proofs.Common.{◌≡◌, inl, inr, ℕ, suc, ◌+◌, ◌<◌, ◌≤◌, Bool, true, false, [], ◌∷◌, length, Some, refl, sym, ap, ◌∙◌, subst, subst₂, true≢false, arith, slice_get, slice_set, if◌then◌else◌, ◌==◌}
use Rattle.std.specs.Prelude.{ℤ}
use Rattle.derivation_making.specs.type_check.Scope.{Scope, of_binder}
use Rattle.derivation_making.specs.ownership_calculus.Terms.{Item, Own, only, one}
use Rattle.derivation_making.specs.ownership_calculus.Rules.{Fits}
use Rattle.derivation_making.proofs.ownership_calculus.Fit.{fits_le, fits_same, fits_sum}
use Rattle.separation.specs.cell_code.declared.code.Instr.{Instr}
use Rattle.separation.specs.cell_code.declared.code.Instr.TheVariants as I
use Rattle.separation.specs.cell_code.Plain.{PlainFunction, PlainCode}
use Rattle.separation.specs.code_rules.Types.{is_scalar_type, fields}
use Rattle.separation.proofs.separation_kinds.Basics.{pick, chosen, refused, or_not, equal, itself}
use Rattle.lowering_relation.specs.declared.held.Held.{Held}
use Rattle.lowering_relation.specs.declared.held.Held.TheVariants as H
use Rattle.lowering_relation.specs.Known.{Known, register_of, with_next, holding}
use Rattle.lowering_relation.specs.Values.{Setting, is_scalar, built, IsReused, IsNewAtom, IsLiteral}
use Rattle.lowering_relation.specs.Describing.{Holding, held_at, kind_of, kinds_of, setting, is_spare}
use Rattle.lowering_soundness.specs.Giving.{is_owned_of, is_credit_of, atom_held}
use Rattle.lowering_soundness.specs.Rows.{IsRow}
use Rattle.lowering_soundness.specs.Parts.{Part, is_straight}
use Rattle.lowering_soundness.specs.Ties.{one_if, owners, sized, own, HoldsValue, owe, owed, Stays, Ties}
use Rattle.lowering_relation.specs.Labels.{reported, Quiet}
use Rattle.lowering_soundness.specs.Computed.{Computed}
use Rattle.lowering_soundness.proofs.SoundStraight.{const_row, atom_row}
use Rattle.lowering_soundness.proofs.Parts.{one_row, no_row}
use Rattle.lowering_soundness.proofs.Balance.{stays_same, balanced_same}
use Rattle.lowering_soundness.proofs.Owners.{owners_sum, owners_only}
use Rattle.lowering_soundness.proofs.Tying.{ties_fits, ties_on}
use Rattle.lowering_soundness.proofs.Helds.{held_get, held_within, held_set_fn, length_set}
use Rattle.lowering_soundness.proofs.Writing.{is_idle, setting_other, setting_here, setting_stays, set_ties}
use Rattle.lowering_soundness.proofs.Arguments.{int_scalar, atom_value, built_by, ties_owe, ties_worth}

module _ (c : PlainCode) (f : PlainFunction) (fip : Bool) (s : Scope) (B : ℕ → Bool) (K : ℕ → Item → ℕ) where
  abbrev Comes : (Item → ℕ) → (ℕ → ℕ) → ℕ → Known → ℕ → ℕ → ℕ → Known → Type 0
  Comes X e at k r t end l = Computed c f fip s B K X e at k (r ∷ []) (t ∷ []) end l

  pub comes_there : (X : Item → ℕ) (e : ℕ → ℕ) (at : ℕ) (k : Known) (r q t end last : ℕ) (l m : Known) → r ≡ q → end ≡ last → l ≡ m → Comes X e at k r t end l → Comes X e at k q t last m
  comes_there X e at k r q t end last l m a b d h =
      subst (λ q. Comes X e at k q t last m) a (subst₂ (λ last m. Comes X e at k r t last m) b d h)

  -- ---- variables

  unowed : (X : Item → ℕ) (e : ℕ → ℕ) (k : Known) (r t : ℕ) → is_scalar_type c.types t ≡ true → Ties fip c.types s B K X e k → Ties fip c.types s B K X (λ q. owed c.types (r ∷ []) (t ∷ []) q + e q) k
  unowed X e k r t sc ties =
      ties_owe fip c.types s B K X e (λ q. owed c.types (r ∷ []) (t ∷ []) q + e q) k
      (λ q. let z = chosen (is_scalar_type c.types t) 0 (one_if (r == q)) sc in omega (arith, z)) ties

  pub scalar_variable : (P X : Item → ℕ) (e : ℕ → ℕ) (at : ℕ) (k : Known) (x r t : ℕ) → register_of k.names (Some x) ≡ Some r → of_binder s (Some x) ≡ Some (Some t) → is_scalar_type c.types t ≡ true → ((i : Item) → Fits fip (P i) 0) → Ties fip c.types s B K (λ i. P i + X i) e k → Comes X e at k r t at k
  scalar_variable P X e at k x r t named typed sc none ties = record {
    grows = omega arith;
    still = λ z q. refl;
    part = no_row c f at (reported c k) (reported c k) (λ q. refl);
    names = refl;
    next = omega arith;
    width = refl;
    ties = unowed X e k r t sc (ties_worth fip c.types s B K (λ i. 0 + X i) X e k (λ i. omega arith)
        (ties_fits fip c.types s B K (λ i. P i + X i) (λ i. 0 + X i) e k ties (λ i. fits_sum fip (P i + X i) (P i) (X i) 0 (X i) (fits_same fip (P i + X i)) (none i) (fits_same fip (X i)))));
    hold = (record { scalar = λ y. (ties.variables x r t named typed).scalar y; owned = λ y. absurd (true≢false (sym sc ∙ y)) }, tt);
    empty = λ q low y. y;
    stays = stays_same (held_at k.held) (λ q. owners k.names (own X) q + e q);
  }

  pub owned_variable : (P X : Item → ℕ) (e : ℕ → ℕ) (at : ℕ) (k : Known) (x r t : ℕ) → register_of k.names (Some x) ≡ Some r → of_binder s (Some x) ≡ Some (Some t) → is_scalar_type c.types t ≡ false → ((i : Item) → Fits fip (P i) (only x i)) → ((z y : ℕ) → K z (Own y) ≤ X (Own y)) → Ties fip c.types s B K (λ i. P i + X i) e k → Comes X e at k r t at k
  owned_variable P X e at k x r t named typed sc just kept ties =
      let less : Ties fip c.types s B K (λ i. only x i + X i) e k = ties_fits fip c.types s B K (λ i. P i + X i) (λ i. only x i + X i) e k ties (λ i. fits_sum fip (P i + X i) (P i) (X i) (only x i) (X i) (fits_same fip (P i + X i)) (just i) (fits_same fip (X i))) in
      let stays = stays_same (held_at k.held) (λ q. owners k.names (own X) q + e q) in
      record {
        grows = omega arith;
        still = λ z q. refl;
        part = no_row c f at (reported c k) (reported c k) (λ q. refl);
        names = refl;
        next = omega arith;
        width = refl;
        ties = ties_on fip c.types s B K (λ i. only x i + X i) X e e (λ q. owed c.types (r ∷ []) (t ∷ []) q + e q) k k less (λ y. omega arith) kept refl (omega arith) stays
            (balanced_same fip (held_at k.held) (λ q. owners k.names (own (λ i. only x i + X i)) q + e q) (λ q. owners k.names (own X) q + (owed c.types (r ∷ []) (t ∷ []) q + e q)) owes less.trees)
            ties.rooted ties.bares (λ n. subst (Fits fip (sized n k.credits)) (omega arith) (less.sizes n)) ties.credits ties.fresh;
        hold = (record { scalar = λ y. absurd (true≢false (sym y ∙ sc)); owned = λ y. (ties.variables x r t named typed).owned y once }, tt);
        empty = λ q low y. y;
        stays = stays;
      }
    where
      once : 1 ≤ P (Own x) + X (Own x)
      once = let a = fits_le fip (P (Own x)) (only x (Own x)) (just (Own x)) in let b : only x (Own x) ≡ 1 = chosen (x == x) 1 0 (itself x) in omega (arith, a, b)

      owes : (q : ℕ) → owners k.names (own (λ i. only x i + X i)) q + e q ≡ owners k.names (own X) q + (owed c.types (r ∷ []) (t ∷ []) q + e q)
      owes q =
          let a = owners_sum k.names (one x) (own X) q in
          let b = owners_only k.names x r q named in
          let d = refused (is_scalar_type c.types t) 0 (one_if (r == q)) sc in
          omega (arith, a, b, d)

  -- ---- a value in a new register

  next_nothing : (X : Item → ℕ) (e : ℕ → ℕ) (k : Known) → Ties fip c.types s B K X e k → held_at k.held k.next ≡ H.Nothing
  next_nothing X e k ties = ties.fresh k.next (omega arith)

  pub value_no_credit : (n t : ℕ) (h : Held) → HoldsValue c.types t h → is_credit_of n h ≡ false
  value_no_credit n t h v = elim (or_not (is_scalar_type c.types t)) as (λ x. is_credit_of n h ≡ false) [
    | inl y ↦ ap (is_credit_of n) (v.scalar y)
    | inr y ↦ owned_no_credit h (v.owned y)
  ]
    where
      owned_no_credit : (h : Held) → is_owned_of t h ≡ true → is_credit_of n h ≡ false
      owned_no_credit H.Nothing o = refl
      owned_no_credit (H.Scalar u) o = refl
      owned_no_credit (H.Owned u b) o = refl
      owned_no_credit (H.Lent u root) o = refl
      owned_no_credit (H.Credit m) o = absurd (true≢false (sym o))
      owned_no_credit (H.Bare u d) o = refl

  -- the register got the value where no credit was
  pub credit_after : (n d q t : ℕ) (g : Holding) (h : Held) → is_credit_of n (g d) ≡ false → HoldsValue c.types t h → is_credit_of n (setting g d h q) ≡ is_credit_of n (g q)
  credit_after n d q t g h none v = elim (or_not (q == d)) as (λ x. is_credit_of n (setting g d h q) ≡ is_credit_of n (g q)) [
    | inl y ↦ ap (is_credit_of n) (chosen (q == d) h (g q) y) ∙ (value_no_credit n t h v ∙ (sym none ∙ ap (λ p. is_credit_of n (g p)) (sym (equal q d y))))
    | inr y ↦ ap (is_credit_of n) (refused (q == d) h (g q) y)
  ]

  pub fresh_value : (X : Item → ℕ) (e : ℕ → ℕ) (at : ℕ) (k : Known) (h : Held) (t : ℕ) (x : Instr) → slice_get f.instrs at ≡ Some x → is_straight x ≡ true → HoldsValue c.types t h → IsRow c f (reported c k) x (kinds_of c.types (setting (held_at k.held) k.next h)) → Ties fip c.types s B K X e k → ((z y : ℕ) → K z (Own y) ≤ X (Own y)) → Quiet f at (suc at) (reported c k) → suc k.next ≤ length k.held → Comes X e at k k.next t (suc at) (with_next k h)
  fresh_value X e at k h t x there straight v row ties kept quiet room =
      let g = held_at k.held in
      let empty = next_nothing X e k ties in
      let held : held_at (slice_set k.held k.next h) ≡ setting g k.next h = held_set_fn k.held k.next h room in
      record {
        grows = omega arith;
        still = λ z q. absurd (let y : ⊥ = omega (arith, z) in y);
        part = subst (λ y. Part c f at (reported c k) (suc at) (kinds_of c.types y)) (sym held) (one_row c f at (reported c k) (kinds_of c.types (setting g k.next h)) x there straight row (quiet.first (omega arith)));
        names = refl;
        next = omega arith;
        width = length_set k.held k.next h;
        ties = ties_owe fip c.types s B K X (λ q. owe c.types t k.next q + e q) (λ q. owed c.types (k.next ∷ []) (t ∷ []) q + e q) (with_next k h) (λ q. omega arith)
            (set_ties fip c.types s B K X X e k (with_next k h) k.next t h ties (λ y. refl) kept (ap is_idle empty) v held refl (omega arith) ties.sizes
            (λ n r. ties.credits n r ∙ ap one_if (sym (ap (λ y. is_credit_of n (y r)) held ∙ credit_after n k.next r t g h (ap (is_credit_of n) empty) v)))
            (λ r past. ap (λ y. y r) held ∙ (setting_other g k.next h r (λ z. absurd (let y : ⊥ = omega (arith, z, past) in y)) ∙ ties.fresh r (omega (arith, past)))));
        hold = (subst (HoldsValue c.types t) (sym (ap (λ y. y k.next) held ∙ setting_here g k.next h)) v, tt);
        empty = λ q low y. ap (λ x. x q) held ∙ (setting_other g k.next h q (λ z. absurd (let u : ⊥ = omega (arith, z, low) in u)) ∙ y);
        stays = subst (λ y. Stays g y (λ q. owners k.names (own X) q + e q)) (sym held) (setting_stays g k.next h (λ q. owners k.names (own X) q + e q) (ap is_idle empty));
      }

  int_value : HoldsValue c.types 0 (H.Scalar 0)
  int_value = record { scalar = λ y. refl; owned = λ y. absurd (true≢false (sym (int_scalar c.types) ∙ y)) }

  pub literal_value : (X : Item → ℕ) (e : ℕ → ℕ) (at : ℕ) (k : Known) (i : ℤ) (r end : ℕ) (l : Known) → IsLiteral f.instrs at k i r end l → Ties fip c.types s B K X e k → ((z y : ℕ) → K z (Own y) ≤ X (Own y)) → Quiet f at end (reported c k) → l.next ≤ length k.held → length k.held ≡ f.registers → Comes X e at k r 0 end l
  literal_value X e at k i r end l h ties kept quiet room wide =
      let more : suc k.next ≤ length k.held = (let z = ap (λ (m : Known). m.next) h.known in omega (arith, room, z)) in
      let there : k.next < f.registers = omega (arith, more, wide) in
      comes_there X e at k k.next r 0 (suc at) end (with_next k (H.Scalar 0)) l (sym h.fresh) (sym h.one) (sym h.known)
      (fresh_value X e at k (H.Scalar 0) 0 (I.Const k.next i) (subst (λ r. slice_get f.instrs at ≡ Some (I.Const r i)) h.fresh h.written) refl int_value
      (const_row c f (held_at k.held) k.next i (ap is_spare (next_nothing X e k ties)) there) ties kept (subst (λ b. Quiet f at b (reported c k)) h.one quiet) more)

  pub atom_new : (st : Setting) (X : Item → ℕ) (e : ℕ → ℕ) (at : ℕ) (k : Known) (t d r end : ℕ) (l : Known) → is_scalar st t ≡ is_scalar_type c.types t → IsNewAtom st f.instrs at k t d r end l → length (fields c.types t d) ≡ 0 → Ties fip c.types s B K X e k → ((z y : ℕ) → K z (Own y) ≤ X (Own y)) → Quiet f at end (reported c k) → l.next ≤ length k.held → length k.held ≡ f.registers → Comes X e at k r t end l
  atom_new st X e at k t d r end l same h bare ties kept quiet room wide =
      let more : suc k.next ≤ length k.held = (let z = ap (λ (m : Known). m.next) h.known in omega (arith, room, z)) in
      let there : k.next < f.registers = omega (arith, more, wide) in
      let made : built st t d ≡ atom_held c.types t d = built_by (is_scalar st t) t d ∙ ap (λ b. if b then H.Scalar t else H.Owned t (Some d)) same in
      comes_there X e at k k.next r t (suc at) end (with_next k (atom_held c.types t d)) l (sym h.fresh) (sym h.one) (ap (with_next k) (sym made) ∙ sym h.known)
      (fresh_value X e at k (atom_held c.types t d) t (I.Atom k.next t d) (subst (λ r. slice_get f.instrs at ≡ Some (I.Atom r t d)) h.fresh h.written) refl (atom_value c.types t d)
      (atom_row c f (held_at k.held) k.next t d bare (ap is_spare (next_nothing X e k ties)) there) ties kept (subst (λ b. Quiet f at b (reported c k)) h.one quiet) more)

  -- ---- a constructor that was matched

  pub setting_twice : (g : Holding) (r : ℕ) (h i : Held) → setting (setting g r h) r i ≡ setting g r i
  setting_twice g r h i = λ j q. twice q j
    where
      twice : (q : ℕ) → setting (setting g r h) r i q ≡ setting g r i q
      twice q =
          pick (λ x. x ≡ setting g r i q) (q == r) i (setting g r h q)
          (λ e. sym (chosen (q == r) i (g q) e))
          (λ e. refused (q == r) h (g q) e ∙ sym (refused (q == r) i (g q) e))

  pub atom_reused : (X : Item → ℕ) (e : ℕ → ℕ) (at : ℕ) (k : Known) (t d r end : ℕ) (l : Known) → IsReused at k t d r end l → Ties fip c.types s B K X e k → ((z y : ℕ) → K z (Own y) ≤ X (Own y)) → Comes X e at k r t end l
  atom_reused X e at k t d r end l h ties kept =
      comes_there X e at k r r t at end there l refl (sym h.nothing) (sym h.known) (record {
        grows = omega arith;
        still = λ z q. kinds q;
        part = no_row c f at (reported c k) (reported c there) kinds;
        names = refl;
        next = omega arith;
        width = length_set (slice_set k.held r H.Nothing) r new ∙ length_set k.held r H.Nothing;
        ties = ties_owe fip c.types s B K X (λ q. owe c.types t r q + e q) (λ q. owed c.types (r ∷ []) (t ∷ []) q + e q) there (λ q. omega arith)
            (set_ties fip c.types s B K X X e k there r t new ties (λ y. refl) kept (ap is_idle was) value held refl (omega arith) ties.sizes
            (λ n q. ties.credits n q ∙ ap one_if (sym (ap (λ y. is_credit_of n (y q)) held ∙ credit_after n r q t g new (ap (is_credit_of n) was) value)))
            (λ q past. ap (λ y. y q) held ∙ (setting_other g r new q (λ z. other (sym was ∙ (ap g (sym z) ∙ ties.fresh q past))) ∙ ties.fresh q past)));
        hold = (subst (HoldsValue c.types t) (sym (ap (λ y. y r) held ∙ setting_here g r new)) value, tt);
        empty = λ q low y. ap (λ x. x q) held ∙ (setting_other g r new q (λ z. other (sym was ∙ (ap g (sym z) ∙ y))) ∙ y);
        stays = subst (λ y. Stays g y (λ q. owners k.names (own X) q + e q)) (sym held) (setting_stays g r new (λ q. owners k.names (own X) q + e q) (ap is_idle was));
      })
    where
      g : Holding
      g = held_at k.held

      new : Held
      new = H.Owned t (Some d)

      there : Known
      there = holding (holding k r H.Nothing) r new

      was : held_at k.held r ≡ H.Bare t d
      was = held_get k.held r (H.Bare t d) h.held

      other : H.Bare t d ≡ H.Nothing → ⊥
      other z = absurd (cc)

      within : r < length k.held
      within = held_within k.held r (λ z. other (sym was ∙ z))

      held : held_at (slice_set (slice_set k.held r H.Nothing) r (H.Owned t (Some d))) ≡ setting (held_at k.held) r (H.Owned t (Some d))
      held =
          held_set_fn (slice_set k.held r H.Nothing) r (H.Owned t (Some d)) (let z = length_set k.held r H.Nothing in omega (arith, z, within))
          ∙ (ap (λ x. setting x r (H.Owned t (Some d))) (held_set_fn k.held r H.Nothing within) ∙ setting_twice (held_at k.held) r H.Nothing (H.Owned t (Some d)))

      value : HoldsValue c.types t (H.Owned t (Some d))
      value = record { scalar = λ y. absurd (true≢false (sym y ∙ (ties.bares r t d was).0)); owned = λ y. itself t }

      kinds : (q : ℕ) → kind_of c.types (held_at k.held q) ≡ kind_of c.types (held_at (slice_set (slice_set k.held r H.Nothing) r (H.Owned t (Some d))) q)
      kinds q =
          pick (λ x. kind_of c.types (held_at k.held q) ≡ kind_of c.types x) (q == r) (H.Owned t (Some d)) (held_at k.held q)
          (λ y. ap (λ p. kind_of c.types (held_at k.held p)) (equal q r y) ∙ ap (kind_of c.types) was) (λ y. refl)
          ∙ ap (λ x. kind_of c.types (x q)) (sym held)
