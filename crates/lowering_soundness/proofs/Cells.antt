-- A constructor with fields is put into the cell of a credit.
use Rattle.std.proofs.Common.{◌≡◌, inl, inr, ℕ, suc, ◌+◌, ◌<◌, ◌≤◌, Bool, true, false, ◌&&◌, List, [], ◌∷◌, length, Some, refl, sym, ap, ◌∙◌, subst, true≢false, arith, slice_set, if◌then◌else◌, ◌==◌}
use Rattle.derivation_making.specs.type_check.Scope.{Scope}
use Rattle.derivation_making.specs.ownership_calculus.Terms.{Item, Own, Credit, paid}
use Rattle.derivation_making.specs.ownership_calculus.Rules.{Fits}
use Rattle.separation.specs.cell_code.declared.code.Instr.TheVariants as I
use Rattle.separation.specs.cell_code.Plain.{PlainFunction, PlainCode}
use Rattle.separation.specs.code_rules.Types.{fields}
use Rattle.separation.proofs.separation_kinds.Basics.{pick, chosen, refused, or_not, equal, unequal, unequal_is, itself}
use Rattle.lowering_relation.specs.declared.held.Held.{Held}
use Rattle.lowering_relation.specs.declared.held.Held.TheVariants as H
use Rattle.lowering_relation.specs.declared.held.Credit as D
use Rattle.lowering_relation.specs.Known.{Known, without, used_all, IsTaken}
use Rattle.lowering_relation.specs.Values.{with_put, IsPut}
use Rattle.lowering_relation.specs.Describing.{Holding, held_at, kinds_of, setting, is_tree}
use Rattle.lowering_soundness.specs.Covering.{using, using_all}
use Rattle.lowering_soundness.specs.Giving.{is_credit_of}
use Rattle.lowering_soundness.specs.Parts.{Part}
use Rattle.lowering_soundness.specs.Ties.{one_if, owners, sized, counted, own, HoldsValue, AllHold, owe, owed, Stays, Ties}
use Rattle.lowering_relation.specs.Labels.{reported, Quiet}
use Rattle.lowering_soundness.specs.Computed.{Computed}
use Rattle.lowering_soundness.proofs.Covering.{using_none}
use Rattle.lowering_soundness.proofs.SoundStraight.{put_row}
use Rattle.lowering_soundness.proofs.Parts.{one_row}
use Rattle.lowering_soundness.proofs.Balance.{using_credit, using_either, stays_on, stays_fewer}
use Rattle.lowering_soundness.proofs.Owners.{owners_less, sized_taken, counted_taken}
use Rattle.lowering_soundness.proofs.Helds.{held_within, held_set_fn, length_set, held_used_all, length_used_all}
use Rattle.lowering_soundness.proofs.Writing.{is_idle, setting_other, setting_here, setting_stays, set_ties, Used, use_ties, credit_using_all, nothing_using_all}
use Rattle.lowering_soundness.proofs.Arguments.{with_field, ties_owe}
use Rattle.lowering_soundness.proofs.Values.{comes_there, setting_twice, value_no_credit}
use Rattle.tail_groups.proofs.fip_language.Facts.{and_false}

-- ---- a credit that is taken

pub credit_is : (n : ℕ) (h : Held) → is_credit_of n h ≡ true → h ≡ H.Credit n
credit_is n H.Nothing e = absurd (true≢false (sym e))
credit_is n (H.Scalar t) e = absurd (true≢false (sym e))
credit_is n (H.Owned t b) e = absurd (true≢false (sym e))
credit_is n (H.Lent t root) e = absurd (true≢false (sym e))
credit_is n (H.Credit m) e = ap H.Credit (equal m n e)
credit_is n (H.Bare t c) e = absurd (true≢false (sym e))

one_true : (b : Bool) (n : ℕ) → suc n ≡ one_if b → b ≡ true
one_true true n e = refl
one_true false n e = absurd (omega (arith, e))

both_same : (n r : ℕ) → one_if ((n == n) && (r == r)) ≡ 1
both_same n r = ap (λ b. one_if (b && (r == r))) (itself n) ∙ ap one_if (itself r)

pub taken_credit : (cs : List D.Credit) (n r : ℕ) (rest : List D.Credit) (g : Holding) → IsTaken cs n r rest → ((m q : ℕ) → counted m q cs ≡ one_if (is_credit_of m (g q))) → g r ≡ H.Credit n
taken_credit cs n r rest g taken credits =
    credit_is n (g r) (one_true (is_credit_of n (g r)) (counted n r rest)
    (let a = counted_taken cs n r rest n r taken in let b = both_same n r in let d = credits n r in omega (arith, a, b, d)))

-- how many are left in each register
pub counted_left : (cs : List D.Credit) (n r : ℕ) (rest : List D.Credit) (g h : Holding) → IsTaken cs n r rest → ((m q : ℕ) → counted m q cs ≡ one_if (is_credit_of m (g q))) → ((m : ℕ) → is_credit_of m (h r) ≡ false) → ((m q : ℕ) → (q ≡ r → ⊥) → is_credit_of m (h q) ≡ is_credit_of m (g q)) → (m q : ℕ) → counted m q rest ≡ one_if (is_credit_of m (h q))
counted_left cs n r rest g h taken credits none same m q = elim (or_not (q == r)) as (λ v. counted m q rest ≡ one_if (is_credit_of m (h q))) [
  | inl e ↦ subst (λ p. counted m p rest ≡ one_if (is_credit_of m (h p))) (sym (equal q r e)) here
  | inr e ↦ there (unequal q r e)
]
  where
    was : g r ≡ H.Credit n
    was = taken_credit cs n r rest g taken credits

    of_itself : (b : Bool) → one_if (b && true) ≡ one_if b
    of_itself true = refl
    of_itself false = refl

    here : counted m r rest ≡ one_if (is_credit_of m (h r))
    here =
        let a = counted_taken cs n r rest m r taken in
        let b = credits m r in
        let d : one_if (is_credit_of m (g r)) ≡ one_if (n == m) = ap (λ x. one_if (is_credit_of m x)) was in
        let e : one_if ((n == m) && (r == r)) ≡ one_if (n == m) = ap (λ x. one_if ((n == m) && x)) (itself r) ∙ of_itself (n == m) in
        let z : one_if (is_credit_of m (h r)) ≡ 0 = ap one_if (none m) in
        omega (arith, a, b, d, e, z)

    there : (q ≡ r → ⊥) → counted m q rest ≡ one_if (is_credit_of m (h q))
    there ne =
        let a = counted_taken cs n r rest m q taken in
        let b = credits m q in
        let e : one_if ((n == m) && (r == q)) ≡ 0 = ap (λ x. one_if ((n == m) && x)) (unequal_is r q (λ z. ne (sym z))) ∙ ap one_if (and_false (n == m)) in
        let z = ap one_if (same m q ne) in
        omega (arith, a, b, e, z)

-- ---- what is used up beside a credit

pub using_beside : (g : Holding) (r p : ℕ) → is_tree (g r) ≡ false → using (setting g r H.Nothing) p ≡ setting (using g p) r H.Nothing
using_beside g r p none = λ i q. each q i
  where
    here : p ≡ r → (q : ℕ) → using (setting g r H.Nothing) p q ≡ setting (using g p) r H.Nothing q
    here same q =
        using_none (setting g r H.Nothing) p (ap (λ x. is_tree (setting g r H.Nothing x)) same ∙ ap is_tree (setting_here g r H.Nothing)) q
        ∙ ap (λ x. if q == r then H.Nothing else x) (sym (using_none g p (ap (λ x. is_tree (g x)) same ∙ none) q))

    tests : (q : ℕ) → (p ≡ r → ⊥) → using (setting g r H.Nothing) p q ≡ (if is_tree (g p) then (if q == p then H.Nothing else without p (setting g r H.Nothing q)) else setting g r H.Nothing q)
    tests q ne = ap (λ b. if b then (if q == p then H.Nothing else without p (setting g r H.Nothing q)) else setting g r H.Nothing q) (ap is_tree (setting_other g r H.Nothing p ne))

    at_r : (own same : Bool) → (if own then (if same then H.Nothing else without p H.Nothing) else H.Nothing) ≡ H.Nothing
    at_r true true = refl
    at_r true false = refl
    at_r false same = refl

    there : (q : ℕ) → (p ≡ r → ⊥) → using (setting g r H.Nothing) p q ≡ setting (using g p) r H.Nothing q
    there q ne = tests q ne ∙ pick (λ x. (if is_tree (g p) then (if q == p then H.Nothing else without p x) else x) ≡ setting (using g p) r H.Nothing q) (q == r) H.Nothing (g q)
        (λ y. at_r (is_tree (g p)) (q == p) ∙ sym (chosen (q == r) H.Nothing (using g p q) y))
        (λ y. sym (refused (q == r) H.Nothing (using g p q) y))

    each : (q : ℕ) → using (setting g r H.Nothing) p q ≡ setting (using g p) r H.Nothing q
    each q = elim (or_not (p == r)) as (λ v. using (setting g r H.Nothing) p q ≡ setting (using g p) r H.Nothing q) [
      | inl y ↦ here (equal p r y) q
      | inr y ↦ there q (unequal p r y)
    ]

pub no_tree_using : (g : Holding) (p r : ℕ) → is_tree (g r) ≡ false → is_tree (using g p r) ≡ false
no_tree_using g p r none = elim (using_either g p r) as (λ v. is_tree (using g p r) ≡ false) [
  | inl e ↦ ap is_tree e ∙ none
  | inr e ↦ ap is_tree e
]

pub using_all_beside : (rs : List ℕ) (g : Holding) (r : ℕ) → is_tree (g r) ≡ false → using_all (setting g r H.Nothing) rs ≡ setting (using_all g rs) r H.Nothing
using_all_beside [] g r none = refl
using_all_beside (p ∷ rs) g r none = ap (λ x. using_all x rs) (using_beside g r p none) ∙ using_all_beside rs (using g p) r (no_tree_using g p r none)

pub credit_stays : (rs : List ℕ) (g : Holding) (r n : ℕ) → g r ≡ H.Credit n → using_all g rs r ≡ H.Credit n
credit_stays [] g r n e = e
credit_stays (p ∷ rs) g r n e = credit_stays rs (using g p) r n (using_credit g p r n e)

pub fits_cancel : (fip : Bool) (a b d : ℕ) → Fits fip (a + b) (a + d) → Fits fip b d
fits_cancel true a b d h = omega (arith, h)
fits_cancel false a b d h = omega (arith, h)

paid_one : (n m : ℕ) → paid (suc n) (Credit m) ≡ one_if (suc n == m)
paid_one n m = by (suc n == m)
  where
    by : (b : Bool) → (if b then 1 else 0) ≡ one_if b
    by true = refl
    by false = refl

module _ (c : PlainCode) (f : PlainFunction) (fip : Bool) (s : Scope) (B : ℕ → Bool) (K : ℕ → Item → ℕ) where
  pub put_value : (X : Item → ℕ) (e : ℕ → ℕ) (at : ℕ) (k : Known) (t d a : ℕ) (as' : List ℕ) (r end : ℕ) (l : Known) → IsPut f.instrs at k t d (a ∷ as') r end l → Ties fip c.types s B K (λ i. paid (suc (length as')) i + X i) (λ q. owed c.types (a ∷ as') (fields c.types t d) q + e q) k → AllHold c.types (held_at k.held) (a ∷ as') (fields c.types t d) → length (fields c.types t d) ≡ suc (length as') → ((z y : ℕ) → K z (Own y) ≤ X (Own y)) → Quiet f at end (reported c k) → Computed c f fip s B K X e at k (r ∷ []) (t ∷ []) end l
  put_value X e at k t d a as' r end l h ties hold many kept quiet =
      comes_there c f fip s B K X e at k r r t (suc at) end there l refl (sym h.one) (sym h.known) (record {
        grows = omega arith;
        still = λ z q. absurd (let y : ⊥ = omega (arith, z) in y);
        part = subst (λ y. Part c f at (reported c k) (suc at) (kinds_of c.types y)) (sym held)
            (one_row c f at (reported c k) (kinds_of c.types (setting (using_all g rs) r new)) (I.Put r t d rs) h.written refl
            (put_row c f g r t d rs (ap (is_credit_of (length rs)) was ∙ itself (length rs)) given.can) (quiet.first (let z = h.one in omega (arith, z))));
        names = refl;
        next = omega arith;
        width = length_set (used_all (slice_set k.held r H.Nothing) rs) r new ∙ (length_used_all (slice_set k.held r H.Nothing) rs ∙ length_set k.held r H.Nothing);
        ties = ties_owe fip c.types s B K X (λ q. owe c.types t r q + e q) (λ q. owed c.types (r ∷ []) (t ∷ []) q + e q) there (λ q. omega arith)
            (set_ties fip c.types s B K (λ i. paid (suc (length as')) i + X i) X e following there r t new given.ties (λ y. omega arith) kept (ap is_idle (ap (λ x. x r) used ∙ stays_credit)) value (held ∙ ap (λ x. setting x r new) (sym used)) refl (omega arith)
            sizes
            (counted_left k.credits (length rs) r h.credits g (held_at there.held) h.taken ties.credits
            (λ m. ap (λ x. is_credit_of m (x r)) held ∙ (ap (is_credit_of m) (setting_here (using_all g rs) r new) ∙ value_no_credit c f fip s B K m t new value))
            (λ m q ne. ap (λ x. is_credit_of m (x q)) held ∙ (ap (is_credit_of m) (setting_other (using_all g rs) r new q ne) ∙ credit_using_all g rs q m)))
            (λ q past. ap (λ x. x q) held ∙ (setting_other (using_all g rs) r new q (λ z. other (sym was ∙ (ap g (sym z) ∙ ties.fresh q past))) ∙ nothing_using_all g rs q (ties.fresh q past))));
        hold = (subst (HoldsValue c.types t) (sym (ap (λ y. y r) held ∙ setting_here (using_all g rs) r new)) value, tt);
        empty = λ q low y. ap (λ x. x q) held ∙ (setting_other (using_all g rs) r new q (λ z. other (sym was ∙ (ap g (sym z) ∙ y))) ∙ nothing_using_all g rs q y);
        stays = subst (λ y. Stays g y (λ q. owners k.names (own X) q + e q)) (sym held)
            (stays_on g (using_all g rs) (setting (using_all g rs) r new) (λ q. owners k.names (own X) q + e q)
            (stays_fewer g (using_all g rs) (λ q. owners k.names (own (λ i. paid (suc (length as')) i + X i)) q + e q) (λ q. owners k.names (own X) q + e q) (λ q. let z = owners_less k.names (own (λ i. paid (suc (length as')) i + X i)) (own X) q (λ y. omega arith) in omega (arith, z)) given.stays)
            (setting_stays (using_all g rs) r new (λ q. owners k.names (own X) q + e q) (ap is_idle stays_credit)));
      })
    where
      rs : List ℕ
      rs = a ∷ as'

      g : Holding
      g = held_at k.held

      new : Held
      new = H.Owned t (Some d)

      there : Known
      there = with_put k h.credits t d r (a ∷ as')

      following : Known
      following = record k { held = used_all k.held (a ∷ as') }

      was : held_at k.held r ≡ H.Credit (suc (length as'))
      was = taken_credit k.credits (suc (length as')) r h.credits (held_at k.held) h.taken ties.credits

      other : H.Credit (suc (length as')) ≡ H.Nothing → ⊥
      other z = absurd (cc)

      within : r < length k.held
      within = held_within k.held r (λ z. other (sym was ∙ z))

      given : Used fip c.types s B K (λ i. paid (suc (length as')) i + X i) e k (a ∷ as') (fields c.types t d)
      given = use_ties fip c.types s B K (λ i. paid (suc (length as')) i + X i) e k (a ∷ as') (fields c.types t d) ties (λ u y. let z = kept u y in omega (arith, z)) hold

      used : held_at (used_all k.held (a ∷ as')) ≡ using_all (held_at k.held) (a ∷ as')
      used = held_used_all k.held (a ∷ as')

      stays_credit : using_all (held_at k.held) (a ∷ as') r ≡ H.Credit (suc (length as'))
      stays_credit = credit_stays (a ∷ as') (held_at k.held) r (suc (length as')) was

      held : held_at (slice_set (used_all (slice_set k.held r H.Nothing) (a ∷ as')) r (H.Owned t (Some d))) ≡ setting (using_all (held_at k.held) (a ∷ as')) r (H.Owned t (Some d))
      held =
          held_set_fn (used_all (slice_set k.held r H.Nothing) (a ∷ as')) r (H.Owned t (Some d)) (let y = length_used_all (slice_set k.held r H.Nothing) (a ∷ as') in let z = length_set k.held r H.Nothing in omega (arith, y, z, within))
          ∙ (ap (λ x. setting x r (H.Owned t (Some d)))
          (held_used_all (slice_set k.held r H.Nothing) (a ∷ as') ∙ (ap (λ x. using_all x (a ∷ as')) (held_set_fn k.held r H.Nothing within) ∙ using_all_beside (a ∷ as') (held_at k.held) r (ap is_tree was)))
          ∙ setting_twice c f fip s B K (using_all (held_at k.held) (a ∷ as')) r H.Nothing (H.Owned t (Some d)))

      value : HoldsValue c.types t (H.Owned t (Some d))
      value = record { scalar = λ y. absurd (true≢false (sym y ∙ with_field c.types t d (length as') many)); owned = λ y. itself t }

      sizes : (m : ℕ) → Fits fip (sized m h.credits) (X (Credit m))
      sizes m =
          fits_cancel fip (one_if (suc (length as') == m)) (sized m h.credits) (X (Credit m))
          (subst (λ x. Fits fip x (one_if (suc (length as') == m) + X (Credit m))) (sized_taken k.credits (suc (length as')) r h.credits m h.taken)
          (subst (λ x. Fits fip (sized m k.credits) (x + X (Credit m))) (paid_one (length as') m) (ties.sizes m)))
