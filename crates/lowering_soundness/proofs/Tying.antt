-- What is known of registers goes with the variables as before where what is reported of their registers stays.
use Rattle.std.proofs.Common.{◌≡◌, inl, inr, ℕ, ◌+◌, ◌≤◌, Bool, true, false, Some, None, refl, sym, ap, ◌∙◌, subst, true≢false, arith}
use Rattle.separation.specs.fip_language.Table.{Table}
use Rattle.derivation_making.specs.ownership_calculus.Terms.{Item, Own, Credit}
use Rattle.derivation_making.specs.ownership_calculus.Rules.{Fits}
use Rattle.derivation_making.proofs.ownership_calculus.Fit.{fits_le, fits_same, fits_sum}
use Rattle.derivation_making.specs.type_check.Scope.{Scope, of_binder}
use Rattle.separation.specs.code_rules.Types.{is_scalar_type}
use Rattle.separation.proofs.separation_kinds.Basics.{or_not}
use Rattle.lowering_relation.specs.declared.held.Held.{Held}
use Rattle.lowering_relation.specs.declared.held.Held.TheVariants as H
use Rattle.lowering_relation.specs.Known.{Known, register_of}
use Rattle.lowering_relation.specs.Describing.{Holding, held_at, is_tree}
use Rattle.lowering_soundness.specs.Giving.{is_owned_of, is_credit_of}
use Rattle.lowering_soundness.specs.Ties.{one_if, owners, sized, counted, own, is_read_of, Balanced, Rooted, Stays, HoldsVariable, LiesIn, BareRight, Ties}
use Rattle.lowering_soundness.proofs.Giving.{owned_tree}
use Rattle.lowering_soundness.proofs.Owners.{owners_fits, owners_less, owners_least}

pub fits_on : (fip : Bool) (a b d : ℕ) → Fits fip a b → Fits fip b d → Fits fip a d
fits_on true a b d x y = omega (arith, x, y)
fits_on false a b d x y = omega (arith, x, y)

-- less is owned, or in fbip known to be
pub ties_fits : (fip : Bool) (w : Table) (s : Scope) (B : ℕ → Bool) (K : ℕ → Item → ℕ) (T X : Item → ℕ) (e : ℕ → ℕ) (k : Known) → Ties fip w s B K T e k → ((i : Item) → Fits fip (T i) (X i)) → Ties fip w s B K X e k
ties_fits fip w s B K T X e k t h = record {
  variables = λ x r u n o. (let v = t.variables x r u n o in record {
    scalar = v.scalar;
    owned = λ a b. v.owned a (let z = fits_le fip (T (Own x)) (X (Own x)) (h (Own x)) in omega (arith, z, b));
    read = v.read;
  });
  trees = λ r. fits_sum fip (one_if (is_tree (held_at k.held r))) (owners k.names (own T) r) (e r) (owners k.names (own X) r) (e r) (t.trees r) (owners_fits fip k.names (own T) (own X) r (λ x. h (Own x))) (fits_same fip (e r));
  lent = t.lent;
  rooted = t.rooted;
  bares = t.bares;
  sizes = λ n. fits_on fip (sized n k.credits) (T (Credit n)) (X (Credit n)) (t.sizes n) (h (Credit n));
  credits = t.credits;
  fresh = t.fresh;
  named = t.named;
}

-- what is read of trees that stay
pub read_same : (u : ℕ) (n kept : ℕ → ℕ) (g h : Holding) (r : ℕ) → Stays g h n → ((q : ℕ) → kept q ≤ n q) → is_read_of u (g r) ≡ true → LiesIn kept r (g r) → h r ≡ g r
read_same u n kept g h r stays le read lies = by_held (g r) refl read lies
  where
    more : (q : ℕ) → 1 ≤ kept q → 1 ≤ n q
    more q a = let z = le q in omega (arith, z, a)

    by_held : (x : Held) → g r ≡ x → is_read_of u x ≡ true → LiesIn kept r x → h r ≡ g r
    by_held H.Nothing e a b = absurd (true≢false (sym a))
    by_held (H.Scalar t) e a b = absurd (true≢false (sym a))
    by_held (H.Owned t c) e a b = stays.tree r (more r b) (ap is_tree e)
    by_held (H.Lent t None) e a b = stays.lent r t e ∙ sym e
    by_held (H.Lent t (Some q)) e a b = stays.lent_of r t q e (more q b) ∙ sym e
    by_held (H.Credit m) e a b = absurd (true≢false (sym a))
    by_held (H.Bare t c) e a b = absurd (true≢false (sym a))

pub lies_scalar : (n : ℕ → ℕ) (r t : ℕ) (h : Held) → h ≡ H.Scalar t → LiesIn n r h
lies_scalar n r t h e = subst (LiesIn n r) (sym e) tt

-- Where l follows on k: the registers of variables that are still owned, or borrowed, hold what they held.
pub ties_on : (fip : Bool) (w : Table) (s : Scope) (B : ℕ → Bool) (K : ℕ → Item → ℕ) (T X : Item → ℕ) (a e d : ℕ → ℕ) (k l : Known) → Ties fip w s B K T a k → ((x : ℕ) → X (Own x) ≤ T (Own x)) → ((z x : ℕ) → K z (Own x) ≤ X (Own x)) → l.names ≡ k.names → k.next ≤ l.next → Stays (held_at k.held) (held_at l.held) (λ q. owners k.names (own X) q + e q) → Balanced fip (held_at l.held) (λ q. owners k.names (own X) q + d q) → Rooted (held_at l.held) → BareRight w (held_at l.held) → ((n : ℕ) → Fits fip (sized n l.credits) (X (Credit n))) → ((n r : ℕ) → counted n r l.credits ≡ one_if (is_credit_of n (held_at l.held r))) → ((r : ℕ) → l.next ≤ r → held_at l.held r ≡ H.Nothing) → Ties fip w s B K X d l
ties_on fip w s B K T X a e d k l t less kept names grows stays balanced rooted bares sizes credits fresh = record {
  variables = variable;
  trees = subst (λ ns. Balanced fip (held_at l.held) (λ q. owners ns (own X) q + d q)) (sym names) balanced;
  lent = lying;
  rooted = rooted;
  bares = bares;
  sizes = sizes;
  credits = credits;
  fresh = fresh;
  named = λ x r n. (let z = t.named x r (was x r n) in omega (arith, z, grows));
}
  where
    was : (x r : ℕ) → register_of l.names (Some x) ≡ Some r → register_of k.names (Some x) ≡ Some r
    was x r n = ap (λ ns. register_of ns (Some x)) (sym names) ∙ n

    within : (x q : ℕ) → owners k.names (own (K x)) q ≤ owners k.names (own X) q + e q
    within x q = let z = owners_less k.names (own X) (own (K x)) q (kept x) in omega (arith, z)

    read_on : (x r u : ℕ) → register_of k.names (Some x) ≡ Some r → of_binder s (Some x) ≡ Some (Some u) → is_scalar_type w u ≡ false → B x ≡ true → held_at l.held r ≡ held_at k.held r
    read_on x r u n o f b =
        read_same u (λ q. owners k.names (own X) q + e q) (owners k.names (own (K x))) (held_at k.held) (held_at l.held) r stays (within x) ((t.variables x r u n o).read f b) (t.lent x r u n o b)

    variable : (x r u : ℕ) → register_of l.names (Some x) ≡ Some r → of_binder s (Some x) ≡ Some (Some u) → HoldsVariable w u (held_at l.held r) (X (Own x)) (B x)
    variable x r u n o =
        let m = was x r n in
        let v = t.variables x r u m o in
        record {
          scalar = λ f. stays.scalar r u (v.scalar f);
          owned = λ f h. (
              let tree = v.owned f (let z = less x in omega (arith, z, h)) in
              let least = owners_least k.names (own X) x r m in
              ap (is_owned_of u) (stays.tree r (omega (arith, least, h)) (owned_tree u (held_at k.held r) tree)) ∙ tree);
          read = λ f b. ap (is_read_of u) (read_on x r u m o f b) ∙ v.read f b;
        }

    lying : (x r u : ℕ) → register_of l.names (Some x) ≡ Some r → of_binder s (Some x) ≡ Some (Some u) → B x ≡ true → LiesIn (owners l.names (own (K x))) r (held_at l.held r)
    lying x r u n o b = elim (or_not (is_scalar_type w u)) as (λ v. LiesIn (owners l.names (own (K x))) r (held_at l.held r)) [
      | inl f ↦ lies_scalar (owners l.names (own (K x))) r u (held_at l.held r) (stays.scalar r u ((t.variables x r u (was x r n) o).scalar f))
      | inr f ↦ subst (LiesIn (owners l.names (own (K x))) r) (sym (read_on x r u (was x r n) o f b)) (subst (λ ns. LiesIn (owners ns (own (K x))) r (held_at k.held r)) (sym names) (t.lent x r u (was x r n) o b))
    ]
