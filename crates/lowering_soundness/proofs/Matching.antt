-- A match begins: what its scrutinee is, what is owned where its tests begin, and that these are as they should be.
use Rattle.std.proofs.Common.{◌≡◌, inl, inr, ℕ, zero, suc, ◌+◌, ◌<◌, ◌≤◌, Bool, true, false, ◌&&◌, not, List, [], ◌∷◌, length, slice_get, Option, Some, None, refl, sym, ap, ◌∙◌, subst, subst₂, true≢false, arith, if◌then◌else◌}
use Rattle.std.proofs.lemmas.Option.{same_Some}
use Rattle.separation.specs.fip_language.Table.{Table}
use Rattle.separation.specs.fip_language.Every.{Among}
use Rattle.lowering_relation.specs.fip_trees.Tree.{Expression}
use Rattle.lowering_relation.specs.fip_trees.Tree.{Argument, Variable, Literal, Constructor, Pattern, Clauses, NoClauses, MoreClauses}
use Rattle.derivation_making.specs.fip_rules.World as R
use Rattle.derivation_making.specs.fip_rules.Marks.{Mark}
use Rattle.derivation_making.specs.fip_rules.Shapes.{Names, known}
use Rattle.derivation_making.specs.type_check.Scope.{Scope, of_binder}
use Rattle.derivation_making.specs.type_check.World as W
use Rattle.derivation_making.specs.type_check.Typing.{HasType, IsPattern, TypesClauses}
use Rattle.derivation_making.specs.ownership_calculus.Terms.{Item, Own, Credit}
use Rattle.derivation_making.specs.ownership_calculus.Terms as C
use Rattle.derivation_making.specs.ownership_calculus.Rules.{Fits, Lends}
use Rattle.derivation_making.specs.ownership_calculus.ByCases.{Derives, DerivesValue, DerivesLent, DerivesTaken}
use Rattle.derivation_making.proofs.ownership_calculus.Fit.{fits_same, fits_sum}
use Rattle.derivation_making.specs.ownership_agreement.Bodies.{Scalars, variable, value, lent_value, matched}
use Rattle.separation.specs.cell_code.Plain.{PlainFunction, PlainCode}
use Rattle.separation.specs.code_rules.Types.{is_type, is_scalar_type}
use Rattle.separation.proofs.separation_kinds.Basics.{refused, less_or_not, equal}
use Rattle.lowering_relation.specs.Spots.{register, below}
use Rattle.lowering_relation.specs.declared.held.Held.{Held}
use Rattle.lowering_relation.specs.declared.held.Held.TheVariants as H
use Rattle.lowering_relation.specs.Known.{Known, register_of}
use Rattle.lowering_relation.specs.Values.{Setting, is_scalar}
use Rattle.lowering_relation.specs.Describing.{held_at, kind_of, is_tree}
use Rattle.lowering_soundness.specs.Giving.{is_owned_of}
use Rattle.separation.specs.cell_code.declared.kind.Kind.{Kind}
use Rattle.lowering_soundness.specs.Parts.{Part}
use Rattle.lowering_soundness.specs.Ties.{owners, own, owe, owed, is_read_of, LiesIn, Rooted, Ties}
use Rattle.lowering_relation.specs.Labels.{reported}
use Rattle.lowering_soundness.specs.Laid.{Shares}
use Rattle.lowering_soundness.specs.Placed.{Placed, NoneFrom, Callees}
use Rattle.lowering_relation.specs.Tests.{Choice, ChunkLaid, SidesLaid}
use Rattle.lowering_soundness.proofs.Standing.{Seeing, SeesScalar, SeesLent, SeesOwned, MatchStands}
use Rattle.lowering_relation.specs.Matches.{BuiltRight}
use Rattle.lowering_relation.specs.Matches.{widened, wide, wide_at, variable_of, clause_patterns, Forgets, MatchBegins, MatchLaid, entered, EntryLaid}
use Rattle.lowering_soundness.proofs.Standing.{EntriesLaid}
use Rattle.lowering_relation.specs.LaidBodies.{ClausesLaid, ClausesMeet}
use Rattle.lowering_soundness.proofs.Giving.{owned_tree}
use Rattle.lowering_soundness.proofs.Tying.{ties_fits}
use Rattle.lowering_soundness.proofs.Arguments.{ties_owe}
use Rattle.lowering_soundness.proofs.Values.{owned_variable}
use Rattle.lowering_soundness.proofs.Branches.{catch_part}
use Rattle.lowering_soundness.proofs.EntryHeld.{held_wide}
use Rattle.lowering_soundness.proofs.Keeping.{twice}
use Rattle.lowering_soundness.proofs.EntryFits.{wide_fits}
use Rattle.lowering_soundness.proofs.Cleared.{Kept, wide_owned, wide_read, wide_lies, ties_wide}
use Rattle.lowering_soundness.proofs.Chunks.{Stretch}
use Rattle.lowering_soundness.proofs.Chosen.{match_stretch, match_grows, wide_built}
use Rattle.lowering_soundness.proofs.Openings.{IsRead}
use Rattle.lowering_soundness.proofs.Clauses.{slotted_of, length_map, ties_reserved, Stands}

-- ---- the scrutinee

-- the variable y, as the calculus sees it
pub record Scrutinee (c : PlainCode) (s : Scope) (sc : Scalars) (w : R.World) (ms : List Mark) (a : Argument) (v : Option ℕ) (t : ℕ) : Type 0 where
  pub number : ℕ
  pub is : v ≡ Some number
  pub scope : of_binder s (Some number) ≡ Some (Some t)
  pub value : value sc ms a ≡ (if is_scalar_type c.types t then C.Scalar else C.Named number)
  pub lent : lent_value w sc ms a ≡ (if is_scalar_type c.types t then C.Scalar else C.Named number)

pub scrutinee : (c : PlainCode) (wd : W.World) (w : R.World) (s : Scope) (sc : Scalars) (n : Names) (a : Argument) (v : Option ℕ) (b : Bool) (t : ℕ) → Placed c s sc n → variable_of a ≡ Some v → HasType true wd s b a t → Scrutinee c s sc w n.marks a v t
scrutinee c wd w s sc n (Variable None m p) v b t placed is typed = absurd (cc)
scrutinee c wd w s sc n (Variable (Some y) m p) v b t placed is typed =
    let seen = ap (variable sc) (placed.seen y t typed) ∙ ap (λ b. if b then C.Scalar else C.Named y) (placed.scalar y t typed) in
    record { number = y; is = sym (same_Some (Some y) v is); scope = typed; value = seen; lent = seen }
scrutinee c wd w s sc n (Literal i p) v b t placed is typed = absurd (cc)
scrutinee c wd w s sc n (Constructor u d x m p as') v b t placed is typed = absurd (cc)

-- ---- what is read

read_held : (w : Table) (t : ℕ) (h : Held) → is_scalar_type w t ≡ false → is_read_of t h ≡ true → ((u d : ℕ) → h ≡ H.Owned u (Some d) → ⊥) → Seeing w t h
read_held w t H.Nothing tree e built = absurd (true≢false (sym e))
read_held w t (H.Scalar u) tree e built = absurd (true≢false (sym e))
read_held w t (H.Owned u None) tree e built = SeesOwned (ap (λ u. H.Owned u None) (equal u t e)) tree
read_held w t (H.Owned u (Some d)) tree e built = absurd (built u d refl)
read_held w t (H.Lent u root) tree e built = SeesLent root (ap (λ u. H.Lent u root) (equal u t e)) tree
read_held w t (H.Credit k) tree e built = absurd (true≢false (sym e))
read_held w t (H.Bare u x) tree e built = absurd (true≢false (sym e))

owned_none : (t : ℕ) (h : Held) → is_owned_of t h ≡ true → ((u d : ℕ) → h ≡ H.Owned u (Some d) → ⊥) → h ≡ H.Owned t None
owned_none t H.Nothing e built = absurd (true≢false (sym e))
owned_none t (H.Scalar u) e built = absurd (true≢false (sym e))
owned_none t (H.Owned u None) e built = ap (λ u. H.Owned u None) (equal u t e)
owned_none t (H.Owned u (Some d)) e built = absurd (built u d refl)
owned_none t (H.Lent u root) e built = absurd (true≢false (sym e))
owned_none t (H.Credit k) e built = absurd (true≢false (sym e))
owned_none t (H.Bare u x) e built = absurd (true≢false (sym e))

module _ (c : PlainCode) (st : Setting) (wd : W.World) (w : R.World) (shares : Shares c st wd) (callees : Callees c st wd w) (f : PlainFunction) (fip : Bool) where
  -- ---- who owns what

  abbrev pub DerivesBy : Bool → (ℕ → Bool) → (Item → ℕ) → C.Clauses → Type 0
  DerivesBy true B R cs = DerivesTaken fip B R cs
  DerivesBy false B R cs = DerivesLent fip B R cs

  pub record Owner (taken : Bool) (s : Scope) (B : ℕ → Bool) (K : ℕ → Item → ℕ) (X : Item → ℕ) (cs : C.Clauses) (n t r : ℕ) (k : Known) : Type 0 where
    pub owned : Item → ℕ
    pub read : Item → ℕ
    pub least : (y : ℕ) → read (Own y) ≤ X (Own y)
    pub stands : Stands c st wd w shares callees f fip taken s B K owned X read t r k
    pub derives : DerivesBy taken B owned cs
    pub none : NoneFrom n (λ i. owned i + X i)

  pub owner : (taken : Bool) (s : Scope) (sc : Scalars) (n : Names) (B : ℕ → Bool) (K : ℕ → Item → ℕ) (P X : Item → ℕ) (k : Known) (a : Argument) (v : Option ℕ) (t r : ℕ) (cs : C.Clauses) → Kept K X → (x : Scrutinee c s sc w n.marks a v t) → (taken ≡ true → is_scalar_type c.types t ≡ false) → register_of k.names v ≡ Some r → Derives fip B P (matched w sc n.marks taken a cs) → NoneFrom n.next (λ i. P i + X i) → Ties fip c.types s B K (λ i. P i + X i) (λ q. 0) k → Owner taken s B K X cs n.next t r k
  owner true s sc n B K P X k a v t r cs kept x tree named d none ties =
      let sc0 = tree refl in
      let P0 = d.0 in
      let remains = d.1 in
      let just : DerivesValue fip P0 (C.Named x.number) = subst (DerivesValue fip P0) (x.value ∙ refused (is_scalar_type c.types t) C.Scalar (C.Named x.number) sc0) d.3 in
      let parts : Ties fip c.types s B K (λ i. P0 i + (remains i + X i)) (λ q. 0) k = ties_fits fip c.types s B K (λ i. P i + X i) (λ i. P0 i + (remains i + X i)) (λ q. 0) k ties
      (λ i. (let q : (P0 i + remains i) + X i ≡ P0 i + (remains i + X i) = omega arith in subst (Fits fip (P i + X i)) q (fits_sum fip (P i + X i) (P i) (X i) (P0 i + remains i) (X i) (fits_same fip (P i + X i)) (d.2 i) (fits_same fip (X i))))) in
      let got = owned_variable c f fip s B K P0 (λ i. remains i + X i) (λ q. 0) 0 k x.number r t (ap (register_of k.names) (sym x.is) ∙ named) x.scope sc0 just (λ z y. let a = kept z y in omega (arith, a)) parts in
      record {
        owned = remains;
        read = λ i. 0;
        least = λ y. omega arith;
        stands = (ties_owe fip c.types s B K (λ i. remains i + X i) (λ q. owed c.types (r ∷ []) (t ∷ []) q + 0) (λ q. owe c.types t r q + 0) k (λ q. omega arith) got.ties, got.hold.0, sc0);
        derives = d.4;
        none = λ y low. (let a = none y low in let b = Rattle.derivation_making.proofs.ownership_calculus.Fit.fits_le fip (P (Own y)) (P0 (Own y) + remains (Own y)) (d.2 (Own y)) in omega (arith, a, b));
      }
  owner false s sc n B K P X k a v t r cs kept x tree named d none ties = record {
    owned = P;
    read = K x.number;
    least = kept x.number;
    stands = (ties, read (is_scalar_type c.types t) refl);
    derives = d.1;
    none = none;
  }
    where
      there : register_of k.names (Some x.number) ≡ Some r
      there = ap (register_of k.names) (sym x.is) ∙ named

      read : (b : Bool) → is_scalar_type c.types t ≡ b → IsRead c f st fip B K t r (K x.number) k
      read true e = inl (e, (ties.variables x.number r t there x.scope).scalar e)
      read false e =
          let lends : Lends B (C.Named x.number) = subst (Lends B) (x.lent ∙ refused (is_scalar_type c.types t) C.Scalar (C.Named x.number) e) d.0 in
          inr (e, (ties.variables x.number r t there x.scope).read e lends, ties.lent x.number r t there x.scope lends)

  -- ---- where the tests begin

  stands_wide : (taken : Bool) (s : Scope) (B : ℕ → Bool) (K : ℕ → Item → ℕ) (R X L : Item → ℕ) (t r : ℕ) (k : Known) → Stands c st wd w shares callees f fip taken s B K R X L t r k → Stands c st wd w shares callees f fip taken s B K R X L t r (wide k)
  stands_wide true s B K R X L t r k x = (
    ties_wide fip c.types s B K (λ i. R i + X i) (λ q. owe c.types t r q + 0) k x.0,
    record {
      scalar = λ e. held_wide k.held r ∙ ap widened (x.1.scalar e);
      owned = λ e. ap (is_owned_of t) (held_wide k.held r) ∙ (wide_owned t (held_at k.held r) ∙ x.1.owned e);
    },
    x.2,
  )
  stands_wide false s B K R X L t r k x = (
    ties_wide fip c.types s B K (λ i. R i + X i) (λ q. 0) k x.0,
    by x.1,
  )
    where
      by : IsRead c f st fip B K t r L k → IsRead c f st fip B K t r L (wide k)
      by (inl y) = inl (y.0, held_wide k.held r ∙ ap widened y.1)
      by (inr y) = inr (
        y.0,
        ap (is_read_of t) (held_wide k.held r) ∙ (wide_read t (held_at k.held r) ∙ y.1),
        subst (LiesIn (owners k.names (own L)) r) (sym (held_wide k.held r)) (wide_lies (owners k.names (own L)) r (held_at k.held r) y.2),
      )

  stands_more : (taken : Bool) (s : Scope) (B : ℕ → Bool) (K : ℕ → Item → ℕ) (R X L : Item → ℕ) (t r : ℕ) (k : Known) (n : ℕ) → k.next ≤ n → Stands c st wd w shares callees f fip taken s B K R X L t r k → Stands c st wd w shares callees f fip taken s B K R X L t r (record k { next = n })
  stands_more true s B K R X L t r k n more x = (ties_reserved fip c.types s B K (λ i. R i + X i) (λ q. owe c.types t r q + 0) k n more x.0, x.1, x.2)
  stands_more false s B K R X L t r k n more x = (ties_reserved fip c.types s B K (λ i. R i + X i) (λ q. 0) k n more x.0, x.1)

  -- what of it is so of any frame
  record Frame (k : Known) : Type 0 where
    pub rooted : Rooted (held_at k.held)
    pub fresh : (r : ℕ) → k.next ≤ r → held_at k.held r ≡ H.Nothing

  frame_of : (taken : Bool) (s : Scope) (B : ℕ → Bool) (K : ℕ → Item → ℕ) (R X L : Item → ℕ) (t r : ℕ) (k : Known) → Stands c st wd w shares callees f fip taken s B K R X L t r k → Frame k
  frame_of true s B K R X L t r k x = record { rooted = x.0.rooted; fresh = x.0.fresh }
  frame_of false s B K R X L t r k x = record { rooted = x.0.rooted; fresh = x.0.fresh }

  -- the scrutinee's register
  sees : (taken : Bool) (s : Scope) (B : ℕ → Bool) (K : ℕ → Item → ℕ) (R X L : Item → ℕ) (t r : ℕ) (k : Known) → Stands c st wd w shares callees f fip taken s B K R X L t r k → ((u d : ℕ) → held_at k.held r ≡ H.Owned u (Some d) → ⊥) → Seeing c.types t (held_at k.held r)
  sees true s B K R X L t r k x built = SeesOwned (owned_none t (held_at k.held r) (x.1.owned x.2) built) x.2
  sees false s B K R X L t r k x built = by x.1
    where
      by : IsRead c f st fip B K t r L k → Seeing c.types t (held_at k.held r)
      by (inl y) = SeesScalar y.1 y.0
      by (inr y) = read_held c.types t (held_at k.held r) y.0 y.1 built

  takes_tree : (taken : Bool) (s : Scope) (B : ℕ → Bool) (K : ℕ → Item → ℕ) (R X L : Item → ℕ) (t r : ℕ) (k : Known) → Stands c st wd w shares callees f fip taken s B K R X L t r k → taken ≡ true → is_tree (held_at k.held r) ≡ true
  takes_tree true s B K R X L t r k x e = owned_tree t (held_at k.held r) (x.1.owned x.2)
  takes_tree false s B K R X L t r k x e = absurd (true≢false (sym e))

  -- ---- the clauses' patterns

  pub clause_typed : (s : Scope) (t : ℕ) (cs : Clauses) (ts : List ℕ) (i : ℕ) (q : Pattern) → TypesClauses true wd s t cs ts → slice_get (clause_patterns cs) i ≡ Some q → IsPattern true wd t q
  clause_typed s t NoClauses ts i q h e = absurd (cc)
  clause_typed s t (MoreClauses p b cs) ts zero q h e = subst (IsPattern true wd t) (same_Some p q e) h.0
  clause_typed s t (MoreClauses p b cs) ts (suc i) q h e = clause_typed s t cs ts i q h.2 e

  all_typed : (s : Scope) (t : ℕ) (p : Pattern) (cs : Clauses) (ts : List ℕ) (i : ℕ) (q : Pattern) → IsPattern true wd t p → TypesClauses true wd s t cs ts → slice_get (p ∷ clause_patterns cs) i ≡ Some q → IsPattern true wd t q
  all_typed s t p cs ts zero q first h e = subst (IsPattern true wd t) (same_Some p q e) first
  all_typed s t p cs ts (suc i) q first h e = clause_typed s t cs ts i q h e

  -- ---- the entries

  later_entries : (ch : Choice) (l : Known) (j : ℕ) (cs : Clauses) (at end : ℕ) → ClausesLaid c st fip f ch l j cs at end → (i : ℕ) (q : Pattern) (e : ℕ) → slice_get (clause_patterns cs) i ≡ Some q → slice_get ch.entries (j + i) ≡ Some e → (n : ℕ) × EntryLaid c st f ch l (j + i) q e n
  later_entries ch l j NoClauses at end h i q e p there = absurd (cc)
  later_entries ch l j (MoreClauses r b cs) at end h zero q e p there =
      let z : j ≡ j + 0 = omega arith in
      let here = h.6.place in
      let same : h.1 ≡ e = same_Some h.1 e (sym here ∙ (ap (slice_get ch.entries) z ∙ there)) in
      (h.2, subst (λ i. EntryLaid c st f ch l i q e h.2) z (subst (λ e. EntryLaid c st f ch l j q e h.2) same (subst (λ q. EntryLaid c st f ch l j q h.1 h.2) (same_Some r q p) h.6)))
  later_entries ch l j (MoreClauses r b cs) at end h (suc i) q e p there =
      let z : suc j + i ≡ j + suc i = omega arith in
      subst (λ i. (n : ℕ) × EntryLaid c st f ch l i q e n) z (later_entries ch l (suc j) cs h.3 end h.8 i q e p (ap (slice_get ch.entries) z ∙ there))

  -- the same, where the clauses meet
  met_entries : (ch : Choice) (l : Known) (o : Expression) (j : ℕ) (cs : Clauses) (ds : List ℕ) (stop : ℕ) (k : Known) (at : ℕ) (met : Known) → ClausesMeet c st fip f ch l o j cs ds stop k at met → (i : ℕ) (q : Pattern) (e : ℕ) → slice_get (clause_patterns cs) i ≡ Some q → slice_get ch.entries (j + i) ≡ Some e → (n : ℕ) × EntryLaid c st f ch l (j + i) q e n
  met_entries ch l o j NoClauses ds stop k at met h i q e p there = absurd (cc)
  met_entries ch l o j (MoreClauses r b cs) ds stop k at met h zero q e p there =
      let z : j ≡ j + 0 = omega arith in
      let here = h.9.place in
      let same : h.1 ≡ e = same_Some h.1 e (sym here ∙ (ap (slice_get ch.entries) z ∙ there)) in
      (h.2, subst (λ i. EntryLaid c st f ch l i q e h.2) z (subst (λ e. EntryLaid c st f ch l j q e h.2) same (subst (λ q. EntryLaid c st f ch l j q h.1 h.2) (same_Some r q p) h.9)))
  met_entries ch l o j (MoreClauses r b cs) ds stop k at met h (suc i) q e p there =
      let z : suc j + i ≡ j + suc i = omega arith in
      subst (λ i. (n : ℕ) × EntryLaid c st f ch l i q e n) z (met_entries ch l o (suc j) cs ds stop h.7 h.5 met h.13 i q e p (ap (slice_get ch.entries) z ∙ there))

  pub all_met : (ch : Choice) (l : Known) (o : Expression) (p : Pattern) (cs : Clauses) (at n : ℕ) (ds : List ℕ) (stop : ℕ) (k : Known) (mid : ℕ) (met : Known) → ch.patterns ≡ p ∷ clause_patterns cs → EntryLaid c st f ch l 0 p at n → ClausesMeet c st fip f ch l o 1 cs ds stop k mid met → EntriesLaid c st f ch l
  all_met ch l o p cs at n ds stop k mid met patterns first rest = λ i q e is there. by i q e (ap (λ ps. slice_get ps i) (sym patterns) ∙ is) there
    where
      by : (i : ℕ) (q : Pattern) (e : ℕ) → slice_get (p ∷ clause_patterns cs) i ≡ Some q → slice_get ch.entries i ≡ Some e → (n : ℕ) × EntryLaid c st f ch l i q e n
      by zero q e is there =
          (n, subst (λ e. EntryLaid c st f ch l 0 q e n) (same_Some at e (sym first.place ∙ there)) (subst (λ q. EntryLaid c st f ch l 0 q at n) (same_Some p q is) first))
      by (suc i) q e is there =
          let z : 1 + i ≡ suc i = omega arith in
          subst (λ i. (n : ℕ) × EntryLaid c st f ch l i q e n) z (met_entries ch l o 1 cs ds stop k mid met rest i q e is (ap (slice_get ch.entries) z ∙ there))

  pub all_entries : (ch : Choice) (l : Known) (p : Pattern) (cs : Clauses) (at n mid end : ℕ) → ch.patterns ≡ p ∷ clause_patterns cs → EntryLaid c st f ch l 0 p at n → ClausesLaid c st fip f ch l 1 cs mid end → EntriesLaid c st f ch l
  all_entries ch l p cs at n mid end patterns first rest = λ i q e is there. by i q e (ap (λ ps. slice_get ps i) (sym patterns) ∙ is) there
    where
      by : (i : ℕ) (q : Pattern) (e : ℕ) → slice_get (p ∷ clause_patterns cs) i ≡ Some q → slice_get ch.entries i ≡ Some e → (n : ℕ) × EntryLaid c st f ch l i q e n
      by zero q e is there =
          (n, subst (λ e. EntryLaid c st f ch l 0 q e n) (same_Some at e (sym first.place ∙ there)) (subst (λ q. EntryLaid c st f ch l 0 q at n) (same_Some p q is) first))
      by (suc i) q e is there =
          let z : 1 + i ≡ suc i = omega arith in
          subst (λ i. (n : ℕ) × EntryLaid c st f ch l i q e n) z (later_entries ch l 1 cs mid end rest i q e is (ap (slice_get ch.entries) z ∙ there))

  -- ---- a match where l is known

  pub record MatchOn (taken : Bool) (s : Scope) (B : ℕ → Bool) (K : ℕ → Item → ℕ) (R X L : Item → ℕ) (t : ℕ) (ch : Choice) (k l : Known) (q : Pattern) (cs : Clauses) : Type 0 where
    pub stands : Stands c st wd w shares callees f fip taken s B K R X L t (register ch.root) l
    pub match_stands : MatchStands c st f ch l
    pub entries : EntriesLaid c st f ch l
    pub takes : ch.takes ≡ taken
    pub used : register ch.root < l.next
    pub fresh : (z : ℕ) → Among z (below ch.root) → z < l.next
    pub apart : (z : ℕ) → Among z (below ch.root) → k.next ≤ z
    pub grows : k.next ≤ l.next
    pub same_names : l.names ≡ k.names
    pub same_credits : l.credits ≡ k.credits
    pub same_held : (r : ℕ) → widened (held_at l.held r) ≡ widened (held_at k.held r)
    pub names : length l.names ≡ length k.names
    pub width : length l.held ≡ length k.held

  pub match_on : (taken : Bool) (s : Scope) (B : ℕ → Bool) (K : ℕ → Item → ℕ) (R X L : Item → ℕ) (t : ℕ) (ds : Bool) (at : ℕ) (a : Argument) (ch : Choice) (k l : Known) (q : Pattern) (cs : Clauses) (end : ℕ) (ts : List ℕ) → MatchLaid c st f at k ds t a q cs ch l end → ds && not (is_scalar st t) ≡ taken → is_type c.types t ≡ true → IsPattern true wd t q → TypesClauses true wd s t cs ts → register ch.root < k.next → length k.held ≡ f.registers → Stands c st wd w shares callees f fip taken s B K R X L t (register ch.root) k → EntriesLaid c st f ch l → MatchOn taken s B K R X L t ch k l q cs
  match_on taken s B K R X L t ds at a ch k l q cs end ts laid is typed first rest used wide0 stands laid_entries = by begins.forgets
    where
      begins : MatchBegins c f at k laid.variable t ch l
      begins = laid.begins

      build : (known : Known) → l ≡ record known { next = begins.next } → known.next ≤ begins.next → ((z : ℕ) → Among z (below ch.root) → (known.next ≤ z) × (z < begins.next)) → Stands c st wd w shares callees f fip taken s B K R X L t (register ch.root) known → ((u d : ℕ) → held_at known.held (register ch.root) ≡ H.Owned u (Some d) → ⊥) → ((r : ℕ) → BuiltRight c.types (held_at known.held r)) → known.next ≡ k.next → known.names ≡ k.names → known.credits ≡ k.credits → ((r : ℕ) → widened (held_at known.held r) ≡ widened (held_at k.held r)) → length known.held ≡ length k.held → MatchOn taken s B K R X L t ch k l q cs
      build known same more fresh x plain built next names credits held width =
          let frame = frame_of taken s B K R X L t (register ch.root) known x in
          let few = begins.few in
          let m = begins.next in
          subst (λ l. EntriesLaid c st f ch l → MatchOn taken s B K R X L t ch k l q cs) (sym same) (λ listed. record {
            stands = stands_more taken s B K R X L t (register ch.root) known m more x;
            match_stands = record {
              sees = subst (λ t. Seeing c.types t (held_at known.held (register ch.root))) (sym begins.type) (sees taken s B K R X L t (register ch.root) known x plain);
              unused = λ z among. (let y = fresh z among in let low = y.0 in let high = y.1 in (frame.fresh z low, omega (arith, high, few), (λ e. absurd (let x : ⊥ = omega (arith, e, low, next, used) in x))));
              within = λ z among. within_by z fresh few more next width among;
              differ = begins.differ;
              rooted = frame.rooted;
              built = built;
              takes = λ e. takes_tree taken s B K R X L t (register ch.root) known x (sym is ∙ (sym laid.takes ∙ e));
              typed = begins.typed;
              roomy = begins.roomy;
              slots = λ i p there. subst (λ t. Rattle.lowering_soundness.proofs.Standing.Slotted st c.types t p) (sym begins.type) (slotted_of c st wd w shares callees p t typed (all_typed s t q cs ts i p first rest (ap (λ ps. slice_get ps i) (sym laid.patterns) ∙ there)));
            };
            entries = listed;
            takes = laid.takes ∙ is;
            used = omega (arith, used, next, more);
            fresh = λ z among. (fresh z among).1;
            apart = λ z among. (let y = (fresh z among).0 in omega (arith, y, next));
            grows = omega (arith, next, more);
            same_names = names;
            same_credits = credits;
            same_held = held;
            names = ap length names;
            width = width;
          }) laid_entries
        where
          within_by : (z : ℕ) → ((z : ℕ) → Among z (below ch.root) → (known.next ≤ z) × (z < begins.next)) → begins.next ≤ f.registers → known.next ≤ begins.next → known.next ≡ k.next → length known.held ≡ length k.held → Among z (register ch.root ∷ below ch.root) → z < length known.held
          within_by z fresh few more next width (inl e) = omega (arith, e, used, next, more, few, width, wide0)
          within_by z fresh few more next width (inr m) = let y = (fresh z m).1 in omega (arith, y, few, width, wide0)

      by : Forgets c f at k (register ch.root) begins.known → MatchOn taken s B K R X L t ch k l q cs
      by (inl y) =
          build begins.known begins.is begins.more begins.fresh
          (subst (λ k. Stands c st wd w shares callees f fip taken s B K R X L t (register ch.root) k) (sym y.0) stands)
          (λ u d e. y.1 u d (ap (λ (k : Known). held_at k.held (register ch.root)) (sym y.0) ∙ e))
          (λ r. subst (λ (k : Known). BuiltRight c.types (held_at k.held r)) (sym y.0) (begins.built r))
          (ap (λ (k : Known). k.next) y.0) (ap (λ (k : Known). k.names) y.0) (ap (λ (k : Known). k.credits) y.0) (λ r. ap (λ (k : Known). widened (held_at k.held r)) y.0) (ap (λ (k : Known). length k.held) y.0)
      by (inr y) =
          build begins.known begins.is begins.more begins.fresh
          (subst (λ k. Stands c st wd w shares callees f fip taken s B K R X L t (register ch.root) k) (sym y.0) (stands_wide taken s B K R X L t (register ch.root) k stands))
          (λ u d e. wide_built (held_at k.held (register ch.root)) u d (sym (ap (λ (k : Known). held_at k.held (register ch.root)) y.0 ∙ held_wide k.held (register ch.root)) ∙ e))
          (λ r. record { there = λ u d e. absurd (wide_built (held_at k.held r) u d (sym (ap (λ (k : Known). held_at k.held r) y.0 ∙ held_wide k.held r) ∙ e)) })
          (ap (λ (k : Known). k.next) y.0) (ap (λ (k : Known). k.names) y.0) (ap (λ (k : Known). k.credits) y.0) (λ r. ap (λ (k : Known). widened (held_at k.held r)) y.0 ∙ (ap widened (held_wide k.held r) ∙ twice (held_at k.held r))) (ap (λ (k : Known). length k.held) y.0 ∙ length_map k.held)

  -- ---- the tests, and the first clause

  no_sides : (g : Rattle.lowering_relation.specs.Describing.Holding) (ch : Choice) (n at end : ℕ) → at ≡ 0 → SidesLaid c f g ch n at end → end ≡ 0
  no_sides g ch zero at end e h = h ∙ e
  no_sides g ch (suc n) at end e h = absurd (let low = h.1.later in let z : ⊥ = omega (arith, low, e) in z)

  -- the tests are before what is so from the first clause's entry on
  module _ (P : ℕ → (ℕ → Kind) → Type 0) (on_stretch : (a : ℕ) (m : ℕ → Kind) (b : ℕ) (l : ℕ → Kind) → Stretch c f a m b → P b l → P a m) (on_part : (a : ℕ) (m : ℕ → Kind) (b : ℕ) (l : ℕ → Kind) → Part c f a m b l → P b l → P a m) where
    tests_any : (ch : Choice) (l : Known) (q : Pattern) (at mid sides e n : ℕ) → MatchStands c st f ch l → EntriesLaid c st f ch l → ChunkLaid c f (held_at l.held) ch at (Rattle.lowering_relation.specs.match_knowledge.Known.Open []) [] (reported c l) mid → SidesLaid c f (wide_at (held_at l.held)) ch sides mid e → EntryLaid c st f ch l 0 q e n → P e (reported c (entered st ch q l n)) → P at (reported c l)
    tests_any ch l q at mid sides e n stands entries first rest entry body = elim (less_or_not 0 mid) as (λ v. P at (reported c l)) [
      | inl low ↦ on_stretch at (reported c l) e (reported c (entered st ch q l n)) (match_stretch c st f ch l stands entries at mid sides e first rest low) body
      | inr none ↦
          (let grows = match_grows c st f ch l stands at mid first in
          let zero : mid ≡ 0 = omega (arith, none) in
          let e0 = no_sides (wide_at (held_at l.held)) ch sides mid e zero rest in
          let same : e ≡ at = omega (arith, none, grows, e0) in
          elim entry.enters as (λ v. P at (reported c l)) [
            | inl y ↦ (let low = y.0 in absurd (let z : ⊥ = omega (arith, low, e0) in z))
            | inr y ↦ (let kinds : reported c (entered st ch q l n) ≡ reported c l = λ i r. sym (y.1 r) i in subst₂ P same kinds body)
          ])
    ]

    pub match_any : (at : ℕ) (k : Known) (ds : Bool) (t : ℕ) (a : Argument) (q : Pattern) (cs : Clauses) (ch : Choice) (l : Known) (e n : ℕ) → MatchLaid c st f at k ds t a q cs ch l e → MatchStands c st f ch l → EntriesLaid c st f ch l → EntryLaid c st f ch l 0 q e n → P e (reported c (entered st ch q l n)) → P at (reported c k)
    match_any at k ds t a q cs ch l e n laid stands entries entry body = by laid.begins.forgets
      where
        tests : P at (reported c l)
        tests = tests_any ch l q at laid.mid laid.more e n stands entries laid.first laid.sides entry body

        tests_known : P at (reported c laid.begins.known)
        tests_known = subst (λ (l : Known). P at (reported c l)) laid.begins.is tests

        by : Forgets c f at k (register ch.root) laid.begins.known → P at (reported c k)
        by (inl y) = subst (λ (l : Known). P at (reported c l)) y.0 tests_known
        by (inr y) =
            on_part at (reported c k) at (reported c laid.begins.known)
            (catch_part c f at (reported c k) (reported c laid.begins.known) y.1 (λ r. ap (λ (l : Known). Rattle.separation.specs.code_rules.Fitting.fits (reported c l r) (reported c k r)) y.0 ∙ (ap (λ h. Rattle.separation.specs.code_rules.Fitting.fits (kind_of c.types h) (kind_of c.types (held_at k.held r))) (held_wide k.held r) ∙ wide_fits c.types (held_at k.held r) (laid.begins.built r)))) tests_known
