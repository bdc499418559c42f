-- The arguments of a call are computed: those in borrowed positions are in the registers of their variables.
use Rattle.std.proofs.Common.{◌≡◌, inl, inr, ℕ, suc, ◌+◌, ◌≤◌, Bool, true, false, ◌&&◌, not, List, [], ◌∷◌, length, map, Some, None, refl, sym, ap, ◌∙◌, subst, subst₂, true≢false, arith, if◌then◌else◌}
use Rattle.std.proofs.lemmas.Option.{none-some}
use Rattle.separation.specs.fip_base.declared.plain.Param.{Param}
use Rattle.lowering_relation.specs.fip_trees.Tree.{Argument, Variable, Literal, Constructor, Arguments, NoArguments, MoreArguments}
use Rattle.derivation_making.specs.fip_rules.Marks.{Mark}
use Rattle.derivation_making.specs.fip_rules.World as R
use Rattle.derivation_making.specs.type_check.Scope.{Scope}
use Rattle.derivation_making.specs.type_check.World as W
use Rattle.derivation_making.specs.type_check.Typing.{HasType, HaveTypes}
use Rattle.derivation_making.specs.ownership_calculus.Terms as C
use Rattle.derivation_making.specs.ownership_calculus.Terms.{Item, Own, Credit, charge}
use Rattle.derivation_making.specs.ownership_calculus.Rules.{Fits, Lends}
use Rattle.derivation_making.specs.ownership_calculus.ByCases.{DerivesPassed}
use Rattle.derivation_making.proofs.ownership_calculus.Fit.{fits_same, fits_sum}
use Rattle.derivation_making.specs.ownership_agreement.Bodies.{Scalars, variable, value, lent_value, header, passed}
use Rattle.separation.specs.cell_code.Plain.{PlainFunction, PlainCode}
use Rattle.separation.specs.code_rules.Types.{is_type, is_scalar_type}
use Rattle.separation.proofs.separation_kinds.Basics.{chosen, refused, or_not}
use Rattle.lowering_relation.specs.declared.held.Held.TheVariants as H
use Rattle.lowering_relation.specs.Known.{Known, register_of}
use Rattle.lowering_relation.specs.Values.{Setting, ArgumentAt, ArgumentsAt}
use Rattle.lowering_relation.specs.Describing.{held_at}
use Rattle.lowering_soundness.specs.Parts.{Part}
use Rattle.lowering_soundness.specs.Ties.{owners, own, HoldsValue, owe, owed, Stays, Ties}
use Rattle.lowering_relation.specs.Labels.{reported, Quiet}
use Rattle.lowering_soundness.specs.Laid.{Shares, Scoped}
use Rattle.lowering_soundness.specs.Computed.{Computed}
use Rattle.lowering_soundness.specs.Passed.{Choose, borrows, owe_passed, owed_passed, IsBorrowed, PassHolds}
use Rattle.lowering_soundness.proofs.Parts.{no_row, both_parts}
use Rattle.lowering_soundness.proofs.Balance.{stays_same, stays_on, stays_fewer}
use Rattle.lowering_soundness.proofs.Owners.{owners_less}
use Rattle.lowering_soundness.proofs.Tying.{ties_fits}
use Rattle.lowering_soundness.proofs.Arguments.{int_scalar, quiet_front, quiet_back, ties_owe, owe_one, value_stays}
use Rattle.lowering_soundness.proofs.Arguing.{arguments_grows, worth_split, argument_value}

-- arguments were computed: X and the callee's credits are still owned, and beside the registers of arguments own trees
pub record PassedOn (c : PlainCode) (f : PlainFunction) (fip : Bool) (s : Scope) (B : ℕ → Bool) (K : ℕ → Item → ℕ) (ks : List ℕ) (X : Item → ℕ) (e : ℕ → ℕ) (at : ℕ) (k : Known) (ps : List Param) (rs : List ℕ) (end : ℕ) (l : Known) : Type 0 where
  pub grows : at ≤ end
  pub still : at ≡ end → (r : ℕ) → reported c k r ≡ reported c l r
  pub part : Part c f at (reported c k) end (reported c l)
  pub names : l.names ≡ k.names
  pub next : k.next ≤ l.next
  pub width : length l.held ≡ length k.held
  pub ties : Ties fip c.types s B K (λ i. charge ks i + X i) (λ q. owed_passed c.types ps rs q + e q) l
  pub hold : PassHolds c.types s B l ps rs
  pub empty : (r : ℕ) → suc r ≤ k.next → held_at k.held r ≡ H.Nothing → held_at l.held r ≡ H.Nothing
  pub stays : Stays (held_at k.held) (held_at l.held) (λ q. owners k.names (own X) q + e q)

pub choose_left : (A D : Type 0) (b : Bool) → b ≡ true → A → Choose b A D
choose_left A D true e x = x
choose_left A D false e x = absurd (true≢false (sym e))

pub choose_right : (A D : Type 0) (b : Bool) → b ≡ false → D → Choose b A D
choose_right A D true e x = absurd (true≢false e)
choose_right A D false e x = x

module _ (c : PlainCode) (f : PlainFunction) (st : Setting) (wd : W.World) (w : R.World) (fip : Bool) (s : Scope) (sc : Scalars) (ms : List Mark) (B : ℕ → Bool) (K : ℕ → Item → ℕ) (shares : Shares c st wd) (scoped : Scoped c s sc ms) (scalars : (t : ℕ) → is_type c.types t ≡ true → w.scalar t ≡ is_scalar_type c.types t) where
  abbrev On : List ℕ → (Item → ℕ) → (ℕ → ℕ) → ℕ → Known → List Param → List ℕ → ℕ → Known → Type 0
  On ks X e at k ps rs end l = PassedOn c f fip s B K ks X e at k ps rs end l

  nothing_passed : (P X : Item → ℕ) (ks : List ℕ) (e : ℕ → ℕ) (at : ℕ) (k : Known) → ((i : Item) → Fits fip (P i) (charge ks i)) → Ties fip c.types s B K (λ i. P i + X i) e k → On ks X e at k [] [] at k
  nothing_passed P X ks e at k just ties = record {
    grows = omega arith;
    still = λ z q. refl;
    part = no_row c f at (reported c k) (reported c k) (λ q. refl);
    names = refl;
    next = omega arith;
    width = refl;
    ties = ties_owe fip c.types s B K (λ i. charge ks i + X i) e (λ q. 0 + e q) k (λ q. omega arith)
        (ties_fits fip c.types s B K (λ i. P i + X i) (λ i. charge ks i + X i) e k ties (λ i. fits_sum fip (P i + X i) (P i) (X i) (charge ks i) (X i) (fits_same fip (P i + X i)) (just i) (fits_same fip (X i))));
    hold = tt;
    empty = λ q low y. y;
    stays = stays_same (held_at k.held) (λ q. owners k.names (own X) q + e q);
  }

  -- an argument in a borrowed position is a variable that is borrowed
  lent_variable : (at : ℕ) (k : Known) (a : Argument) (r mid : ℕ) (m : Known) (p : Param) → ArgumentAt st f.instrs at k a r mid m → HasType true wd s true a p.ty → is_scalar_type c.types p.ty ≡ false → Lends B (lent_value w sc ms a) → (mid ≡ at) × (m ≡ k) × IsBorrowed s B k p r
  lent_variable at k (Variable None n q) r mid m p h typed sc0 lends = absurd (none-some (Some p.ty) typed)
  lent_variable at k (Variable (Some x) n q) r mid m p h typed sc0 lends = (h.nothing, h.known, record { variable = x; named = h.named; typed = typed; borrowed = borrowed })
    where
      seen : Lends B (variable sc (Some x))
      seen = subst (λ o. Lends B (variable sc o)) (scoped.seen x p.ty typed) lends

      borrowed : B x ≡ true
      borrowed = subst (λ b. Lends B (if b then C.Scalar else C.Named x)) (scoped.scalar x p.ty typed ∙ sc0) seen
  lent_variable at k (Literal i q) r mid m p h typed sc0 lends = absurd (true≢false (sym (ap (is_scalar_type c.types) typed ∙ int_scalar c.types) ∙ sc0))
  lent_variable at k (Constructor t d n u q as') r mid m p h typed sc0 lends = absurd (subst (λ b. Lends B (if b then C.Scalar else C.Built (Rattle.derivation_making.specs.ownership_agreement.Bodies.values sc ms as'))) (scalars t (ap (is_type c.types) typed.0 ∙ shares.made true d p.ty typed.1) ∙ (ap (is_scalar_type c.types) typed.0 ∙ sc0)) lends)

  -- the places of parameters
  abbrev pub Places : ℕ → ℕ → List Param → Type 0
  Places g j [] = Unit {0}
  Places g j (p ∷ ps) = (R.lends w g j ≡ borrows c.types p) × Places g (suc j) ps

  lent_first : (ks : List ℕ) (X : Item → ℕ) (e : ℕ → ℕ) (at : ℕ) (k : Known) (p : Param) (ps : List Param) (r : ℕ) (rs : List ℕ) (end : ℕ) (l : Known) → borrows c.types p ≡ true → IsBorrowed s B k p r → On ks X e at k ps rs end l → On ks X e at k (p ∷ ps) (r ∷ rs) end l
  lent_first ks X e at k p ps r rs end l b h rest = record {
    grows = rest.grows;
    still = rest.still;
    part = rest.part;
    names = rest.names;
    next = rest.next;
    width = rest.width;
    ties = ties_owe fip c.types s B K (λ i. charge ks i + X i) (λ q. owed_passed c.types ps rs q + e q) (λ q. (owe_passed c.types p r q + owed_passed c.types ps rs q) + e q) l (λ q. let z = chosen (borrows c.types p) 0 (owe c.types p.ty r q) b in omega (arith, z)) rest.ties;
    hold = (choose_left (IsBorrowed s B l p r) (HoldsValue c.types p.ty (held_at l.held r)) (borrows c.types p) b (record { variable = h.variable; named = ap (λ ns. register_of ns (Some h.variable)) rest.names ∙ h.named; typed = h.typed; borrowed = h.borrowed }), rest.hold);
    empty = rest.empty;
    stays = rest.stays;
  }

  owned_first : (ks : List ℕ) (Y X : Item → ℕ) (e : ℕ → ℕ) (at : ℕ) (k : Known) (p : Param) (ps : List Param) (r : ℕ) (rs : List ℕ) (mid : ℕ) (m : Known) (end : ℕ) (l : Known) → borrows c.types p ≡ false → ((x : ℕ) → X (Own x) ≤ Y (Own x)) → Computed c f fip s B K Y e at k (r ∷ []) (p.ty ∷ []) mid m → On ks X (λ q. owe c.types p.ty r q + e q) mid m ps rs end l → On ks X e at k (p ∷ ps) (r ∷ rs) end l
  owned_first ks Y X e at k p ps r rs mid m end l b less x y =
      let low = x.grows in
      let high = y.grows in
      record {
        grows = omega (arith, low, high);
        still = λ z q. (let u : at ≡ mid = omega (arith, low, high, z) in let v : mid ≡ end = omega (arith, low, high, z) in x.still u q ∙ y.still v q);
        part = both_parts c f at mid end (reported c k) (reported c m) (reported c l) x.part y.part;
        names = y.names ∙ x.names;
        next = (let u = x.next in let v = y.next in omega (arith, u, v));
        width = y.width ∙ x.width;
        ties = ties_owe fip c.types s B K (λ i. charge ks i + X i) (λ q. owed_passed c.types ps rs q + (owe c.types p.ty r q + e q)) (λ q. (owe_passed c.types p r q + owed_passed c.types ps rs q) + e q) l (λ q. let z = refused (borrows c.types p) 0 (owe c.types p.ty r q) b in omega (arith, z)) y.ties;
        hold = (choose_right (IsBorrowed s B l p r) (HoldsValue c.types p.ty (held_at l.held r)) (borrows c.types p) b (value_stays c.types p.ty (held_at m.held) (held_at l.held) r (λ q. owners m.names (own X) q + (owe c.types p.ty r q + e q)) y.stays (λ z. let one = owe_one c.types p.ty r z in omega (arith, one)) x.hold.0), y.hold);
        empty = λ q z u. y.empty q (let n = x.next in omega (arith, z, n)) (x.empty q z u);
        stays = stays_on (held_at k.held) (held_at m.held) (held_at l.held) (λ q. owners k.names (own X) q + e q)
            (stays_fewer (held_at k.held) (held_at m.held) (λ q. owners k.names (own Y) q + e q) (λ q. owners k.names (own X) q + e q) (λ q. let z = owners_less k.names (own Y) (own X) q less in omega (arith, z)) x.stays)
            (subst (λ ns. Stays (held_at m.held) (held_at l.held) (λ q. owners ns (own X) q + e q)) x.names
            (stays_fewer (held_at m.held) (held_at l.held) (λ q. owners m.names (own X) q + (owe c.types p.ty r q + e q)) (λ q. owners m.names (own X) q + e q) (λ q. omega arith) y.stays));
      }

  lent_and : (l n : Bool) → (l && not n) ≡ true → n ≡ false
  lent_and true true e = absurd (true≢false (sym e))
  lent_and true false e = refl
  lent_and false n e = absurd (true≢false (sym e))

  pub passed_value : (P X : Item → ℕ) (e : ℕ → ℕ) (at : ℕ) (k : Known) (as' : Arguments) (rs : List ℕ) (end : ℕ) (l : Known) (g j : ℕ) (ps : List Param) → ArgumentsAt st f.instrs at k as' rs end l → HaveTypes true wd s true as' (map W.type_of ps) → DerivesPassed fip B P (passed w sc ms g j as') → Places g j ps → ((z y : ℕ) → K z (Own y) ≤ X (Own y)) → Ties fip c.types s B K (λ i. P i + X i) e k → Quiet f at end (reported c k) → l.next ≤ length k.held → length k.held ≡ f.registers → On (header w g) X e at k ps rs end l
  passed_value P X e at k NoArguments [] end l g j [] h typed d places kept ties quiet room wide =
      subst₂ (λ b m. On (header w g) X e at k [] [] b m) (sym h.0) (sym h.1) (nothing_passed P X (header w g) e at k d ties)
  passed_value P X e at k NoArguments [] end l g j (p ∷ ps) h typed d places kept ties quiet room wide = absurd typed
  passed_value P X e at k NoArguments (r ∷ rs) end l g j ps h typed d places kept ties quiet room wide = absurd h
  passed_value P X e at k (MoreArguments a as') [] end l g j ps h typed d places kept ties quiet room wide = absurd h
  passed_value P X e at k (MoreArguments a as') (r ∷ rs) end l g j [] h typed d places kept ties quiet room wide = absurd typed
  passed_value P X e at k (MoreArguments a as') (r ∷ rs) end l g j (p ∷ ps) h typed d places kept ties quiet room wide = elim (or_not (R.lends w g j)) as (λ v. On (header w g) X e at k (p ∷ ps) (r ∷ rs) end l) [
    | inl y ↦
        (let b : borrows c.types p ≡ true = sym places.0 ∙ y in
        let lent : DerivesPassed fip B P (C.PassLent (lent_value w sc ms a) (passed w sc ms g (suc j) as')) = subst (DerivesPassed fip B P) (chosen (R.lends w g j) (C.PassLent (lent_value w sc ms a) (passed w sc ms g (suc j) as')) (C.PassOwned (value sc ms a) (passed w sc ms g (suc j) as')) y) d in
        let v = lent_variable at k a r h.0 h.1 p h.2 typed.0 (lent_and p.lent (is_scalar_type c.types p.ty) b) lent.0 in
        lent_first (header w g) X e at k p ps r rs end l b v.2
        (passed_value P X e at k as' rs end l g (suc j) ps (subst₂ (λ b m. ArgumentsAt st f.instrs b m as' rs end l) v.0 v.1 h.3) typed.1 lent.1 places.1 kept ties quiet room wide))
    | inr y ↦
        (let b : borrows c.types p ≡ false = sym places.0 ∙ y in
        let own : DerivesPassed fip B P (C.PassOwned (value sc ms a) (passed w sc ms g (suc j) as')) = subst (DerivesPassed fip B P) (refused (R.lends w g j) (C.PassLent (lent_value w sc ms a) (passed w sc ms g (suc j) as')) (C.PassOwned (value sc ms a) (passed w sc ms g (suc j) as')) y) d in
        let later = arguments_grows c f st wd fip s sc ms B K shares scoped h.0 h.1 as' rs end l h.3 in
        let first = argument_value c f st wd fip s sc ms B K shares scoped own.0 (λ i. own.1 i + X i) e at k a r h.0 h.1 true p.ty h.2 typed.0 own.3 (λ u z. let x = kept u z in omega (arith, x)) (worth_split c f st wd fip s sc ms B K shares scoped P own.0 own.1 X e k own.2 ties) (quiet_front f at h.0 end (reported c k) later.place quiet) (let z = later.next in omega (arith, z, room)) wide in
        owned_first (header w g) (λ i. own.1 i + X i) X e at k p ps r rs h.0 h.1 end l b (λ z. omega arith) first
        (passed_value own.1 X (λ q. owe c.types p.ty r q + e q) h.0 h.1 as' rs end l g (suc j) ps h.3 typed.1 own.4 places.1 kept
        (ties_owe fip c.types s B K (λ i. own.1 i + X i) (λ q. owed c.types (r ∷ []) (p.ty ∷ []) q + e q) (λ q. owe c.types p.ty r q + e q) h.1 (λ q. omega arith) first.ties)
        (quiet_back f at h.0 end (reported c k) (reported c h.1) first.grows quiet first.still) (let z = first.width in omega (arith, z, room)) (first.width ∙ wide)))
  ]
