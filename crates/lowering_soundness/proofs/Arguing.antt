-- Arguments are computed, by induction on them.
use Rattle.std.proofs.Common.{◌≡◌, inl, inr, ℕ, suc, ◌+◌, ◌≤◌, Bool, true, false, List, [], ◌∷◌, length, Some, None, refl, sym, ap, ◌∙◌, subst, subst₂, arith, if◌then◌else◌}
use Rattle.std.proofs.lemmas.Option.{none-some}
use Rattle.separation.specs.fip_base.TableView.{fields_at}
use Rattle.separation.specs.fip_language.Table.{Table, constructors}
use Rattle.lowering_relation.specs.fip_trees.Tree.{Argument, Variable, Literal, Constructor, Arguments, NoArguments, MoreArguments}
use Rattle.derivation_making.specs.fip_rules.Marks.{Mark}
use Rattle.derivation_making.specs.fip_rules.Shapes.{known}
use Rattle.derivation_making.specs.type_check.Scope.{Scope, of_binder}
use Rattle.derivation_making.specs.type_check.World as W
use Rattle.derivation_making.specs.type_check.Typing.{HasType, HaveTypes}
use Rattle.derivation_making.specs.ownership_calculus.Terms as C
use Rattle.derivation_making.specs.ownership_calculus.Terms.{Item, Own, Credit, only, paid}
use Rattle.derivation_making.specs.ownership_calculus.Rules.{Fits}
use Rattle.derivation_making.specs.ownership_calculus.ByCases.{DerivesValue, DerivesValues}
use Rattle.derivation_making.proofs.ownership_calculus.Fit.{fits_same, fits_sum}
use Rattle.derivation_making.specs.ownership_agreement.Bodies.{Scalars, variable, value, values}
use Rattle.separation.specs.cell_code.Plain.{PlainFunction, PlainCode}
use Rattle.separation.specs.code_rules.Types.{is_scalar_type, fields}
use Rattle.lowering_relation.specs.Known.{Known, register_of}
use Rattle.lowering_relation.specs.Values.{Setting, is_scalar, BuiltAt, ArgumentAt, ArgumentsAt}
use Rattle.lowering_relation.specs.Describing.{held_at}
use Rattle.lowering_soundness.specs.Ties.{owners, own, AllHold, owed, owe, Ties}
use Rattle.lowering_relation.specs.Labels.{reported, Quiet}
use Rattle.lowering_soundness.specs.Laid.{Shares, Scoped}
use Rattle.lowering_soundness.specs.Computed.{Computed}
use Rattle.lowering_soundness.proofs.Parts.{no_row}
use Rattle.lowering_soundness.proofs.Balance.{stays_same}
use Rattle.lowering_soundness.proofs.Tying.{ties_fits}
use Rattle.lowering_soundness.proofs.Arguments.{quiet_front, quiet_back, fields_same, ties_owe, ties_worth, computed_then, computed_both}
use Rattle.lowering_soundness.proofs.Values.{scalar_variable, owned_variable, literal_value, atom_new, atom_reused}
use Rattle.lowering_soundness.proofs.Cells.{put_value}

-- as many values as registers
pub all_many : (w : Table) (g : Rattle.lowering_relation.specs.Describing.Holding) (rs ts : List ℕ) → AllHold w g rs ts → length ts ≡ length rs
all_many w g [] [] h = refl
all_many w g [] (t ∷ ts) h = absurd h
all_many w g (r ∷ rs) [] h = absurd h
all_many w g (r ∷ rs) (t ∷ ts) h = ap suc (all_many w g rs ts h.1)

swap : (a b : ℕ) → a + b ≡ b + a
swap a b = omega arith

module _ (c : PlainCode) (f : PlainFunction) (st : Setting) (wd : W.World) (fip : Bool) (s : Scope) (sc : Scalars) (ms : List Mark) (B : ℕ → Bool) (K : ℕ → Item → ℕ) (shares : Shares c st wd) (scoped : Scoped c s sc ms) where
  abbrev Comes : (Item → ℕ) → (ℕ → ℕ) → ℕ → Known → ℕ → ℕ → ℕ → Known → Type 0
  Comes X e at k r t end l = Computed c f fip s B K X e at k (r ∷ []) (t ∷ []) end l

  variable_by : (P X : Item → ℕ) (e : ℕ → ℕ) (at : ℕ) (k : Known) (x r t : ℕ) → register_of k.names (Some x) ≡ Some r → of_binder s (Some x) ≡ Some (Some t) → DerivesValue fip P (variable sc (known ms x)) → ((z y : ℕ) → K z (Own y) ≤ X (Own y)) → Ties fip c.types s B K (λ i. P i + X i) e k → Comes X e at k r t at k
  variable_by P X e at k x r t named typed d kept ties = by_scalar (is_scalar_type c.types t) refl
    where
      seen : DerivesValue fip P (variable sc (Some x))
      seen = subst (λ o. DerivesValue fip P (variable sc o)) (scoped.seen x t typed) d

      by_scalar : (b : Bool) → is_scalar_type c.types t ≡ b → Comes X e at k r t at k
      by_scalar true y = scalar_variable c f fip s B K P X e at k x r t named typed y (subst (λ b. DerivesValue fip P (if b then C.Scalar else C.Named x)) (scoped.scalar x t typed ∙ y) seen) ties
      by_scalar false y = owned_variable c f fip s B K P X e at k x r t named typed y (subst (λ b. DerivesValue fip P (if b then C.Scalar else C.Named x)) (scoped.scalar x t typed ∙ y) seen) kept ties

  pub lists_there : (X : Item → ℕ) (e : ℕ → ℕ) (at : ℕ) (k : Known) (rs ts : List ℕ) (end last : ℕ) (l m : Known) → end ≡ last → l ≡ m → Computed c f fip s B K X e at k rs ts end l → Computed c f fip s B K X e at k rs ts last m
  lists_there X e at k rs ts end last l m b d h = subst₂ (λ last m. Computed c f fip s B K X e at k rs ts last m) b d h

  many_values : (at : ℕ) (k : Known) (as' : Arguments) (rs : List ℕ) (end : ℕ) (l : Known) → ArgumentsAt st f.instrs at k as' rs end l → C.size (values sc ms as') ≡ length rs
  many_values at k NoArguments [] end l h = refl
  many_values at k NoArguments (r ∷ rs) end l h = absurd h
  many_values at k (MoreArguments a as') [] end l h = absurd h
  many_values at k (MoreArguments a as') (r ∷ rs) end l h = ap suc (many_values h.0 h.1 as' rs end l h.3)

  many_types : (b : Bool) (as' : Arguments) (ts : List ℕ) → HaveTypes true wd s b as' ts → C.size (values sc ms as') ≡ length ts
  many_types b NoArguments [] h = refl
  many_types b NoArguments (t ∷ ts) h = absurd h
  many_types b (MoreArguments a as') [] h = absurd h
  many_types b (MoreArguments a as') (t ∷ ts) h = ap suc (many_types b as' ts h.1)

  -- ---- a constructor is built

  built_value : (X : Item → ℕ) (e : ℕ → ℕ) (at : ℕ) (k : Known) (t d : ℕ) (rs : List ℕ) (r end : ℕ) (l : Known) → BuiltAt st f.instrs at k t d rs r end l → is_scalar st t ≡ is_scalar_type c.types t → Ties fip c.types s B K (λ i. paid (length rs) i + X i) (λ q. owed c.types rs (fields c.types t d) q + e q) k → AllHold c.types (held_at k.held) rs (fields c.types t d) → ((z y : ℕ) → K z (Own y) ≤ X (Own y)) → Quiet f at end (reported c k) → l.next ≤ length k.held → length k.held ≡ f.registers → Comes X e at k r t end l
  built_value X e at k t d [] r end l (inl h) same ties hold kept quiet room wide =
      atom_reused c f fip s B K X e at k t d r end l h
      (ties_owe fip c.types s B K X (λ q. 0 + e q) e k (λ q. omega arith) (ties_worth fip c.types s B K (λ i. 0 + X i) X (λ q. 0 + e q) k (λ i. omega arith) ties)) kept
  built_value X e at k t d [] r end l (inr h) same ties hold kept quiet room wide =
      atom_new c f fip s B K st X e at k t d r end l same h (all_many c.types (held_at k.held) [] (fields c.types t d) hold)
      (ties_owe fip c.types s B K X (λ q. 0 + e q) e k (λ q. omega arith) (ties_worth fip c.types s B K (λ i. 0 + X i) X (λ q. 0 + e q) k (λ i. omega arith) ties)) kept quiet room wide
  built_value X e at k t d (a ∷ as') r end l h same ties hold kept quiet room wide =
      put_value c f fip s B K X e at k t d a as' r end l h ties hold (all_many c.types (held_at k.held) (a ∷ as') (fields c.types t d) hold) kept quiet

  -- ---- which places and registers are used

  pub record Grows (at : ℕ) (k : Known) (end : ℕ) (l : Known) : Type 0 where
    pub place : at ≤ end
    pub next : k.next ≤ l.next

  grows_on : (a b d : ℕ) (k l m : Known) → Grows a k b l → Grows b l d m → Grows a k d m
  grows_on a b d k l m x y = let p = x.place in let q = y.place in let u = x.next in let v = y.next in record { place = omega (arith, p, q); next = omega (arith, u, v) }

  built_grows : (at : ℕ) (k : Known) (t d : ℕ) (rs : List ℕ) (r end : ℕ) (l : Known) → BuiltAt st f.instrs at k t d rs r end l → Grows at k end l
  built_grows at k t d [] r end l (inl h) = let e = h.nothing in let z = ap (λ (m : Known). m.next) h.known in record { place = omega (arith, e); next = omega (arith, z) }
  built_grows at k t d [] r end l (inr h) = let e = h.one in let z = ap (λ (m : Known). m.next) h.known in record { place = omega (arith, e); next = omega (arith, z) }
  built_grows at k t d (a ∷ as') r end l h = let e = h.one in let z = ap (λ (m : Known). m.next) h.known in record { place = omega (arith, e); next = omega (arith, z) }

  mutual
    pub argument_grows : (at : ℕ) (k : Known) (a : Argument) (r end : ℕ) (l : Known) → ArgumentAt st f.instrs at k a r end l → Grows at k end l
    argument_grows at k (Variable x n p) r end l h = let e = h.nothing in let z = ap (λ (m : Known). m.next) h.known in record { place = omega (arith, e); next = omega (arith, z) }
    argument_grows at k (Literal i p) r end l h = let e = h.one in let z = ap (λ (m : Known). m.next) h.known in record { place = omega (arith, e); next = omega (arith, z) }
    argument_grows at k (Constructor t d n m p as') r end l h =
        grows_on at h.1 end k h.2 l (arguments_grows at k as' h.0 h.1 h.2 h.3) (built_grows h.1 h.2 t n h.0 r end l h.4)

    pub arguments_grows : (at : ℕ) (k : Known) (as' : Arguments) (rs : List ℕ) (end : ℕ) (l : Known) → ArgumentsAt st f.instrs at k as' rs end l → Grows at k end l
    arguments_grows at k NoArguments [] end l h = let e = h.0 in let z = ap (λ (m : Known). m.next) h.1 in record { place = omega (arith, e); next = omega (arith, z) }
    arguments_grows at k NoArguments (r ∷ rs) end l h = absurd h
    arguments_grows at k (MoreArguments a as') [] end l h = absurd h
    arguments_grows at k (MoreArguments a as') (r ∷ rs) end l h =
        grows_on at h.0 end k h.1 l (argument_grows at k a r h.0 h.1 h.2) (arguments_grows h.0 h.1 as' rs end l h.3)

  -- ---- arguments

  -- the types of the fields
  field_types : (t d : ℕ) → W.fields_of wd t d ≡ fields c.types t d
  field_types t d = ap (λ tb. fields_at (constructors tb t) d) shares.types ∙ fields_same (constructors c.types t) d

  pub no_values : (P X : Item → ℕ) (e : ℕ → ℕ) (at : ℕ) (k : Known) → ((i : Item) → Fits fip (P i) 0) → Ties fip c.types s B K (λ i. P i + X i) e k → Computed c f fip s B K X e at k [] [] at k
  no_values P X e at k none ties = record {
    grows = omega arith;
    still = λ z q. refl;
    part = no_row c f at (reported c k) (reported c k) (λ q. refl);
    names = refl;
    next = omega arith;
    width = refl;
    ties = ties_owe fip c.types s B K X e (λ q. 0 + e q) k (λ q. omega arith) (unused P X e k none ties);
    hold = tt;
    empty = λ q low y. y;
    stays = stays_same (held_at k.held) (λ q. owners k.names (own X) q + e q);
  }
    where
      unused : (P X : Item → ℕ) (e : ℕ → ℕ) (k : Known) → ((i : Item) → Fits fip (P i) 0) → Ties fip c.types s B K (λ i. P i + X i) e k → Ties fip c.types s B K X e k
      unused P X e k none ties =
          ties_worth fip c.types s B K (λ i. 0 + X i) X e k (λ i. omega arith)
          (ties_fits fip c.types s B K (λ i. P i + X i) (λ i. 0 + X i) e k ties (λ i. fits_sum fip (P i + X i) (P i) (X i) 0 (X i) (fits_same fip (P i + X i)) (none i) (fits_same fip (X i))))

  pub unused_worth : (P X : Item → ℕ) (e : ℕ → ℕ) (k : Known) → ((i : Item) → Fits fip (P i) 0) → Ties fip c.types s B K (λ i. P i + X i) e k → Ties fip c.types s B K X e k
  unused_worth P X e k none ties =
      ties_worth fip c.types s B K (λ i. 0 + X i) X e k (λ i. omega arith)
      (ties_fits fip c.types s B K (λ i. P i + X i) (λ i. 0 + X i) e k ties (λ i. fits_sum fip (P i + X i) (P i) (X i) 0 (X i) (fits_same fip (P i + X i)) (none i) (fits_same fip (X i))))

  -- what is owned in three parts
  pub worth_split : (P Q R X : Item → ℕ) (e : ℕ → ℕ) (k : Known) → ((i : Item) → Fits fip (P i) (Q i + R i)) → Ties fip c.types s B K (λ i. P i + X i) e k → Ties fip c.types s B K (λ i. Q i + (R i + X i)) e k
  worth_split P Q R X e k split ties =
      ties_worth fip c.types s B K (λ i. (Q i + R i) + X i) (λ i. Q i + (R i + X i)) e k (λ i. omega arith)
      (ties_fits fip c.types s B K (λ i. P i + X i) (λ i. (Q i + R i) + X i) e k ties (λ i. fits_sum fip (P i + X i) (P i) (X i) (Q i + R i) (X i) (fits_same fip (P i + X i)) (split i) (fits_same fip (X i))))

  mutual
    pub argument_value : (P X : Item → ℕ) (e : ℕ → ℕ) (at : ℕ) (k : Known) (a : Argument) (r end : ℕ) (l : Known) (b : Bool) (t : ℕ) → ArgumentAt st f.instrs at k a r end l → HasType true wd s b a t → DerivesValue fip P (value sc ms a) → ((z y : ℕ) → K z (Own y) ≤ X (Own y)) → Ties fip c.types s B K (λ i. P i + X i) e k → Quiet f at end (reported c k) → l.next ≤ length k.held → length k.held ≡ f.registers → Comes X e at k r t end l
    argument_value P X e at k (Variable None n p) r end l b t h typed d kept ties quiet room wide = absurd (none-some (Some t) typed)
    argument_value P X e at k (Variable (Some x) n p) r end l b t h typed d kept ties quiet room wide =
        lists_there X e at k (r ∷ []) (t ∷ []) at end k l (sym h.nothing) (sym h.known)
        (variable_by P X e at k x r t h.named typed d kept ties)
    argument_value P X e at k (Literal i p) r end l b t h typed d kept ties quiet room wide =
        subst (λ t. Comes X e at k r t end l) (sym typed)
        (literal_value c f fip s B K X e at k i r end l h (unused_worth P X e k d ties) kept quiet room wide)
    argument_value P X e at k (Constructor t' u n m p as') r end l b t h typed d kept ties quiet room wide =
        let rs = h.0 in
        let mid = h.1 in
        let mk = h.2 in
        let built = built_grows mid mk t' n rs r end l h.4 in
        let size = many_values at k as' rs mid mk h.3 in
        let fields_typed : HaveTypes true wd s true as' (fields c.types t' n) = subst (λ ts. HaveTypes true wd s true as' ts) (ap (λ t. W.fields_of wd t n) (sym typed.0) ∙ field_types t' n) typed.2 in
        let split : Ties fip c.types s B K (λ i. d.0 i + (paid (length rs) i + X i)) e k =
        worth_split P d.0 (paid (length rs)) X e k (λ i. subst (Fits fip (P i)) (swap (paid (length rs) i) (d.0 i)) (subst (λ z. Fits fip (P i) (paid z i + d.0 i)) size (d.1 i))) ties in
        let parts = arguments_value d.0 (λ i. paid (length rs) i + X i) e at k as' rs mid mk true (fields c.types t' n) h.3 fields_typed d.2 (λ u y. let z = kept u y in omega (arith, z)) split (quiet_front f at mid end (reported c k) built.place quiet) (let z = built.next in omega (arith, z, room)) wide in
        let whole = built_value X e mid mk t' n rs r end l h.4 (shares.scalars t' (subst (λ t. Rattle.separation.specs.code_rules.Types.is_type c.types t ≡ true) (sym typed.0) (shares.made b u t typed.1))) parts.ties parts.hold kept
        (quiet_back f at mid end (reported c k) (reported c mk) parts.grows quiet parts.still) (let z = parts.width in omega (arith, z, room)) (parts.width ∙ wide) in
        subst (λ t. Comes X e at k r t end l) typed.0
        (computed_then c f fip s B K (λ i. paid (length rs) i + X i) X e at k rs (fields c.types t' n) mid mk (r ∷ []) (t' ∷ []) end l (λ y. omega arith) parts whole)

    pub arguments_value : (P X : Item → ℕ) (e : ℕ → ℕ) (at : ℕ) (k : Known) (as' : Arguments) (rs : List ℕ) (end : ℕ) (l : Known) (b : Bool) (ts : List ℕ) → ArgumentsAt st f.instrs at k as' rs end l → HaveTypes true wd s b as' ts → DerivesValues fip P (values sc ms as') → ((z y : ℕ) → K z (Own y) ≤ X (Own y)) → Ties fip c.types s B K (λ i. P i + X i) e k → Quiet f at end (reported c k) → l.next ≤ length k.held → length k.held ≡ f.registers → Computed c f fip s B K X e at k rs ts end l
    arguments_value P X e at k NoArguments [] end l b [] h typed d kept ties quiet room wide =
        lists_there X e at k [] [] at end k l (sym h.0) (sym h.1) (no_values P X e at k d ties)
    arguments_value P X e at k NoArguments [] end l b (t ∷ ts) h typed d kept ties quiet room wide = absurd typed
    arguments_value P X e at k NoArguments (r ∷ rs) end l b ts h typed d kept ties quiet room wide = absurd h
    arguments_value P X e at k (MoreArguments a as') [] end l b ts h typed d kept ties quiet room wide = absurd h
    arguments_value P X e at k (MoreArguments a as') (r ∷ rs) end l b [] h typed d kept ties quiet room wide = absurd typed
    arguments_value P X e at k (MoreArguments a as') (r ∷ rs) end l b (t ∷ ts) h typed d kept ties quiet room wide =
        let mid = h.0 in
        let mk = h.1 in
        let later = arguments_grows mid mk as' rs end l h.3 in
        let first = argument_value d.0 (λ i. d.1 i + X i) e at k a r mid mk b t h.2 typed.0 d.3 (λ u y. let z = kept u y in omega (arith, z)) (worth_split P d.0 d.1 X e k d.2 ties) (quiet_front f at mid end (reported c k) later.place quiet) (let z = later.next in omega (arith, z, room)) wide in
        let rest = arguments_value d.1 X (λ q. owe c.types t r q + e q) mid mk as' rs end l b ts h.3 typed.1 d.4 kept
        (ties_owe fip c.types s B K (λ i. d.1 i + X i) (λ q. owed c.types (r ∷ []) (t ∷ []) q + e q) (λ q. owe c.types t r q + e q) mk (λ q. omega arith) first.ties)
        (quiet_back f at mid end (reported c k) (reported c mk) first.grows quiet first.still) (let z = first.width in omega (arith, z, room)) (first.width ∙ wide) in
        computed_both c f fip s B K (λ i. d.1 i + X i) X e at k r t mid mk rs ts end l (λ y. omega arith) first rest
