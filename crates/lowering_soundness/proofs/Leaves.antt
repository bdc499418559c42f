-- Values, an operator and a call: computed and handed on.
use Rattle.std.proofs.Common.{◌≡◌, ℕ, suc, ◌+◌, ◌≤◌, Bool, true, ◌&&◌, not, List, [], ◌∷◌, ◌++◌, length, Some, refl, sym, ap, ◌∙◌, subst, arith, append_assoc, slice_get}
use Rattle.separation.specs.fip_language.declared.Place.{Place}
use Rattle.separation.specs.fip_language.declared.Operator.{Operator}
use Rattle.separation.specs.fip_base.declared.plain.Param.{Param}
use Rattle.lowering_relation.specs.fip_trees.Tree.{Argument, Arguments, NoArguments, MoreArguments, Instance}
use Rattle.derivation_making.specs.fip_rules.World as R
use Rattle.derivation_making.specs.fip_rules.Shapes.{Names}
use Rattle.derivation_making.specs.type_check.Scope.{Scope}
use Rattle.derivation_making.specs.type_check.World as W
use Rattle.derivation_making.specs.type_check.Typing.{HasType, HaveTypes}
use Rattle.derivation_making.specs.ownership_calculus.Terms.{Item, Own}
use Rattle.derivation_making.specs.ownership_calculus.ByCases.{DerivesValues, DerivesPassed}
use Rattle.derivation_making.specs.ownership_agreement.Bodies.{Scalars, values, credits_of, passed}
use Rattle.separation.specs.cell_code.Plain.{PlainFunction, PlainCode}
use Rattle.lowering_relation.specs.Known.{Known}
use Rattle.lowering_relation.specs.Values.{Setting}
use Rattle.lowering_relation.specs.LoweredBodies.{Return, Into}
use Rattle.lowering_soundness.specs.Parts.{LastPart}
use Rattle.lowering_soundness.specs.Ties.{Ties}
use Rattle.lowering_relation.specs.Labels.{reported, Quiet}
use Rattle.lowering_soundness.specs.Laid.{Shares}
use Rattle.lowering_soundness.specs.Computed.{Computed}
use Rattle.lowering_soundness.specs.Delivered.{Waiting, Settled}
use Rattle.lowering_soundness.specs.Placed.{Placed, Callees, ParamsTyped}
use Rattle.lowering_relation.specs.LaidBodies.{ValuesLaid, GiveLaid, OperatorLaid, CalledLaid}
use Rattle.lowering_soundness.proofs.Arguments.{quiet_front}
use Rattle.lowering_soundness.proofs.Arguing.{arguments_value}
use Rattle.lowering_soundness.proofs.Leaving.{gives_grow}
use Rattle.lowering_soundness.proofs.Moving.{moves_grow}
use Rattle.lowering_soundness.proofs.Delivering.{given_into, result_typed, operation_into, ended, operation_ends}
use Rattle.lowering_soundness.proofs.Passing.{PassedOn, Places, passed_value}
use Rattle.lowering_soundness.proofs.CallsInto.{call_into}
use Rattle.lowering_soundness.proofs.Tails.{tail_part}
use Rattle.lowering_soundness.proofs.Scoping.{scoped_of}

pub get_after : (qs : List Param) (p : Param) (ps : List Param) → slice_get (qs ++ p ∷ ps) (length qs) ≡ Some p
get_after [] p ps = refl
get_after (q ∷ qs) p ps = get_after qs p ps

pub length_more : (qs : List Param) (p : Param) → length (qs ++ p ∷ []) ≡ suc (length qs)
length_more [] p = refl
length_more (q ∷ qs) p = ap suc (length_more qs p)

module _ (c : PlainCode) (f : PlainFunction) (st : Setting) (wd : W.World) (w : R.World) (fip : Bool) (shares : Shares c st wd) (callees : Callees c st wd w) (s : Scope) (sc : Scalars) (n : Names) (B : ℕ → Bool) (K : ℕ → Item → ℕ) (placed : Placed c s sc n) where
  -- values are computed
  pub values_done : (P X : Item → ℕ) (e : ℕ → ℕ) (at : ℕ) (k : Known) (as' : Arguments) (rs : List ℕ) (mid : ℕ) (m : Known) (b : Bool) (ts : List ℕ) → ValuesLaid c st f at k as' rs mid m → HaveTypes true wd s b as' ts → DerivesValues fip P (values sc n.marks as') → ((z y : ℕ) → K z (Own y) ≤ X (Own y)) → Ties fip c.types s B K (λ i. P i + X i) e k → Quiet f at mid (reported c k) → length k.held ≡ f.registers → Computed c f fip s B K X e at k rs ts mid m
  values_done P X e at k as' rs mid m b ts h typed d kept ties quiet wide =
      arguments_value c f st wd fip s sc n.marks B K shares (scoped_of c s sc n placed) P X e at k as' rs mid m b ts h.arguments typed d kept ties quiet (let z = h.room in omega (arith, z, wide)) wide

  roomy : (m k : Known) → m.next ≤ f.registers → length k.held ≡ f.registers → m.next ≤ length k.held
  roomy m k h wide = omega (arith, h, wide)

  pub give_into : (P X : Item → ℕ) (e : ℕ → ℕ) (at : ℕ) (k : Known) (as' : Arguments) (ds : List ℕ) (end : ℕ) (l : Known) (b : Bool) (ts : List ℕ) → GiveLaid c st fip f at k as' (Into ds) end l → HaveTypes true wd s b as' ts → DerivesValues fip P (values sc n.marks as') → ((z y : ℕ) → K z (Own y) ≤ X (Own y)) → Ties fip c.types s B K (λ i. P i + X i) e k → Waiting k ds → length ds ≡ length ts → length k.held ≡ f.registers → Settled c f fip s B K X e at k ds ts end l
  give_into P X e at k as' ds end l b ts h typed d kept ties wait many wide =
      let grows = moves_grow c f fip s B K h.mid h.m h.registers ds end l h.given in
      given_into c f fip s B K X e at k h.registers ts h.mid h.m ds end l
      (values_done P X e at k as' h.registers h.mid h.m b ts h.values typed d kept ties (quiet_front f at h.mid end (reported c k) grows h.quiet) wide)
      h.given h.values.last many kept wait (roomy h.m k h.values.room wide) wide h.quiet

  pub give_ends : (P : Item → ℕ) (at : ℕ) (k : Known) (as' : Arguments) (end : ℕ) (l : Known) (b : Bool) (ts : List ℕ) → GiveLaid c st fip f at k as' Return end l → HaveTypes true wd s b as' ts → DerivesValues fip P (values sc n.marks as') → ((z y : ℕ) → K z (Own y) ≤ 0) → Ties fip c.types s B K (λ i. P i + 0) (λ q. 0) k → f.results ≡ ts → length k.held ≡ f.registers → LastPart c f at (reported c k) end
  give_ends P at k as' end l b ts h typed d kept ties results wide =
      let one = h.given.one in
      let grows = gives_grow f fip h.given.steps h.mid (record h.m { held = Rattle.lowering_relation.specs.Known.used_all h.m.held h.registers }) h.given.stop h.given.left h.given.gives in
      ended c f fip s B K at k h.registers ts h.mid h.m end
      (values_done P (λ i. 0) (λ q. 0) at k as' h.registers h.mid h.m b ts h.values typed d kept ties (quiet_front f at h.mid end (reported c k) (omega (arith, one, grows)) h.quiet) wide)
      h.given results h.quiet

  -- an operator
  pub operator_into : (P X : Item → ℕ) (e : ℕ → ℕ) (at : ℕ) (k : Known) (o : Operator) (p : Place) (x y : Argument) (ds : List ℕ) (end : ℕ) (l : Known) → OperatorLaid c st fip f at k o p x y (Into ds) end l → HasType true wd s true x 0 → HasType true wd s true y 0 → DerivesValues fip P (values sc n.marks (MoreArguments x (MoreArguments y NoArguments))) → ((z y : ℕ) → K z (Own y) ≤ X (Own y)) → Ties fip c.types s B K (λ i. P i + X i) e k → Waiting k ds → length ds ≡ 1 → length k.held ≡ f.registers → Settled c f fip s B K X e at k ds (W.result_of o ∷ []) end l
  operator_into P X e at k o p x y ds end l h tx ty d kept ties wait many wide =
      let g = h.operation.given in
      let later = operation_grows ds h.operation in
      subst (λ t. Settled c f fip s B K X e at k ds (t ∷ []) end l) (sym (result_typed c f fip s B K o))
      (operation_into c f fip s B K X e at k h.left h.right h.mid h.m o p ds end l shares.bool
      (values_done P X e at k (MoreArguments x (MoreArguments y NoArguments)) (h.left ∷ h.right ∷ []) h.mid h.m true (0 ∷ 0 ∷ []) h.values (tx, (ty, tt)) d kept ties (quiet_front f at h.mid end (reported c k) (omega (arith, later)) h.quiet) wide)
      h.operation h.values.last many kept wait (roomy h.m k h.values.room wide) wide h.quiet)
    where
      operation_grows : (ds : List ℕ) → Rattle.lowering_relation.specs.Handed.OperationLaid fip f h.mid h.m o p h.left h.right (Into ds) end l → suc h.mid ≤ end
      operation_grows ds op = moves_grow c f fip s B K (suc h.mid) op.holds (op.destination ∷ []) ds end l op.given

  pub operator_ends : (P : Item → ℕ) (at : ℕ) (k : Known) (o : Operator) (p : Place) (x y : Argument) (end : ℕ) (l : Known) → OperatorLaid c st fip f at k o p x y Return end l → HasType true wd s true x 0 → HasType true wd s true y 0 → DerivesValues fip P (values sc n.marks (MoreArguments x (MoreArguments y NoArguments))) → ((z y : ℕ) → K z (Own y) ≤ 0) → Ties fip c.types s B K (λ i. P i + 0) (λ q. 0) k → f.results ≡ W.result_of o ∷ [] → length k.held ≡ f.registers → LastPart c f at (reported c k) end
  operator_ends P at k o p x y end l h tx ty d kept ties results wide =
      let g = h.operation.given in
      let one = g.one in
      let grows = gives_grow f fip g.steps (suc h.mid) (record h.operation.holds { held = Rattle.lowering_relation.specs.Known.used_all h.operation.holds.held (h.operation.destination ∷ []) }) g.stop g.left g.gives in
      let more : suc h.m.next ≤ f.registers = (let a = h.one_more in let b = ap (λ (k : Known). k.next) h.operation.goes.1 in omega (arith, a, b)) in
      operation_ends c f fip s B K at k h.left h.right h.mid h.m o p end l shares.bool
      (values_done P (λ i. 0) (λ q. 0) at k (MoreArguments x (MoreArguments y NoArguments)) (h.left ∷ h.right ∷ []) h.mid h.m true (0 ∷ 0 ∷ []) h.values (tx, (ty, tt)) d kept ties (quiet_front f at h.mid end (reported c k) (omega (arith, one, grows)) h.quiet) wide)
      h.operation (results ∙ ap (λ t. t ∷ []) (result_typed c f fip s B K o)) kept (omega (arith, more, wide)) wide h.quiet

  -- ---- a call

  -- the places of a callee's parameters
  places : (g : ℕ) (d : Instance) (qs ps : List Param) → slice_get w.instances g ≡ Some d → d.params ≡ qs ++ ps → ParamsTyped c ps → Places c f st wd w fip s sc n.marks B K shares (scoped_of c s sc n placed) callees.scalars g (length qs) ps
  places g d qs [] there parts typed = tt
  places g d qs (p ∷ ps) there parts typed = (
    ap (λ o. R.lends_to w o (length qs)) there ∙ (ap (R.lends_parameter w) (ap (λ ps. slice_get ps (length qs)) parts ∙ get_after qs p ps) ∙ ap (λ b. p.lent && not b) (callees.scalars p.ty typed.0)),
    subst (λ j. Places c f st wd w fip s sc n.marks B K shares (scoped_of c s sc n placed) callees.scalars g j ps) (length_more qs p)
        (places g d (qs ++ p ∷ []) ps there (parts ∙ sym (append_assoc qs (p ∷ []) ps)) typed.1),
  )

  passed_done : (P X : Item → ℕ) (e : ℕ → ℕ) (at : ℕ) (k : Known) (g : ℕ) (d : Instance) (as' : Arguments) (rs : List ℕ) (mid : ℕ) (m : Known) → slice_get st.instances g ≡ Some d → ValuesLaid c st f at k as' rs mid m → HaveTypes true wd s true as' (W.head wd g).parameters → DerivesPassed fip B P (passed w sc n.marks g 0 as') → ((z y : ℕ) → K z (Own y) ≤ X (Own y)) → Ties fip c.types s B K (λ i. P i + X i) e k → Quiet f at mid (reported c k) → length k.held ≡ f.registers → PassedOn c f fip s B K d.credits X e at k d.params rs mid m
  passed_done P X e at k g d as' rs mid m there h typed derived kept ties quiet wide =
      let here : slice_get w.instances g ≡ Some d = ap (λ is. slice_get is g) callees.same ∙ there in
      subst (λ ks. PassedOn c f fip s B K ks X e at k d.params rs mid m) (ap credits_of here)
      (passed_value c f st wd w fip s sc n.marks B K shares (scoped_of c s sc n placed) callees.scalars P X e at k as' rs mid m g 0 d.params h.arguments
      (subst (λ ts. HaveTypes true wd s true as' ts) (ap (λ (h : W.Head). h.parameters) (callees.heads g d there)) typed) derived
      (places g d [] d.params here refl (callees.typed g d there)) kept ties quiet (roomy m k h.room wide) wide)

  pub called_into : (P X : Item → ℕ) (e : ℕ → ℕ) (at : ℕ) (k : Known) (g : ℕ) (as' : Arguments) (ds : List ℕ) (end : ℕ) (l : Known) → CalledLaid c st fip f at k g as' (Into ds) end l → HaveTypes true wd s true as' (W.head wd g).parameters → DerivesPassed fip B P (passed w sc n.marks g 0 as') → ((z y : ℕ) → K z (Own y) ≤ X (Own y)) → Ties fip c.types s B K (λ i. P i + X i) e k → Waiting k ds → length ds ≡ length (W.head wd g).results → length k.held ≡ f.registers → Settled c f fip s B K X e at k ds (W.head wd g).results end l
  called_into P X e at k g as' ds end l h typed derived kept ties wait many wide =
      let d = h.call.instance in
      let one = h.call.ends.one in
      let same : (W.head wd g).results ≡ d.results = ap (λ (h : W.Head). h.results) (callees.heads g d h.call.there) in
      subst (λ ts. Settled c f fip s B K X e at k ds ts end l) (sym same)
      (call_into c f st wd fip s B K shares X e at k d h.registers h.mid h.m g ds end l
      (passed_done P X e at k g d as' h.registers h.mid h.m h.call.there h.values typed derived kept ties (quiet_front f at h.mid end (reported c k) (omega (arith, one)) h.quiet) wide)
      h.call refl (many ∙ ap length same) kept wait (roomy h.m k h.values.room wide) wide h.quiet h.values.last)

  pub called_ends : (P : Item → ℕ) (at : ℕ) (k : Known) (g : ℕ) (as' : Arguments) (end : ℕ) (l : Known) → CalledLaid c st fip f at k g as' Return end l → HaveTypes true wd s true as' (W.head wd g).parameters → DerivesPassed fip B P (passed w sc n.marks g 0 as') → ((z y : ℕ) → K z (Own y) ≤ 0) → Ties fip c.types s B K (λ i. P i + 0) (λ q. 0) k → f.results ≡ (W.head wd g).results → length k.held ≡ f.registers → LastPart c f at (reported c k) end
  called_ends P at k g as' end l h typed derived kept ties results wide =
      let d = h.call.instance in
      let one = h.call.ends.one in
      let grows = gives_grow f fip h.call.ends.steps h.mid h.call.m h.call.ends.stop h.call.ends.left h.call.ends.gives in
      let same : (W.head wd g).results ≡ d.results = ap (λ (h : W.Head). h.results) (callees.heads g d h.call.there) in
      tail_part c f st wd fip s B K shares at k d h.registers h.mid h.m g end l
      (passed_done P (λ i. 0) (λ q. 0) at k g d as' h.registers h.mid h.m h.call.there h.values typed derived kept ties (quiet_front f at h.mid end (reported c k) (omega (arith, one, grows)) h.quiet) wide)
      h.call refl (results ∙ same) kept h.quiet
