-- A call whose results go to registers that wait for them.
use Rattle.std.proofs.Common.{◌≡◌, ◌+◌, ℕ, suc, ◌≤◌, Bool, false, List, [], ◌∷◌, ◌++◌, length, Some, refl, sym, ap, ap₂, ◌∙◌, subst, subst₂, arith, slice_get, slice_set}
use Rattle.lowering_relation.specs.fip_trees.Tree.{Instance}
use Rattle.derivation_making.specs.type_check.Scope.{Scope}
use Rattle.derivation_making.specs.type_check.World as W
use Rattle.derivation_making.specs.ownership_calculus.Terms.{Item, Own}
use Rattle.separation.specs.cell_code.declared.code.Instr.TheVariants as I
use Rattle.separation.specs.cell_code.Plain.{PlainFunction, PlainCode, results}
use Rattle.lowering_relation.specs.declared.held.Held.TheVariants as H
use Rattle.lowering_relation.specs.Known.{Known}
use Rattle.lowering_relation.specs.Values.{Setting}
use Rattle.lowering_relation.specs.LoweredBodies.{Into, IsCallOf}
use Rattle.lowering_relation.specs.LoweredBodies as Bodies
use Rattle.lowering_relation.specs.Describing.{held_at, kinds_of}
use Rattle.lowering_soundness.specs.Giving.{after_call, receiving_all}
use Rattle.lowering_soundness.specs.Parts.{Part}
use Rattle.lowering_relation.specs.Labels.{reported, Quiet}
use Rattle.lowering_soundness.specs.Laid.{Shares, IsFunctionOf}
use Rattle.lowering_relation.specs.Credits.{LastGone}
use Rattle.lowering_soundness.proofs.Stacks.{last_on}
use Rattle.lowering_soundness.proofs.Balance.{stays_on}
use Rattle.lowering_soundness.specs.Ties.{owners, own, Stays}
use Rattle.lowering_soundness.specs.Delivered.{Waiting, Settled}
use Rattle.lowering_relation.specs.Handed.{CallLaid}
use Rattle.lowering_soundness.proofs.SoundStraight.{call_row}
use Rattle.lowering_soundness.proofs.Parts.{one_row, both_parts}
use Rattle.lowering_soundness.proofs.Arguments.{quiet_back}
use Rattle.lowering_soundness.proofs.Passing.{PassedOn}
use Rattle.lowering_soundness.proofs.Receiving.{waiting_places, waiting_below, got_all}
use Rattle.lowering_soundness.proofs.Calling.{can_call_by, after_by, Called, called}

taken_names : (k : Known) (ns rs : List ℕ) (l : Known) → Bodies.AreTaken k ns rs l → l.names ≡ k.names
taken_names k [] [] l h = ap (λ (m : Known). m.names) h
taken_names k [] (r ∷ rs) l h = absurd h
taken_names k (n ∷ ns) [] l h = absurd h
taken_names k (n ∷ ns) (r ∷ rs) l h = taken_names (record k { held = slice_set k.held r H.Nothing; credits = h.0 }) ns rs l h.2

module _ (c : PlainCode) (f : PlainFunction) (st : Setting) (wd : W.World) (fip : Bool) (s : Scope) (B : ℕ → Bool) (K : ℕ → Item → ℕ) (shares : Shares c st wd) where
  waits_on : (k l : Known) (ds : List ℕ) → Waiting k ds → k.next ≤ l.next → ((r : ℕ) → suc r ≤ k.next → held_at k.held r ≡ H.Nothing → held_at l.held r ≡ H.Nothing) → Waiting l ds
  waits_on k l [] w grows empty = tt
  waits_on k l (d ∷ ds) w grows empty = (empty d w.1 w.0, (let z = w.1 in omega (arith, z, grows)), w.2, waits_on k l ds w.3 grows empty)

  pub call_into : (X : Item → ℕ) (e : ℕ → ℕ) (at : ℕ) (k : Known) (d : Instance) (rs : List ℕ) (mid : ℕ) (m : Known) (g : ℕ) (ds : List ℕ) (end : ℕ) (l : Known) → PassedOn c f fip s B K d.credits X e at k d.params rs mid m → (h : CallLaid st fip f mid m g rs (Into ds) end l) → h.instance ≡ d → length ds ≡ length d.results → ((z y : ℕ) → K z (Own y) ≤ X (Own y)) → Waiting k ds → m.next ≤ length k.held → length k.held ≡ f.registers → Quiet f at end (reported c k) → LastGone k.credits m.credits → Settled c f fip s B K X e at k ds d.results end l
  call_into X e at k d rs mid m g ds end l p h is many kept wait room wide quiet last =
      let fn = h.function in
      let as' = rs ++ h.credits in
      let call : IsCallOf st f.instrs mid h.m fn as' d.results ds end l = subst (λ (d : Instance). IsCallOf st f.instrs mid h.m fn as' d.results ds end l) is h.ends in
      let of : IsFunctionOf c fn d = shares.functions g fn d h.numbered (subst (λ (d : Instance). slice_get st.instances g ≡ Some d) is h.there) in
      let cl : Called c f fip s B K false X e m d rs h.credits h.m = called c f fip s B K false X e m d rs h.credits h.m (λ z. absurd (cc)) p.ties p.hold kept (subst (λ (d : Instance). Bodies.AreTaken (record m { held = Bodies.handed m.held d.params rs }) d.credits h.credits h.m) is h.taken) in
      let after : Known = record h.m { held = Bodies.received st h.m.held d.results ds } in
      let following : after_call c (held_at m.held) fn as' ≡ held_at h.m.held = after_by c (held_at m.held) fn d as' of ∙ cl.following in
      let wait1 = waits_on k m ds wait p.next p.empty in
      let same_next = cl.next in
      let wait2 = waits_on m h.m ds wait1 (omega (arith, same_next)) (λ r low y. cl.empty r y) in
      let wide2 : length h.m.held ≡ length k.held = cl.width ∙ p.width in
      let room2 : h.m.next ≤ length h.m.held = omega (arith, room, same_next, wide2) in
      let got = got_all fip c.types s B K c f st X e h.m ds d.results refl shares.scalars of.typed many cl.ties kept wait2 room2 in
      let row = call_row c f (held_at m.held) fn as' ds (can_call_by c false (held_at m.held) fn d as' of cl.can) (many ∙ ap length (sym of.results)) (waiting_places (after_call c (held_at m.held) fn as') ds h.m following wait2) (waiting_below f.registers h.m ds (omega (arith, room2, wide2, wide)) wait2) in
      let held : receiving_all c.types (after_call c (held_at m.held) fn as') ds (results c fn) ≡ held_at after.held = ap₂ (λ x ts. receiving_all c.types x ds ts) following of.results ∙ sym got.held in
      let shows = (quiet_back f at mid end (reported c k) (reported c m) p.grows quiet p.still).first (let z = call.one in omega (arith, z)) in
      let part : Part c f mid (reported c m) (suc mid) (reported c after) = subst (λ y. Part c f mid (reported c m) (suc mid) (kinds_of c.types y)) held (one_row c f mid (reported c m) (kinds_of c.types (receiving_all c.types (after_call c (held_at m.held) fn as') ds (results c fn))) (I.Call fn as' ds) call.written refl row shows) in
      let low = p.grows in
      let names : h.m.names ≡ k.names = taken_names (record m { held = Bodies.handed m.held d.params rs }) d.credits h.credits h.m (subst (λ (d : Instance). Bodies.AreTaken (record m { held = Bodies.handed m.held d.params rs }) d.credits h.credits h.m) is h.taken) ∙ p.names in
      subst₂ (λ b z. Settled c f fip s B K X e at k ds d.results b z) (sym call.one) (sym call.known) (record {
        grows = omega (arith, low);
        part = both_parts c f at mid (suc mid) (reported c k) (reported c m) (reported c after) p.part part;
        next = (let z = p.next in omega (arith, z, same_next));
        width = got.width ∙ wide2;
        names = names;
        ties = got.ties;
        hold = got.hold;
        empty = λ r lo y ne. got.empty r (cl.empty r (p.empty r lo y)) ne;
        stays = stays_on (held_at k.held) (held_at m.held) (held_at after.held) (λ q. owners k.names (own X) q + e q) p.stays
            (stays_on (held_at m.held) (held_at h.m.held) (held_at after.held) (λ q. owners k.names (own X) q + e q)
            (subst (λ ns. Stays (held_at m.held) (held_at h.m.held) (λ q. owners ns (own X) q + e q)) p.names cl.stays)
            (subst (λ ns. Stays (held_at h.m.held) (held_at after.held) (λ q. owners ns (own X) q + e q)) names got.stays));
        last = last_on k.credits m.credits h.m.credits last h.last;
      })
