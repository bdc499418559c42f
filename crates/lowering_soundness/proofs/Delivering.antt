-- Values that were computed are handed on: they are the function's results, or go to registers that wait for them.
use Rattle.std.proofs.Common.{◌≡◌, inl, inr, ℕ, suc, ◌+◌, ◌≤◌, Bool, true, List, [], ◌∷◌, length, Some, refl, sym, ap, ◌∙◌, subst, subst₂, true≢false, arith, slice_get, slice_set, ◌==◌}
use Rattle.separation.specs.fip_language.declared.Place.{Place}
use Rattle.separation.specs.fip_language.declared.Operator.{Operator}
use Rattle.separation.specs.fip_language.declared.Operator.TheVariants as O
use Rattle.derivation_making.specs.type_check.Scope.{Scope}
use Rattle.derivation_making.specs.type_check.World.{result_of}
use Rattle.derivation_making.specs.ownership_calculus.Terms.{Item, Own}
use Rattle.separation.specs.cell_code.declared.code.Instr.{Instr}
use Rattle.separation.specs.cell_code.declared.code.Instr.TheVariants as I
use Rattle.separation.specs.cell_code.Plain.{PlainFunction, PlainCode}
use Rattle.separation.specs.code_rules.Types.{is_scalar_type}
use Rattle.separation.specs.code_rules.Leaves as L
use Rattle.separation.proofs.separation_kinds.Basics.{chosen, itself}
use Rattle.lowering_relation.specs.declared.held.Held.{Held}
use Rattle.lowering_relation.specs.declared.held.Held.TheVariants as H
use Rattle.lowering_relation.specs.Known.{Known, with_next, holding, used_all}
use Rattle.lowering_relation.specs.LoweredBodies.{Return, Into, result_type}
use Rattle.lowering_relation.specs.Describing.{Holding, held_at, kinds_of, setting, is_spare}
use Rattle.lowering_soundness.specs.Giving as G
use Rattle.lowering_soundness.specs.Giving.{is_credit_of}
use Rattle.lowering_soundness.specs.Rows.{IsRow}
use Rattle.lowering_soundness.specs.Parts.{Part, LastPart, is_straight}
use Rattle.lowering_soundness.specs.Ties.{one_if, owners, own, HoldsValue, owe, owed, Stays, Ties}
use Rattle.lowering_relation.specs.Labels.{reported, Quiet}
use Rattle.lowering_relation.specs.Credits.{LastGone}
use Rattle.lowering_soundness.proofs.Balance.{stays_on}
use Rattle.lowering_soundness.specs.Computed.{Computed}
use Rattle.lowering_relation.specs.GivenUp.{RetLaid}
use Rattle.lowering_soundness.specs.Delivered.{Waiting, Settled}
use Rattle.lowering_relation.specs.Moves.{MoveLaid, MovesLaid}
use Rattle.lowering_relation.specs.Handed.{OperationLaid}
use Rattle.lowering_soundness.proofs.SoundStraight.{arith_row}
use Rattle.lowering_soundness.proofs.Parts.{one_row, both_parts, part_and_last}
use Rattle.lowering_soundness.proofs.Helds.{held_set_fn, length_set}
use Rattle.lowering_soundness.proofs.Writing.{is_idle, setting_other, setting_here, set_ties}
use Rattle.lowering_soundness.proofs.Arguments.{int_scalar, quiet_front, quiet_back, ties_owe, computed_then}
use Rattle.lowering_soundness.proofs.Values.{fresh_value, credit_after}
use Rattle.lowering_soundness.proofs.Leaving.{gives_grow}
use Rattle.lowering_soundness.proofs.Returning.{ret_part}
use Rattle.lowering_soundness.proofs.Moving.{MovedAll, moves}

module _ (c : PlainCode) (f : PlainFunction) (fip : Bool) (s : Scope) (B : ℕ → Bool) (K : ℕ → Item → ℕ) where
  pub waiting_later : (X : Item → ℕ) (e : ℕ → ℕ) (at : ℕ) (k : Known) (rs ts : List ℕ) (mid : ℕ) (m : Known) (ds : List ℕ) → Computed c f fip s B K X e at k rs ts mid m → Waiting k ds → Waiting m ds
  waiting_later X e at k rs ts mid m [] h w = tt
  waiting_later X e at k rs ts mid m (d ∷ ds) h w =
      (h.empty d w.1 w.0, (let a = w.1 in let b = h.next in omega (arith, a, b)), w.2, waiting_later X e at k rs ts mid m ds h w.3)

  moves_credits : (at : ℕ) (k : Known) (rs ds : List ℕ) (end : ℕ) (l : Known) → MovesLaid f.instrs at k rs ds end l → l.credits ≡ k.credits
  moves_credits at k [] ds end l h = ap (λ (m : Known). m.credits) h.1
  moves_credits at k (r ∷ rs) [] end l h = ap (λ (m : Known). m.credits) h.1
  moves_credits at k (r ∷ rs) (d ∷ ds) end l h = moves_credits h.0 h.1 rs ds end l h.3 ∙ one_credits h.2
    where
      one_credits : MoveLaid f.instrs at k r d h.0 h.1 → h.1.credits ≡ k.credits
      one_credits (inl m) = ap (λ (m : Known). m.credits) m.1.known
      one_credits (inr m) = ap (λ (m : Known). m.credits) m.known

  -- into registers
  pub given_into : (X : Item → ℕ) (e : ℕ → ℕ) (at : ℕ) (k : Known) (rs ts : List ℕ) (mid : ℕ) (m : Known) (ds : List ℕ) (end : ℕ) (l : Known) → Computed c f fip s B K X e at k rs ts mid m → MovesLaid f.instrs mid m rs ds end l → LastGone k.credits m.credits → length ds ≡ length ts → ((z y : ℕ) → K z (Own y) ≤ X (Own y)) → Waiting k ds → m.next ≤ length k.held → length k.held ≡ f.registers → Quiet f at end (reported c k) → Settled c f fip s B K X e at k ds ts end l
  given_into X e at k rs ts mid m ds end l h moved last many kept wait room wide quiet =
      let went = moves c f fip s B K X e mid m rs ds ts end l moved many h.ties kept h.hold (waiting_later X e at k rs ts mid m ds h wait) (let z = h.width in omega (arith, z, room)) (h.width ∙ wide) (quiet_back f at mid end (reported c k) (reported c m) h.grows quiet h.still) in
      let a = h.grows in
      let b = went.grows in
      record {
        grows = omega (arith, a, b);
        part = both_parts c f at mid end (reported c k) (reported c m) (reported c l) h.part went.part;
        next = (let x = h.next in let y = went.next in omega (arith, x, y));
        width = went.width ∙ h.width;
        names = went.names ∙ h.names;
        ties = went.ties;
        hold = went.hold;
        empty = λ r low y ne. went.empty r (h.empty r low y) ne;
        stays = stays_on (held_at k.held) (held_at m.held) (held_at l.held) (λ q. owners k.names (own X) q + e q) h.stays
            (subst (λ ns. Stays (held_at m.held) (held_at l.held) (λ q. owners ns (own X) q + e q)) h.names went.stays);
        last = subst (LastGone k.credits) (sym (moves_credits mid m rs ds end l moved)) last;
      }

  -- ---- an operator

  pub result_same : (o : Operator) → result_type o ≡ L.result_type o
  result_same O.Add = refl
  result_same O.Subtract = refl
  result_same O.Multiply = refl
  result_same O.Divide = refl
  result_same O.Remainder = refl
  result_same O.Equal = refl
  result_same O.NotEqual = refl
  result_same O.Less = refl
  result_same O.LessOrEqual = refl
  result_same O.Greater = refl
  result_same O.GreaterOrEqual = refl

  pub result_typed : (o : Operator) → result_of o ≡ L.result_type o
  result_typed O.Add = refl
  result_typed O.Subtract = refl
  result_typed O.Multiply = refl
  result_typed O.Divide = refl
  result_typed O.Remainder = refl
  result_typed O.Equal = refl
  result_typed O.NotEqual = refl
  result_typed O.Less = refl
  result_typed O.LessOrEqual = refl
  result_typed O.Greater = refl
  result_typed O.GreaterOrEqual = refl

  result_scalar : is_scalar_type c.types 1 ≡ true → (o : Operator) → is_scalar_type c.types (L.result_type o) ≡ true
  result_scalar bool O.Add = int_scalar c.types
  result_scalar bool O.Subtract = int_scalar c.types
  result_scalar bool O.Multiply = int_scalar c.types
  result_scalar bool O.Divide = int_scalar c.types
  result_scalar bool O.Remainder = int_scalar c.types
  result_scalar bool O.Equal = bool
  result_scalar bool O.NotEqual = bool
  result_scalar bool O.Less = bool
  result_scalar bool O.LessOrEqual = bool
  result_scalar bool O.Greater = bool
  result_scalar bool O.GreaterOrEqual = bool

  pub result_value : is_scalar_type c.types 1 ≡ true → (o : Operator) → HoldsValue c.types (L.result_type o) (H.Scalar (L.result_type o))
  result_value bool o = record { scalar = λ e. refl; owned = λ e. absurd (true≢false (sym (result_scalar bool o) ∙ e)) }

  -- a value comes into a register that waits
  pub waiting_value : (X : Item → ℕ) (e : ℕ → ℕ) (at : ℕ) (k : Known) (d : ℕ) (h : Held) (t : ℕ) (x : Instr) → slice_get f.instrs at ≡ Some x → is_straight x ≡ true → HoldsValue c.types t h → IsRow c f (reported c k) x (kinds_of c.types (setting (held_at k.held) d h)) → Ties fip c.types s B K X e k → ((z y : ℕ) → K z (Own y) ≤ X (Own y)) → held_at k.held d ≡ H.Nothing → suc d ≤ k.next → k.next ≤ length k.held → Quiet f at (suc at) (reported c k) → MovedAll c f fip s B K X e at k (d ∷ []) (t ∷ []) (suc at) (holding k d h)
  waiting_value X e at k d h t x there straight v row ties kept empty low room quiet =
      let g = held_at k.held in
      let held : held_at (slice_set k.held d h) ≡ setting g d h = held_set_fn k.held d h (omega (arith, low, room)) in
      record {
        grows = omega arith;
        still = λ z q. absurd (let y : ⊥ = omega (arith, z) in y);
        part = subst (λ y. Part c f at (reported c k) (suc at) (kinds_of c.types y)) (sym held) (one_row c f at (reported c k) (kinds_of c.types (setting g d h)) x there straight row (quiet.first (omega arith)));
        names = refl;
        next = refl;
        width = length_set k.held d h;
        ties = ties_owe fip c.types s B K X (λ q. owe c.types t d q + e q) (λ q. owed c.types (d ∷ []) (t ∷ []) q + e q) (holding k d h) (λ q. omega arith)
            (set_ties fip c.types s B K X X e k (holding k d h) d t h ties (λ y. refl) kept (ap is_idle empty) v held refl (omega arith) ties.sizes
            (λ n r. ties.credits n r ∙ ap one_if (sym (ap (λ y. is_credit_of n (y r)) held ∙ credit_after c f fip s B K n d r t g h (ap (is_credit_of n) empty) v)))
            (λ r past. ap (λ y. y r) held ∙ (setting_other g d h r (λ z. absurd (let y : ⊥ = omega (arith, z, past, low) in y)) ∙ ties.fresh r past)));
        hold = (subst (HoldsValue c.types t) (sym (ap (λ y. y d) held ∙ setting_here g d h)) v, tt);
        empty = λ q y ne. ap (λ x. x q) held ∙ (setting_other g d h q (λ z. ne (inl z)) ∙ y);
        stays = subst (λ y. Stays g y (λ q. owners k.names (own X) q + e q)) (sym held) (Rattle.lowering_soundness.proofs.Writing.setting_stays g d h (λ q. owners k.names (own X) q + e q) (ap is_idle empty));
      }

  -- two ints
  is_int : (g : Holding) (r : ℕ) → HoldsValue c.types 0 (g r) → G.is_scalar_of 0 (g r) ≡ true
  is_int g r v = ap (G.is_scalar_of 0) (v.scalar (int_scalar c.types)) ∙ itself 0

  int_owes : (r q : ℕ) → owe c.types 0 r q ≡ 0
  int_owes r q = chosen (is_scalar_type c.types 0) 0 (one_if (r == q)) (int_scalar c.types)

  ints_unowed : (X : Item → ℕ) (e : ℕ → ℕ) (m : Known) (x y : ℕ) → Ties fip c.types s B K X (λ q. owed c.types (x ∷ y ∷ []) (0 ∷ 0 ∷ []) q + e q) m → Ties fip c.types s B K X e m
  ints_unowed X e m x y ties = ties_owe fip c.types s B K X (λ q. owed c.types (x ∷ y ∷ []) (0 ∷ 0 ∷ []) q + e q) e m (λ q. let a = int_owes x q in let b = int_owes y q in omega (arith, a, b)) ties

  pub operation_into : (X : Item → ℕ) (e : ℕ → ℕ) (at : ℕ) (k : Known) (x y mid : ℕ) (m : Known) (o : Operator) (p : Place) (ds : List ℕ) (end : ℕ) (l : Known) → is_scalar_type c.types 1 ≡ true → Computed c f fip s B K X e at k (x ∷ y ∷ []) (0 ∷ 0 ∷ []) mid m → OperationLaid fip f mid m o p x y (Into ds) end l → LastGone k.credits m.credits → length ds ≡ 1 → ((z y : ℕ) → K z (Own y) ≤ X (Own y)) → Waiting k ds → m.next ≤ length k.held → length k.held ≡ f.registers → Quiet f at end (reported c k) → Settled c f fip s B K X e at k ds (L.result_type o ∷ []) end l
  operation_into X e at k x y mid m o p [] end l bool h op last_gone many kept wait room wide quiet = absurd (omega (arith, many))
  operation_into X e at k x y mid m o p (d ∷ d2 ∷ ds) end l bool h op last_gone many kept wait room wide quiet = absurd (omega (arith, many))
  operation_into X e at k x y mid m o p (d ∷ []) end l bool h op last_gone many kept wait room wide quiet = into op.given.2
    where
      waits : Waiting m (d ∷ [])
      waits = waiting_later X e at k (x ∷ y ∷ []) (0 ∷ 0 ∷ []) mid m (d ∷ []) h wait

      into : MoveLaid f.instrs (suc mid) op.holds op.destination d op.given.0 op.given.1 → Settled c f fip s B K X e at k (d ∷ []) (L.result_type o ∷ []) end l
      into (inl went) = absurd (went.0 op.goes.0)
      into (inr there) =
          let new = H.Scalar (L.result_type o) in
          let last : suc mid ≡ end = sym there.nothing ∙ sym op.given.3.0 in
          let known : holding m d new ≡ l = ap (λ t. holding m d (H.Scalar t)) (sym (result_same o)) ∙ (sym op.goes.1 ∙ (sym there.known ∙ sym op.given.3.1)) in
          let a = h.grows in
          let w = h.width in
          let quiet2 : Quiet f mid (suc mid) (reported c m) = subst (λ b. Quiet f mid b (reported c m)) (sym last) (quiet_back f at mid end (reported c k) (reported c m) h.grows quiet h.still) in
          let row = arith_row c f (held_at m.held) d o x y p.line p.col (is_int (held_at m.held) x h.hold.0) (is_int (held_at m.held) y h.hold.1.0) (ap is_spare waits.0) (let z = waits.1 in omega (arith, z, room, wide)) in
          let put = waiting_value X e mid m d new (L.result_type o) (I.Arith d o x y p.line p.col) (subst (λ d. slice_get f.instrs mid ≡ Some (I.Arith d o x y p.line p.col)) op.goes.0 op.written) refl (result_value bool o) row (ints_unowed X e m x y h.ties) kept waits.0 waits.1 (omega (arith, room, w)) quiet2 in
          subst₂ (λ b z. Settled c f fip s B K X e at k (d ∷ []) (L.result_type o ∷ []) b z) last known (record {
            grows = omega (arith, a);
            part = both_parts c f at mid (suc mid) (reported c k) (reported c m) (reported c (holding m d new)) h.part put.part;
            next = h.next;
            width = put.width ∙ h.width;
            names = put.names ∙ h.names;
            ties = put.ties;
            hold = put.hold;
            empty = λ r low z ne. put.empty r (h.empty r low z) ne;
            stays = stays_on (held_at k.held) (held_at m.held) (held_at (holding m d new).held) (λ q. owners k.names (own X) q + e q) h.stays
                (subst (λ ns. Stays (held_at m.held) (held_at (holding m d new).held) (λ q. owners ns (own X) q + e q)) h.names put.stays);
            last = last_gone;
          })

  -- ---- results of the function

  pub ended : (at : ℕ) (k : Known) (rs ts : List ℕ) (mid : ℕ) (m : Known) (end : ℕ) → Computed c f fip s B K (λ i. 0) (λ q. 0) at k rs ts mid m → RetLaid fip f mid m rs end → f.results ≡ ts → Quiet f at end (reported c k) → LastPart c f at (reported c k) end
  ended at k rs ts mid m end h ret types quiet =
      part_and_last c f at mid end (reported c k) (reported c m) h.part
      (ret_part c f fip s B K mid m rs ts end ret types h.ties h.hold (quiet_back f at mid end (reported c k) (reported c m) h.grows quiet h.still))

  pub operation_ends : (at : ℕ) (k : Known) (x y mid : ℕ) (m : Known) (o : Operator) (p : Place) (end : ℕ) (l : Known) → is_scalar_type c.types 1 ≡ true → Computed c f fip s B K (λ i. 0) (λ q. 0) at k (x ∷ y ∷ []) (0 ∷ 0 ∷ []) mid m → OperationLaid fip f mid m o p x y Return end l → f.results ≡ L.result_type o ∷ [] → ((z y : ℕ) → K z (Own y) ≤ 0) → suc m.next ≤ length k.held → length k.held ≡ f.registers → Quiet f at end (reported c k) → LastPart c f at (reported c k) end
  operation_ends at k x y mid m o p end l bool h op types kept room wide quiet =
      let new = H.Scalar (L.result_type o) in
      let a = h.grows in
      let w = h.width in
      let ret : RetLaid fip f (suc mid) (with_next m new) (m.next ∷ []) end = subst₂ (λ z d. RetLaid fip f (suc mid) z (d ∷ []) end) (op.goes.1 ∙ ap (λ t. with_next m (H.Scalar t)) (result_same o)) op.goes.0 op.given in
      let later : suc mid ≤ end = (let z = gives_grow f fip ret.steps (suc mid) (record (with_next m new) { held = used_all (with_next m new).held (m.next ∷ []) }) ret.stop ret.left ret.gives in let y = ret.one in omega (arith, z, y)) in
      let quiet2 : Quiet f mid (suc mid) (reported c m) = quiet_front f mid (suc mid) end (reported c m) later (quiet_back f at mid end (reported c k) (reported c m) h.grows quiet h.still) in
      let row = arith_row c f (held_at m.held) m.next o x y p.line p.col (is_int (held_at m.held) x h.hold.0) (is_int (held_at m.held) y h.hold.1.0) (ap is_spare (h.ties.fresh m.next (omega arith))) (omega (arith, room, wide)) in
      let put = fresh_value c f fip s B K (λ i. 0) (λ q. 0) mid m new (L.result_type o) (I.Arith m.next o x y p.line p.col) (subst (λ d. slice_get f.instrs mid ≡ Some (I.Arith d o x y p.line p.col)) op.goes.0 op.written) refl (result_value bool o) row (ints_unowed (λ i. 0) (λ q. 0) m x y h.ties) kept quiet2 (omega (arith, room, w)) in
      ended at k (m.next ∷ []) (L.result_type o ∷ []) (suc mid) (with_next m new) end
      (computed_then c f fip s B K (λ i. 0) (λ i. 0) (λ q. 0) at k (x ∷ y ∷ []) (0 ∷ 0 ∷ []) mid m (m.next ∷ []) (L.result_type o ∷ []) (suc mid) (with_next m new) (λ z. omega arith) h put) ret types quiet
