-- The words of registers with values go to registers that wait for them.
use Rattle.std.proofs.Common.{◌≡◌, inl, inr, ℕ, suc, ◌+◌, ◌<◌, ◌≤◌, Bool, true, List, [], ◌∷◌, length, refl, sym, ap, ◌∙◌, subst, subst₂, true≢false, arith, get_or, slice_set}
use Rattle.separation.specs.fip_language.Every.{Among}
use Rattle.derivation_making.specs.type_check.Scope.{Scope}
use Rattle.derivation_making.specs.ownership_calculus.Terms.{Item, Own}
use Rattle.separation.specs.cell_code.declared.code.Instr.TheVariants as I
use Rattle.separation.specs.cell_code.Plain.{PlainFunction, PlainCode}
use Rattle.separation.proofs.separation_kinds.Basics.{unequal_is}
use Rattle.lowering_relation.specs.declared.held.Held.{Held}
use Rattle.lowering_relation.specs.declared.held.Held.TheVariants as H
use Rattle.lowering_relation.specs.Known.{Known, used, used_all}
use Rattle.lowering_relation.specs.LoweredBodies.{as_value, moved, IsMove}
use Rattle.lowering_relation.specs.Describing.{held_at, kinds_of, setting, is_spare}
use Rattle.lowering_soundness.specs.Covering.{using}
use Rattle.lowering_soundness.specs.Giving.{is_credit_of, is_value}
use Rattle.lowering_soundness.specs.Parts.{Part}
use Rattle.lowering_soundness.specs.Ties.{owners, own, HoldsValue, AllHold, owe, owed, Stays, Ties}
use Rattle.lowering_relation.specs.Labels.{reported, Quiet}
use Rattle.lowering_soundness.specs.Delivered.{Waiting}
use Rattle.lowering_relation.specs.Moves.{MoveLaid, MovesLaid}
use Rattle.lowering_soundness.proofs.SoundStraight.{move_row}
use Rattle.lowering_soundness.proofs.Parts.{one_row, no_row, both_parts}
use Rattle.lowering_soundness.proofs.Balance.{using_nothing, stays_same, stays_on, stays_fewer}
use Rattle.lowering_soundness.proofs.Helds.{held_or, held_set_fn, length_set, held_used_fn, length_used}
use Rattle.lowering_soundness.proofs.Writing.{is_idle, is_given, value_given, setting_other, setting_here, setting_stays, set_ties, use_ties, credit_using}
use Rattle.lowering_soundness.proofs.Arguments.{quiet_front, quiet_back, ties_owe, owe_one, value_stays, values_stay}
use Rattle.lowering_soundness.proofs.Values.{credit_after}

-- what registers with values hold is as it is as a value
given_value : (h : Held) → is_given h ≡ true → (is_value h ≡ true) × (as_value h ≡ h)
given_value H.Nothing e = absurd (true≢false (sym e))
given_value (H.Scalar t) e = (refl, refl)
given_value (H.Owned t b) e = (refl, refl)
given_value (H.Lent t root) e = absurd (true≢false (sym e))
given_value (H.Credit n) e = absurd (true≢false (sym e))
given_value (H.Bare t c) e = absurd (true≢false (sym e))

-- one word went: from k to l
pub record Moved (c : PlainCode) (f : PlainFunction) (fip : Bool) (s : Scope) (B : ℕ → Bool) (K : ℕ → Item → ℕ) (X : Item → ℕ) (e : ℕ → ℕ) (at : ℕ) (k : Known) (d t : ℕ) (end : ℕ) (l : Known) : Type 0 where
  pub grows : at ≤ end
  pub still : at ≡ end → (r : ℕ) → reported c k r ≡ reported c l r
  pub part : Part c f at (reported c k) end (reported c l)
  pub names : l.names ≡ k.names
  pub next : l.next ≡ k.next
  pub width : length l.held ≡ length k.held
  pub ties : Ties fip c.types s B K X (λ q. owe c.types t d q + e q) l
  pub holds : HoldsValue c.types t (held_at l.held d)
  pub empty : (r : ℕ) → held_at k.held r ≡ H.Nothing → (r ≡ d → ⊥) → held_at l.held r ≡ H.Nothing
  pub stays : Stays (held_at k.held) (held_at l.held) (λ q. owners k.names (own X) q + e q)

module _ (c : PlainCode) (f : PlainFunction) (fip : Bool) (s : Scope) (B : ℕ → Bool) (K : ℕ → Item → ℕ) where
  moved_word : (X : Item → ℕ) (e : ℕ → ℕ) (at : ℕ) (k : Known) (r d t : ℕ) → IsMove f.instrs at k r d (suc at) (moved k d r) → (r ≡ d → ⊥) → Ties fip c.types s B K X (λ q. owe c.types t r q + e q) k → ((z y : ℕ) → K z (Own y) ≤ X (Own y)) → HoldsValue c.types t (held_at k.held r) → held_at k.held d ≡ H.Nothing → suc d ≤ k.next → k.next ≤ length k.held → length k.held ≡ f.registers → Quiet f at (suc at) (reported c k) → Moved c f fip s B K X e at k d t (suc at) (moved k d r)
  moved_word X e at k r d t h apart ties kept v empty low room wide quiet =
      let g = held_at k.held in
      let given = value_given c.types t (g r) v in
      let within : d < length k.held = omega (arith, low, room) in
      let following : Known = record k { held = used_all k.held (r ∷ []) } in
      let first = use_ties fip c.types s B K X e k (r ∷ []) (t ∷ []) (ties_owe fip c.types s B K X (λ q. owe c.types t r q + e q) (λ q. owed c.types (r ∷ []) (t ∷ []) q + e q) k (λ q. omega arith) ties) kept (v, tt) in
      let used_eq : held_at (used k.held r) ≡ using g r = held_used_fn k.held r in
      let word : as_value (get_or k.held r H.Nothing) ≡ g r = ap as_value (held_or k.held r) ∙ (given_value (g r) given).1 in
      let held : held_at (slice_set (used k.held r) d (as_value (get_or k.held r H.Nothing))) ≡ setting (using g r) d (g r) =
      held_set_fn (used k.held r) d (as_value (get_or k.held r H.Nothing)) (let z = length_used k.held r in omega (arith, z, within))
      ∙ (ap (λ x. setting x d (as_value (get_or k.held r H.Nothing))) used_eq ∙ ap (setting (using g r) d) word) in
      let still_empty : using g r d ≡ H.Nothing = using_nothing g r d empty in
      record {
        grows = omega arith;
        still = λ z q. absurd (let y : ⊥ = omega (arith, z) in y);
        part = subst (λ y. Part c f at (reported c k) (suc at) (kinds_of c.types y)) (sym held)
            (one_row c f at (reported c k) (kinds_of c.types (setting (using g r) d (g r))) (I.Move d r) h.written refl
            (move_row c f g d r (given_value (g r) given).0 (unequal_is d r (λ z. apart (sym z))) (ap is_spare empty) (omega (arith, within, wide))) (quiet.first (omega arith)));
        names = refl;
        next = refl;
        width = length_set (used k.held r) d (as_value (get_or k.held r H.Nothing)) ∙ length_used k.held r;
        ties = set_ties fip c.types s B K X X e following (moved k d r) d t (g r) first.ties (λ y. refl) kept (ap is_idle (ap (λ x. x d) used_eq ∙ still_empty)) v (held ∙ ap (λ x. setting x d (g r)) (sym used_eq)) refl (omega arith) ties.sizes
            (λ n q. ties.credits n q ∙ ap one (sym (ap (λ x. is_credit_of n (x q)) held ∙ (credit_after c f fip s B K n d q t (using g r) (g r) (ap (is_credit_of n) still_empty) v ∙ credit_using g r q n))))
            (λ q past. ap (λ x. x q) held ∙ (setting_other (using g r) d (g r) q (λ z. absurd (let y : ⊥ = omega (arith, z, past, low) in y)) ∙ using_nothing g r q (ties.fresh q past)));
        holds = subst (HoldsValue c.types t) (sym (ap (λ x. x d) held ∙ setting_here (using g r) d (g r))) v;
        empty = λ q y ne. ap (λ x. x q) held ∙ (setting_other (using g r) d (g r) q ne ∙ using_nothing g r q y);
        stays = subst (λ y. Stays g y (λ q. owners k.names (own X) q + e q)) (sym held)
            (stays_on g (using g r) (setting (using g r) d (g r)) (λ q. owners k.names (own X) q + e q) first.stays (setting_stays (using g r) d (g r) (λ q. owners k.names (own X) q + e q) (ap is_idle still_empty)));
      }
    where
      one : Bool → ℕ
      one = Rattle.lowering_soundness.specs.Ties.one_if

  no_value : (t : ℕ) (h : Held) → HoldsValue c.types t h → h ≡ H.Nothing → ⊥
  no_value t h v e = true≢false (sym (value_given c.types t h v) ∙ ap is_given e)

  -- one word goes, where its register waits
  move_one : (X : Item → ℕ) (e : ℕ → ℕ) (at : ℕ) (k : Known) (r d t end : ℕ) (l : Known) → MoveLaid f.instrs at k r d end l → Ties fip c.types s B K X (λ q. owe c.types t r q + e q) k → ((z y : ℕ) → K z (Own y) ≤ X (Own y)) → HoldsValue c.types t (held_at k.held r) → held_at k.held d ≡ H.Nothing → suc d ≤ k.next → k.next ≤ length k.held → length k.held ≡ f.registers → Quiet f at end (reported c k) → Moved c f fip s B K X e at k d t end l
  move_one X e at k r d t end l (inl h) ties kept v empty low room wide quiet =
      let ended : Quiet f at (suc at) (reported c k) = subst (λ b. Quiet f at b (reported c k)) h.1.one quiet in
      subst₂ (λ b m. Moved c f fip s B K X e at k d t b m) (sym h.1.one) (sym h.1.known)
      (moved_word X e at k r d t (record { written = h.1.written; one = refl; known = refl }) h.0 ties kept v empty low room wide ended)
  move_one X e at k r d t end l (inr h) ties kept v empty low room wide quiet = absurd (no_value t (held_at k.held r) v (ap (held_at k.held) h.same ∙ empty))

  -- the others still wait
  waiting_on : (k l : Known) (ds : List ℕ) (d : ℕ) → Waiting k ds → (Among d ds → ⊥) → k.next ≤ l.next → ((r : ℕ) → held_at k.held r ≡ H.Nothing → (r ≡ d → ⊥) → held_at l.held r ≡ H.Nothing) → Waiting l ds
  waiting_on k l [] d w ne grows empty = tt
  waiting_on k l (q ∷ ds) d w ne grows empty =
      (empty q w.0 (λ z. ne (inl (sym z))), (let low = w.1 in omega (arith, low, grows)), w.2, waiting_on k l ds d w.3 (λ m. ne (inr m)) grows empty)

  pub record MovedAll (X : Item → ℕ) (e : ℕ → ℕ) (at : ℕ) (k : Known) (ds ts : List ℕ) (end : ℕ) (l : Known) : Type 0 where
    pub grows : at ≤ end
    pub still : at ≡ end → (r : ℕ) → reported c k r ≡ reported c l r
    pub part : Part c f at (reported c k) end (reported c l)
    pub names : l.names ≡ k.names
    pub next : l.next ≡ k.next
    pub width : length l.held ≡ length k.held
    pub ties : Ties fip c.types s B K X (λ q. owed c.types ds ts q + e q) l
    pub hold : AllHold c.types (held_at l.held) ds ts
    pub empty : (r : ℕ) → held_at k.held r ≡ H.Nothing → (Among r ds → ⊥) → held_at l.held r ≡ H.Nothing
    pub stays : Stays (held_at k.held) (held_at l.held) (λ q. owners k.names (own X) q + e q)

  pub moves_grow : (at : ℕ) (k : Known) (rs ds : List ℕ) (end : ℕ) (l : Known) → MovesLaid f.instrs at k rs ds end l → at ≤ end
  moves_grow at k [] ds end l h = let z = h.0 in omega (arith, z)
  moves_grow at k (r ∷ rs) [] end l h = let z = h.0 in omega (arith, z)
  moves_grow at k (r ∷ rs) (d ∷ ds) end l h = let a = one_grows h.2 in let b = moves_grow h.0 h.1 rs ds end l h.3 in omega (arith, a, b)
    where
      one_grows : MoveLaid f.instrs at k r d h.0 h.1 → at ≤ h.0
      one_grows (inl m) = let z = m.1.one in omega (arith, z)
      one_grows (inr m) = let z = m.nothing in omega (arith, z)

  pub moves : (X : Item → ℕ) (e : ℕ → ℕ) (at : ℕ) (k : Known) (rs ds ts : List ℕ) (end : ℕ) (l : Known) → MovesLaid f.instrs at k rs ds end l → length ds ≡ length ts → Ties fip c.types s B K X (λ q. owed c.types rs ts q + e q) k → ((z y : ℕ) → K z (Own y) ≤ X (Own y)) → AllHold c.types (held_at k.held) rs ts → Waiting k ds → k.next ≤ length k.held → length k.held ≡ f.registers → Quiet f at end (reported c k) → MovedAll X e at k ds ts end l
  moves X e at k [] [] [] end l h many ties kept hold wait room wide quiet =
      subst₂ (λ b m. MovedAll X e at k [] [] b m) (sym h.0) (sym h.1) (record {
        grows = omega arith;
        still = λ z q. refl;
        part = no_row c f at (reported c k) (reported c k) (λ q. refl);
        names = refl;
        next = refl;
        width = refl;
        ties = ties;
        hold = tt;
        empty = λ q y ne. y;
        stays = stays_same (held_at k.held) (λ q. owners k.names (own X) q + e q);
      })
  moves X e at k [] (d ∷ ds) [] end l h many ties kept hold wait room wide quiet = absurd (omega (arith, many))
  moves X e at k [] ds (t ∷ ts) end l h many ties kept hold wait room wide quiet = absurd hold
  moves X e at k (r ∷ rs) ds [] end l h many ties kept hold wait room wide quiet = absurd hold
  moves X e at k (r ∷ rs) [] (t ∷ ts) end l h many ties kept hold wait room wide quiet = absurd (omega (arith, many))
  moves X e at k (r ∷ rs) (d ∷ ds) (t ∷ ts) end l h many ties kept hold wait room wide quiet =
      let mid = h.0 in
      let m = h.1 in
      let later = moves_grow mid m rs ds end l h.3 in
      let first = move_one X (λ q. owed c.types rs ts q + e q) at k r d t mid m h.2 (ties_owe fip c.types s B K X (λ q. (owe c.types t r q + owed c.types rs ts q) + e q) (λ q. owe c.types t r q + (owed c.types rs ts q + e q)) k (λ q. omega arith) ties) kept hold.0 wait.0 wait.1 room wide (quiet_front f at mid end (reported c k) later quiet) in
      let same_next = first.next in
      let rest = moves X (λ q. owe c.types t d q + e q) mid m rs ds ts end l h.3 (omega (arith, many))
      (ties_owe fip c.types s B K X (λ q. owe c.types t d q + (owed c.types rs ts q + e q)) (λ q. owed c.types rs ts q + (owe c.types t d q + e q)) m (λ q. omega arith) first.ties) kept
      (values_stay c.types (held_at k.held) (held_at m.held) (λ q. owners k.names (own X) q + (owed c.types rs ts q + e q)) rs ts first.stays (λ q. omega arith) hold.1)
      (waiting_on k m ds d wait.3 wait.2 (omega (arith, same_next)) first.empty)
      (let z = first.width in omega (arith, z, room, same_next)) (first.width ∙ wide)
      (quiet_back f at mid end (reported c k) (reported c m) first.grows quiet first.still) in
      let a = first.grows in
      let b = rest.grows in
      record {
        grows = omega (arith, a, b);
        still = λ z q. (let x : at ≡ mid = omega (arith, a, b, z) in let y : mid ≡ end = omega (arith, a, b, z) in first.still x q ∙ rest.still y q);
        part = both_parts c f at mid end (reported c k) (reported c m) (reported c l) first.part rest.part;
        names = rest.names ∙ first.names;
        next = rest.next ∙ first.next;
        width = rest.width ∙ first.width;
        ties = ties_owe fip c.types s B K X (λ q. owed c.types ds ts q + (owe c.types t d q + e q)) (λ q. (owe c.types t d q + owed c.types ds ts q) + e q) l (λ q. omega arith) rest.ties;
        hold = (value_stays c.types t (held_at m.held) (held_at l.held) d (λ q. owners m.names (own X) q + (owe c.types t d q + e q)) rest.stays (λ z. let one = owe_one c.types t d z in omega (arith, one)) first.holds, rest.hold);
        empty = λ q y ne. rest.empty q (first.empty q y (λ z. ne (inl z))) (λ x. ne (inr x));
        stays = stays_on (held_at k.held) (held_at m.held) (held_at l.held) (λ q. owners k.names (own X) q + e q)
            (stays_fewer (held_at k.held) (held_at m.held) (λ q. owners k.names (own X) q + (owed c.types rs ts q + e q)) (λ q. owners k.names (own X) q + e q) (λ q. omega arith) first.stays)
            (subst (λ ns. Stays (held_at m.held) (held_at l.held) (λ q. owners ns (own X) q + e q)) first.names
            (stays_fewer (held_at m.held) (held_at l.held) (λ q. owners m.names (own X) q + (owe c.types t d q + e q)) (λ q. owners m.names (own X) q + e q) (λ q. omega arith) rest.stays));
      }
