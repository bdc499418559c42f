-- Expressions and blocks: their instructions keep the rules, and what is known after them goes with the variables.
use Rattle.std.proofs.Common.{◌≡◌, inl, inr, ℕ, suc, ◌+◌, ◌-◌, ◌<◌, ◌≤◌, Bool, true, false, ◌||◌, ◌&&◌, not, true≢false, slice_get, List, [], ◌∷◌, ◌++◌, length, map, Option, Some, refl, sym, ap, ◌∙◌, subst, arith, if◌then◌else◌}
use Rattle.separation.specs.fip_language.Every.{Among}
use Rattle.lowering_relation.specs.fip_trees.declared.program.Binder.{Binder}
use Rattle.lowering_relation.specs.fip_trees.Tree.{Argument, Variable, Literal, Constructor, NoArguments, MoreArguments, Pattern, Clauses, NoClauses, MoreClauses}
use Rattle.separation.specs.cell_code.declared.kind.Kind.{Kind}
use Rattle.lowering_relation.specs.fip_trees.Tree.{Expression, Give, Tuple, Operation, Call, Match, Nested, Block, Last, Let}
use Rattle.derivation_making.specs.fip_rules.World as R
use Rattle.derivation_making.specs.fip_rules.Shapes.{Names, following, shape, binders, takes}
use Rattle.derivation_making.specs.type_check.Binders.{all_annotated, entries}
use Rattle.derivation_making.specs.type_check.Scope.{Scope, of_binder}
use Rattle.derivation_making.specs.type_check.World as W
use Rattle.derivation_making.specs.type_check.Typing.{Types, TypesBlock, TypesClauses, Bind, IsPattern, bound_by}
use Rattle.derivation_making.specs.ownership_calculus.Terms.{Item, Own, Credit, has, Term}
use Rattle.derivation_making.proofs.ownership_calculus.Counts.{asks_le}
use Rattle.derivation_making.specs.ownership_calculus.Terms as C
use Rattle.derivation_making.specs.ownership_calculus.Rules.{Fits, lending}
use Rattle.derivation_making.specs.ownership_calculus.Rules as O
use Rattle.derivation_making.specs.ownership_calculus.ByCases.{Derives, Opens}
use Rattle.std.proofs.lemmas.Option.{same_Some}
use Rattle.derivation_making.proofs.ownership_calculus.Fit.{fits_le, fits_same, fits_sum}
use Rattle.derivation_making.specs.ownership_agreement.Bodies.{Scalars, variables, entering, inside, term, term_block, clauses, nodes, past_clause}
use Rattle.derivation_making.proofs.ownership_agreement.Basics.{not_owned}
use Rattle.derivation_making.proofs.Linking.{next_inside}
use Rattle.derivation_making.proofs.Reading.{next_after, next_past}
use Rattle.separation.specs.cell_code.Plain.{PlainFunction, PlainCode}
use Rattle.separation.specs.code_rules.Types.{is_type, is_scalar_type}
use Rattle.separation.proofs.separation_kinds.Basics.{refused, or_not, less_or_not}
use Rattle.lowering_relation.specs.Spots.{register}
use Rattle.lowering_relation.specs.Spots as Spots
use Rattle.lowering_relation.specs.Opening.{Roomy}
use Rattle.lowering_relation.specs.declared.held.Held.{Held}
use Rattle.lowering_relation.specs.declared.held.Held.TheVariants as H
use Rattle.lowering_relation.specs.Known.{Known, register_of}
use Rattle.lowering_relation.specs.Values.{Setting}
use Rattle.lowering_relation.specs.LoweredBodies.{Return, Into, registers_for, reserved, with_names, all_named}
use Rattle.lowering_relation.specs.Describing.{held_at, is_tree}
use Rattle.lowering_soundness.specs.Parts.{Part, LastPart}
use Rattle.lowering_relation.specs.Joins.{Meets}
use Rattle.lowering_soundness.specs.Ties.{one_if, owners, own, sized, AllHold, owed, Ties}
use Rattle.lowering_relation.specs.Labels.{reported}
use Rattle.lowering_relation.specs.Credits.{of_size, LastGone}
use Rattle.lowering_relation.specs.Uses.{is_number, uses, used_in, used_in_block, used_in_clauses, gives_credits, need, need_block, need_clauses}
use Rattle.lowering_relation.specs.Leftover.{IsUnused}
use Rattle.lowering_soundness.proofs.Balance.{stays_fewer}
use Rattle.lowering_soundness.proofs.Keeping.{twice, settled, keeps_on, keeps_less, keeps_within, keeps_named, keeps_let, keeps_next, keeps_held}
use Rattle.lowering_soundness.proofs.Bares.{is_bare, Barely, bared, barely_nothing, barely_keeps}
use Rattle.lowering_soundness.proofs.Owners.{owners_sum, owners_least}
use Rattle.lowering_soundness.proofs.Stacks.{length_size}
use Rattle.lowering_soundness.proofs.Asking.{let_scope, used_asks, block_asks, needs_asks}
use Rattle.lowering_soundness.proofs.Unused.{values_stay, give_stays, operator_stays, call_stays}
use Rattle.lowering_soundness.proofs.Bottoms.{Bottom, great_left, great_right, bottom_on, entry_bottom, named_bottom, give_bottom, one_bottom, operator_bottom, called_bottom, match_bottom}
use Rattle.lowering_soundness.proofs.EntryTrees.{entry_tree, entered_new, let_either}
use Rattle.lowering_soundness.proofs.EntryNames.{root_old}
use Rattle.lowering_soundness.proofs.Numbering.{Below, below_same, below_more, lets_below, entered_below, expression_below}
use Rattle.lowering_soundness.proofs.Meeting.{one_positive, Arrived, Spares, joined, spares_on, spares_same}
use Rattle.lowering_soundness.proofs.Ends.{meet_part, Reached, reached_part, reached_stretch}
use Rattle.lowering_soundness.proofs.ClauseEnding.{owing, ClausesDone, start_ties, entry_waits, clause_done}
use Rattle.lowering_soundness.specs.Laid.{Shares}
use Rattle.lowering_soundness.specs.Computed.{Computed}
use Rattle.lowering_soundness.specs.Delivered.{Waiting, Delivered, Keeps}
use Rattle.lowering_soundness.specs.Placed.{Placed, NoneFrom, InOrder, Numbered, NumberedBlock, NumberedClauses, AreTypes, Callees}
use Rattle.lowering_relation.specs.LaidBodies.{NamedLaid, ExpressionLaid, BlockLaid, ClausesLaid, ClausesMeet}
use Rattle.lowering_relation.specs.Tests.{Choice}
use Rattle.lowering_relation.specs.credit_check.Needs.{given}
use Rattle.lowering_relation.specs.Matches.{variable_of, clause_patterns, widened, entered, MatchLaid}
use Rattle.lowering_soundness.proofs.Chunks.{stretch_last, last_stretch}
use Rattle.lowering_soundness.proofs.Chosen.{match_sides, match_grows, sides_grow}
use Rattle.lowering_soundness.proofs.Clauses.{ties_reserved, reading, reading_kept, ClauseBegins, OpensBy, enter_clause, from_before}
use Rattle.lowering_soundness.proofs.Cleared.{Kept, wide_tree}
use Rattle.lowering_soundness.proofs.Matching.{scrutinee, DerivesBy, owner, all_entries, all_met, MatchOn, match_on, match_any}
use Rattle.lowering_soundness.proofs.Parts.{both_parts, part_and_last}
use Rattle.lowering_soundness.proofs.Tying.{ties_fits}
use Rattle.lowering_soundness.proofs.Arguments.{ties_worth}
use Rattle.lowering_soundness.proofs.Scoping.{entries_of, some_placed}
use Rattle.lowering_soundness.proofs.Naming.{soles, length_named, name_all}
use Rattle.lowering_soundness.proofs.Lets.{ties_within, lent_in, ties_lending, scope_later, entries_same, bind_many, bind_slots, opens_fits, unborrowed}
use Rattle.lowering_soundness.proofs.Typed.{expression_types}
use Rattle.lowering_soundness.proofs.Leaves.{values_done, give_into, give_ends, operator_into, operator_ends, called_into, called_ends}
pub use Rattle.tail_groups.proofs.fip_language.Facts.{both_right as and_right, not_true}

pub length_all_named : (names : List (Option ℕ)) (bs : List Binder) (rs : List ℕ) → length (all_named names bs rs) ≡ length names
length_all_named names [] rs = refl
length_all_named names (b ∷ bs) [] = refl
length_all_named names (b ∷ bs) (r ∷ rs) = length_all_named (Rattle.lowering_relation.specs.Known.named names b.number r) bs rs ∙ length_named names b.number r

pub length_registers : (r : ℕ) (bs : List Binder) → length (registers_for r bs) ≡ length bs
length_registers r [] = refl
length_registers r (b ∷ bs) = ap suc (length_registers (suc r) bs)

among_registers : (r q : ℕ) (bs : List Binder) → Among q (registers_for r bs) → r ≤ q
among_registers r q [] m = absurd m
among_registers r q (b ∷ bs) (inl e) = omega (arith, e)
among_registers r q (b ∷ bs) (inr m) = let z = among_registers (suc r) q bs m in omega (arith, z)

-- registers that were never used wait
pub registers_wait : (k : Known) (r n : ℕ) (bs : List Binder) → ((q : ℕ) → r ≤ q → held_at k.held q ≡ H.Nothing) → r + length bs ≤ n → Waiting (record k { next = n }) (registers_for r bs)
registers_wait k r n [] fresh room = tt
registers_wait k r n (b ∷ bs) fresh room = (
  fresh r (omega arith),
  omega (arith, room),
  (λ m. absurd (let z = among_registers (suc r) r bs m in let y : ⊥ = omega (arith, z) in y)),
  registers_wait k (suc r) n bs (λ q low. fresh q (omega (arith, low))) (omega (arith, room)),
)

pub waits_on : (k l : Known) (ds : List ℕ) → Waiting k ds → k.next ≤ l.next → ((r : ℕ) → Among r ds → held_at l.held r ≡ H.Nothing) → Waiting l ds
waits_on k l [] w grows empty = tt
waits_on k l (d ∷ ds) w grows empty = (empty d (inl refl), (let z = w.1 in omega (arith, z, grows)), w.2, waits_on k l ds w.3 grows (λ r m. empty r (inr m)))

pub waiting_among : (k : Known) (ds : List ℕ) (r : ℕ) → Waiting k ds → Among r ds → (held_at k.held r ≡ H.Nothing) × (suc r ≤ k.next)
waiting_among k [] r w m = absurd m
waiting_among k (d ∷ ds) r w (inl e) = (ap (held_at k.held) e ∙ w.0, (let z = w.1 in omega (arith, z, e)))
waiting_among k (d ∷ ds) r w (inr m) = waiting_among k ds r w.3 m

module _ (c : PlainCode) (f : PlainFunction) (st : Setting) (wd : W.World) (w : R.World) (fip : Bool) (shares : Shares c st wd) (callees : Callees c st wd w) (N : ℕ) where
  -- ---- what a let binds is after, and its variables come into scope

  pub record Entered (s : Scope) (sc : Scalars) (n : Names) (bs : List Binder) (us : List ℕ) (B : ℕ → Bool) (K : ℕ → Item → ℕ) (Q X : Item → ℕ) (l : Known) : Type 0 where
    pub placed : Placed c (s ++ entries bs (map Some us)) (entering w n.next sc bs) (inside w true n bs)
    pub ties : Ties fip c.types (s ++ entries bs (map Some us)) (O.setting (variables w n.next bs) false B) K (λ i. Q i + X i) (λ q. 0) l
    pub none : NoneFrom (inside w true n bs).next (λ i. Q i + X i)
    pub back : (x u : ℕ) → of_binder s (Some x) ≡ Some (Some u) → of_binder (s ++ entries bs (map Some us)) (Some x) ≡ Some (Some u)
    pub same : (x u : ℕ) → of_binder s (Some x) ≡ Some (Some u) → O.setting (variables w n.next bs) false B x ≡ B x

  pub enter : (s : Scope) (sc : Scalars) (n : Names) (bs : List Binder) (us : List ℕ) (B : ℕ → Bool) (K : ℕ → Item → ℕ) (R Q X : Item → ℕ) (m : Known) (rs : List ℕ) → Placed c s sc n → InOrder n.next bs → n.next + length bs ≤ length m.names → Bind true bs us → AreTypes c us → Opens fip true (variables w n.next bs) [] R Q → NoneFrom n.next (λ i. R i + X i) → ((z y : ℕ) → K z (Own y) ≤ X (Own y)) → Ties fip c.types s B K (λ i. R i + X i) (λ q. owed c.types rs us q + 0) m → AllHold c.types (held_at m.held) rs us → Entered s sc n bs us B K Q X (with_names m bs rs)
  enter s sc n bs us B K R Q X m rs placed order within bind types opens none kept ties hold =
      let slots = bind_slots c bs us bind types in
      let es = entries_same bs us bind in
      let D = O.setting (variables w n.next bs) false B in
      let R_none : NoneFrom n.next R = λ y low. (let z = none y low in omega (arith, z)) in
      let named = name_all fip c.types D K s (λ i. R i + X i) (λ q. 0) m bs n.next rs us
      (ties_within fip c.types s s B D K K (λ i. R i + X i) (λ q. owed c.types rs us q + 0) m ties (λ x u h. h) (λ x u h b. (sym (unchanged x u h) ∙ b, refl)))
      hold placed.before none (λ z y. let a = kept z y in omega (arith, a)) (unborrowed c w callees.scalars fip K B n.next bs us slots) within order (bind_many bs us bind) in
      record {
        placed = subst (λ es. Placed c (s ++ es) (entering w n.next sc bs) (inside w true n bs)) (sym es) (some_placed c w callees.scalars true s sc n bs us placed order slots);
        ties = subst (λ es. Ties fip c.types (s ++ es) D K (λ i. Q i + X i) (λ q. 0) (with_names m bs rs)) (sym es)
            (ties_fits fip c.types (s ++ entries_of bs us) D K (λ i. (R i + X i) + soles c.types n.next us i) (λ i. Q i + X i) (λ q. 0) (with_names m bs rs) named
            (λ i. (let a : (R i + X i) + soles c.types n.next us i ≡ (R i + soles c.types n.next us i) + X i = omega arith in
            subst (λ m. Fits fip m (Q i + X i)) (sym a) (fits_sum fip ((R i + soles c.types n.next us i) + X i) (R i + soles c.types n.next us i) (X i) (Q i) (X i) (fits_same fip ((R i + soles c.types n.next us i) + X i)) (opens_fits c w callees.scalars fip n.next bs us R Q opens R_none slots i) (fits_same fip (X i))))));
        none = λ y low. (let next = next_inside w true n bs in let a = none y (omega (arith, low, next)) in let q = fewer y (omega (arith, low, next)) R_none in omega (arith, a, q));
        back = λ x u h. ap (λ es. of_binder (s ++ es) (Some x)) es ∙ (scope_later s n.next bs us x order (placed.before x u h) ∙ h);
        same = unchanged;
      }
    where
      unchanged : (x u : ℕ) → of_binder s (Some x) ≡ Some (Some u) → O.setting (variables w n.next bs) false B x ≡ B x
      unchanged x u h = refused (has (variables w n.next bs) x) false (B x) (not_owned w n.next x bs (placed.before x u h))

      -- after the binders' numbers nothing is owned
      beyond : (y m : ℕ) (ds : List Binder) → m + length ds ≤ y → has (variables w m ds) y ≡ false
      beyond y m [] low = refl
      beyond y m (d ∷ ds) low = one (w.scalar d.ty) (beyond y (suc m) ds (omega (arith, low)))
        where
          one : (b : Bool) → has (variables w (suc m) ds) y ≡ false → has (if b then variables w (suc m) ds else m ∷ variables w (suc m) ds) y ≡ false
          one true h = h
          one false h = ap (λ b. b || has (variables w (suc m) ds) y) (Rattle.separation.proofs.separation_kinds.Basics.unequal_is m y (λ e. absurd (let z : ⊥ = omega (arith, e, low) in z))) ∙ h

      fewer : (y : ℕ) → n.next + length bs ≤ y → NoneFrom n.next R → Q (Own y) ≡ 0
      fewer y low none = (let a = fits_le fip (R (Own y)) (Q (Own y)) (opens.others y (beyond y n.next bs low)) in let b = none y (omega (arith, low)) in omega (arith, a, b))

  -- ---- names after a part

  pub after_placed : (s : Scope) (sc : Scalars) (n : Names) (e : Expression) → n.next ≤ (following n (shape w n e)).next → Placed c s sc n → Placed c s sc (following n (shape w n e))
  after_placed s sc n e more p = record {
    seen = p.seen;
    scalar = p.scalar;
    before = λ x t h. (let z = p.before x t h in omega (arith, z, more));
    typed = p.typed;
  }

  pub later : (n : Names) (e : Expression) → n.next ≤ (following n (shape w n e)).next
  later n e = let z = next_after w n e in omega (arith, z)

  pub none_later : (n : Names) (e : Expression) (T : Item → ℕ) → NoneFrom n.next T → NoneFrom (following n (shape w n e)).next T
  none_later n e T h y low = h y (let z = later n e in omega (arith, z, low))

  -- what is owned in three parts
  pub let_split : (s : Scope) (B : ℕ → Bool) (K : ℕ → Item → ℕ) (O P R X : Item → ℕ) (k : Known) → ((i : Item) → Fits fip (O i) (P i + R i)) → Ties fip c.types s B K (λ i. O i + X i) (λ q. 0) k → Ties fip c.types s B K (λ i. P i + (R i + X i)) (λ q. 0) k
  let_split s B K O P R X k split ties =
      ties_worth fip c.types s B K (λ i. (P i + R i) + X i) (λ i. P i + (R i + X i)) (λ q. 0) k (λ i. omega arith)
      (ties_fits fip c.types s B K (λ i. O i + X i) (λ i. (P i + R i) + X i) (λ q. 0) k ties (λ i. fits_sum fip (O i + X i) (O i) (X i) (P i + R i) (X i) (fits_same fip (O i + X i)) (split i) (fits_same fip (X i))))

  pub split_none : (n : ℕ) (O P R X : Item → ℕ) → ((i : Item) → Fits fip (O i) (P i + R i)) → NoneFrom n (λ i. O i + X i) → NoneFrom n (λ i. P i + (R i + X i))
  split_none n O P R X split none y low =
      let a = none y low in
      let b = fits_le fip (O (Own y)) (P (Own y) + R (Own y)) (split (Own y)) in
      omega (arith, a, b)

  pub rest_none : (n : ℕ) (P R X : Item → ℕ) → NoneFrom n (λ i. P i + (R i + X i)) → NoneFrom n (λ i. R i + X i)
  rest_none n P R X none y low = let a = none y low in omega (arith, a)

  pub lent_kept : (B : ℕ → Bool) (K : ℕ → Item → ℕ) (R X : Item → ℕ) → ((z y : ℕ) → K z (Own y) ≤ X (Own y)) → (z y : ℕ) → lent_in B K R z (Own y) ≤ R (Own y) + X (Own y)
  lent_kept B K R X kept z y = by (B z)
    where
      by : (b : Bool) → (if b then K z else R) (Own y) ≤ R (Own y) + X (Own y)
      by true = let a = kept z y in omega (arith, a)
      by false = omega arith

  pub unlent : (s : Scope) (B : ℕ → Bool) (K : ℕ → Item → ℕ) (R T : Item → ℕ) (e : ℕ → ℕ) (k : Known) → Ties fip c.types s (lending B R) (lent_in B K R) T e k → Ties fip c.types s B K T e k
  unlent s B K R T e k t =
      ties_within fip c.types s s (lending B R) B (lent_in B K R) K T e k t (λ x u h. h)
      (λ x u h b. (ap (λ b. b || Rattle.std.specs.Prelude.nat_lt 0 (R (Own x))) b, sym (Rattle.separation.proofs.separation_kinds.Basics.chosen (B x) (K x) R b)))

  -- ---- what is after an expression

  -- the same, where less is borrowed
  comp_plain : (s : Scope) (C B : ℕ → Bool) (L K : ℕ → Item → ℕ) (Y : Item → ℕ) (at : ℕ) (k : Known) (rs us : List ℕ) (mid : ℕ) (m : Known) → Computed c f fip s C L Y (λ q. 0) at k rs us mid m → Ties fip c.types s B K Y (λ q. owed c.types rs us q + 0) m → Computed c f fip s B K Y (λ q. 0) at k rs us mid m
  comp_plain s C B L K Y at k rs us mid m h ties = record {
    grows = h.grows;
    still = h.still;
    part = h.part;
    names = h.names;
    next = h.next;
    width = h.width;
    ties = ties;
    hold = h.hold;
    empty = h.empty;
    stays = h.stays;
  }

  -- values get names, and the rest follows
  computed_rest : (s z : Scope) (B D : ℕ → Bool) (K : ℕ → Item → ℕ) (Y X : Item → ℕ) (at : ℕ) (k : Known) (rs us : List ℕ) (mid : ℕ) (m : Known) (bs : List Binder) (ds ts : List ℕ) (end : ℕ) (l : Known) (n : ℕ) → ((i : Item) → X i ≤ Y i) → LastGone k.credits m.credits → InOrder n bs → NoneFrom n X → ((x u : ℕ) → of_binder s (Some x) ≡ Some (Some u) → x < n) → Computed c f fip s B K Y (λ q. 0) at k rs us mid m → Delivered c f fip z D K X mid (with_names m bs rs) ds ts end l → ((x u : ℕ) → of_binder s (Some x) ≡ Some (Some u) → of_binder z (Some x) ≡ Some (Some u)) → ((x u : ℕ) → of_binder s (Some x) ≡ Some (Some u) → D x ≡ B x) → Delivered c f fip s B K X at k ds ts end l
  computed_rest s z B D K Y X at k rs us mid m bs ds ts end l n less last order none before h rest back same =
      let a = h.grows in
      let b = rest.grows in
      record {
        grows = omega (arith, a, b);
        part = both_parts c f at mid end (reported c k) (reported c m) (reported c l) h.part rest.part;
        next = (let x = h.next in let y = rest.next in omega (arith, x, y));
        width = rest.width ∙ h.width;
        names = rest.names ∙ (length_all_named m.names bs rs ∙ ap length h.names);
        ties = ties_within fip c.types z s D B K K X (λ q. owed c.types ds ts q + 0) l rest.ties back (λ x u o b. (same x u o ∙ b, refl));
        hold = rest.hold;
        empty = λ r low y ne. rest.empty r (let n = h.next in omega (arith, low, n)) (h.empty r low y) ne;
        keeps = keeps_on s X k m l
            (keeps_less s Y X k m less (keeps_named fip s Y k m (stays_fewer (held_at k.held) (held_at m.held) (λ q. owners k.names (own Y) q + 0) (owners k.names (own Y)) (λ q. omega arith) h.stays) h.names last h.ties.sizes))
            (keeps_on s X m (with_names m bs rs) l (keeps_let s X m bs rs n order none before) (keeps_within s z X (with_names m bs rs) l back rest.keeps));
      }

  delivered_rest : (s z : Scope) (B C D : ℕ → Bool) (K L : ℕ → Item → ℕ) (Y X : Item → ℕ) (at : ℕ) (k : Known) (n : ℕ) (rs us : List ℕ) (mid : ℕ) (m : Known) (bs : List Binder) (ds ts : List ℕ) (end : ℕ) (l : Known) (o : ℕ) → ((i : Item) → X i ≤ Y i) → InOrder o bs → NoneFrom o X → ((x u : ℕ) → of_binder s (Some x) ≡ Some (Some u) → x < o) → k.next ≤ n → Delivered c f fip s C L Y at (record k { next = n }) rs us mid m → Delivered c f fip z D K X mid (with_names m bs rs) ds ts end l → ((r : ℕ) → suc r ≤ k.next → Among r rs → ⊥) → ((x u : ℕ) → of_binder s (Some x) ≡ Some (Some u) → of_binder z (Some x) ≡ Some (Some u)) → ((x u : ℕ) → of_binder s (Some x) ≡ Some (Some u) → D x ≡ B x) → Delivered c f fip s B K X at k ds ts end l
  delivered_rest s z B C D K L Y X at k n rs us mid m bs ds ts end l o less order none before more h rest apart back same =
      let a = h.grows in
      let b = rest.grows in
      record {
        grows = omega (arith, a, b);
        part = both_parts c f at mid end (reported c k) (reported c m) (reported c l) h.part rest.part;
        next = (let x = h.next in let y = rest.next in omega (arith, x, y, more));
        width = rest.width ∙ h.width;
        names = rest.names ∙ (length_all_named m.names bs rs ∙ h.names);
        ties = ties_within fip c.types z s D B K K X (λ q. owed c.types ds ts q + 0) l rest.ties back (λ x u o b. (same x u o ∙ b, refl));
        hold = rest.hold;
        empty = λ r low y ne. rest.empty r (let z = h.next in omega (arith, low, z, more)) (h.empty r (omega (arith, low, more)) y (apart r low)) ne;
        keeps = keeps_on s X k (record k { next = n }) l (keeps_next s X k n)
            (keeps_on s X (record k { next = n }) m l (keeps_less s Y X (record k { next = n }) m less h.keeps)
            (keeps_on s X m (with_names m bs rs) l (keeps_let s X m bs rs o order none before) (keeps_within s z X (with_names m bs rs) l back rest.keeps)));
      }

  -- values that only get names
  pub named_done : (s : Scope) (sc : Scalars) (n : Names) (B : ℕ → Bool) (K : ℕ → Item → ℕ) → Placed c s sc n → (P X : Item → ℕ) (at : ℕ) (k : Known) (e : Expression) (rs : List ℕ) (mid : ℕ) (m : Known) (b : Bool) (us : List ℕ) → NamedLaid c st f at k e rs mid m → Types true wd s b e us → Derives fip B P (term w sc n e) → ((z y : ℕ) → K z (Own y) ≤ X (Own y)) → Ties fip c.types s B K (λ i. P i + X i) (λ q. 0) k → length k.held ≡ f.registers → Computed c f fip s B K X (λ q. 0) at k rs us mid m
  named_done s sc n B K placed P X at k (Give a) rs mid m b us h typed d kept ties wide =
      subst (λ us. Computed c f fip s B K X (λ q. 0) at k rs us mid m) (sym typed.1)
      (values_done c f st wd w fip shares callees s sc n B K placed P X (λ q. 0) at k (MoreArguments a NoArguments) rs mid m b (typed.0 ∷ []) h.values (typed.2, tt) d kept ties h.quiet wide)
  named_done s sc n B K placed P X at k (Tuple p as') rs mid m b us h typed d kept ties wide =
      values_done c f st wd w fip shares callees s sc n B K placed P X (λ q. 0) at k as' rs mid m b us h.values typed.1 d kept ties h.quiet wide
  named_done s sc n B K placed P X at k (Operation o p x y) rs mid m b us h typed d kept ties wide = absurd h
  named_done s sc n B K placed P X at k (Call g l p as') rs mid m b us h typed d kept ties wide = absurd h
  named_done s sc n B K placed P X at k (Match g t p a q body cs) rs mid m b us h typed d kept ties wide = absurd h
  named_done s sc n B K placed P X at k (Nested body) rs mid m b us h typed d kept ties wide = absurd h

  named_last : (at : ℕ) (k : Known) (e : Expression) (rs : List ℕ) (mid : ℕ) (m : Known) → NamedLaid c st f at k e rs mid m → LastGone k.credits m.credits
  named_last at k (Give a) rs mid m h = h.values.last
  named_last at k (Tuple p as') rs mid m h = h.values.last
  named_last at k (Operation o p x y) rs mid m h = absurd h
  named_last at k (Call g l p as') rs mid m h = absurd h
  named_last at k (Match g t p a q body cs) rs mid m h = absurd h
  named_last at k (Nested body) rs mid m h = absurd h

  -- variables in scope are before those of a let's binders
  before_let : (s : Scope) (sc : Scalars) (n : Names) (e : Expression) → Placed c s sc n → (x u : ℕ) → of_binder s (Some x) ≡ Some (Some u) → x < (following n (shape w n e)).next
  before_let s sc n e placed x u o = let a = placed.before x u o in let b = later n e in omega (arith, a, b)

  none_let : (n : Names) (e : Expression) (R X : Item → ℕ) → NoneFrom (following n (shape w n e)).next (λ i. R i + X i) → NoneFrom (following n (shape w n e)).next X
  none_let n e R X none y low = let a = none y low in omega (arith, a)

  pub registers_apart : (k : Known) (bs : List Binder) (r : ℕ) → suc r ≤ k.next → Among r (registers_for k.next bs) → ⊥
  registers_apart k bs r low m = let z = among_registers k.next r bs m in let y : ⊥ = omega (arith, low, z) in y

  -- ---- where the clauses of a let's match meet

  pub wide_empty : (h : Held) → widened h ≡ H.Nothing → h ≡ H.Nothing
  wide_empty H.Nothing e = refl
  wide_empty (H.Scalar t) e = e
  wide_empty (H.Owned t b) e = absurd (cc)
  wide_empty (H.Lent t root) e = e
  wide_empty (H.Credit n) e = e
  wide_empty (H.Bare t d) e = e

  meets_spares : (met l : Known) (n : ℕ) → l ≡ record met { next = n } → Spares met l
  meets_spares met l n e r = inl (ap (λ (l : Known). held_at l.held r) e)

  match_delivered : (o : Expression) (s : Scope) (B : ℕ → Bool) (K : ℕ → Item → ℕ) (X : Item → ℕ) (at : ℕ) (k : Known) (begin : ℕ) (k0 l1 met : Known) (ds ts : List ℕ) (end : ℕ) (l : Known) → at ≤ begin → Part c f at (reported c k) begin (reported c k0) → length k0.names ≡ length k.names → length k0.held ≡ length k.held → k0.next ≡ k.next → Keeps s X k k0 → ((r : ℕ) → suc r ≤ k.next → held_at k.held r ≡ H.Nothing → held_at k0.held r ≡ H.Nothing) → k0.next ≤ l1.next → length l1.names ≡ length k0.names → length l1.held ≡ length k0.held → Keeps s X k0 l1 → ((r : ℕ) → suc r ≤ k0.next → held_at k0.held r ≡ H.Nothing → held_at l1.held r ≡ H.Nothing) → Arrived st o fip c.types s B K X l1 k0.next ds ts met → Meets f met end l → Part c f begin (reported c k0) end (reported c l) → Delivered c f fip s B K X at k ds ts end l
  match_delivered o s B K X at k begin k0 l1 met ds ts end l grows part names0 wide0 next0 keeps0 empty0 next1 names1 wide1 keeps1 empty1 arrived meets code =
      let last = code.grows in
      let a = arrived.grows in
      let b = meets.more in
      subst (Delivered c f fip s B K X at k ds ts end) (sym meets.known) (record {
        grows = omega (arith, grows, last);
        part = subst (λ l. Part c f at (reported c k) end (reported c l)) meets.known (both_parts c f at begin end (reported c k) (reported c k0) (reported c l) part code);
        next = omega (arith, next0, next1, a, b);
        width = arrived.width ∙ (wide1 ∙ wide0);
        names = arrived.names ∙ (names1 ∙ names0);
        ties = ties_reserved fip c.types s B K X (λ q. owed c.types ds ts q + 0) met meets.next meets.more arrived.ties;
        hold = arrived.hold;
        empty = λ r low e ne. arrived.empty r (omega (arith, low, next0)) (empty1 r (omega (arith, low, next0)) (empty0 r low e)) ne;
        keeps = keeps_on s X k k0 (record met { next = meets.next }) keeps0 (keeps_on s X k0 l1 (record met { next = meets.next }) keeps1 (keeps_on s X l1 met (record met { next = meets.next }) arrived.keeps (keeps_next s X met meets.next)));
      })

  -- ---- the clauses of a match

  pub past_placed : (s : Scope) (sc : Scalars) (n : Names) (taken : Bool) (q : Pattern) (body : Block) → Placed c s sc n → Placed c s sc (past_clause w taken n q body)
  past_placed s sc n taken q body p = record {
    seen = p.seen;
    scalar = p.scalar;
    before = λ x t h. (let z = p.before x t h in let past = next_past w taken n q body in omega (arith, z, past));
    typed = p.typed;
  }

  pub past_none : (n : Names) (taken : Bool) (q : Pattern) (body : Block) (R : Item → ℕ) → NoneFrom n.next R → NoneFrom (past_clause w taken n q body).next R
  past_none n taken q body R none y low = none y (let past = next_past w taken n q body in omega (arith, low, past))

  pub first_by : (taken : Bool) (sc : Scalars) (n0 : Names) (B : ℕ → Bool) (R : Item → ℕ) (n : Names) (ys ks : List ℕ) (te : Term) (cs : Clauses) → DerivesBy c st wd w shares callees f fip taken B R (clauses w sc taken n ys ks te cs) → (Q : Item → ℕ) × OpensBy c st wd w shares callees f fip taken ys ks R Q × Derives fip (O.setting ys (not taken) B) Q te
  first_by true sc n0 B R n ys ks te NoClauses d = (d.0, d.1, d.2)
  first_by true sc n0 B R n ys ks te (MoreClauses q b cs) d = (d.0, d.1, d.2)
  first_by false sc n0 B R n ys ks te NoClauses d = (d.0, d.1, d.2)
  first_by false sc n0 B R n ys ks te (MoreClauses q b cs) d = (d.0, d.1, d.2)

  pub rest_by : (taken : Bool) (B : ℕ → Bool) (R : Item → ℕ) (ys ks : List ℕ) (te : Term) (cs : C.Clauses) → DerivesBy c st wd w shares callees f fip taken B R (C.MoreClauses ys ks te cs) → DerivesBy c st wd w shares callees f fip taken B R cs
  rest_by true B R ys ks te cs d = d.3
  rest_by false B R ys ks te cs d = d.3

  -- a clause's body is entered
  pub on_entry : (s : Scope) (sc : Scalars) (n : Names) (B : ℕ → Bool) (K : ℕ → Item → ℕ) (X L : Item → ℕ) → Kept K X → ((y : ℕ) → L (Own y) ≤ X (Own y)) → Placed c s sc n → (R : Item → ℕ) → NoneFrom n.next (λ i. R i + X i) → (u : ℕ) → is_type c.types u ≡ true → (taken : Bool) (ch : Choice) (k l : Known) (q0 : Pattern) (cs0 : Clauses) → MatchOn c st wd w shares callees f fip taken s B K R X L u ch k l q0 cs0 → (q : Pattern) (Q : Item → ℕ) (m : ℕ) → OpensBy c st wd w shares callees f fip taken (variables w n.next (binders q)) (nodes q) R Q → IsPattern true wd u q → Roomy q ch.root → InOrder n.next (binders q) → n.next + length (binders q) ≤ length l.names → l.next ≤ m → ClauseBegins c st wd w shares callees f fip s sc n taken u q B (reading taken (variables w n.next (binders q)) L K) Q X l (entered st ch q l m)
  on_entry s sc n B K X L kept least placed R none u utyped taken ch k l q0 cs0 on q Q m opens pattern roomy order room more =
      let stands = on.match_stands in
      enter_clause c st wd w shares callees f fip s sc n B K X L kept least placed R none u utyped ch stands.differ (λ a. (stands.unused (register ch.root) a).2 refl) l
      (λ z a. ((stands.unused z a).0, stands.within z (inr a), on.fresh z a)) (stands.within (register ch.root) (inl refl)) on.used taken q Q m on.takes on.stands opens pattern roomy order room more

  -- variables from before a clause are as they were
  record ClauseBefore (s : Scope) (n : Names) (B : ℕ → Bool) (K : ℕ → Item → ℕ) (L : Item → ℕ) (u : ℕ) (taken : Bool) (q : Pattern) : Type 0 where
    pub back : (x v : ℕ) → of_binder s (Some x) ≡ Some (Some v) → of_binder (s ++ bound_by wd (Some u) q) (Some x) ≡ Some (Some v)
    pub borrowed : (x v : ℕ) → of_binder s (Some x) ≡ Some (Some v) → O.setting (variables w n.next (binders q)) (not taken) B x ≡ B x
    pub lends : (x v : ℕ) → of_binder s (Some x) ≡ Some (Some v) → reading taken (variables w n.next (binders q)) L K x ≡ K x

  before_clause : (s : Scope) (sc : Scalars) (n : Names) (B : ℕ → Bool) (K : ℕ → Item → ℕ) (X L : Item → ℕ) → Kept K X → ((y : ℕ) → L (Own y) ≤ X (Own y)) → Placed c s sc n → (R : Item → ℕ) → NoneFrom n.next (λ i. R i + X i) → (u : ℕ) → is_type c.types u ≡ true → (taken : Bool) (ch : Choice) (k l : Known) (q0 : Pattern) (cs0 : Clauses) → MatchOn c st wd w shares callees f fip taken s B K R X L u ch k l q0 cs0 → (q : Pattern) → IsPattern true wd u q → InOrder n.next (binders q) → ClauseBefore s n B K L u taken q
  before_clause s sc n B K X L kept least placed R none u utyped taken ch k l q0 cs0 on q pattern order =
      let stands = on.match_stands in
      let z = from_before c st wd w shares callees f fip s sc n B K X L kept least placed R none u utyped ch stands.differ (λ a. (stands.unused (register ch.root) a).2 refl) l
      (λ z a. ((stands.unused z a).0, stands.within z (inr a), on.fresh z a)) (stands.within (register ch.root) (inl refl)) on.used taken q pattern order in
      record { back = z.back; borrowed = z.borrowed; lends = z.lends }

  -- ---- variables with registers

  pub entry_below : (n : Names) (taken : Bool) (q : Pattern) (ch : Choice) (l : Known) (m : ℕ) → InOrder n.next (binders q) → Below l n.next → Below (entered st ch q l m) (inside w taken n (binders q)).next
  entry_below n taken q ch l m order below =
      let next = next_inside w taken n (binders q) in
      entered_below st ch q l m n.next (inside w taken n (binders q)).next order (omega (arith, next)) (below_more l n.next (inside w taken n (binders q)).next (omega (arith, next)) below)

  pub past_below : (n : Names) (taken : Bool) (q : Pattern) (body : Block) (l : Known) → Below l n.next → Below l (past_clause w taken n q body).next
  past_below n taken q body l below = below_more l n.next (past_clause w taken n q body).next (let past = next_past w taken n q body in omega (arith, past)) below

  pub let_below_later : (n : Names) (e : Expression) (bs : List Binder) (rs : List ℕ) (m : Known) → InOrder (following n (shape w n e)).next bs → Below m (following n (shape w n e)).next → Below (with_names m bs rs) (inside w true (following n (shape w n e)) bs).next
  let_below_later n e bs rs m order below =
      let n1 = following n (shape w n e) in
      let next = next_inside w true n1 bs in
      lets_below bs rs m n1.next (inside w true n1 bs).next order (omega (arith, next)) (below_more m n1.next (inside w true n1 bs).next (omega (arith, next)) below)

  pub let_below : (n : Names) (e : Expression) (bs : List Binder) (rs : List ℕ) (m : Known) → InOrder (following n (shape w n e)).next bs → Below m n.next → Below (with_names m bs rs) (inside w true (following n (shape w n e)) bs).next
  let_below n e bs rs m order below = let_below_later n e bs rs m order (below_more m n.next (following n (shape w n e)).next (later n e) below)

  -- ---- what is owned beside a match

  record Beside (ch : Choice) (l : Known) (X : Item → ℕ) (o : Expression) : Type 0 where
    pub unused : (r : ℕ) → 1 ≤ owners l.names (own X) r → IsUnused st l o r
    pub enough : (i : ℕ) → 0 < i → X (Credit i) ≤ length (of_size i l.credits) - need st i o
    pub apart : ch.takes ≡ true → (r : ℕ) → IsUnused st l o r → r ≡ register ch.root → ⊥

  beside_match : (s : Scope) (sc : Scalars) (n : Names) (B : ℕ → Bool) (K : ℕ → Item → ℕ) → Placed c s sc n → (P X : Item → ℕ) (k l : Known) (o : Expression) (b : Bool) (ts : List ℕ) → Types true wd s b o ts → Derives fip B P (term w sc n o) → Numbered w N n o → Ties fip c.types s B K (λ i. P i + X i) (λ q. 0) k → Below k n.next → l.names ≡ k.names → l.credits ≡ k.credits → (ch : Choice) → (ch.takes ≡ true → (r : ℕ) → IsUnused st l o r → r ≡ register ch.root → ⊥) → Beside ch l X o
  beside_match s sc n B K placed P X k l o b ts typed d num ties below names credits ch apart = record { unused = unused; enough = enough; apart = apart }
    where
      both_own : (r : ℕ) → owners k.names (own (λ i. P i + X i)) r ≡ owners k.names (own P) r + owners k.names (own X) r
      both_own r = owners_sum k.names (own P) (own X) r

      owned_tree : (r : ℕ) → 1 ≤ owners k.names (own X) r → is_tree (held_at k.held r) ≡ true
      owned_tree r more =
          let le = fits_le fip (one_if (is_tree (held_at k.held r))) (owners k.names (own (λ i. P i + X i)) r + 0) (ties.trees r) in
          let sum = both_own r in
          one_positive (is_tree (held_at k.held r)) (owners k.names (own X) r) (omega (arith, le, sum)) more

      once : (b : Bool) → one_if b ≤ 1
      once true = omega arith
      once false = omega arith

      no_scalar : (h : Held) (t : ℕ) → h ≡ H.Scalar t → is_tree h ≡ true → ⊥
      no_scalar h t e tree = true≢false (sym tree ∙ ap is_tree e)

      unused : (r : ℕ) → 1 ≤ owners l.names (own X) r → IsUnused st l o r
      unused r more x is = by (used_in st.instances x o) refl
        where
          there : register_of k.names (Some x) ≡ Some r
          there = ap (λ ns. register_of ns (Some x)) (sym names) ∙ is

          owned : 1 ≤ owners k.names (own X) r
          owned = subst (λ ns. 1 ≤ owners ns (own X) r) names more

          by : (u : Bool) → used_in st.instances x o ≡ u → u ≡ false
          by false e = refl
          by true e =
              let a = used_asks c st wd w shares callees s sc n N placed b o ts x (below x r there) typed num e in
              absurd (elim (or_not (is_scalar_type c.types a.type)) as (λ v. ⊥) [
                | inl scalar ↦ no_scalar (held_at k.held r) a.type ((ties.variables x r a.type there a.there).scalar scalar) (owned_tree r owned)
                | inr tree ↦
                    (let often = a.often tree in
                    let asked = asks_le fip B P (term w sc n o) d (Own x) in
                    let least = owners_least k.names (own P) x r there in
                    let le = fits_le fip (one_if (is_tree (held_at k.held r))) (owners k.names (own (λ i. P i + X i)) r + 0) (ties.trees r) in
                    let sum = both_own r in
                    let one = once (is_tree (held_at k.held r)) in
                    let z : ⊥ = omega (arith, often, asked, least, le, sum, one, owned) in
                    z)
              ])

      enough : (i : ℕ) → 0 < i → X (Credit i) ≤ length (of_size i l.credits) - need st i o
      enough i low =
          let needs = needs_asks c st wd w shares callees i low s sc n N placed b o ts typed num in
          let asked = asks_le fip B P (term w sc n o) d (Credit i) in
          let le = fits_le fip (sized i k.credits) (P (Credit i) + X (Credit i)) (ties.sizes i) in
          let many = length_size i l.credits in
          let same : sized i l.credits ≡ sized i k.credits = ap (sized i) credits in
          omega (arith, needs, asked, le, many, same)

  -- ---- trees that aren't used up

  -- a tree stays where no variable that has its register is used
  abbrev pub Stay : Known → Known → (ℕ → Bool) → Type 0
  Stay k l used = (r : ℕ) → is_tree (held_at k.held r) ≡ true → ((x : ℕ) → register_of k.names (Some x) ≡ Some r → used x ≡ false) → widened (held_at l.held r) ≡ widened (held_at k.held r)

  -- results came into registers, and in fbip trees that aren't used stay, and so do all credits but as many as are needed
  pub record Done (s : Scope) (B : ℕ → Bool) (K : ℕ → Item → ℕ) (X : Item → ℕ) (at : ℕ) (k : Known) (ds ts : List ℕ) (end : ℕ) (l : Known) (used : ℕ → Bool) (needs : ℕ → ℕ) : Type 0 where
    pub delivered : Delivered c f fip s B K X at k ds ts end l
    pub unused : fip ≡ false → Stay k l used
    pub bottom : fip ≡ false → (i : ℕ) → 0 < i → Bottom i (needs i) k.credits l.credits

  -- what clauses use and need the match does
  record Belongs (ch : Choice) (o : Expression) (cs : Clauses) : Type 0 where
    pub uses : (x : ℕ) → used_in_clauses st.instances x cs ≡ true → used_in st.instances x o ≡ true
    pub needs : (i : ℕ) → need_clauses st i ch.takes cs ≤ need st i o

  or_left : (a b : Bool) → a ≡ true → (a || b) ≡ true
  or_left true b e = refl
  or_left false b e = absurd (true≢false (sym e))

  or_right : (a b : Bool) → b ≡ true → (a || b) ≡ true
  or_right true b e = refl
  or_right false b e = e

  or_false : (a : Bool) → a ≡ false → (a || false) ≡ false
  or_false true e = e
  or_false false e = refl

  neither : (a b : Bool) → (a || b) ≡ false → (a ≡ false) × (b ≡ false)
  neither true b e = absurd (true≢false e)
  neither false b e = (refl, e)

  and_left : (a b : Bool) → (a && b) ≡ true → a ≡ true
  and_left true b e = refl
  and_left false b e = absurd (true≢false (sym e))

  variable_uses : (a : Argument) (v : Option ℕ) (x : ℕ) → variable_of a ≡ Some v → v ≡ Some x → uses x a ≡ true
  variable_uses (Variable y n p) v x is e = ap (λ o. is_number o x) (same_Some y v is ∙ e) ∙ Rattle.separation.proofs.separation_kinds.Basics.itself x
  variable_uses (Literal i p) v x is e = absurd (cc)
  variable_uses (Constructor t d k n p as') v x is e = absurd (cc)

  later_belongs : (ch : Choice) (o : Expression) (q : Pattern) (b : Block) (cs : Clauses) → Belongs ch o (MoreClauses q b cs) → Belongs ch o cs
  later_belongs ch o q b cs h = record {
    uses = λ x e. h.uses x (or_right (used_in_block st.instances x b) (used_in_clauses st.instances x cs) e);
    needs = λ i. (let a = h.needs i in let z = great_right (need_block st i b - given i ch.takes q) (need_clauses st i ch.takes cs) in omega (arith, a, z));
  }

  clause_low : (ch : Choice) (l : Known) (o : Expression) (q : Pattern) (body : Block) (m : ℕ) (mk : Known) → Roomy q ch.root → ((i : ℕ) → need_block st i body - given i ch.takes q ≤ need st i o) → ((i : ℕ) → 0 < i → Bottom i (need_block st i body) (entered st ch q l m).credits mk.credits) → (i : ℕ) → 0 < i → Bottom i (need st i o) l.credits mk.credits
  clause_low ch l o q body m mk room le low i some = entry_bottom i some st ch q l m (need_block st i body) (need st i o) mk.credits room (le i) (low i some)

  clause_stays : (s : Scope) (sc : Scalars) (n : Names) (B : ℕ → Bool) (K : ℕ → Item → ℕ) (X L : Item → ℕ) (R : Item → ℕ) → NoneFrom n.next (λ i. R i + X i) → (u : ℕ) (taken : Bool) (ch : Choice) (k l : Known) (q0 : Pattern) (cs0 : Clauses) → MatchOn c st wd w shares callees f fip taken s B K R X L u ch k l q0 cs0 → (o : Expression) → (ch.takes ≡ true → (r : ℕ) → IsUnused st l o r → r ≡ register ch.root → ⊥) → (q : Pattern) (body : Block) (Q : Item → ℕ) (m : ℕ) → InOrder n.next (binders q) → OpensBy c st wd w shares callees f fip taken (variables w n.next (binders q)) (nodes q) R Q → ClauseBegins c st wd w shares callees f fip s sc n taken u q B (reading taken (variables w n.next (binders q)) L K) Q X l (entered st ch q l m) → (b : Bool) (ts : List ℕ) → TypesBlock true wd (s ++ bound_by wd (Some u) q) b body ts → NumberedBlock w N (inside w taken n (binders q)) body → Derives fip (O.setting (variables w n.next (binders q)) (not taken) B) Q (term_block w (entering w n.next sc (binders q)) (inside w taken n (binders q)) body) → Below (entered st ch q l m) (inside w taken n (binders q)).next → ((x : ℕ) → used_in_block st.instances x body ≡ true → used_in st.instances x o ≡ true) → (mk : Known) → Stay (entered st ch q l m) mk (λ x. used_in_block st.instances x body) → (r : ℕ) → is_tree (held_at l.held r) ≡ true → IsUnused st l o r → widened (held_at mk.held r) ≡ widened (held_at l.held r)
  clause_stays s sc n B K X L R none u taken ch k l q0 cs0 on o apart q body Q m order opens cb b ts typed num d below belongs mk stay r tree unused =
      stay r tree_e (λ x is. unused_body x is) ∙ (ap widened here ∙ twice (held_at l.held r))
    where
      off : Among r (Spots.below ch.root) → ⊥
      off a = true≢false (sym tree ∙ ap is_tree (on.match_stands.unused r a).0)

      root_apart : ch.takes ≡ true → r ≡ register ch.root → ⊥
      root_apart t e = apart t r unused e

      here : held_at (entered st ch q l m).held r ≡ widened (held_at l.held r)
      here = entry_tree st ch q l m r on.match_stands.within off root_apart tree

      tree_e : is_tree (held_at (entered st ch q l m).held r) ≡ true
      tree_e = ap is_tree here ∙ (wide_tree (held_at l.held r) ∙ tree)

      no_scalar : (h : Held) (t : ℕ) → h ≡ H.Scalar t → is_tree h ≡ true → ⊥
      no_scalar h t e some = true≢false (sym some ∙ ap is_tree e)

      read : taken ≡ false → (x : ℕ) → register_of (entered st ch q l m).names (Some x) ≡ Some r → used_in_block st.instances x body ≡ true → ⊥
      read off' x is e =
          let asked = block_asks c st wd w shares callees (s ++ bound_by wd (Some u) q) (entering w n.next sc (binders q)) (inside w taken n (binders q)) N cb.placed b body ts x (below x r is) typed num e in
          elim (or_not (is_scalar_type c.types asked.type)) as (λ v. ⊥) [
            | inl scalar ↦ no_scalar (held_at (entered st ch q l m).held r) asked.type ((cb.ties.variables x r asked.type is asked.there).scalar scalar) tree_e
            | inr some ↦
                (let often = asked.often some in
                let le = asks_le fip (O.setting (variables w n.next (binders q)) (not taken) B) Q (term_block w (entering w n.next sc (binders q)) (inside w taken n (binders q)) body) d (Own x) in
                elim (less_or_not x n.next) as (λ v. ⊥) [
                  | inl low ↦ true≢false (sym (belongs x e) ∙ unused x (root_old st ch.takes x q ch.root (record l { next = m }) n.next r order low is))
                  | inr high ↦ (let zero = lent_none x high in let z : ⊥ = omega (arith, often, le, zero) in z)
                ])
          ]
        where
          opened : Opens fip false (variables w n.next (binders q)) [] R Q
          opened = subst (λ t. OpensBy c st wd w shares callees f fip t (variables w n.next (binders q)) (nodes q) R Q) off' opens

          lent_none : (x : ℕ) → n.next ≤ x → Q (Own x) ≡ 0
          lent_none x high = elim (or_not (has (variables w n.next (binders q)) x)) as (λ v. Q (Own x) ≡ 0) [
            | inl y ↦ opened.bound x y
            | inr y ↦ (let a = fits_le fip (R (Own x)) (Q (Own x)) (opened.others x y) in let z = none x high in omega (arith, a, z))
          ]

      unused_body : (x : ℕ) → register_of (entered st ch q l m).names (Some x) ≡ Some r → used_in_block st.instances x body ≡ false
      unused_body x is = by (used_in_block st.instances x body) refl
        where
          at_root : (y : Bool) → ch.takes ≡ y → used_in_block st.instances x body ≡ true → r ≡ register ch.root → ⊥
          at_root true t e same = root_apart t same
          at_root false t e same = read (sym on.takes ∙ t) x is e

          by : (u : Bool) → used_in_block st.instances x body ≡ u → u ≡ false
          by false e = refl
          by true e = absurd (elim (entered_new st ch q l m x r is) as (λ v. ⊥) [
            | inl old ↦ true≢false (sym (belongs x e) ∙ unused x old)
            | inr new ↦ elim new as (λ v. ⊥) [
              | inl same ↦ at_root ch.takes refl e same
              | inr a ↦ off a
            ]
          ])

  tree_barely : (g h : Rattle.lowering_relation.specs.Describing.Holding) (r : ℕ) → Barely g h → is_tree (g r) ≡ true → h r ≡ g r
  tree_barely g h r x tree = elim (x r) as (λ v. h r ≡ g r) [
    | inl same ↦ same
    | inr gone ↦ absurd (no_bare (g r) gone.0 tree)
  ]
    where
      no_bare : (h : Held) → is_bare h ≡ true → is_tree h ≡ true → ⊥
      no_bare H.Nothing a b = true≢false (sym a)
      no_bare (H.Scalar t) a b = true≢false (sym a)
      no_bare (H.Owned t x) a b = true≢false (sym a)
      no_bare (H.Lent t root) a b = true≢false (sym a)
      no_bare (H.Credit n) a b = true≢false (sym a)
      no_bare (H.Bare t x) a b = true≢false (sym b)

  named_stay : fip ≡ false → (s : Scope) (sc : Scalars) (n : Names) (B : ℕ → Bool) (K : ℕ → Item → ℕ) → Placed c s sc n → (P X : Item → ℕ) (at : ℕ) (k : Known) (e : Expression) (rs : List ℕ) (mid : ℕ) (m : Known) (b : Bool) (us : List ℕ) → NamedLaid c st f at k e rs mid m → Types true wd s b e us → Derives fip B P (term w sc n e) → ((z y : ℕ) → K z (Own y) ≤ X (Own y)) → Ties fip c.types s B K (λ i. P i + X i) (λ q. 0) k → length k.held ≡ f.registers → (r : ℕ) → is_tree (held_at k.held r) ≡ true → ((x : ℕ) → register_of k.names (Some x) ≡ Some r → used_in st.instances x e ≡ false) → (held_at m.held r ≡ held_at k.held r) × (Among r rs → ⊥)
  named_stay weak s sc n B K placed P X at k (Give a) rs mid m b us h typed d kept ties wide r tree none =
      values_stay c st wd w shares callees f s sc n B K placed fip weak P X at k (MoreArguments a NoArguments) rs mid m b (typed.0 ∷ []) h.values (typed.2, tt) d kept ties h.quiet wide r tree (λ x is. or_false (uses x a) (none x is))
  named_stay weak s sc n B K placed P X at k (Tuple p as') rs mid m b us h typed d kept ties wide r tree none =
      values_stay c st wd w shares callees f s sc n B K placed fip weak P X at k as' rs mid m b us h.values typed.1 d kept ties h.quiet wide r tree none
  named_stay weak s sc n B K placed P X at k (Operation o p x y) rs mid m b us h typed d kept ties wide r tree none = absurd h
  named_stay weak s sc n B K placed P X at k (Call g l p as') rs mid m b us h typed d kept ties wide r tree none = absurd h
  named_stay weak s sc n B K placed P X at k (Match g t p a q body cs) rs mid m b us h typed d kept ties wide r tree none = absurd h
  named_stay weak s sc n B K placed P X at k (Nested body) rs mid m b us h typed d kept ties wide r tree none = absurd h

  -- a register that a let's bound expression doesn't use isn't used in what follows, where it isn't one of its own
  let_unused : (s : Scope) (sc : Scalars) (n : Names) (e : Expression) (bs : List Binder) (us : List ℕ) (B : ℕ → Bool) (K : ℕ → Item → ℕ) (R Q X : Item → ℕ) (rest : Block) (b : Bool) (ts : List ℕ) (m k : Known) (ds rs : List ℕ) (r x : ℕ) → Types true wd s (all_annotated bs) e us → Bind true bs us → InOrder (following n (shape w n e)).next bs → NumberedBlock w N (inside w true (following n (shape w n e)) bs) rest → TypesBlock true wd (s ++ entries bs (map Some us)) b rest ts → Placed c (s ++ entries bs (map Some us)) (entering w (following n (shape w n e)).next sc bs) (inside w true (following n (shape w n e)) bs) → Below m (following n (shape w n e)).next → Below (with_names m bs rs) (inside w true (following n (shape w n e)) bs).next → Keeps s (λ i. R i + X i) (reserved k bs) m → (Among r rs → ⊥) → ((x : ℕ) → register_of k.names (Some x) ≡ Some r → (used_in st.instances x e || used_in_block st.instances x rest) ≡ false) → register_of (with_names m bs rs).names (Some x) ≡ Some r → used_in_block st.instances x rest ≡ false
  let_unused s sc n e bs us B K R Q X rest b ts m k ds rs r x typed_e bind order num typed placed below_m below_after keeps off none is = by (used_in_block st.instances x rest) refl
    where
      old : used_in_block st.instances x rest ≡ true → register_of m.names (Some x) ≡ Some r → ⊥
      old e' was =
          let asked = block_asks c st wd w shares callees (s ++ entries bs (map Some us)) (entering w (following n (shape w n e)).next sc bs) (inside w true (following n (shape w n e)) bs) N placed b rest ts x (below_after x r is) typed num e' in
          let scope = sym (let_scope c st wd w shares callees s n e bs us x order bind (below_m x r was)) ∙ asked.there in
          true≢false (sym e' ∙ (neither (used_in st.instances x e) (used_in_block st.instances x rest) (none x (keeps.old x asked.type r scope was))).1)

      by : (u : Bool) → used_in_block st.instances x rest ≡ u → u ≡ false
      by false e' = refl
      by true e' = absurd (elim (let_either m.names bs rs x r is) as (λ v. ⊥) [
        | inl was ↦ old e' was
        | inr new ↦ off new
      ])

  mutual
    pub into : (s : Scope) (sc : Scalars) (n : Names) (B : ℕ → Bool) (K : ℕ → Item → ℕ) → Placed c s sc n → (P X : Item → ℕ) (at : ℕ) (k : Known) (e : Expression) (ds : List ℕ) (end : ℕ) (l : Known) (b : Bool) (ts : List ℕ) → ExpressionLaid c st fip f at k e (Into ds) end l → Types true wd s b e ts → Derives fip B P (term w sc n e) → Numbered w N n e → Below k n.next → ((z y : ℕ) → K z (Own y) ≤ X (Own y)) → NoneFrom n.next (λ i. P i + X i) → Ties fip c.types s B K (λ i. P i + X i) (λ q. 0) k → Waiting k ds → length ds ≡ length ts → length k.names ≡ N → length k.held ≡ f.registers → Done s B K X at k ds ts end l (λ x. used_in st.instances x e) (λ i. need st i e)
    into s sc n B K placed P X at k (Give a) ds end l b ts h typed d num below kept none ties wait many names wide = record {
      delivered = subst (λ ts. Delivered c f fip s B K X at k ds ts end l) (sym typed.1)
          (settled c f fip s B K X at k ds (typed.0 ∷ []) end l (give_into c f st wd w fip shares callees s sc n B K placed P X (λ q. 0) at k (MoreArguments a NoArguments) ds end l b (typed.0 ∷ []) h (typed.2, tt) d kept ties wait (many ∙ ap length typed.1) wide));
      unused = λ weak r tree none. ap widened
          (give_stays c st wd w shares callees f s sc n B K placed fip weak P X at k (MoreArguments a NoArguments) ds end l b (typed.0 ∷ []) h (typed.2, tt) d kept ties wait (many ∙ ap length typed.1) wide r tree (λ x is. or_false (uses x a) (none x is)));
      bottom = λ weak i some. one_bottom i some c f st fip at k a ds end l h;
    }
    into s sc n B K placed P X at k (Tuple p as') ds end l b ts h typed d num below kept none ties wait many names wide = record {
      delivered = settled c f fip s B K X at k ds ts end l (give_into c f st wd w fip shares callees s sc n B K placed P X (λ q. 0) at k as' ds end l b ts h typed.1 d kept ties wait many wide);
      unused = λ weak r tree none. ap widened (give_stays c st wd w shares callees f s sc n B K placed fip weak P X at k as' ds end l b ts h typed.1 d kept ties wait many wide r tree none);
      bottom = λ weak i some. give_bottom i some c f st fip at k as' ds end l h;
    }
    into s sc n B K placed P X at k (Operation o p x y) ds end l b ts h typed d num below kept none ties wait many names wide = record {
      delivered = subst (λ ts. Delivered c f fip s B K X at k ds ts end l) (sym typed.0)
          (settled c f fip s B K X at k ds (W.result_of o ∷ []) end l (operator_into c f st wd w fip shares callees s sc n B K placed P X (λ q. 0) at k o p x y ds end l h typed.1 typed.2 d kept ties wait (many ∙ ap length typed.0) wide));
      unused = λ weak r tree none. ap widened (operator_stays c st wd w shares callees f s sc n B K placed fip weak P X at k o p x y ds end l h typed.1 typed.2 d kept ties wait (many ∙ ap length typed.0) wide r tree);
      bottom = λ weak i some. operator_bottom i some c f st fip at k o p x y ds end l h;
    }
    into s sc n B K placed P X at k (Call g nm p as') ds end l b ts h typed d num below kept none ties wait many names wide = record {
      delivered = subst (λ ts. Delivered c f fip s B K X at k ds ts end l) (sym typed.0)
          (settled c f fip s B K X at k ds (W.head wd g).results end l (called_into c f st wd w fip shares callees s sc n B K placed P X (λ q. 0) at k g as' ds end l h typed.1 d.1 kept ties wait (many ∙ ap length typed.0) wide));
      unused = λ weak r tree none. ap widened (call_stays c st wd w shares callees f s sc n B K placed fip weak P X at k g as' ds end l h typed.1 d.1 kept ties wait (many ∙ ap length typed.0) wide r tree none);
      bottom = λ weak i some. called_bottom i some c f st fip at k g as' ds end l h;
    }
    into s sc n B K placed P X at k (Match g t p a q body cs) ds end l b ts h typed d num below kept none ties wait many names wide =
        let taken = takes w g t in
        let k0 = h.1 in
        let ch = h.2 in
        let l1 = h.3 in
        let e = h.4 in
        let m = h.5 in
        let next = h.8 in
        let left = h.9 in
        let met = h.10 in
        let entry = h.14 in
        let meets = h.18 in
        let u = typed.0 in
        let ys = variables w n.next (binders q) in
        let bare = bared c f fip s B K (λ i. P i + X i) (λ q. 0) (λ z y. (let a = kept z y in omega (arith, a))) h.11.steps at k h.0 k0 h.11.gives ties h.12 in
        let laid : MatchLaid c st f h.0 k0 g u a q cs ch l1 e = subst (λ t. MatchLaid c st f h.0 k0 g t a q cs ch l1 e) typed.1 h.13 in
        let x = scrutinee c wd w s sc n a laid.variable false u placed laid.is_variable typed.2 in
        let utyped = placed.typed x.number u x.scope in
        let scalar = ap w.scalar typed.1 ∙ callees.scalars u utyped in
        let tb = term_block w (entering w n.next sc (binders q)) (inside w taken n (binders q)) body in
        let own = owner c st wd w shares callees f fip taken s sc n B K P X k0 a laid.variable u (register ch.root)
        (clauses w sc taken (past_clause w taken n q body) ys (nodes q) tb cs)
        kept x (λ e. sym scalar ∙ not_true (w.scalar t) (and_right g (not (w.scalar t)) e)) laid.begins.named d none bare.ties in
        let used = bare.ties.named x.number (register ch.root) (ap (Rattle.lowering_relation.specs.Known.register_of k0.names) (sym x.is) ∙ laid.begins.named) in
        let names0 : length k0.names ≡ N = ap length bare.names ∙ names in
        let wide0 = bare.width ∙ wide in
        let on = match_on c st wd w shares callees f fip taken s B K own.owned X own.read u g h.0 a ch k0 l1 q cs e ts laid (ap (λ b. g && not b) (shares.scalars u utyped ∙ sym scalar)) utyped typed.3 typed.5 used wide0 own.stands (all_met c st wd w shares callees f fip ch l1 (Match g t p a q body cs) q cs e m ds end left next met laid.patterns entry h.17) in
        let fb = first_by taken sc n B own.owned (past_clause w taken n q body) ys (nodes q) tb cs own.derives in
        let room = num.1 in
        let many_names = on.names in
        let cb = on_entry s sc n B K X own.read kept own.least placed own.owned own.none u utyped taken ch k0 l1 q cs on q fb.0 m fb.1 typed.3 (laid.begins.roomy 0 q (ap (λ ps. slice_get ps 0) laid.patterns)) num.0 (omega (arith, room, many_names, names0)) entry.more in
        let from = before_clause s sc n B K X own.read kept own.least placed own.owned own.none u utyped taken ch k0 l1 q cs on q typed.3 num.0 in
        let same_next = bare.next in
        let empty0 : (r : ℕ) → suc r ≤ k.next → held_at k.held r ≡ H.Nothing → held_at k0.held r ≡ H.Nothing = λ r low z. barely_nothing (held_at k.held) (held_at k0.held) r bare.each z in
        let wait0 = waits_on k k0 ds wait (omega (arith, same_next)) (λ r i. let z = waiting_among k ds r wait i in empty0 r z.1 z.0) in
        let empty1 : (r : ℕ) → suc r ≤ k0.next → held_at k0.held r ≡ H.Nothing → held_at l1.held r ≡ H.Nothing = λ r low z. wide_empty (held_at l1.held r) (on.same_held r ∙ ap widened z) in
        let below1 = below_same k l1 n.next (on.same_names ∙ bare.names) below in
        let apart : ch.takes ≡ true → (r : ℕ) → IsUnused st l1 (Match g t p a q body cs) r → r ≡ register ch.root → ⊥ = λ takes r free same. (
        let named = ap (λ ns. register_of ns (Some x.number)) on.same_names ∙ (ap (register_of k0.names) (sym x.is) ∙ (laid.begins.named ∙ ap Some (sym same))) in
        let used = or_left (g && uses x.number a) (used_in_block st.instances x.number body || used_in_clauses st.instances x.number cs) (ap (λ b. b && uses x.number a) (and_left g (not (w.scalar t)) (sym on.takes ∙ takes)) ∙ variable_uses a laid.variable x.number laid.is_variable x.is) in
        true≢false (sym used ∙ free x.number named)) in
        let takes_same : ch.takes ≡ gives_credits st g t = h.13.takes in
        let belongs : Belongs ch (Match g t p a q body cs) cs = record {
          uses = λ x e. or_right (g && uses x a) (used_in_block st.instances x body || used_in_clauses st.instances x cs) (or_right (used_in_block st.instances x body) (used_in_clauses st.instances x cs) e);
          needs = λ i. (let z = great_right (need_block st i body - given i (gives_credits st g t) q) (need_clauses st i (gives_credits st g t) cs) in let y = ap (λ b. need_clauses st i b cs) takes_same in omega (arith, z, y));
        } in
        let roomy = laid.begins.roomy 0 q (ap (λ ps. slice_get ps 0) laid.patterns) in
        let belowq = entry_below n taken q ch l1 m num.0 below1 in
        let beside = beside_match s sc n B K placed P X k0 l1 (Match g t p a q body cs) b ts typed d num bare.ties (below_same k k0 n.next bare.names below) on.same_names on.same_credits ch apart in
        let waits = entry_waits c st wd w shares callees f fip s sc n B K X own.read kept placed own.owned own.none u taken ch k0 l1 q cs on q m ds entry.more empty1 wait0 in
        let got = block_into (s ++ bound_by wd (Some u) q) (entering w n.next sc (binders q)) (inside w taken n (binders q)) (O.setting ys (not taken) B) (reading taken ys own.read K) cb.placed fb.0 X e (entered st ch q l1 m) body ds h.6 h.7 b ts h.15 typed.4 fb.2 num.2 belowq (reading_kept taken ys own.read X K kept own.least) cb.none cb.ties waits many (cb.names ∙ (many_names ∙ names0)) (cb.width ∙ (on.width ∙ wide0)) in
        let done = clause_done c st wd w shares callees f fip s sc n B K X own.read kept placed own.owned own.none u taken ch k0 l1 q cs on q m fb.0 num.0 entry.more cb from.back from.borrowed from.lends e h.6 h.7 ds ts got.delivered (Match g t p a q body cs) beside.unused beside.enough cs end next left h.16
        (λ weak. clause_stays s sc n B K X own.read own.owned own.none u taken ch k0 l1 q cs on (Match g t p a q body cs) apart q body fb.0 m num.0 fb.1 cb b ts typed.4 num.2 fb.2 belowq (λ x e. or_right (g && uses x a) (used_in_block st.instances x body || used_in_clauses st.instances x cs) (or_left (used_in_block st.instances x body) (used_in_clauses st.instances x cs) e)) h.7 (got.unused weak))
        (λ weak. clause_low ch l1 (Match g t p a q body cs) q body m h.7 roomy (λ i. let z = great_left (need_block st i body - given i (gives_credits st g t) q) (need_clauses st i (gives_credits st g t) cs) in let y = ap (λ b. given i b q) takes_same in omega (arith, z, y)) (got.bottom weak)) in
        let rest = clauses_into s sc (past_clause w taken n q body) B K X own.read kept own.least (past_placed s sc n taken q body placed) own.owned (past_none n taken q body (λ i. own.owned i + X i) own.none) u utyped taken ch k0 l1 q cs on (Match g t p a q body cs) beside 1 cs belongs
        (λ j r there. laid.begins.roomy (suc j) r (ap (λ ps. slice_get ps (suc j)) laid.patterns ∙ there)) ys (nodes q) tb ds ts end left next met h.17 typed.5 own.derives num.3 (past_below n taken q body l1 below1) empty1 wait0 many (many_names ∙ names0) (on.width ∙ wide0) done.arrived in
        record {
          delivered =
              match_delivered (Match g t p a q body cs) s B K X at k h.0 k0 l1 met ds ts end l bare.grows bare.part (ap length bare.names) bare.width same_next (barely_keeps s X k k0 bare.each bare.names bare.credits) empty0 on.grows many_names on.width (keeps_held s X k0 l1 (λ r z. on.same_held r) on.same_names on.same_credits) empty1 rest.arrived meets
              (meet_part c f h.0 (reported c k0) end (reported c l) (let x = match_grows c st f ch l1 on.match_stands h.0 laid.mid laid.first in let y = sides_grow c st f ch l1 on.match_stands laid.more laid.mid e laid.sides in let z = done.grows in let v = rest.grows in omega (arith, x, y, z, v)) meets.map meets.label (λ caught. rest.code l caught (meets_spares met l meets.next meets.known) h.0 (reported c k0)
              (match_any c st wd w shares callees f fip (Reached c f end (reported c l) cs next) (reached_stretch c f end (reported c l) cs next) (reached_part c f end (reported c l) cs next) h.0 k0 g u a q cs ch l1 e m laid on.match_stands on.entries entry
              (done.code l caught (spares_on left met l rest.spares (meets_spares met l meets.next meets.known))))));
          unused = λ weak r tree none. (
              let first : held_at k0.held r ≡ held_at k.held r = tree_barely (held_at k.held) (held_at k0.held) r bare.each tree in
              let same_l : widened (held_at l1.held r) ≡ widened (held_at k.held r) = on.same_held r ∙ ap widened first in
              let tree_l : is_tree (held_at l1.held r) ≡ true = sym (wide_tree (held_at l1.held r)) ∙ (ap is_tree same_l ∙ (wide_tree (held_at k.held r) ∙ tree)) in
              let met_stays = (rest.arrived.by weak).stays r tree_l (λ x is. none x (ap (λ ns. register_of ns (Some x)) (sym (on.same_names ∙ bare.names)) ∙ is)) in
              ap (λ (l : Known). widened (held_at l.held r)) meets.known ∙ (ap widened met_stays ∙ (twice (held_at l1.held r) ∙ same_l)));
          bottom = λ weak i some. match_bottom i some c f st fip at k h.0 k0 g t a q cs ch l1 e (need st i (Match g t p a q body cs)) met l h.11 h.13 ((rest.arrived.by weak).credits i some) (ap (λ (l : Known). l.credits) meets.known);
        }
    into s sc n B K placed P X at k (Nested body) ds end l b ts h typed d num below kept none ties wait many names wide =
        block_into s sc n B K placed P X at k body ds end l b ts h typed d num below kept none ties wait many names wide

    pub block_into : (s : Scope) (sc : Scalars) (n : Names) (B : ℕ → Bool) (K : ℕ → Item → ℕ) → Placed c s sc n → (P X : Item → ℕ) (at : ℕ) (k : Known) (d : Block) (ds : List ℕ) (end : ℕ) (l : Known) (b : Bool) (ts : List ℕ) → BlockLaid c st fip f at k d (Into ds) end l → TypesBlock true wd s b d ts → Derives fip B P (term_block w sc n d) → NumberedBlock w N n d → Below k n.next → ((z y : ℕ) → K z (Own y) ≤ X (Own y)) → NoneFrom n.next (λ i. P i + X i) → Ties fip c.types s B K (λ i. P i + X i) (λ q. 0) k → Waiting k ds → length ds ≡ length ts → length k.names ≡ N → length k.held ≡ f.registers → Done s B K X at k ds ts end l (λ x. used_in_block st.instances x d) (λ i. need_block st i d)
    block_into s sc n B K placed P X at k (Last e) ds end l b ts h typed d num below kept none ties wait many names wide =
        into s sc n B K placed P X at k e ds end l b ts h typed d num below kept none ties wait many names wide
    block_into s sc n B K placed A X at k (Let bs e rest) ds end l b ts (inl h) typed d num below kept none ties wait many names wide =
        let P = d.0 in
        let R = d.1 in
        let Q = d.2 in
        let rs = h.0 in
        let mid = h.1 in
        let m = h.2 in
        let us = typed.0 in
        let n1 = following n (shape w n e) in
        let D = O.setting (variables w n1.next bs) false B in
        let types = expression_types c st wd w shares callees s (all_annotated bs) e us placed.typed typed.1 in
        let parts = let_split s B K A P R X k d.3 ties in
        let comp = named_done s sc n (lending B R) (lent_in B K R) placed P (λ i. R i + X i) at k e rs mid m (all_annotated bs) us h.3 typed.1 d.5 (lent_kept B K R X kept)
        (ties_lending fip c.types s B K (λ i. P i + (R i + X i)) R (λ q. 0) k (λ x. omega arith) parts) wide in
        let same_names = ap length comp.names in
        let room = num.1 in
        let ent = enter s sc n1 bs us B K R Q X m rs (after_placed s sc n e (later n e) placed) num.0 (omega (arith, room, names, same_names)) typed.2 types d.4
        (none_later n e (λ i. R i + X i) (rest_none n.next P R X (split_none n.next A P R X d.3 none))) kept (unlent s B K R (λ i. R i + X i) (λ q. owed c.types rs us q + 0) m comp.ties) comp.hold in
        let after = with_names m bs rs in
        let waits = waits_on k after ds wait comp.next (λ r i. let a = waiting_among k ds r wait i in comp.empty r a.1 a.0) in
        let more = block_into (s ++ entries bs (map Some us)) (entering w n1.next sc bs) (inside w true n1 bs) D K ent.placed Q X mid after rest ds end l b ts h.4 typed.3 d.6 num.3 (let_below n e bs rs m num.0 (below_same k m n.next comp.names below)) kept ent.none ent.ties waits many (length_all_named m.names bs rs ∙ (same_names ∙ names)) (comp.width ∙ wide) in
        record {
          delivered =
              computed_rest s (s ++ entries bs (map Some us)) B D K (λ i. R i + X i) X at k rs us mid m bs ds ts end l n1.next (λ i. omega arith) (named_last at k e rs mid m h.3) num.0
              (none_let n e R X (none_later n e (λ i. R i + X i) (rest_none n.next P R X (split_none n.next A P R X d.3 none)))) (before_let s sc n e placed) (comp_plain s (lending B R) B (lent_in B K R) K (λ i. R i + X i) at k rs us mid m comp (unlent s B K R (λ i. R i + X i) (λ q. owed c.types rs us q + 0) m comp.ties)) more.delivered ent.back ent.same;
          unused = λ weak r tree none. (
              let kept_tree = named_stay weak s sc n (lending B R) (lent_in B K R) placed P (λ i. R i + X i) at k e rs mid m (all_annotated bs) us h.3 typed.1 d.5 (lent_kept B K R X kept)
              (ties_lending fip c.types s B K (λ i. P i + (R i + X i)) R (λ q. 0) k (λ x. omega arith) parts) wide r tree (λ x is. (neither (used_in st.instances x e) (used_in_block st.instances x rest) (none x is)).0) in
              more.unused weak r (ap is_tree kept_tree.0 ∙ tree) (λ x is. elim (let_either m.names bs rs x r is) as (λ v. used_in_block st.instances x rest ≡ false) [
                | inl old ↦ (neither (used_in st.instances x e) (used_in_block st.instances x rest) (none x (ap (λ ns. register_of ns (Some x)) (sym comp.names) ∙ old))).1
                | inr new ↦ absurd (kept_tree.1 new)
              ]) ∙ ap widened kept_tree.0);
          bottom = λ weak i some. bottom_on i (need st i e) (need_block st i rest) k.credits m.credits l.credits (named_bottom i some c f st fip at k e rs mid m h.3) (more.bottom weak i some);
        }
    block_into s sc n B K placed A X at k (Let bs e rest) ds end l b ts (inr h) typed d num below kept none ties wait many names wide =
        let P = d.0 in
        let R = d.1 in
        let Q = d.2 in
        let rs = registers_for k.next bs in
        let mid = h.0 in
        let m = h.1 in
        let us = typed.0 in
        let n1 = following n (shape w n e) in
        let D = O.setting (variables w n1.next bs) false B in
        let types = expression_types c st wd w shares callees s (all_annotated bs) e us placed.typed typed.1 in
        let parts = let_split s B K A P R X k d.3 ties in
        let more_next : k.next ≤ k.next + length bs = omega arith in
        let got = into s sc n (lending B R) (lent_in B K R) placed P (λ i. R i + X i) at (reserved k bs) e rs mid m (all_annotated bs) us h.2 typed.1 d.5 num.2 below (lent_kept B K R X kept)
        (split_none n.next A P R X d.3 none)
        (ties_reserved fip c.types s (lending B R) (lent_in B K R) (λ i. P i + (R i + X i)) (λ q. 0) k (k.next + length bs) more_next (ties_lending fip c.types s B K (λ i. P i + (R i + X i)) R (λ q. 0) k (λ x. omega arith) parts))
        (registers_wait k k.next (k.next + length bs) bs ties.fresh (omega arith)) (length_registers k.next bs ∙ bind_many bs us typed.2) names wide in
        let same_names = got.delivered.names in
        let room = num.1 in
        let ent = enter s sc n1 bs us B K R Q X m rs (after_placed s sc n e (later n e) placed) num.0 (omega (arith, room, names, same_names)) typed.2 types d.4
        (none_later n e (λ i. R i + X i) (rest_none n.next P R X (split_none n.next A P R X d.3 none))) kept (unlent s B K R (λ i. R i + X i) (λ q. owed c.types rs us q + 0) m got.delivered.ties) got.delivered.hold in
        let below_m = expression_below c f st fip w N n at (reserved k bs) e rs mid m n1.next h.2 num.2 (let z = next_after w n e in omega (arith, z)) below in
        let below_after = let_below_later n e bs rs m num.0 below_m in
        let after = with_names m bs rs in
        let waits = waits_on k after ds wait (let z = got.delivered.next in omega (arith, z)) (λ r i. let a = waiting_among k ds r wait i in let low = a.1 in got.delivered.empty r (omega (arith, low)) a.0 (registers_apart k bs r a.1)) in
        let more = block_into (s ++ entries bs (map Some us)) (entering w n1.next sc bs) (inside w true n1 bs) D K ent.placed Q X mid after rest ds end l b ts h.3 typed.3 d.6 num.3 below_after kept ent.none ent.ties waits many (length_all_named m.names bs rs ∙ (same_names ∙ names)) (got.delivered.width ∙ wide) in
        record {
          delivered =
              delivered_rest s (s ++ entries bs (map Some us)) B (lending B R) D K (lent_in B K R) (λ i. R i + X i) X at k (k.next + length bs) rs us mid m bs ds ts end l n1.next (λ i. omega arith) num.0
              (none_let n e R X (none_later n e (λ i. R i + X i) (rest_none n.next P R X (split_none n.next A P R X d.3 none)))) (before_let s sc n e placed) more_next got.delivered more.delivered (registers_apart k bs) ent.back ent.same;
          unused = λ weak r tree none. (
              let first = got.unused weak r tree (λ x is. (neither (used_in st.instances x e) (used_in_block st.instances x rest) (none x is)).0) in
              let tree_m : is_tree (held_at m.held r) ≡ true = sym (wide_tree (held_at m.held r)) ∙ (ap is_tree first ∙ (wide_tree (held_at k.held r) ∙ tree)) in
              more.unused weak r tree_m (λ x is. let_unused s sc n e bs us B K R Q X rest b ts m k ds rs r x typed.1 typed.2 num.0 num.3 typed.3 ent.placed below_m below_after got.delivered.keeps
              (λ a. absurd (let z = among_registers k.next r bs a in true≢false (sym tree ∙ ap is_tree (ties.fresh r z)))) none is) ∙ first);
          bottom = λ weak i some. bottom_on i (need st i e) (need_block st i rest) k.credits m.credits l.credits (got.bottom weak i some) (more.bottom weak i some);
        }

    -- the clauses after one
    clauses_into : (s : Scope) (sc : Scalars) (n : Names) (B : ℕ → Bool) (K : ℕ → Item → ℕ) (X L : Item → ℕ) → Kept K X → ((y : ℕ) → L (Own y) ≤ X (Own y)) → Placed c s sc n → (R : Item → ℕ) → NoneFrom n.next (λ i. R i + X i) → (u : ℕ) → is_type c.types u ≡ true → (taken : Bool) (ch : Choice) (k l : Known) (q0 : Pattern) (cs0 : Clauses) → MatchOn c st wd w shares callees f fip taken s B K R X L u ch k l q0 cs0 → (o : Expression) → Beside ch l X o → (i : ℕ) (cs : Clauses) → Belongs ch o cs → ((j : ℕ) (q : Pattern) → slice_get (clause_patterns cs) j ≡ Some q → Roomy q ch.root) → (ys ks : List ℕ) (te : Term) (ds ts : List ℕ) (end : ℕ) (j : Known) (at : ℕ) (met : Known) → ClausesMeet c st fip f ch l o i cs ds end j at met → TypesClauses true wd s u cs ts → DerivesBy c st wd w shares callees f fip taken B R (clauses w sc taken n ys ks te cs) → NumberedClauses w N taken n cs → Below l n.next → ((r : ℕ) → suc r ≤ k.next → held_at k.held r ≡ H.Nothing → held_at l.held r ≡ H.Nothing) → Waiting k ds → length ds ≡ length ts → length l.names ≡ N → length l.held ≡ f.registers → Arrived st o fip c.types s B K X l k.next ds ts j → ClausesDone st o c f fip s B K X l k.next ds ts cs end j at met
    clauses_into s sc n B K X L kept least placed R none u utyped taken ch k l q0 cs0 on o beside i NoClauses belongs roomy ys ks te ds ts end j at met h typed d num below empty wait many names wide arrived = record {
      grows = (let z = h.0 in omega (arith, z));
      arrived = subst (Arrived st o fip c.types s B K X l k.next ds ts) (sym h.1) arrived;
      spares = subst (Spares j) (sym h.1) (spares_same j);
      code = λ after caught spares at0 m0 code. code;
    }
    clauses_into s sc n B K X L kept least placed R none u utyped taken ch k l q0 cs0 on o beside i (MoreClauses q body cs) belongs roomy ys ks te ds ts end j at met h typed d num below empty wait many names wide arrived =
        let start = h.1 in
        let m = h.2 in
        let next = h.5 in
        let left = h.6 in
        let both = h.7 in
        let entry = h.9 in
        let zs = variables w n.next (binders q) in
        let tb = term_block w (entering w n.next sc (binders q)) (inside w taken n (binders q)) body in
        let later = rest_by taken B R ys ks te (clauses w sc taken (past_clause w taken n q body) zs (nodes q) tb cs) d in
        let fb = first_by taken sc n B R (past_clause w taken n q body) zs (nodes q) tb cs later in
        let room = num.1 in
        let cb = on_entry s sc n B K X L kept least placed R none u utyped taken ch k l q0 cs0 on q fb.0 m fb.1 typed.0 (roomy 0 q refl) num.0 (omega (arith, room, names)) entry.more in
        let from = before_clause s sc n B K X L kept least placed R none u utyped taken ch k l q0 cs0 on q typed.0 num.0 in
        let belowq = entry_below n taken q ch l m num.0 below in
        let waits = entry_waits c st wd w shares callees f fip s sc n B K X L kept placed R none u taken ch k l q0 cs0 on q m ds entry.more empty wait in
        let got = block_into (s ++ bound_by wd (Some u) q) (entering w n.next sc (binders q)) (inside w taken n (binders q)) (O.setting zs (not taken) B) (reading taken zs L K) cb.placed fb.0 X start (entered st ch q l m) body ds h.3 h.4 true ts h.10 typed.1 fb.2 num.2 belowq (reading_kept taken zs L X K kept least) cb.none cb.ties waits many (cb.names ∙ names) (cb.width ∙ wide) in
        let done = clause_done c st wd w shares callees f fip s sc n B K X L kept placed R none u taken ch k l q0 cs0 on q m fb.0 num.0 entry.more cb from.back from.borrowed from.lends start h.3 h.4 ds ts got.delivered o beside.unused beside.enough cs end next left h.11
        (λ weak. clause_stays s sc n B K X L R none u taken ch k l q0 cs0 on o beside.apart q body fb.0 m num.0 fb.1 cb true ts typed.1 num.2 fb.2 belowq (λ x e. belongs.uses x (or_left (used_in_block st.instances x body) (used_in_clauses st.instances x cs) e)) h.4 (got.unused weak))
        (λ weak. clause_low ch l o q body m h.4 (roomy 0 q refl) (λ i. let z = great_left (need_block st i body - given i ch.takes q) (need_clauses st i ch.takes cs) in let y = belongs.needs i in omega (arith, z, y)) (got.bottom weak)) in
        let meeting = joined st o fip c.types s B K (λ i. R i + X i) X (λ q. owing taken c.types u (register ch.root) q) l k.next ds ts (start_ties c st wd w shares callees f fip taken s B K R X L u (register ch.root) l on.stands) (λ i. omega arith) kept j left both arrived done.arrived h.12 in
        let rest = clauses_into s sc (past_clause w taken n q body) B K X L kept least (past_placed s sc n taken q body placed) R (past_none n taken q body (λ i. R i + X i) none) u utyped taken ch k l q0 cs0 on o beside (suc i) cs (later_belongs ch o q body cs belongs)
        (λ j r there. roomy (suc j) r there) zs (nodes q) tb ds ts end both next met h.13 typed.2 later num.3 (past_below n taken q body l below) empty wait many names wide meeting.arrived in record {
          grows = (let x = sides_grow c st f ch l on.match_stands h.0 at start h.8 in let y = done.grows in let z = rest.grows in omega (arith, x, y, z));
          arrived = rest.arrived;
          spares = spares_on j both met meeting.first rest.spares;
          code = λ after caught spares at0 m0 before. rest.code after caught spares at0 m0
              (reached_stretch c f end (reported c after) cs next at0 m0 start (reported c (entered st ch q l m)) (match_sides c st f ch l on.match_stands on.entries h.0 at0 m0 at start (last_stretch c f at0 m0 at before) h.8)
              (done.code after caught (spares_on left both after meeting.second (spares_on both met after rest.spares spares))));
        }

  -- ---- the function's results

  pub none_zero : (n : ℕ) (A P R : Item → ℕ) → ((i : Item) → Fits fip (A i) (P i + R i)) → NoneFrom n (λ i. A i + 0) → NoneFrom n (λ i. P i + (R i + 0))
  none_zero n A P R split none = split_none n A P R (λ i. 0) split none

  mutual
    ends : (s : Scope) (sc : Scalars) (n : Names) (B : ℕ → Bool) (K : ℕ → Item → ℕ) → Placed c s sc n → (P : Item → ℕ) (at : ℕ) (k : Known) (e : Expression) (end : ℕ) (l : Known) (b : Bool) (ts : List ℕ) → ExpressionLaid c st fip f at k e Return end l → Types true wd s b e ts → Derives fip B P (term w sc n e) → Numbered w N n e → Below k n.next → ((z y : ℕ) → K z (Own y) ≤ 0) → NoneFrom n.next (λ i. P i + 0) → Ties fip c.types s B K (λ i. P i + 0) (λ q. 0) k → f.results ≡ ts → length k.names ≡ N → length k.held ≡ f.registers → LastPart c f at (reported c k) end
    ends s sc n B K placed P at k (Give a) end l b ts h typed d num below kept none ties results names wide =
        give_ends c f st wd w fip shares callees s sc n B K placed P at k (MoreArguments a NoArguments) end l b (typed.0 ∷ []) h (typed.2, tt) d kept ties (results ∙ typed.1) wide
    ends s sc n B K placed P at k (Tuple p as') end l b ts h typed d num below kept none ties results names wide =
        give_ends c f st wd w fip shares callees s sc n B K placed P at k as' end l b ts h typed.1 d kept ties results wide
    ends s sc n B K placed P at k (Operation o p x y) end l b ts h typed d num below kept none ties results names wide =
        operator_ends c f st wd w fip shares callees s sc n B K placed P at k o p x y end l h typed.1 typed.2 d kept ties (results ∙ typed.0) wide
    ends s sc n B K placed P at k (Call g nm p as') end l b ts h typed d num below kept none ties results names wide =
        called_ends c f st wd w fip shares callees s sc n B K placed P at k g as' end l h typed.1 d.1 kept ties (results ∙ typed.0) wide
    ends s sc n B K placed P at k (Match g t p a q body cs) end l b ts h typed d num below kept none ties results names wide =
        let taken = takes w g t in
        let ch = h.0 in
        let l1 = h.1 in
        let e = h.2 in
        let m = h.3 in
        let mid = h.4 in
        let u = typed.0 in
        let entry = h.7 in
        let laid : MatchLaid c st f at k g u a q cs ch l1 e = subst (λ t. MatchLaid c st f at k g t a q cs ch l1 e) typed.1 h.6 in
        let x = scrutinee c wd w s sc n a laid.variable false u placed laid.is_variable typed.2 in
        let utyped = placed.typed x.number u x.scope in
        let scalar = ap w.scalar typed.1 ∙ callees.scalars u utyped in
        let own = owner c st wd w shares callees f fip taken s sc n B K P (λ i. 0) k a laid.variable u (register ch.root)
        (clauses w sc taken (past_clause w taken n q body) (variables w n.next (binders q)) (nodes q) (term_block w (entering w n.next sc (binders q)) (inside w taken n (binders q)) body) cs)
        kept x (λ e. sym scalar ∙ not_true (w.scalar t) (and_right g (not (w.scalar t)) e)) laid.begins.named d none ties in
        let used = ties.named x.number (register ch.root) (ap (Rattle.lowering_relation.specs.Known.register_of k.names) (sym x.is) ∙ laid.begins.named) in
        let on = match_on c st wd w shares callees f fip taken s B K own.owned (λ i. 0) own.read u g at a ch k l1 q cs e ts laid (ap (λ b. g && not b) (shares.scalars u utyped ∙ sym scalar)) utyped typed.3 typed.5 used wide own.stands (all_entries c st wd w shares callees f fip ch l1 q cs e m mid end laid.patterns entry h.9) in
        let fb = first_by taken sc n B own.owned (past_clause w taken n q body) (variables w n.next (binders q)) (nodes q) (term_block w (entering w n.next sc (binders q)) (inside w taken n (binders q)) body) cs own.derives in
        let room = num.1 in
        let width = on.width in
        let many = on.names in
        let cb = on_entry s sc n B K (λ i. 0) own.read kept own.least placed own.owned own.none u utyped taken ch k l1 q cs on q fb.0 m fb.1 typed.3 (laid.begins.roomy 0 q (ap (λ ps. slice_get ps 0) laid.patterns)) num.0 (omega (arith, room, many, names)) entry.more in
        let one = block_ends (s ++ bound_by wd (Some u) q) (entering w n.next sc (binders q)) (inside w taken n (binders q)) (O.setting (variables w n.next (binders q)) (not taken) B) (reading taken (variables w n.next (binders q)) own.read K) cb.placed fb.0 e (entered st ch q l1 m) body mid h.5 b ts h.8 typed.4 fb.2 num.2 (entry_below n taken q ch l1 m num.0 (below_same k l1 n.next on.same_names below)) (reading_kept taken (variables w n.next (binders q)) own.read (λ i. 0) K kept own.least) cb.none cb.ties results (cb.names ∙ (many ∙ names)) (cb.width ∙ (width ∙ wide)) in
        let first = match_any c st wd w shares callees f fip (λ a m. LastPart c f a m mid) (λ a m b l x y. stretch_last c f a m b l mid x y) (λ a m b l x y. part_and_last c f a b mid m l x y) at k g u a q cs ch l1 e m laid on.match_stands on.entries entry one in
        clauses_ends s sc n (past_clause w taken n q body) B K own.read own.least (past_placed s sc n taken q body placed) own.owned (past_none n taken q body (λ i. own.owned i + 0) own.none) u utyped taken ch k l1 q cs on 1 cs
        (λ j r there. laid.begins.roomy (suc j) r (ap (λ ps. slice_get ps (suc j)) laid.patterns ∙ there)) (variables w n.next (binders q)) (nodes q) (term_block w (entering w n.next sc (binders q)) (inside w taken n (binders q)) body) at (reported c k) mid end ts h.9 typed.5 own.derives num.3 (past_below n taken q body l1 (below_same k l1 n.next on.same_names below)) kept results (many ∙ names) (width ∙ wide) first
    ends s sc n B K placed P at k (Nested body) end l b ts h typed d num below kept none ties results names wide =
        block_ends s sc n B K placed P at k body end l b ts h typed d num below kept none ties results names wide

    pub block_ends : (s : Scope) (sc : Scalars) (n : Names) (B : ℕ → Bool) (K : ℕ → Item → ℕ) → Placed c s sc n → (P : Item → ℕ) (at : ℕ) (k : Known) (d : Block) (end : ℕ) (l : Known) (b : Bool) (ts : List ℕ) → BlockLaid c st fip f at k d Return end l → TypesBlock true wd s b d ts → Derives fip B P (term_block w sc n d) → NumberedBlock w N n d → Below k n.next → ((z y : ℕ) → K z (Own y) ≤ 0) → NoneFrom n.next (λ i. P i + 0) → Ties fip c.types s B K (λ i. P i + 0) (λ q. 0) k → f.results ≡ ts → length k.names ≡ N → length k.held ≡ f.registers → LastPart c f at (reported c k) end
    block_ends s sc n B K placed P at k (Last e) end l b ts h typed d num below kept none ties results names wide =
        ends s sc n B K placed P at k e end l b ts h typed d num below kept none ties results names wide
    block_ends s sc n B K placed A at k (Let bs e rest) end l b ts (inl h) typed d num below kept none ties results names wide =
        let P = d.0 in
        let R = d.1 in
        let Q = d.2 in
        let X : Item → ℕ = λ i. 0 in
        let rs = h.0 in
        let mid = h.1 in
        let m = h.2 in
        let us = typed.0 in
        let n1 = following n (shape w n e) in
        let D = O.setting (variables w n1.next bs) false B in
        let types = expression_types c st wd w shares callees s (all_annotated bs) e us placed.typed typed.1 in
        let parts = let_split s B K A P R X k d.3 ties in
        let comp = named_done s sc n (lending B R) (lent_in B K R) placed P (λ i. R i + X i) at k e rs mid m (all_annotated bs) us h.3 typed.1 d.5 (lent_kept B K R X kept)
        (ties_lending fip c.types s B K (λ i. P i + (R i + X i)) R (λ q. 0) k (λ x. omega arith) parts) wide in
        let same_names = ap length comp.names in
        let room = num.1 in
        let ent = enter s sc n1 bs us B K R Q X m rs (after_placed s sc n e (later n e) placed) num.0 (omega (arith, room, names, same_names)) typed.2 types d.4
        (none_later n e (λ i. R i + X i) (rest_none n.next P R X (split_none n.next A P R X d.3 none))) kept (unlent s B K R (λ i. R i + X i) (λ q. owed c.types rs us q + 0) m comp.ties) comp.hold in
        part_and_last c f at mid end (reported c k) (reported c m) comp.part
        (block_ends (s ++ entries bs (map Some us)) (entering w n1.next sc bs) (inside w true n1 bs) D K ent.placed Q mid (with_names m bs rs) rest end l b ts h.4 typed.3 d.6 num.3 (let_below n e bs rs m num.0 (below_same k m n.next comp.names below)) kept ent.none ent.ties results (length_all_named m.names bs rs ∙ (same_names ∙ names)) (comp.width ∙ wide))
    block_ends s sc n B K placed A at k (Let bs e rest) end l b ts (inr h) typed d num below kept none ties results names wide =
        let P = d.0 in
        let R = d.1 in
        let Q = d.2 in
        let X : Item → ℕ = λ i. 0 in
        let rs = registers_for k.next bs in
        let mid = h.0 in
        let m = h.1 in
        let us = typed.0 in
        let n1 = following n (shape w n e) in
        let D = O.setting (variables w n1.next bs) false B in
        let types = expression_types c st wd w shares callees s (all_annotated bs) e us placed.typed typed.1 in
        let parts = let_split s B K A P R X k d.3 ties in
        let more_next : k.next ≤ k.next + length bs = omega arith in
        let got = into s sc n (lending B R) (lent_in B K R) placed P (λ i. R i + X i) at (reserved k bs) e rs mid m (all_annotated bs) us h.2 typed.1 d.5 num.2 below (lent_kept B K R X kept)
        (split_none n.next A P R X d.3 none)
        (ties_reserved fip c.types s (lending B R) (lent_in B K R) (λ i. P i + (R i + X i)) (λ q. 0) k (k.next + length bs) more_next (ties_lending fip c.types s B K (λ i. P i + (R i + X i)) R (λ q. 0) k (λ x. omega arith) parts))
        (registers_wait k k.next (k.next + length bs) bs ties.fresh (omega arith)) (length_registers k.next bs ∙ bind_many bs us typed.2) names wide in
        let same_names = got.delivered.names in
        let room = num.1 in
        let ent = enter s sc n1 bs us B K R Q X m rs (after_placed s sc n e (later n e) placed) num.0 (omega (arith, room, names, same_names)) typed.2 types d.4
        (none_later n e (λ i. R i + X i) (rest_none n.next P R X (split_none n.next A P R X d.3 none))) kept (unlent s B K R (λ i. R i + X i) (λ q. owed c.types rs us q + 0) m got.delivered.ties) got.delivered.hold in
        part_and_last c f at mid end (reported c k) (reported c m) got.delivered.part
        (block_ends (s ++ entries bs (map Some us)) (entering w n1.next sc bs) (inside w true n1 bs) D K ent.placed Q mid (with_names m bs rs) rest end l b ts h.3 typed.3 d.6 num.3 (let_below_later n e bs rs m num.0 (expression_below c f st fip w N n at (reserved k bs) e rs mid m n1.next h.2 num.2 (let z = next_after w n e in omega (arith, z)) below)) kept ent.none ent.ties results (length_all_named m.names bs rs ∙ (same_names ∙ names)) (got.delivered.width ∙ wide))

    -- the clauses after one
    clauses_ends : (s : Scope) (sc : Scalars) (n0 n : Names) (B : ℕ → Bool) (K : ℕ → Item → ℕ) (L : Item → ℕ) → ((y : ℕ) → L (Own y) ≤ 0) → Placed c s sc n → (R : Item → ℕ) → NoneFrom n.next (λ i. R i + 0) → (u : ℕ) → is_type c.types u ≡ true → (taken : Bool) (ch : Choice) (k l : Known) (q0 : Pattern) (cs0 : Clauses) → MatchOn c st wd w shares callees f fip taken s B K R (λ i. 0) L u ch k l q0 cs0 → (i : ℕ) (cs : Clauses) → ((j : ℕ) (q : Pattern) → slice_get (clause_patterns cs) j ≡ Some q → Roomy q ch.root) → (ys ks : List ℕ) (te : Term) (at0 : ℕ) (m0 : ℕ → Kind) (at end : ℕ) (ts : List ℕ) → ClausesLaid c st fip f ch l i cs at end → TypesClauses true wd s u cs ts → DerivesBy c st wd w shares callees f fip taken B R (clauses w sc taken n ys ks te cs) → NumberedClauses w N taken n cs → Below l n.next → ((z y : ℕ) → K z (Own y) ≤ 0) → f.results ≡ ts → length l.names ≡ N → length l.held ≡ f.registers → LastPart c f at0 m0 at → LastPart c f at0 m0 end
    clauses_ends s sc n0 n B K L least placed R none u utyped taken ch k l q0 cs0 on i NoClauses roomy ys ks te at0 m0 at end ts h typed d num below kept results names wide part = subst (LastPart c f at0 m0) (sym h) part
    clauses_ends s sc n0 n B K L least placed R none u utyped taken ch k l q0 cs0 on i (MoreClauses q body cs) roomy ys ks te at0 m0 at end ts h typed d num below kept results names wide part =
        let start = h.1 in
        let m = h.2 in
        let mid = h.3 in
        let entry = h.6 in
        let tb = term_block w (entering w n.next sc (binders q)) (inside w taken n (binders q)) body in
        let rest = rest_by taken B R ys ks te (clauses w sc taken (past_clause w taken n q body) (variables w n.next (binders q)) (nodes q) tb cs) d in
        let fb = first_by taken sc n B R (past_clause w taken n q body) (variables w n.next (binders q)) (nodes q) tb cs rest in
        let room = num.1 in
        let cb = on_entry s sc n B K (λ i. 0) L kept least placed R none u utyped taken ch k l q0 cs0 on q fb.0 m fb.1 typed.0 (roomy 0 q refl) num.0 (omega (arith, room, names)) entry.more in
        let one = block_ends (s ++ bound_by wd (Some u) q) (entering w n.next sc (binders q)) (inside w taken n (binders q)) (O.setting (variables w n.next (binders q)) (not taken) B) (reading taken (variables w n.next (binders q)) L K) cb.placed fb.0 start (entered st ch q l m) body mid h.4 true ts h.7 typed.1 fb.2 num.2 (entry_below n taken q ch l m num.0 below) (reading_kept taken (variables w n.next (binders q)) L (λ i. 0) K kept least) cb.none cb.ties results (cb.names ∙ names) (cb.width ∙ wide) in
        let tests = match_sides c st f ch l on.match_stands on.entries h.0 at0 m0 at start (last_stretch c f at0 m0 at part) h.5 in
        clauses_ends s sc n (past_clause w taken n q body) B K L least (past_placed s sc n taken q body placed) R (past_none n taken q body (λ i. R i + 0) none) u utyped taken ch k l q0 cs0 on (suc i) cs
        (λ j r there. roomy (suc j) r there) (variables w n.next (binders q)) (nodes q) tb at0 m0 mid end ts h.8 typed.2 rest num.3 (past_below n taken q body l below) kept results names wide (stretch_last c f at0 m0 start (reported c (entered st ch q l m)) mid tests one)
