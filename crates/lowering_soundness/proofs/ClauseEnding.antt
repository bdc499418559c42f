-- A clause of a match that is bound by a let, from its entry on up to where the clauses meet.
use Rattle.std.proofs.Common.{◌≡◌, inl, inr, ℕ, suc, ◌+◌, ◌-◌, ◌<◌, ◌≤◌, Bool, true, false, not, refl, List, [], ◌∷◌, ◌++◌, length, Some, sym, ap, ◌∙◌, subst, true≢false, arith, ◌==◌}
use Rattle.separation.specs.fip_language.Every.{Among}
use Rattle.lowering_relation.specs.fip_trees.Tree.{Expression, Pattern, Clauses, NoClauses, MoreClauses}
use Rattle.derivation_making.specs.fip_rules.World as R
use Rattle.derivation_making.specs.fip_rules.Shapes.{Names, binders}
use Rattle.separation.specs.cell_code.declared.kind.Kind.{Kind}
use Rattle.derivation_making.specs.type_check.Scope.{Scope, of_binder}
use Rattle.derivation_making.specs.type_check.World as W
use Rattle.derivation_making.specs.type_check.Typing.{bound_by}
use Rattle.derivation_making.specs.ownership_calculus.Terms.{Item, Credit}
use Rattle.derivation_making.specs.ownership_calculus.Rules as O
use Rattle.derivation_making.proofs.ownership_calculus.Fit.{fits_le}
use Rattle.derivation_making.specs.ownership_agreement.Bodies.{Scalars, variables}
use Rattle.separation.specs.cell_code.Plain.{PlainFunction, PlainCode}
use Rattle.separation.specs.code_rules.Types.{is_scalar_type}
use Rattle.separation.proofs.separation_kinds.Basics.{refused, itself}
use Rattle.lowering_relation.specs.Spots.{register, below}
use Rattle.lowering_relation.specs.declared.held.Held.{Held}
use Rattle.lowering_relation.specs.declared.held.Held.TheVariants as H
use Rattle.lowering_relation.specs.Known.{Known}
use Rattle.lowering_relation.specs.Values.{Setting}
use Rattle.lowering_relation.specs.Describing.{held_at, is_tree}
use Rattle.lowering_relation.specs.Labels.{reported, Catches, Quiet}
use Rattle.lowering_relation.specs.Tests.{Choice}
use Rattle.lowering_relation.specs.Matches.{widened, wide, entered}
use Rattle.lowering_relation.specs.Credits.{of_size}
use Rattle.lowering_relation.specs.Uses.{need}
use Rattle.lowering_relation.specs.Leftover.{IsUnused, LeftoverGone, LeavesOver}
use Rattle.lowering_relation.specs.Joins.{GoesOn, ClauseEnds}
use Rattle.lowering_soundness.specs.Ties.{one_if, owners, sized, own, AllHold, owe, owed, Ties}
use Rattle.lowering_soundness.specs.Laid.{Shares}
use Rattle.lowering_soundness.specs.Delivered.{Waiting, Delivered, Keeps}
use Rattle.lowering_soundness.specs.Placed.{Placed, NoneFrom, InOrder, Callees}
use Rattle.lowering_soundness.proofs.Giving.{owned_tree}
use Rattle.lowering_soundness.proofs.Owners.{owners_less}
use Rattle.lowering_soundness.proofs.Arguments.{quiet_front, quiet_back}
use Rattle.lowering_soundness.proofs.Lets.{ties_within}
use Rattle.lowering_soundness.proofs.EntryHeld.{held_wide}
use Rattle.lowering_soundness.proofs.Cleared.{Kept, wide_tree, wide_owned, wide_is_bare, ties_wide}
use Rattle.lowering_soundness.proofs.Standing.{Seeing, SeesScalar, SeesLent, SeesOwned}
use Rattle.lowering_soundness.proofs.Clauses.{length_map, reading, ClauseBegins, Stands}
use Rattle.lowering_soundness.proofs.Matching.{MatchOn}
use Rattle.lowering_soundness.proofs.Keeping.{twice, keeps_on, keeps_within, keeps_named, keeps_wide, owned_before}
use Rattle.lowering_soundness.proofs.EntryNames.{root_next}
use Rattle.lowering_soundness.proofs.EntryKeeps.{entry_keeps, entry_empty}
use Rattle.lowering_soundness.proofs.Bares.{is_bare, Bared, bared, barely_nothing, barely_keeps, barely_hold}
use Rattle.lowering_soundness.proofs.Leaving.{gives_grow}
use Rattle.lowering_soundness.proofs.Balance.{stays_fewer}
use Rattle.lowering_soundness.proofs.Bottoms.{Bottom}
use Rattle.lowering_soundness.proofs.Leftovers.{Left, left_over, hold_stays}
use Rattle.lowering_soundness.proofs.Meeting.{one_positive, LeftBy, Arrived, Spares, spares_fit}
use Rattle.lowering_soundness.proofs.Ends.{Reached, reached_part, reached_end}

hold_wide : (w : Rattle.separation.specs.fip_language.Table.Table) (hs : List Held) (rs ts : List ℕ) → AllHold w (held_at hs) rs ts → AllHold w (held_at (Rattle.std.proofs.Common.map widened hs)) rs ts
hold_wide w hs [] [] all = tt
hold_wide w hs [] (t ∷ ts) all = absurd all
hold_wide w hs (r ∷ rs) [] all = absurd all
hold_wide w hs (r ∷ rs) (t ∷ ts) all = (
  record {
    scalar = λ e. held_wide hs r ∙ ap widened (all.0.scalar e);
    owned = λ e. ap (Rattle.lowering_soundness.specs.Giving.is_owned_of t) (held_wide hs r) ∙ (wide_owned t (held_at hs r) ∙ all.0.owned e);
  },
  hold_wide w hs rs ts all.1,
)

stop_before : (f : PlainFunction) (cs : Clauses) (stop target next : ℕ) → GoesOn f cs stop target next → stop ≤ next
stop_before f NoClauses stop target next h = let z = h.1 in omega (arith, z)
stop_before f (MoreClauses q b cs) stop target next h = let z = h.2 in omega (arith, z)

-- what a scrutinee's register holds is something
seen_something : (w : Rattle.separation.specs.fip_language.Table.Table) (t : ℕ) (h : Held) → Seeing w t h → h ≡ H.Nothing → ⊥
seen_something w t h (SeesScalar e x) z = other (sym e ∙ z)
  where
    other : H.Scalar t ≡ H.Nothing → ⊥
    other y = absurd (cc)
seen_something w t h (SeesLent root e x) z = other (sym e ∙ z)
  where
    other : H.Lent t root ≡ H.Nothing → ⊥
    other y = absurd (cc)
seen_something w t h (SeesOwned e x) z = other (sym e ∙ z)
  where
    other : H.Owned t Rattle.std.proofs.Common.None ≡ H.Nothing → ⊥
    other y = absurd (cc)

-- trees beside those of variables, where a match begins
abbrev pub owing : Bool → Rattle.separation.specs.fip_language.Table.Table → ℕ → ℕ → ℕ → ℕ
owing true w t r q = owe w t r q + 0
owing false w t r q = 0

-- clauses from some place on, up to where all meet
pub record ClausesDone (st : Setting) (o : Expression) (c : PlainCode) (f : PlainFunction) (fip : Bool) (s : Scope) (B : ℕ → Bool) (K : ℕ → Item → ℕ) (X : Item → ℕ) (l : Known) (low : ℕ) (ds ts : List ℕ) (cs : Clauses) (end : ℕ) (j : Known) (at : ℕ) (met : Known) : Type 0 where
  pub grows : at ≤ end
  pub arrived : Arrived st o fip c.types s B K X l low ds ts met
  pub spares : Spares j met
  pub code : (after : Known) → Catches f end (reported c after) → Spares met after → (at0 : ℕ) (m0 : ℕ → Kind) → Reached c f end (reported c after) cs at at0 m0 → Rattle.lowering_soundness.specs.Parts.Part c f at0 m0 end (reported c after)

-- one clause, from its entry on
pub record ClauseDone (st : Setting) (o : Expression) (c : PlainCode) (f : PlainFunction) (fip : Bool) (s : Scope) (B : ℕ → Bool) (K : ℕ → Item → ℕ) (X : Item → ℕ) (l : Known) (low : ℕ) (ds ts : List ℕ) (cs : Clauses) (end at : ℕ) (e : Known) (next : ℕ) (left : Known) : Type 0 where
  pub grows : at ≤ next
  pub arrived : Arrived st o fip c.types s B K X l low ds ts left
  pub code : (after : Known) → Catches f end (reported c after) → Spares left after → Reached c f end (reported c after) cs next at (reported c e)

module _ (c : PlainCode) (st : Setting) (wd : W.World) (w : R.World) (shares : Shares c st wd) (callees : Callees c st wd w) (f : PlainFunction) (fip : Bool) where
  pub start_ties : (taken : Bool) (s : Scope) (B : ℕ → Bool) (K : ℕ → Item → ℕ) (R X L : Item → ℕ) (t r : ℕ) (k : Known) → Stands c st wd w shares callees f fip taken s B K R X L t r k → Ties fip c.types s B K (λ i. R i + X i) (λ q. owing taken c.types t r q) k
  start_ties true s B K R X L t r k x = x.0
  start_ties false s B K R X L t r k x = x.0

  -- the scrutinee's tree is no variable's that is owned beside it
  spent_by : (taken : Bool) (s : Scope) (B : ℕ → Bool) (K : ℕ → Item → ℕ) (R X L : Item → ℕ) (t r : ℕ) (zs : List ℕ) (k : Known) → Stands c st wd w shares callees f fip taken s B K R X L t r k → ((z : ℕ) → Among z zs → held_at k.held z ≡ H.Nothing) → taken ≡ true → (is_tree (held_at k.held r) ≡ true) × ((z : ℕ) → Among z (r ∷ zs) → owners k.names (own X) z ≡ 0)
  spent_by true s B K R X L t r zs k x idle e = (tree, none)
    where
      tree : is_tree (held_at k.held r) ≡ true
      tree = owned_tree t (held_at k.held r) (x.1.owned x.2)

      fewer : (z : ℕ) → owners k.names (own X) z ≤ owners k.names (own (λ i. R i + X i)) z
      fewer z = owners_less k.names (own (λ i. R i + X i)) (own X) z (λ y. omega arith)

      none : (z : ℕ) → Among z (r ∷ zs) → owners k.names (own X) z ≡ 0
      none z (inl same) =
          let le = fits_le fip (one_if (is_tree (held_at k.held r))) (owners k.names (own (λ i. R i + X i)) r + (owe c.types t r r + 0)) (x.0.trees r) in
          let one : owe c.types t r r ≡ 1 = refused (is_scalar_type c.types t) 0 (one_if (r == r)) x.2 ∙ ap one_if (itself r) in
          let b = ap one_if tree in
          let less = fewer r in
          ap (owners k.names (own X)) same ∙ (let y : owners k.names (own X) r ≡ 0 = omega (arith, le, one, b, less) in y)
      none z (inr a) =
          let le = fits_le fip (one_if (is_tree (held_at k.held z))) (owners k.names (own (λ i. R i + X i)) z + (owe c.types t r z + 0)) (x.0.trees z) in
          let b : one_if (is_tree (held_at k.held z)) ≡ 0 = ap (λ h. one_if (is_tree h)) (idle z a) in
          let less = fewer z in
          omega (arith, le, b, less)
  spent_by false s B K R X L t r zs k x idle e = absurd (true≢false (sym e))

  module _ (s : Scope) (sc : Scalars) (n : Names) (B : ℕ → Bool) (K : ℕ → Item → ℕ) (X L : Item → ℕ) (kept : Kept K X) (placed : Placed c s sc n) (R : Item → ℕ) (none : NoneFrom n.next (λ i. R i + X i)) (u : ℕ) (taken : Bool) (ch : Choice) (k l : Known) (q0 : Pattern) (cs0 : Clauses) (on : MatchOn c st wd w shares callees f fip taken s B K R X L u ch k l q0 cs0) where
    start : Ties fip c.types s B K (λ i. R i + X i) (λ q. owing taken c.types u (register ch.root) q) l
    start = start_ties taken s B K R X L u (register ch.root) l on.stands

    idle : (z : ℕ) → Among z (below ch.root) → held_at l.held z ≡ H.Nothing
    idle z a = (on.match_stands.unused z a).0

    spent : ch.takes ≡ true → (is_tree (held_at l.held (register ch.root)) ≡ true) × ((z : ℕ) → Among z (register ch.root ∷ below ch.root) → owners l.names (own X) z ≡ 0)
    spent e = spent_by taken s B K R X L u (register ch.root) (below ch.root) l on.stands (λ z a. (on.match_stands.unused z a).0) (sym on.takes ∙ e)

    -- a register that held nothing where the match began is no position
    no_position : (r : ℕ) → suc r ≤ k.next → held_at l.held r ≡ H.Nothing → Among r (register ch.root ∷ below ch.root) → ⊥
    no_position r low e (inl same) = seen_something c.types ch.type (held_at l.held (register ch.root)) on.match_stands.sees (ap (held_at l.held) (sym same) ∙ e)
    no_position r low e (inr a) = absurd (let z = on.apart r a in let y : ⊥ = omega (arith, low, z) in y)

    empty_entry : (q : Pattern) (m r : ℕ) → suc r ≤ k.next → held_at l.held r ≡ H.Nothing → held_at (entered st ch q l m).held r ≡ H.Nothing
    empty_entry q m r low e = entry_empty st s X ch l on.match_stands.within (λ z a. (on.match_stands.unused z a).0) (λ e. spent e) q m r (no_position r low e) e

    -- registers still wait at an entry
    pub entry_waits : (q : Pattern) (m : ℕ) (ds : List ℕ) → l.next ≤ m → ((r : ℕ) → suc r ≤ k.next → held_at k.held r ≡ H.Nothing → held_at l.held r ≡ H.Nothing) → Waiting k ds → Waiting (entered st ch q l m) ds
    entry_waits q m [] more empty wait = tt
    entry_waits q m (d ∷ ds) more empty wait = (
      empty_entry q m d wait.1 (empty d wait.1 wait.0),
      (let a = wait.1 in let b = on.grows in let e = root_next st ch.takes q ch.root (record l { next = m }) in omega (arith, a, b, e, more)),
      wait.2,
      entry_waits q m ds more empty wait.3,
    )

    pub clause_done : (q : Pattern) (m : ℕ) (Q : Item → ℕ) → InOrder n.next (binders q) → l.next ≤ m → ClauseBegins c st wd w shares callees f fip s sc n taken u q B (reading taken (variables w n.next (binders q)) L K) Q X l (entered st ch q l m) → ((x v : ℕ) → of_binder s (Some x) ≡ Some (Some v) → of_binder (s ++ bound_by wd (Some u) q) (Some x) ≡ Some (Some v)) → ((x v : ℕ) → of_binder s (Some x) ≡ Some (Some v) → O.setting (variables w n.next (binders q)) (not taken) B x ≡ B x) → ((x v : ℕ) → of_binder s (Some x) ≡ Some (Some v) → reading taken (variables w n.next (binders q)) L K x ≡ K x) → (at mid : ℕ) (mk : Known) (ds ts : List ℕ) → Delivered c f fip (s ++ bound_by wd (Some u) q) (O.setting (variables w n.next (binders q)) (not taken) B) (reading taken (variables w n.next (binders q)) L K) X at (entered st ch q l m) ds ts mid mk → (whole : Expression) → ((r : ℕ) → 1 ≤ owners l.names (own X) r → IsUnused st l whole r) → ((i : ℕ) → 0 < i → X (Credit i) ≤ length (of_size i l.credits) - need st i whole) → (cs : Clauses) (end next : ℕ) (left : Known) → ClauseEnds c st fip f l whole ds cs mid mk end next left → (fip ≡ false → (r : ℕ) → is_tree (held_at l.held r) ≡ true → IsUnused st l whole r → widened (held_at mk.held r) ≡ widened (held_at l.held r)) → (fip ≡ false → (i : ℕ) → 0 < i → Bottom i (need st i whole) l.credits mk.credits) → ClauseDone st whole c f fip s B K X l k.next ds ts cs end at (entered st ch q l m) next left
    clause_done q m Q order more cb back borrowed lends at mid mk ds ts got whole unused enough cs end next left ends stay bottom = record { grows = (let a = got.grows in let b = bare.grows in let o = over.grows in let z = stops in omega (arith, a, b, o, z)); arrived = subst (Arrived st whole fip c.types s B K X l k.next ds ts) (sym ends.known) arrived; code = code }
      where
        e : Known
        e = entered st ch q l m

        within : Ties fip c.types s B K X (λ q. owed c.types ds ts q + 0) mk
        within =
            ties_within fip c.types (s ++ bound_by wd (Some u) q) s (O.setting (variables w n.next (binders q)) (not taken) B) B (reading taken (variables w n.next (binders q)) L K) K X (λ q. owed c.types ds ts q + 0) mk got.ties back
            (λ x v o b. (borrowed x v o ∙ b, sym (lends x v o)))

        stops : ends.stop ≤ next
        stops = stop_before f cs ends.stop end next ends.goes

        over_grows : (b : Bool) → LeavesOver b st f l whole ds ends.mid ends.bare ends.stop ends.left → ends.mid ≤ ends.stop
        over_grows true h = let z = h.0 in omega (arith, z)
        over_grows false h = gives_grow f false h.steps ends.mid ends.bare ends.stop ends.left h.gives

        mid_stops : ends.mid ≤ ends.stop
        mid_stops = over_grows fip ends.over

        bare : Bared c f fip s B K X (λ q. owed c.types ds ts q + 0) kept mid mk ends.mid ends.bare
        bare = bared c f fip s B K X (λ q. owed c.types ds ts q + 0) kept ends.bares.steps mid mk ends.mid ends.bare ends.bares.gives within (quiet_front f mid ends.mid next (reported c mk) (let a = stops in let b = mid_stops in omega (arith, a, b)) ends.quiet)

        sizes : (i : ℕ) → X (Credit i) ≤ sized i l.credits
        sizes i = let a = fits_le fip (sized i l.credits) (R (Credit i) + X (Credit i)) ((start_ties taken s B K R X L u (register ch.root) l on.stands).sizes i) in omega (arith, a)

        first : Keeps s X l (entered st ch q l m)
        first =
            entry_keeps st s X ch l on.match_stands.within (λ z a. (on.match_stands.unused z a).0) (λ e. spent e) q m n.next order
            (owned_before n.next X (λ y low. let a = none y low in omega (arith, a))) placed.before sizes

        second : Keeps s X l ends.bare
        second =
            keeps_on s X l e ends.bare first
            (keeps_on s X e mk ends.bare (keeps_within s (s ++ bound_by wd (Some u) q) X e mk back got.keeps)
            (barely_keeps s X mk ends.bare bare.each bare.names bare.credits))

        -- what is owned beside the match is a tree where it begins
        there : (r : ℕ) → 1 ≤ owners l.names (own X) r → is_tree (held_at l.held r) ≡ true
        there r more =
            let le = fits_le fip (one_if (is_tree (held_at l.held r))) (owners l.names (own (λ i. R i + X i)) r + owing taken c.types u (register ch.root) r) (start.trees r) in
            let less = owners_less l.names (own (λ i. R i + X i)) (own X) r (λ y. omega arith) in
            one_positive (is_tree (held_at l.held r)) (owners l.names (own X) r) (omega (arith, le, less)) more

        quiet_bare : Quiet f ends.mid next (reported c ends.bare)
        quiet_bare = quiet_back f mid ends.mid next (reported c mk) (reported c ends.bare) bare.grows ends.quiet bare.still

        over : Left c st f fip s B K X kept ds ts ends.mid ends.bare ends.stop ends.left
        over =
            left_over c st f fip s B K X kept ds ts l whole (λ r more. (there r more, unused r more)) enough ends.mid ends.bare ends.stop ends.left ends.over second bare.ties
            (quiet_front f ends.mid ends.stop next (reported c ends.bare) stops quiet_bare)

        kept_over : Keeps s X ends.bare ends.left
        kept_over =
            keeps_named fip s X ends.bare ends.left
            (stays_fewer (held_at ends.bare.held) (held_at ends.left.held) (λ q. owners ends.bare.names (own X) q + (owed c.types ds ts q + 0)) (owners ends.bare.names (own X)) (λ q. omega arith) over.stays)
            over.names over.last over.ties.sizes

        nothing_left : (r : ℕ) → held_at ends.bare.held r ≡ H.Nothing → held_at ends.left.held r ≡ H.Nothing
        nothing_left r z = elim (over.each r) as (λ v. held_at ends.left.held r ≡ H.Nothing) [
          | inl same ↦ same ∙ z
          | inr gone ↦ gone
        ]

        no_bare : (r t d : ℕ) → held_at ends.left.held r ≡ H.Bare t d → ⊥
        no_bare r t d z = elim (over.each r) as (λ v. ⊥) [
          | inl same ↦ ends.bares.none r t d (sym same ∙ z)
          | inr gone ↦ other (sym gone ∙ z)
        ]
          where
            other : H.Nothing ≡ H.Bare t d → ⊥
            other y = absurd (cc)

        tree_of : (g h : Held) → widened g ≡ widened h → is_tree h ≡ true → is_tree g ≡ true
        tree_of g h same tree = sym (wide_tree g) ∙ (ap is_tree same ∙ (wide_tree h ∙ tree))

        -- what was a tree before constructors that were matched were used up is one after
        bare_tree : (r : ℕ) → is_tree (held_at mk.held r) ≡ true → held_at ends.bare.held r ≡ held_at mk.held r
        bare_tree r tree = elim (bare.each r) as (λ v. held_at ends.bare.held r ≡ held_at mk.held r) [
          | inl same ↦ same
          | inr gone ↦ absurd (no_tree (held_at mk.held r) gone.0 tree)
        ]
          where
            no_tree : (h : Held) → is_bare h ≡ true → is_tree h ≡ true → ⊥
            no_tree H.Nothing a b = true≢false (sym a)
            no_tree (H.Scalar t) a b = true≢false (sym a)
            no_tree (H.Owned t x) a b = true≢false (sym a)
            no_tree (H.Lent t root) a b = true≢false (sym a)
            no_tree (H.Credit n) a b = true≢false (sym a)
            no_tree (H.Bare t x) a b = true≢false (sym b)

        same_tree : (r : ℕ) → is_tree (held_at ends.left.held r) ≡ true → held_at ends.left.held r ≡ held_at ends.bare.held r
        same_tree r tree = elim (over.each r) as (λ v. held_at ends.left.held r ≡ held_at ends.bare.held r) [
          | inl same ↦ same
          | inr gone ↦ absurd (true≢false (sym tree ∙ ap is_tree gone))
        ]

        nothing_of : (xs ys : List ℕ) → [] ≡ xs ++ ys → xs ≡ []
        nothing_of [] ys e = refl
        nothing_of (x ∷ xs) ys e = absurd (cc)

        left_by : fip ≡ false → LeftBy st whole l ds (wide ends.left)
        left_by weak =
            let h : LeftoverGone st f l whole ds ends.mid ends.bare ends.stop ends.left = subst (λ b. LeavesOver b st f l whole ds ends.mid ends.bare ends.stop ends.left) weak ends.over in
            record {
              trees = λ r tree. h.kept r (sym (ap is_tree (held_wide ends.left.held r) ∙ wide_tree (held_at ends.left.held r)) ∙ tree);
              stays = λ r tree none. (
                  let first = stay weak r tree none in
                  let mid_tree = tree_of (held_at mk.held r) (held_at l.held r) first tree in
                  let second = bare_tree r mid_tree in
                  let third = same_tree r (h.unused r tree none (ap is_tree second ∙ mid_tree)) in
                  held_wide ends.left.held r ∙ (ap widened (third ∙ second) ∙ first));
              credits = λ i some. h.credits i some ∙ (ap (λ cs. Rattle.std.proofs.Common.take (length (of_size i l.credits) - need st i whole) (of_size i cs)) bare.credits ∙ bottom weak i some);
              none = nothing_of (of_size 0 ends.left.credits) (over.last 0).0 (sym h.none ∙ (over.last 0).1);
            }

        arrived : Arrived st whole fip c.types s B K X l k.next ds ts (wide ends.left)
        arrived = record {
          by = left_by;
          ties = ties_wide fip c.types s B K X (λ q. owed c.types ds ts q + 0) ends.left over.ties;
          hold = hold_wide c.types ends.left.held ds ts
              (hold_stays c.types (held_at ends.bare.held) (held_at ends.left.held) (λ q. owners ends.bare.names (own X) q + (owed c.types ds ts q + 0)) ds ts over.stays (λ q. omega arith)
              (barely_hold c.types (held_at mk.held) (held_at ends.bare.held) ds ts bare.each got.hold));
          keeps = keeps_on s X l ends.bare (wide ends.left) second (keeps_on s X ends.bare ends.left (wide ends.left) kept_over (keeps_wide s X ends.left));
          plain = λ r. ap widened (held_wide ends.left.held r) ∙ (twice (held_at ends.left.held r) ∙ sym (held_wide ends.left.held r));
          bare = λ r t d z. no_bare r t d (wide_is_bare (held_at ends.left.held r) t d (sym (held_wide ends.left.held r) ∙ z));
          grows = (let a = got.next in let b = bare.next in let o = over.next in let d = root_next st ch.takes q ch.root (record l { next = m }) in omega (arith, a, b, o, d, more));
          width = length_map ends.left.held ∙ (over.width ∙ (bare.width ∙ (got.width ∙ cb.width)));
          names = ap length over.names ∙ (ap length bare.names ∙ (got.names ∙ cb.names));
          empty = λ r low z ne. held_wide ends.left.held r ∙ ap widened
              (nothing_left r (barely_nothing (held_at mk.held) (held_at ends.bare.held) r bare.each (got.empty r (let a = on.grows in let d = root_next st ch.takes q ch.root (record l { next = m }) in omega (arith, low, a, d, more)) (empty_entry q m r low z) ne)));
        }

        code : (after : Known) → Catches f end (reported c after) → Spares left after → Reached c f end (reported c after) cs next at (reported c (entered st ch q l m))
        code after caught spares =
            reached_part c f end (reported c after) cs next at (reported c e) mid (reported c mk) got.part
            (reached_part c f end (reported c after) cs next mid (reported c mk) ends.mid (reported c ends.bare) bare.part
            (reached_part c f end (reported c after) cs next ends.mid (reported c ends.bare) ends.stop (reported c ends.left) over.part
            (reached_end c f end (reported c after) cs ends.stop next (reported c ends.left) ends.goes caught
            (λ r. spares_fit c.types ends.left after ends.built (subst (λ l. Spares l after) ends.known spares) r)
            (quiet_back f ends.mid ends.stop next (reported c ends.bare) (reported c ends.left) over.grows quiet_bare over.still).first)))
