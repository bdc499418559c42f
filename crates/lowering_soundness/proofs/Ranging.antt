-- All numbers of the instructions of a function are in range, where it is laid out as its instance's body requires.
use Rattle.std.proofs.Common.{◌≡◌, ◌⊎◌, inl, inr, ℕ, zero, suc, ◌+◌, ◌<◌, ◌≤◌, Bool, true, false, ◌&&◌, List, [], ◌∷◌, ◌++◌, slice_get, length, Option, Some, None, is_some, replicate, refl, sym, ap, ◌∙◌, subst, arith, true≢false, nat_lt, if◌then◌else◌, ◌==◌}
use Rattle.std.proofs.lemmas.List.{length-replicate}
use Rattle.std.proofs.lemmas.Option.{none-some, same_Some}
use Rattle.separation.specs.fip_language.declared.Place.{Place}
use Rattle.separation.specs.fip_language.declared.Operator.{Operator}
use Rattle.separation.specs.fip_language.Table.{Table}
use Rattle.separation.specs.cell_code.declared.code.Instr.{Instr}
use Rattle.separation.specs.cell_code.declared.code.Instr.TheVariants as I
use Rattle.separation.specs.cell_code.declared.kind.Kind.{Kind}
use Rattle.lowering_relation.specs.fip_trees.declared.program.Binder.{Binder}
use Rattle.lowering_relation.specs.fip_trees.Tree.{Argument, Variable, Literal, Constructor, Arguments, NoArguments, MoreArguments}
use Rattle.lowering_relation.specs.fip_trees.Tree.{Expression, Give, Tuple, Operation, Call, Match, Nested, Block, Last, Let, Clauses, NoClauses, MoreClauses, Instance}
use Rattle.lowering_relation.specs.fip_trees.Tree.{Pattern, BinderPattern, LiteralPattern, ConstructorPattern, Patterns, NoPatterns, MorePatterns}
use Rattle.derivation_making.specs.type_check.World as W
use Rattle.separation.specs.cell_code.Plain.{LabelMap, PlainFunction, PlainCode}
use Rattle.separation.specs.code_rules.Codes.{label_at}
use Rattle.separation.specs.code_rules.Headers.{are_good_maps, are_good_kinds}
use Rattle.separation.specs.code_rules.Ranges.{in_range, are_below, is_constructor, is_target}
use Rattle.separation.proofs.separation_kinds.Basics.{less_or_not, get_within, below, below_is, equal}
use Rattle.lowering_relation.specs.match_knowledge.declared.heads.Head.{Head}
use Rattle.lowering_relation.specs.match_knowledge.declared.heads.Head.TheVariants.{Number, Tag}
use Rattle.lowering_relation.specs.match_knowledge.Patterns as M
use Rattle.lowering_relation.specs.match_knowledge.Known as MK
use Rattle.lowering_relation.specs.match_knowledge.Known.{Open, Is, Knowns, NoKnowns, MoreKnowns, compare, is_asks}
use Rattle.lowering_relation.specs.Spots.{Spot, At, Spots, NoSpots, MoreSpots, register, below as below_spot, all_in}
use Rattle.lowering_relation.specs.Reading.{Asked, asked, asked_first}
use Rattle.lowering_relation.specs.Opening.{as_many}
use Rattle.lowering_relation.specs.Landing.{test_of}
use Rattle.lowering_relation.specs.declared.held.Held.{Held}
use Rattle.lowering_relation.specs.declared.held.Held.TheVariants as H
use Rattle.lowering_relation.specs.Known.{Known, used, used_all, holding}
use Rattle.lowering_relation.specs.Values.{Setting, ArgumentAt, ArgumentsAt, BuiltAt, built as built_held}
use Rattle.lowering_relation.specs.LoweredBodies.{Target, Return, Into, result_type, GoesTo, handed, received, registers_for, reserved, with_names}
use Rattle.lowering_relation.specs.LoweredFunctions.{nothing_known, with_params, known_at_start}
use Rattle.lowering_relation.specs.Describing.{Holding, is_tree, is_spare}
use Rattle.lowering_relation.specs.GivenUp.{GivesOne, GivesUp}
use Rattle.lowering_relation.specs.Moves.{MoveLaid, MovesLaid}
use Rattle.lowering_relation.specs.Handed.{GivenLaid, OperationLaid, EndsCallLaid, CallLaid}
use Rattle.lowering_soundness.specs.Laid.{Shares}
use Rattle.lowering_relation.specs.Tests.{Choice, ReadOne, ReadsLaid, ReadsFirst, TestLaid, TakeLaid, TakesLaid, TakeAll, NamesLaid, NameAll, SettledLaid, TestsLaid, ChunkLaid, SidesLaid}
use Rattle.lowering_relation.specs.Matches.{MatchBegins, Forgets, EntryLaid, clause_patterns, entered}
use Rattle.lowering_relation.specs.Joins.{GoesOn, ClauseEnds, Met}
use Rattle.lowering_relation.specs.Leftover.{LeavesOver}
use Rattle.lowering_relation.specs.LaidBodies.{ClausesMeet, GiveLaid, NamedLaid, ExpressionLaid, BlockLaid, ClausesLaid}
use Rattle.lowering_soundness.specs.Built.{BuildsArgument, BuildsArguments, Builds, BuildsBlock, BuildsClauses}
use Rattle.lowering_relation.specs.LaidFunctions.{FunctionLaid}
use Rattle.lowering_soundness.proofs.Giving.{and_to}
use Rattle.lowering_soundness.proofs.Helds.{held_within, length_used, length_used_all, length_set}
use Rattle.lowering_soundness.proofs.Known.{Under, CreditsUnder, Fits, names_by, are_under, both_under, left_under, right_under, all_under, for_under, register_under, named_under, still_under, fits_held, fits_next, fits_set, fits_paid, fits_taken, length_handed, length_received, fits_wide, fits_params, fits_credits, fits_root}
use Rattle.tail_groups.proofs.fip_language.Facts.{and_both as and_parts}

-- ---- labels are in the function

label_within : (w : Table) (f : PlainFunction) (low : ℕ) (ms : List LabelMap) (t : ℕ) → are_good_maps w f low ms ≡ true → is_some (label_at ms t) ≡ true → t < length f.instrs
label_within w f low [] t good h = absurd (true≢false (sym h))
label_within w f low (m ∷ ms) t good h =
    let a = and_parts (nat_lt low m.at) _ good in
    let b = and_parts (nat_lt m.at (length f.instrs)) _ a.1 in
    let d = and_parts (length m.kinds == f.registers) _ b.1 in
    let e = and_parts (are_good_kinds w m.kinds 0 m.kinds) _ d.1 in
    by (m.at == t) refl h b.0 e.1 (λ more h. label_within w f m.at ms t more h)
  where
    by : (y : Bool) → (m.at == t) ≡ y → is_some (if y then Some m.kinds else label_at ms t) ≡ true → nat_lt m.at (length f.instrs) ≡ true → are_good_maps w f m.at ms ≡ true → (are_good_maps w f m.at ms ≡ true → is_some (label_at ms t) ≡ true → t < length f.instrs) → t < length f.instrs
    by true same h within more rest = subst (λ t. t < length f.instrs) (equal m.at t same) (below m.at (length f.instrs) within)
    by false same h within more rest = rest more h

asked_under : (n : ℕ) (o q : Option Asked) (b : Bool) (found : Asked) → (if b then o else q) ≡ Some found → (o ≡ Some found → found.register < n) → (q ≡ Some found → found.register < n) → found.register < n
asked_under n o q true found h x y = x h
asked_under n o q false found h x y = y h

mutual
  asks_under : (n : ℕ) (p : M.Pattern) (k : MK.Known) (s : Spot) (found : Asked) → register s < n → Under n (below_spot s) → asked p k s ≡ Some found → found.register < n
  asks_under n M.Any k s found low u h = absurd (none-some found h)
  asks_under n (M.Test t g ps) (Open out) s found low u h = subst (λ (a : Asked). a.register < n) (same_Some (record { register = register s; head = g }) found h) low
  asks_under n (M.Test t g ps) (Is i ks) (At r fs) found low u h = first_under n ps ks fs found u h

  first_under : (n : ℕ) (ps : M.Patterns) (ks : Knowns) (ss : Spots) (found : Asked) → Under n (all_in ss) → asked_first ps ks ss ≡ Some found → found.register < n
  first_under n M.NoPatterns ks ss found u h = absurd (none-some found h)
  first_under n (M.MorePatterns p ps) NoKnowns ss found u h = absurd (none-some found h)
  first_under n (M.MorePatterns p ps) (MoreKnowns k ks) NoSpots found u h = absurd (none-some found h)
  first_under n (M.MorePatterns p ps) (MoreKnowns k ks) (MoreSpots s ss) found u h =
      asked_under n (asked p k s) (asked_first ps ks ss) (is_asks (compare p k)) found h
      (λ e. asks_under n p k s found u.0 (left_under n (below_spot s) (all_in ss) u.1) e)
      (λ e. first_under n ps ks ss found (right_under n (below_spot s) (all_in ss) u.1) e)

many_under : (n : ℕ) (ps : Patterns) (ss : Spots) → Under n (all_in ss) → Under n (as_many ps ss)
many_under n NoPatterns ss u = tt
many_under n (MorePatterns p ps) NoSpots u = tt
many_under n (MorePatterns p ps) (MoreSpots s ss) u = (u.0, many_under n ps ss (right_under n (below_spot s) (all_in ss) u.1))

module _ (c : PlainCode) (st : Setting) (f : PlainFunction) (good : are_good_maps c.types f 0 f.labels ≡ true) where
  In : ℕ → ℕ → Type 0
  In a b = (p : ℕ) (x : Instr) → a ≤ p → p < b → slice_get f.instrs p ≡ Some x → in_range c f p x ≡ true

  none : (a b : ℕ) → b ≡ a → In a b
  unfolding In
  none a b e p x low high h = absurd (omega (arith, e, low, high))

  one : (a b : ℕ) (x : Instr) → slice_get f.instrs a ≡ Some x → b ≡ suc a → in_range c f a x ≡ true → In a b
  unfolding In
  one a b x there e ok p y low high h =
      let same : a ≡ p = omega (arith, e, low, high) in
      subst (λ p. in_range c f p y ≡ true) same (subst (λ y. in_range c f a y ≡ true) (same_Some x y (sym there ∙ ap (slice_get f.instrs) same ∙ h)) ok)

  both : (a m b : ℕ) → In a m → In m b → In a b
  unfolding In
  both a m b l r p x low high h = elim (less_or_not p m) as (λ v. in_range c f p x ≡ true) [
    | inl y ↦ l p x low y h
    | inr y ↦ r p x y high h
  ]

  low_is : (r : ℕ) → r < f.registers → nat_lt r f.registers ≡ true
  low_is r h = below_is r f.registers h

  target_is : (i t : ℕ) → i < t → is_some (label_at f.labels t) ≡ true → is_target f i t ≡ true
  target_is i t ahead label = and_to (nat_lt i t) (nat_lt t (length f.instrs) && is_some (label_at f.labels t)) (below_is i t ahead) (and_to (nat_lt t (length f.instrs)) (is_some (label_at f.labels t)) (below_is t (length f.instrs) (label_within c.types f 0 f.labels t good label)) label)

  -- a part, and what is known after it
  record Step (a b : ℕ) (l : Known) : Type 0 where
    all : In a b
    fits : Fits f.registers l

  -- ---- arguments

  more_built : (at : ℕ) (k : Known) (t d : ℕ) (rs : List ℕ) (r end : ℕ) (l : Known) → BuiltAt st f.instrs at k t d rs r end l → k.next ≤ l.next
  more_built at k t d [] r end l (inl h) = let e = ap (λ (k : Known). k.next) h.known in omega (arith, e)
  more_built at k t d [] r end l (inr h) = let e = ap (λ (k : Known). k.next) h.known in omega (arith, e)
  more_built at k t d (q ∷ rs) r end l h = let e = ap (λ (k : Known). k.next) h.known in omega (arith, e)

  mutual
    more_argument : (at : ℕ) (k : Known) (a : Argument) (r end : ℕ) (l : Known) → ArgumentAt st f.instrs at k a r end l → k.next ≤ l.next
    more_argument at k (Variable x n p) r end l h = let e = ap (λ (k : Known). k.next) h.known in omega (arith, e)
    more_argument at k (Literal i p) r end l h = let e = ap (λ (k : Known). k.next) h.known in omega (arith, e)
    more_argument at k (Constructor t d n m p as') r end l h =
        let a = more_arguments at k as' h.0 h.1 h.2 h.3 in
        let b = more_built h.1 h.2 t n h.0 r end l h.4 in
        omega (arith, a, b)

    more_arguments : (at : ℕ) (k : Known) (as' : Arguments) (rs : List ℕ) (end : ℕ) (l : Known) → ArgumentsAt st f.instrs at k as' rs end l → k.next ≤ l.next
    more_arguments at k NoArguments [] end l h = let e = ap (λ (k : Known). k.next) h.1 in omega (arith, e)
    more_arguments at k NoArguments (r ∷ rs) end l h = absurd h
    more_arguments at k (MoreArguments a as') [] end l h = absurd h
    more_arguments at k (MoreArguments a as') (r ∷ rs) end l h =
        let x = more_argument at k a r h.0 h.1 h.2 in
        let y = more_arguments h.0 h.1 as' rs end l h.3 in
        omega (arith, x, y)

  built : (at : ℕ) (k : Known) (t d : ℕ) (rs : List ℕ) (r end : ℕ) (l : Known) → BuiltAt st f.instrs at k t d rs r end l → is_constructor c.types t d ≡ true → l.next ≤ f.registers → Under f.registers rs → Fits f.registers k → Step at end l × (r < f.registers)
  built at k t d [] r end l (inl h) is room u fits = (
    record {
      all = none at end h.nothing;
      fits = subst (Fits f.registers) (sym h.known) (fits_set f.registers (holding k r H.Nothing) r (H.Owned t (Some d)) (fits_set f.registers k r H.Nothing fits));
    },
    subst (λ n. r < n) fits.held (get_within k.held r (H.Bare t d) h.held),
  )
  built at k t d [] r end l (inr h) is room u fits =
      let e = ap (λ (k : Known). k.next) h.known in
      let fresh = h.fresh in
      let low : r < f.registers = omega (arith, e, fresh, room) in (
        record {
          all = one at end (I.Atom r t d) h.written h.one (and_to (nat_lt r f.registers) (is_constructor c.types t d) (low_is r low) is);
          fits = subst (Fits f.registers) (sym h.known) (fits_next f.registers (holding k k.next (built_held st t d)) (suc k.next) (fits_set f.registers k k.next (built_held st t d) fits));
        },
        low,
      )
  built at k t d (q ∷ rs) r end l h is room u fits =
      let paid = fits_paid f.registers k r (length (q ∷ rs)) h.credits h.taken fits in
      let width : length (used_all (Rattle.std.proofs.Common.slice_set k.held r H.Nothing) (q ∷ rs)) ≡ length (Rattle.std.proofs.Common.slice_set k.held r H.Nothing) = length_used_all (Rattle.std.proofs.Common.slice_set k.held r H.Nothing) (q ∷ rs) in
      let gone = fits_held f.registers (record k { held = Rattle.std.proofs.Common.slice_set k.held r H.Nothing; credits = h.credits }) (used_all (Rattle.std.proofs.Common.slice_set k.held r H.Nothing) (q ∷ rs)) width paid.1 in (
        record {
          all = one at end (I.Put r t d (q ∷ rs)) h.written h.one (and_to (nat_lt r f.registers) (is_constructor c.types t d && are_below f.registers (q ∷ rs)) (low_is r paid.0) (and_to (is_constructor c.types t d) (are_below f.registers (q ∷ rs)) is (are_under f.registers (q ∷ rs) u)));
          fits = subst (Fits f.registers) (sym h.known) (fits_set f.registers (record k { held = used_all (Rattle.std.proofs.Common.slice_set k.held r H.Nothing) (q ∷ rs); credits = h.credits }) r (H.Owned t (Some d)) gone);
        },
        paid.0,
      )

  mutual
    argument : (at : ℕ) (k : Known) (a : Argument) (r end : ℕ) (l : Known) → ArgumentAt st f.instrs at k a r end l → BuildsArgument c.types a → l.next ≤ f.registers → Fits f.registers k → Step at end l × (r < f.registers)
    argument at k (Variable x n p) r end l h b room fits =
        (record { all = none at end h.nothing; fits = subst (Fits f.registers) (sym h.known) fits }, register_under f.registers k.names x r fits.names h.named)
    argument at k (Literal i p) r end l h b room fits =
        let e = ap (λ (k : Known). k.next) h.known in
        let fresh = h.fresh in
        let low : r < f.registers = omega (arith, e, fresh, room) in (
          record {
            all = one at end (I.Const r i) h.written h.one (low_is r low);
            fits = subst (Fits f.registers) (sym h.known) (fits_next f.registers (holding k k.next (H.Scalar 0)) (suc k.next) (fits_set f.registers k k.next (H.Scalar 0) fits));
          },
          low,
        )
    argument at k (Constructor t d n m p as') r end l h b room fits =
        let more = more_built h.1 h.2 t n h.0 r end l h.4 in
        let x = arguments at k as' h.0 h.1 h.2 h.3 b.1 (omega (arith, more, room)) fits in
        let y = built h.1 h.2 t n h.0 r end l h.4 b.0 room x.1 x.0.fits in
        (record { all = both at h.1 end x.0.all y.0.all; fits = y.0.fits }, y.1)

    arguments : (at : ℕ) (k : Known) (as' : Arguments) (rs : List ℕ) (end : ℕ) (l : Known) → ArgumentsAt st f.instrs at k as' rs end l → BuildsArguments c.types as' → l.next ≤ f.registers → Fits f.registers k → Step at end l × Under f.registers rs
    arguments at k NoArguments [] end l h b room fits = (record { all = none at end h.0; fits = subst (Fits f.registers) (sym h.1) fits }, tt)
    arguments at k NoArguments (r ∷ rs) end l h b room fits = absurd h
    arguments at k (MoreArguments a as') [] end l h b room fits = absurd h
    arguments at k (MoreArguments a as') (r ∷ rs) end l h b room fits =
        let more = more_arguments h.0 h.1 as' rs end l h.3 in
        let x = argument at k a r h.0 h.1 h.2 b.0 (omega (arith, more, room)) fits in
        let y = arguments h.0 h.1 as' rs end l h.3 b.1 room x.0.fits in
        (record { all = both at h.0 end x.0.all y.0.all; fits = y.0.fits }, (x.1, y.1))

  -- ---- what is given up, and results

  given_one : (fip : Bool) (at : ℕ) (k l : Known) → GivesOne fip f at k l → Fits f.registers k → Step at (suc at) l
  given_one fip at k l (inl h) fits =
      let low = subst (λ n. h.register < n) fits.held (held_within k.held h.register (λ e. true≢false (sym (ap is_spare e) ∙ ap is_spare h.held))) in
      record {
        all = one at (suc at) (I.Take h.register []) h.written refl (and_to (nat_lt h.register f.registers) true (low_is h.register low) refl);
        fits = subst (Fits f.registers) (sym h.known) (fits_set f.registers k h.register H.Nothing fits);
      }
  given_one fip at k l (inr (weak, inl h)) fits =
      let low = subst (λ n. h.register < n) fits.held (held_within k.held h.register (λ e. true≢false (sym h.tree ∙ ap is_tree e))) in
      record {
        all = one at (suc at) (I.Drop h.register) h.written refl (low_is h.register low);
        fits = subst (Fits f.registers) (sym h.known) (fits_held f.registers k (used k.held h.register) (length_used k.held h.register) fits);
      }
  given_one fip at k l (inr (weak, inr h)) fits =
      let paid = fits_paid f.registers k h.register h.size h.rest h.taken fits in
      record {
        all = one at (suc at) (I.Free h.register) h.written refl (low_is h.register paid.0);
        fits = subst (Fits f.registers) (sym h.known) paid.1;
      }

  given_up : (fip : Bool) (n at : ℕ) (k : Known) (end : ℕ) (l : Known) → GivesUp fip f n at k end l → Fits f.registers k → Step at end l
  given_up fip zero at k end l h fits = record { all = none at end h.0; fits = subst (Fits f.registers) (sym h.1) fits }
  given_up fip (suc n) at k end l h fits =
      let x = given_one fip at k h.0 h.1 fits in
      let y = given_up fip n (suc at) h.0 end l h.2 x.fits in
      record { all = both at (suc at) end x.all y.all; fits = y.fits }

  move : (at : ℕ) (k : Known) (r d mid : ℕ) (m : Known) → MoveLaid f.instrs at k r d mid m → r < f.registers → d < f.registers → Fits f.registers k → Step at mid m
  move at k r d mid m (inl x) low there fits = record {
    all = one at mid (I.Move d r) x.1.written x.1.one (and_to (nat_lt d f.registers) (nat_lt r f.registers) (low_is d there) (low_is r low));
    fits = subst (Fits f.registers) (sym x.1.known) (fits_held f.registers k _ (length_set (used k.held r) d _ ∙ length_used k.held r) fits);
  }
  move at k r d mid m (inr x) low there fits = record { all = none at mid x.nothing; fits = subst (Fits f.registers) (sym x.known) fits }

  moves : (at : ℕ) (k : Known) (rs ds : List ℕ) (end : ℕ) (l : Known) → MovesLaid f.instrs at k rs ds end l → Under f.registers rs → Under f.registers ds → Fits f.registers k → Step at end l
  moves at k [] ds end l h u v fits = record { all = none at end h.0; fits = subst (Fits f.registers) (sym h.1) fits }
  moves at k (r ∷ rs) [] end l h u v fits = record { all = none at end h.0; fits = subst (Fits f.registers) (sym h.1) fits }
  moves at k (r ∷ rs) (d ∷ ds) end l h u v fits =
      let x = move at k r d h.0 h.1 h.2 u.0 v.0 fits in
      let y = moves h.0 h.1 rs ds end l h.3 u.1 v.1 x.fits in
      record { all = both at h.0 end x.all y.all; fits = y.fits }

  -- what is known after results that go to registers
  abbrev FitsFor : Target → Known → Type 0
  FitsFor Return l = Unit {0}
  FitsFor (Into ds) l = Fits f.registers l

  abbrev UnderFor : Target → Type 0
  UnderFor Return = Unit {0}
  UnderFor (Into ds) = Under f.registers ds

  given : (fip : Bool) (at : ℕ) (k : Known) (rs : List ℕ) (target : Target) (end : ℕ) (l : Known) → GivenLaid fip f at k rs target end l → Under f.registers rs → UnderFor target → Fits f.registers k → In at end × FitsFor target l
  given fip at k rs Return end l h u v fits =
      let x = given_up fip h.steps at (record k { held = used_all k.held rs }) h.stop h.left h.gives (fits_held f.registers k (used_all k.held rs) (length_used_all k.held rs) fits) in
      (both at h.stop end x.all (one h.stop end (I.Ret rs) h.written h.one (are_under f.registers rs u)), tt)
  given fip at k rs (Into ds) end l h u v fits = let x = moves at k rs ds end l h u v fits in (x.all, x.fits)

  goes : (target : Target) (k : Known) (h : Held) (d : ℕ) (l : Known) → GoesTo target k h d l → l.next ≤ f.registers → UnderFor target → Fits f.registers k → (d < f.registers) × Fits f.registers l
  goes Return k h d l g room v fits = let e = g.0 in let z = ap (λ (m : Known). m.next) g.1 in (omega (arith, e, z, room), subst (Fits f.registers) (sym g.1) (fits_next f.registers (holding k k.next h) (suc k.next) (fits_set f.registers k k.next h fits)))
  goes (Into []) k h d l g room v fits = let e = g.0 in let z = ap (λ (m : Known). m.next) g.1 in (omega (arith, e, z, room), subst (Fits f.registers) (sym g.1) (fits_next f.registers (holding k k.next h) (suc k.next) (fits_set f.registers k k.next h fits)))
  goes (Into (q ∷ ds)) k h d l g room v fits = (subst (λ d. d < f.registers) (sym g.0) v.0, subst (Fits f.registers) (sym g.1) (fits_set f.registers k q h fits))

  operation : (fip : Bool) (at : ℕ) (k : Known) (o : Operator) (p : Place) (x y : ℕ) (target : Target) (end : ℕ) (l : Known) (h : OperationLaid fip f at k o p x y target end l) → h.holds.next ≤ f.registers → x < f.registers → y < f.registers → UnderFor target → Fits f.registers k → In at end × FitsFor target l
  operation fip at k o p x y target end l h room left right v fits =
      let g = goes target k (H.Scalar (result_type o)) h.destination h.holds h.goes room v fits in
      let rest = given fip (suc at) h.holds (h.destination ∷ []) target end l h.given (g.0, tt) v g.1 in
      (both at (suc at) end (one at (suc at) (I.Arith h.destination o x y p.line p.col) h.written refl (and_to (nat_lt h.destination f.registers) (nat_lt x f.registers && nat_lt y f.registers) (low_is h.destination g.0) (and_to (nat_lt x f.registers) (nat_lt y f.registers) (low_is x left) (low_is y right)))) rest.0, rest.1)

  -- ---- calls

  module _ (wd : W.World) (shares : Shares c st wd) where
    ends_call : (fip : Bool) (at : ℕ) (m : Known) (g : ℕ) (rs results : List ℕ) (target : Target) (end : ℕ) (l : Known) → EndsCallLaid st fip f at m g rs results target end l → g < length c.functions → Under f.registers rs → UnderFor target → Fits f.registers m → In at end × FitsFor target l
    ends_call fip at m g rs results Return end l h there u v fits =
        let x = given_up fip h.steps at m h.stop h.left h.gives fits in
        (both at h.stop end x.all (one h.stop end (I.Tail g rs) h.written h.one (and_to (nat_lt g (length c.functions)) (are_below f.registers rs) (below_is g (length c.functions) there) (are_under f.registers rs u))), tt)
    ends_call fip at m g rs results (Into ds) end l h there u v fits = (
      one at end (I.Call g rs ds) h.written h.one (and_to (nat_lt g (length c.functions)) (are_below f.registers rs && are_below f.registers ds) (below_is g (length c.functions) there) (and_to (are_below f.registers rs) (are_below f.registers ds) (are_under f.registers rs u) (are_under f.registers ds v))),
      subst (Fits f.registers) (sym h.known) (fits_held f.registers m (received st m.held results ds) (length_received f.registers st m.held results ds) fits),
    )

    call : (fip : Bool) (at : ℕ) (k : Known) (g : ℕ) (rs : List ℕ) (target : Target) (end : ℕ) (l : Known) → CallLaid st fip f at k g rs target end l → Under f.registers rs → UnderFor target → Fits f.registers k → In at end × FitsFor target l
    call fip at k g rs target end l h u v fits =
        let taken = fits_taken f.registers (record k { held = handed k.held h.instance.params rs }) h.instance.credits h.credits h.m h.taken (fits_held f.registers k (handed k.held h.instance.params rs) (length_handed f.registers k.held h.instance.params rs) fits) in
        ends_call fip at h.m h.function (rs ++ h.credits) h.instance.results target end l h.ends (shares.functions g h.function h.instance h.numbered h.there).there (both_under f.registers rs h.credits u taken.0) v taken.1

  -- ---- tests

  read_one : (at r i d : ℕ) (read : List ℕ) (mid : ℕ) (more : List ℕ) → r < f.registers → d < f.registers → ReadOne f at r i d read mid more → In at mid
  read_one at r i d read mid more low there (inl h) = none at mid h.1
  read_one at r i d read mid more low there (inr h) = one at mid (I.Peek d r i) h.1 h.2 (and_to (nat_lt d f.registers) (nat_lt r f.registers) (low_is d there) (low_is r low))

  mutual
    reads : (at : ℕ) (p : M.Pattern) (k : MK.Known) (s : Spot) (read : List ℕ) (end : ℕ) (more : List ℕ) → register s < f.registers → Under f.registers (below_spot s) → ReadsLaid f at p k s read end more → In at end
    reads at M.Any k s read end more low u h = none at end h.0
    reads at (M.Test t g ps) (Open out) s read end more low u h = none at end h.0
    reads at (M.Test t g ps) (Is i ks) (At r fs) read end more low u h = reads_first at ps ks fs r 0 read end more low u h

    reads_first : (at : ℕ) (ps : M.Patterns) (ks : Knowns) (fs : Spots) (r i : ℕ) (read : List ℕ) (end : ℕ) (more : List ℕ) → r < f.registers → Under f.registers (all_in fs) → ReadsFirst f at ps ks fs r i read end more → In at end
    reads_first at M.NoPatterns ks fs r i read end more low u h = none at end h.0
    reads_first at (M.MorePatterns p ps) NoKnowns fs r i read end more low u h = none at end h.0
    reads_first at (M.MorePatterns p ps) (MoreKnowns k ks) NoSpots r i read end more low u h = none at end h.0
    reads_first at (M.MorePatterns p ps) (MoreKnowns k ks) (MoreSpots s fs) r i read end more low u (inl h) =
        both at h.1 end (read_one at r i (register s) read h.1 h.2 low u.0 h.3) (reads h.1 p k s h.2 end more u.0 (left_under f.registers (below_spot s) (all_in fs) u.1) h.4)
    reads_first at (M.MorePatterns p ps) (MoreKnowns k ks) (MoreSpots s fs) r i read end more low u (inr h) =
        reads_first at ps ks fs r (suc i) read end more low (right_under f.registers (below_spot s) (all_in fs) u.1) h.1

  test_is : (i r : ℕ) (h : Head) (t : ℕ) → r < f.registers → i < t → is_some (label_at f.labels t) ≡ true → in_range c f i (test_of r h t) ≡ true
  test_is i r (Tag d) t low ahead label = and_to (nat_lt r f.registers) (is_target f i t) (low_is r low) (target_is i t ahead label)
  test_is i r (Number d) t low ahead label = and_to (nat_lt r f.registers) (is_target f i t) (low_is r low) (target_is i t ahead label)

  mutual
    takes : (at : ℕ) (q : Pattern) (s : Spot) (end : ℕ) → register s < f.registers → Under f.registers (below_spot s) → TakesLaid f at q s end → In at end
    takes at (BinderPattern b) s end low u h = none at end h
    takes at (LiteralPattern i p) s end low u h = none at end h
    takes at (ConstructorPattern t d n m p ps) (At r fs) end low u h = both at h.0 end (take at r ps fs h.0 low u h.1) (take_all h.0 ps fs end u h.2)

    take : (at r : ℕ) (ps : Patterns) (fs : Spots) (mid : ℕ) → r < f.registers → Under f.registers (all_in fs) → TakeLaid f at r ps fs mid → In at mid
    take at r NoPatterns fs mid low u h = none at mid h
    take at r (MorePatterns p ps) fs mid low u h =
        one at mid (I.Take r (as_many (MorePatterns p ps) fs)) h.0 h.1 (and_to (nat_lt r f.registers) (are_below f.registers (as_many (MorePatterns p ps) fs)) (low_is r low) (are_under f.registers (as_many (MorePatterns p ps) fs) (many_under f.registers (MorePatterns p ps) fs u)))

    take_all : (at : ℕ) (ps : Patterns) (fs : Spots) (end : ℕ) → Under f.registers (all_in fs) → TakeAll f at ps fs end → In at end
    take_all at NoPatterns fs end u h = none at end h
    take_all at (MorePatterns p ps) NoSpots end u h = none at end h
    take_all at (MorePatterns p ps) (MoreSpots s fs) end u h =
        both at h.0 end (takes at p s h.0 u.0 (left_under f.registers (below_spot s) (all_in fs) u.1) h.1) (take_all h.0 ps fs end (right_under f.registers (below_spot s) (all_in fs) u.1) h.2)

  mutual
    names : (at : ℕ) (q : Pattern) (s : Spot) (read : List ℕ) (end : ℕ) (more : List ℕ) → register s < f.registers → Under f.registers (below_spot s) → NamesLaid f at q s read end more → In at end
    names at (BinderPattern b) s read end more low u h = none at end h.0
    names at (LiteralPattern i p) s read end more low u h = none at end h.0
    names at (ConstructorPattern t d n m p ps) (At r fs) read end more low u h = name_all at ps fs r 0 read end more low u h

    name_all : (at : ℕ) (ps : Patterns) (fs : Spots) (r i : ℕ) (read : List ℕ) (end : ℕ) (more : List ℕ) → r < f.registers → Under f.registers (all_in fs) → NameAll f at ps fs r i read end more → In at end
    name_all at NoPatterns fs r i read end more low u h = none at end h.0
    name_all at (MorePatterns p ps) NoSpots r i read end more low u h = none at end h.0
    name_all at (MorePatterns p ps) (MoreSpots s fs) r i read end more low u (last, seen, inl h, rest) =
        both at last end (both at h.1 last (read_one at r i (register s) read h.1 h.2 low u.0 h.3) (names h.1 p s h.2 last seen u.0 (left_under f.registers (below_spot s) (all_in fs) u.1) h.4))
        (name_all last ps fs r (suc i) seen end more low (right_under f.registers (below_spot s) (all_in fs) u.1) rest)
    name_all at (MorePatterns p ps) (MoreSpots s fs) r i read end more low u (last, seen, inr h, rest) =
        both at last end (none at last h.1) (name_all last ps fs r (suc i) seen end more low (right_under f.registers (below_spot s) (all_in fs) u.1) rest)

  settled : (b : Bool) (at : ℕ) (q : Pattern) (s : Spot) (read : List ℕ) (end : ℕ) → register s < f.registers → Under f.registers (below_spot s) → SettledLaid b f at q s read end → In at end
  settled true at q s read end low u h = takes at q s end low u h
  settled false at q s read end low u h = names at q s read end h.0 low u h.1

  -- a label is at the entry of each clause, but at the start of the function
  abbrev Enters : Choice → Type 0
  Enters ch = (i : ℕ) (q : Pattern) → slice_get ch.patterns i ≡ Some q → (place : ℕ) → slice_get ch.entries i ≡ Some place → 0 < place → is_some (label_at f.labels place) ≡ true

  module _ (ch : Choice) (low : register ch.root < f.registers) (u : Under f.registers (below_spot ch.root)) (enters : Enters ch) where
    tested : (g : Holding) (at : ℕ) (p : M.Pattern) (k : MK.Known) (read : List ℕ) (next : ℕ) (more : List ℕ) → TestLaid c f g ch at p k read next more → In at next
    tested g at p k read next more h =
        both at h.mid next (reads at p k ch.root read h.mid more low u h.reads)
        (one h.mid next (test_of h.found.register h.found.head h.target) h.written h.one
        (test_is h.mid h.found.register h.found.head h.target (asks_under f.registers p k ch.root h.found low u h.asks) h.ahead h.label))

    tests : (g : Holding) (n at : ℕ) (k : MK.Known) (read : List ℕ) (i end : ℕ) → TestsLaid c f g ch n at k read i end → In at end × ((q : Pattern) × (slice_get ch.patterns i ≡ Some q))
    tests g zero at k read i end h = (settled ch.takes at h.pattern ch.root read end low u h.settled, (h.pattern, h.there))
    tests g (suc n) at k read i end (p, asking, inl h) = tests g n at _ read i end h.1
    tests g (suc n) at k read i end (p, asking, inr h) =
        let x = tests g n h.0 _ h.1 i end h.3 in
        (both at h.0 end (tested g at p k read h.0 h.1 h.2) x.0, x.1)

    chunk : (g : Holding) (at : ℕ) (k : MK.Known) (read : List ℕ) (m : ℕ → Kind) (next : ℕ) → ChunkLaid c f g ch at k read m next → In at next
    chunk g at k read m next h =
        let x = tests g h.steps at k read h.clause h.end h.tests in
        both at h.end next x.0 (by x.1 h.goes)
      where
        by : ((q : Pattern) × (slice_get ch.patterns h.clause ≡ Some q)) → (((slice_get f.instrs h.end ≡ Some (I.Jump h.place)) × (h.end < h.place) × (next ≡ suc h.end)) ⊎ ((h.place ≡ h.end) × (next ≡ h.end))) → In h.end next
        by q (inl y) = let ahead = y.1 in one h.end next (I.Jump h.place) y.0 y.2 (target_is h.end h.place ahead (enters h.clause q.0 q.1 h.place h.entry (omega (arith, ahead))))
        by q (inr y) = none h.end next y.1

    sides : (g : Holding) (n at end : ℕ) → SidesLaid c f g ch n at end → In at end
    sides g zero at end h = none at end h
    sides g (suc n) at end h = both at h.0 end (chunk g at h.1.known h.1.read h.1.reported h.0 h.1.chunk) (sides g n h.0 end h.2)

  -- ---- how a match begins

  begins_fits : (at : ℕ) (k : Known) (x : Option ℕ) (t : ℕ) (ch : Choice) (l : Known) → MatchBegins c f at k x t ch l → Fits f.registers k → Fits f.registers l × ((register ch.root < f.registers) × Under f.registers (below_spot ch.root))
  begins_fits at k x t ch l h fits =
      let few = h.few in (
        subst (Fits f.registers) (sym h.is) (fits_next f.registers h.known h.next (forgets h.known h.forgets)),
        (
          register_under f.registers k.names x (register ch.root) fits.names h.named,
          all_under f.registers (below_spot ch.root) (λ z a. (let y = (h.fresh z a).1 in omega (arith, y, few))),
        ),
      )
    where
      forgets : (m : Known) → Forgets c f at k (register ch.root) m → Fits f.registers m
      forgets m (inl y) = subst (Fits f.registers) (sym y.0) fits
      forgets m (inr y) = subst (Fits f.registers) (sym y.0) (fits_wide f.registers k fits)

  entered_fits : (ch : Choice) (q : Pattern) (l : Known) (m : ℕ) → register ch.root < f.registers → Under f.registers (below_spot ch.root) → Fits f.registers l → Fits f.registers (entered st ch q l m)
  entered_fits ch q l m low u fits = fits_wide f.registers _ (fits_root f.registers st ch.takes q ch.root (record l { next = m }) low u (fits_next f.registers l m fits))

  entry_label : (ch : Choice) (l : Known) (i : ℕ) (q : Pattern) (at m : ℕ) → EntryLaid c st f ch l i q at m → 0 < at → is_some (label_at f.labels at) ≡ true
  entry_label ch l i q at m h low = elim h.enters as (λ v. is_some (label_at f.labels at) ≡ true) [
    | inl y ↦ ap is_some y.1.there
    | inr y ↦ let zero_at = y.0 in absurd (omega (arith, zero_at, low))
  ]

  -- the same, where the clauses meet
  met_label : (fip : Bool) (ch : Choice) (l : Known) (o : Expression) (i : ℕ) (cs : Clauses) (ds : List ℕ) (stop : ℕ) (k : Known) (at : ℕ) (met : Known) → ClausesMeet c st fip f ch l o i cs ds stop k at met → (j : ℕ) (q : Pattern) → slice_get (clause_patterns cs) j ≡ Some q → (place : ℕ) → slice_get ch.entries (i + j) ≡ Some place → 0 < place → is_some (label_at f.labels place) ≡ true
  met_label fip ch l o i NoClauses ds stop k at met h j q there place entry low = absurd (none-some q there)
  met_label fip ch l o i (MoreClauses p b cs) ds stop k at met (more, start, m, mid, following, next, left, joined', tests', laid, body, ends, meets, others) zero q there place entry low =
      let same : i + 0 ≡ i = omega arith in
      let one : start ≡ place = same_Some start place (sym laid.place ∙ (ap (slice_get ch.entries) (sym same) ∙ entry)) in
      subst (λ place. is_some (label_at f.labels place) ≡ true) one (entry_label ch l i p start m laid (omega (arith, one, low)))
  met_label fip ch l o i (MoreClauses p b cs) ds stop k at met (more, start, m, mid, following, next, left, joined', tests', laid, body, ends, meets, others) (suc j) q there place entry low =
      let same : suc i + j ≡ i + suc j = omega arith in
      met_label fip ch l o (suc i) cs ds stop joined' next met others j q there place (ap (slice_get ch.entries) same ∙ entry) low

  met_enters : (fip : Bool) (ch : Choice) (l : Known) (o : Expression) (q : Pattern) (cs : Clauses) (e m : ℕ) (ds : List ℕ) (stop : ℕ) (k : Known) (mid : ℕ) (met : Known) → ch.patterns ≡ q ∷ clause_patterns cs → EntryLaid c st f ch l 0 q e m → ClausesMeet c st fip f ch l o 1 cs ds stop k mid met → Enters ch
  met_enters fip ch l o q cs e m ds stop k mid met is entry others zero p there place at low =
      let one : e ≡ place = same_Some e place (sym entry.place ∙ at) in
      subst (λ place. is_some (label_at f.labels place) ≡ true) one (entry_label ch l 0 q e m entry (omega (arith, one, low)))
  met_enters fip ch l o q cs e m ds stop k mid met is entry others (suc j) p there place at low =
      let same : 1 + j ≡ suc j = omega arith in
      met_label fip ch l o 1 cs ds stop k mid met others j p (ap (λ qs. slice_get qs (suc j)) (sym is) ∙ there) place (ap (slice_get ch.entries) same ∙ at) low

  -- ---- where the clauses meet

  bares_next : (n at : ℕ) (k : Known) (end : ℕ) (l : Known) → GivesUp true f n at k end l → l.next ≡ k.next
  bares_next zero at k end l h = ap (λ (m : Known). m.next) h.1
  bares_next (suc n) at k end l (m, inl h, rest) = bares_next n (suc at) m end l rest ∙ ap (λ (m : Known). m.next) h.known
  bares_next (suc n) at k end l (m, inr h, rest) = absurd (true≢false h.0)

  met_fits : (fip : Bool) (k l m : Known) → Met k l m → Fits f.registers k → Fits f.registers m
  met_fits fip k l m h fits = record {
    names = names_by f.registers m.names (λ x r e. elim (h.names x) as (λ v. r < f.registers) [
      | inl p ↦ register_under f.registers k.names (Some x) r fits.names (sym p.1 ∙ e)
      | inr p ↦ absurd (none-some r (sym p.1 ∙ e))
    ]);
    held = h.width ∙ fits.held;
    credits = subst (CreditsUnder f.registers) (sym h.credits) (still_under f.registers m.held k.credits fits.credits);
  }

  goes_on : (cs : Clauses) (stop target next : ℕ) → GoesOn f cs stop target next → is_some (label_at f.labels target) ≡ true → In stop next
  goes_on NoClauses stop target next h label = none stop next h.1
  goes_on (MoreClauses q b cs) stop target next h label = let ahead = h.1 in one stop next (I.Jump target) h.0 h.2 (target_is stop target ahead label)

  left_over : (fip : Bool) (o : Known) (e : Expression) (rs : List ℕ) (at : ℕ) (k : Known) (end : ℕ) (left : Known) → LeavesOver fip st f o e rs at k end left → Fits f.registers k → Step at end left
  left_over true o e rs at k end left h fits = record { all = none at end h.0; fits = subst (Fits f.registers) (sym h.1) fits }
  left_over false o e rs at k end left h fits = given_up false h.steps at k end left h.gives fits

  clause_ends : (fip : Bool) (o : Known) (e : Expression) (rs : List ℕ) (cs : Clauses) (at : ℕ) (k : Known) (target next : ℕ) (l : Known) → ClauseEnds c st fip f o e rs cs at k target next l → is_some (label_at f.labels target) ≡ true → Fits f.registers k → Step at next l
  clause_ends fip o e rs cs at k target next l h label fits =
      let x = given_up true h.bares.steps at k h.mid h.bare h.bares.gives fits in
      let y = left_over fip o e rs h.mid h.bare h.stop h.left h.over x.fits in
      record { all = both at h.mid next x.all (both h.mid h.stop next y.all (goes_on cs h.stop target next h.goes label)); fits = subst (Fits f.registers) (sym h.known) (fits_wide f.registers h.left y.fits) }

  clause_label : (fip : Bool) (ch : Choice) (l : Known) (i : ℕ) (cs : Clauses) (at end : ℕ) → ClausesLaid c st fip f ch l i cs at end → (j : ℕ) (q : Pattern) → slice_get (clause_patterns cs) j ≡ Some q → (place : ℕ) → slice_get ch.entries (i + j) ≡ Some place → 0 < place → is_some (label_at f.labels place) ≡ true
  clause_label fip ch l i NoClauses at end h j q there place entry low = absurd (none-some q there)
  clause_label fip ch l i (MoreClauses p b cs) at end (more, start, m, mid, k, tests', laid, body, others) zero q there place entry low =
      let same : i + 0 ≡ i = omega arith in
      let one : start ≡ place = same_Some start place (sym laid.place ∙ (ap (slice_get ch.entries) (sym same) ∙ entry)) in
      subst (λ place. is_some (label_at f.labels place) ≡ true) one (entry_label ch l i p start m laid (omega (arith, one, low)))
  clause_label fip ch l i (MoreClauses p b cs) at end (more, start, m, mid, k, tests', laid, body, others) (suc j) q there place entry low =
      let same : suc i + j ≡ i + suc j = omega arith in
      clause_label fip ch l (suc i) cs mid end others j q there place (ap (slice_get ch.entries) same ∙ entry) low

  match_enters : (fip : Bool) (ch : Choice) (l : Known) (q : Pattern) (cs : Clauses) (e m mid end : ℕ) → ch.patterns ≡ q ∷ clause_patterns cs → EntryLaid c st f ch l 0 q e m → ClausesLaid c st fip f ch l 1 cs mid end → Enters ch
  match_enters fip ch l q cs e m mid end is entry others zero p there place at low =
      let one : e ≡ place = same_Some e place (sym entry.place ∙ at) in
      subst (λ place. is_some (label_at f.labels place) ≡ true) one (entry_label ch l 0 q e m entry (omega (arith, one, low)))
  match_enters fip ch l q cs e m mid end is entry others (suc j) p there place at low =
      let same : 1 + j ≡ suc j = omega arith in
      clause_label fip ch l 1 cs mid end others j p (ap (λ qs. slice_get qs (suc j)) (sym is) ∙ there) place (ap (slice_get ch.entries) same ∙ at) low

  -- ---- bodies

  module _ (wd : W.World) (shares : Shares c st wd) (fip : Bool) where
    forgets_next : (k : Known) (r : ℕ) (m : Known) (at : ℕ) → Forgets c f at k r m → m.next ≡ k.next
    forgets_next k r m at (inl y) = ap (λ (m : Known). m.next) y.0
    forgets_next k r m at (inr y) = ap (λ (m : Known). m.next) y.0

    mutual
      room_expression : (at : ℕ) (k : Known) (e : Expression) (ds : List ℕ) (end : ℕ) (l : Known) → ExpressionLaid c st fip f at k e (Into ds) end l → k.next ≤ f.registers
      room_expression at k (Give a) ds end l h = let x = more_arguments at k (MoreArguments a NoArguments) h.registers h.mid h.m h.values.arguments in let y = h.values.room in omega (arith, x, y)
      room_expression at k (Tuple p as') ds end l h = let x = more_arguments at k as' h.registers h.mid h.m h.values.arguments in let y = h.values.room in omega (arith, x, y)
      room_expression at k (Operation o p a b) ds end l h = let x = more_arguments at k (MoreArguments a (MoreArguments b NoArguments)) (h.left ∷ h.right ∷ []) h.mid h.m h.values.arguments in let y = h.values.room in omega (arith, x, y)
      room_expression at k (Call g n p as') ds end l h = let x = more_arguments at k as' h.registers h.mid h.m h.values.arguments in let y = h.values.room in omega (arith, x, y)
      room_expression at k (Match d t p a q b cs) ds end l (begin, k0, ch, l1, e, m, mid, following, next, left, met, bare, quiet', laid, entry, body, ends, others, meets) =
          let same = bares_next bare.steps at k begin k0 bare.gives in
          let more = laid.begins.more in
          let few = laid.begins.few in
          let known = forgets_next k0 (register ch.root) laid.begins.known begin laid.begins.forgets in
          omega (arith, same, more, few, known)
      room_expression at k (Nested b) ds end l h = room_block at k b ds end l h

      room_block : (at : ℕ) (k : Known) (b : Block) (ds : List ℕ) (end : ℕ) (l : Known) → BlockLaid c st fip f at k b (Into ds) end l → k.next ≤ f.registers
      room_block at k (Last e) ds end l h = room_expression at k e ds end l h
      room_block at k (Let bs e rest) ds end l (inl h) = room_named at k e h.0 h.1 h.2 h.3
      room_block at k (Let bs e rest) ds end l (inr h) = let x = room_expression at (reserved k bs) e (registers_for k.next bs) h.0 h.1 h.2 in omega (arith, x)

      room_named : (at : ℕ) (k : Known) (e : Expression) (rs : List ℕ) (mid : ℕ) (m : Known) → NamedLaid c st f at k e rs mid m → k.next ≤ f.registers
      room_named at k (Give a) rs mid m h = let x = more_arguments at k (MoreArguments a NoArguments) rs mid m h.values.arguments in let y = h.values.room in omega (arith, x, y)
      room_named at k (Tuple p as') rs mid m h = let x = more_arguments at k as' rs mid m h.values.arguments in let y = h.values.room in omega (arith, x, y)
      room_named at k (Operation o p a b) rs mid m h = absurd h
      room_named at k (Call g n p as') rs mid m h = absurd h
      room_named at k (Match d t p a q b cs) rs mid m h = absurd h
      room_named at k (Nested b) rs mid m h = absurd h

    named : (at : ℕ) (k : Known) (e : Expression) (rs : List ℕ) (mid : ℕ) (m : Known) → NamedLaid c st f at k e rs mid m → Builds c.types e → Fits f.registers k → Step at mid m × Under f.registers rs
    named at k (Give a) rs mid m h b fits = arguments at k (MoreArguments a NoArguments) rs mid m h.values.arguments (b, tt) h.values.room fits
    named at k (Tuple p as') rs mid m h b fits = arguments at k as' rs mid m h.values.arguments b h.values.room fits
    named at k (Operation o p x y) rs mid m h b fits = absurd h
    named at k (Call g n p as') rs mid m h b fits = absurd h
    named at k (Match d t p a q x cs) rs mid m h b fits = absurd h
    named at k (Nested x) rs mid m h b fits = absurd h

    gives : (at : ℕ) (k : Known) (as' : Arguments) (target : Target) (end : ℕ) (l : Known) → GiveLaid c st fip f at k as' target end l → BuildsArguments c.types as' → UnderFor target → Fits f.registers k → In at end × FitsFor target l
    gives at k as' target end l h b v fits =
        let x = arguments at k as' h.registers h.mid h.m h.values.arguments b h.values.room fits in
        let y = given fip h.mid h.m h.registers target end l h.given x.1 v x.0.fits in
        (both at h.mid end x.0.all y.0, y.1)

    names_fit : (m : Known) (bs : List Binder) (rs : List ℕ) → Under f.registers rs → Fits f.registers m → Fits f.registers (with_names m bs rs)
    names_fit m bs rs u fits = record { names = named_under f.registers m.names bs rs u fits.names; held = fits.held; credits = fits.credits }

    mutual
      expression : (at : ℕ) (k : Known) (e : Expression) (target : Target) (end : ℕ) (l : Known) → ExpressionLaid c st fip f at k e target end l → Builds c.types e → UnderFor target → Fits f.registers k → In at end × FitsFor target l
      expression at k (Give a) target end l h b v fits = gives at k (MoreArguments a NoArguments) target end l h (b, tt) v fits
      expression at k (Tuple p as') target end l h b v fits = gives at k as' target end l h b v fits
      expression at k (Operation o p x y) target end l h b v fits =
          let z = arguments at k (MoreArguments x (MoreArguments y NoArguments)) (h.left ∷ h.right ∷ []) h.mid h.m h.values.arguments (b.0, (b.1, tt)) h.values.room fits in
          let w = operation fip h.mid h.m o p h.left h.right target end l h.operation h.one_more z.1.0 z.1.1.0 v z.0.fits in
          (both at h.mid end z.0.all w.0, w.1)
      expression at k (Call g n p as') target end l h b v fits =
          let x = arguments at k as' h.registers h.mid h.m h.values.arguments b h.values.room fits in
          let y = call wd shares fip h.mid h.m g h.registers target end l h.call x.1 v x.0.fits in
          (both at h.mid end x.0.all y.0, y.1)
      expression at k (Match d t p a q x cs) (Into rs) end l (begin, k0, ch, l1, e, m, mid, following, next, left, met, bare, quiet', laid, entry, body, ends, others, meets) b v fits =
          let up = given_up true bare.steps at k begin k0 bare.gives fits in
          let start = begins_fits begin k0 laid.variable t ch l1 laid.begins up.fits in
          let enters : Enters ch = met_enters fip ch l1 (Match d t p a q x cs) q cs e m rs end left next met laid.patterns entry others in
          let label : is_some (label_at f.labels end) ≡ true = ap is_some meets.label in
          let first = chunk ch start.1.0 start.1.1 enters _ begin _ _ _ laid.mid laid.first in
          let rest = sides ch start.1.0 start.1.1 enters _ laid.more laid.mid e laid.sides in
          let inner = block e _ x (Into rs) mid following body b.0 v (entered_fits ch q l1 m start.1.0 start.1.1 start.0) in
          let ended = clause_ends fip l1 (Match d t p a q x cs) rs cs mid following end next left ends label inner.1 in
          let more = clauses_meet ch start.1.0 start.1.1 enters l1 (Match d t p a q x cs) start.0 1 cs rs end label left next met others b.1 v ended.fits in
          (both at begin end up.all (both begin e end (both begin laid.mid e first rest) (both e mid end inner.0 (both mid next end ended.all more.all))), subst (Fits f.registers) (sym meets.known) (fits_next f.registers met meets.next more.fits))
      expression at k (Match d t p a q x cs) Return end after (ch, l, e, m, mid, following, laid, entry, body, others) b v fits =
          let start = begins_fits at k laid.variable t ch l laid.begins fits in
          let enters : Enters ch = match_enters fip ch l q cs e m mid end laid.patterns entry others in
          let first = chunk ch start.1.0 start.1.1 enters _ at _ _ _ laid.mid laid.first in
          let rest = sides ch start.1.0 start.1.1 enters _ laid.more laid.mid e laid.sides in
          let inner = block e _ x Return mid following body b.0 tt (entered_fits ch q l m start.1.0 start.1.1 start.0) in
          (both at e end (both at laid.mid e first rest) (both e mid end inner.0 (clauses ch start.1.0 start.1.1 enters l start.0 1 cs mid end others b.1)), tt)
      expression at k (Nested x) target end l h b v fits = block at k x target end l h b v fits

      block : (at : ℕ) (k : Known) (x : Block) (target : Target) (end : ℕ) (l : Known) → BlockLaid c st fip f at k x target end l → BuildsBlock c.types x → UnderFor target → Fits f.registers k → In at end × FitsFor target l
      block at k (Last e) target end l h b v fits = expression at k e target end l h b v fits
      block at k (Let bs e rest) target end l (inl h) b v fits =
          let x = named at k e h.0 h.1 h.2 h.3 b.0 fits in
          let y = block h.1 (with_names h.2 bs h.0) rest target end l h.4 b.1 v (names_fit h.2 bs h.0 x.1 x.0.fits) in
          (both at h.1 end x.0.all y.0, y.1)
      block at k (Let bs e rest) target end l (inr h) b v fits =
          let u = for_under f.registers k.next bs (room_expression at (reserved k bs) e (registers_for k.next bs) h.0 h.1 h.2) in
          let x = expression at (reserved k bs) e (Into (registers_for k.next bs)) h.0 h.1 h.2 b.0 u (fits_next f.registers k (k.next + length bs) fits) in
          let y = block h.0 (with_names h.1 bs (registers_for k.next bs)) rest target end l h.3 b.1 v (names_fit h.1 bs (registers_for k.next bs) u x.1) in
          (both at h.0 end x.0 y.0, y.1)

      clauses : (ch : Choice) (low : register ch.root < f.registers) (u : Under f.registers (below_spot ch.root)) (enters : Enters ch) (l : Known) → Fits f.registers l → (i : ℕ) (cs : Clauses) (at end : ℕ) → ClausesLaid c st fip f ch l i cs at end → BuildsClauses c.types cs → In at end
      clauses ch low u enters l fits i NoClauses at end h b = none at end h
      clauses ch low u enters l fits i (MoreClauses q x cs) at end (more, start, m, mid, following, laid, entry, body, others) b =
          let inner = block start _ x Return mid following body b.0 tt (entered_fits ch q l m low u fits) in
          both at start end (sides ch low u enters _ more at start laid) (both start mid end inner.0 (clauses ch low u enters l fits (suc i) cs mid end others b.1))

      clauses_meet : (ch : Choice) (low : register ch.root < f.registers) (u : Under f.registers (below_spot ch.root)) (enters : Enters ch) (l : Known) (o : Expression) → Fits f.registers l → (i : ℕ) (cs : Clauses) (rs : List ℕ) (stop : ℕ) → is_some (label_at f.labels stop) ≡ true → (k : Known) (at : ℕ) (met : Known) → ClausesMeet c st fip f ch l o i cs rs stop k at met → BuildsClauses c.types cs → UnderFor (Into rs) → Fits f.registers k → Step at stop met
      clauses_meet ch low u enters l o fits i NoClauses rs stop label k at met h b v kept = record { all = none at stop (sym h.0); fits = subst (Fits f.registers) (sym h.1) kept }
      clauses_meet ch low u enters l o fits i (MoreClauses q x cs) rs stop label k at met (more, start, m, mid, following, next, left, joined', laid, entry, body, ends, meets, others) b v kept =
          let inner = block start _ x (Into rs) mid following body b.0 v (entered_fits ch q l m low u fits) in
          let ended = clause_ends fip l o rs cs mid following stop next left ends label inner.1 in
          let rest = clauses_meet ch low u enters l o fits (suc i) cs rs stop label joined' next met others b.1 v (met_fits fip k left joined' meets kept) in
          record { all = both at start stop (sides ch low u enters _ more at start laid) (both start mid stop inner.0 (both mid next stop ended.all rest.all)); fits = rest.fits }

    names_none : (m : ℕ) → Rattle.lowering_soundness.proofs.Known.NamesUnder f.registers (replicate m None)
    names_none zero = tt
    names_none (suc m) = names_none m

    pub ranged : (d : Instance) → FunctionLaid c st fip f d → BuildsBlock c.types d.body → (i : ℕ) (x : Instr) → slice_get f.instrs i ≡ Some x → in_range c f i x ≡ true
    unfolding In
    ranged d laid b i x is = (block 0 (known_at_start st f.registers d) d.body Return (length f.instrs) laid.after laid.body b tt start).0 i x (omega arith) (get_within f.instrs i x is) is
      where
        nothing : Fits f.registers (nothing_known f.registers d.variables)
        nothing = record { names = names_none d.variables; held = length-replicate f.registers H.Nothing; credits = tt }

        start : Fits f.registers (known_at_start st f.registers d)
        start =
            let room = laid.room in
            let first = fits_params f.registers st (nothing_known f.registers d.variables) d.params d.binders (omega (arith, room)) nothing in
            let next = first.1 in
            fits_credits f.registers (with_params st (nothing_known f.registers d.variables) d.params d.binders) d.credits (omega (arith, room, next)) first.0
