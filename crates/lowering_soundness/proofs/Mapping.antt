-- The maps of all labels of an instance's function are formed: where a straight part begins, what is known is formed and
-- goes with the variables in scope; and what is reported while a clause is chosen goes with the registers before the match.
use Rattle.std.proofs.Common.{◌≡◌, inl, inr, ℕ, suc, ◌+◌, ◌≤◌, Bool, true, false, ◌&&◌, not, slice_get, List, [], ◌∷◌, ◌++◌, length, map, Some, refl, sym, ap, ◌∙◌, subst, arith}
use Rattle.separation.specs.fip_language.declared.Place.{Place}
use Rattle.separation.specs.fip_language.declared.Operator.{Operator}
use Rattle.lowering_relation.specs.fip_trees.Tree.{Argument, Arguments, NoArguments, MoreArguments, Pattern, Clauses, NoClauses, MoreClauses}
use Rattle.lowering_relation.specs.fip_trees.Tree.{Expression, Give, Tuple, Operation, Call, Match, Nested, Block, Last, Let}
use Rattle.separation.specs.cell_code.declared.kind.Kind.{Kind}
use Rattle.derivation_making.specs.fip_rules.World as R
use Rattle.derivation_making.specs.fip_rules.Shapes.{Names, following, shape, binders, takes}
use Rattle.derivation_making.specs.type_check.Binders.{all_annotated, entries}
use Rattle.derivation_making.specs.type_check.Scope.{Scope}
use Rattle.derivation_making.specs.type_check.World as W
use Rattle.derivation_making.specs.type_check.Typing.{Types, TypesBlock, TypesClauses, bound_by}
use Rattle.derivation_making.specs.ownership_calculus.Terms.{Item, Own, Term}
use Rattle.derivation_making.specs.ownership_calculus.Rules.{lending}
use Rattle.derivation_making.specs.ownership_calculus.Rules as O
use Rattle.derivation_making.specs.ownership_calculus.ByCases.{Derives}
use Rattle.derivation_making.specs.ownership_agreement.Bodies.{Scalars, variables, entering, inside, term, term_block, clauses, nodes, past_clause}
use Rattle.derivation_making.proofs.Reading.{next_after}
use Rattle.separation.specs.cell_code.Plain.{PlainFunction, PlainCode}
use Rattle.separation.specs.code_rules.Kinds.{at as kind_at}
use Rattle.separation.specs.code_rules.Tables.{AreSoundTables}
use Rattle.separation.specs.code_rules.Types.{is_type}
use Rattle.lowering_relation.specs.match_knowledge.Patterns.{IsPattern}
use Rattle.lowering_relation.specs.Spots.{register}
use Rattle.lowering_relation.specs.Opening.{Roomy}
use Rattle.lowering_relation.specs.Rows.{row_of}
use Rattle.lowering_relation.specs.declared.held.Held.TheVariants as H
use Rattle.lowering_relation.specs.Known.{Known, register_of}
use Rattle.lowering_relation.specs.Values.{Setting}
use Rattle.lowering_relation.specs.LoweredBodies.{Return, Into, result_type, handed, registers_for, reserved, with_names}
use Rattle.lowering_relation.specs.Describing.{held_at}
use Rattle.lowering_relation.specs.Labels.{reported, Reports, Quiet}
use Rattle.lowering_relation.specs.Standing.{is_open, AreOpen}
use Rattle.lowering_relation.specs.Joins.{ClauseEnds}
use Rattle.lowering_relation.specs.Tests.{Choice, SidesLaid}
use Rattle.lowering_relation.specs.Matches.{widened, wide_at, clause_patterns, entered, MatchLaid}
use Rattle.lowering_relation.specs.LaidBodies.{ValuesLaid, GiveLaid, OperatorLaid, CalledLaid, NamedLaid, ExpressionLaid, BlockLaid, ClausesLaid, ClausesMeet}
use Rattle.lowering_soundness.specs.Ties.{Rooted, Ties, owed}
use Rattle.lowering_soundness.specs.Built.{BuildsArgument, BuildsArguments, Builds, BuildsBlock, BuildsClauses}
use Rattle.lowering_soundness.specs.Laid.{Shares}
use Rattle.lowering_soundness.specs.Delivered.{Waiting}
use Rattle.lowering_soundness.specs.Placed.{Placed, NoneFrom, Numbered, NumberedBlock, NumberedClauses, Callees}
use Rattle.lowering_soundness.proofs.Bares.{bared, barely_nothing}
use Rattle.lowering_soundness.proofs.Chosen.{right_wide}
use Rattle.lowering_soundness.proofs.Clauses.{ties_reserved, reading, reading_kept}
use Rattle.lowering_soundness.proofs.ClauseEnding.{entry_waits}
use Rattle.lowering_soundness.proofs.Cleared.{Kept}
use Rattle.lowering_soundness.proofs.Lets.{lent_in, ties_lending, bind_many}
use Rattle.lowering_soundness.proofs.Matching.{scrutinee, DerivesBy, owner, all_entries, all_met, MatchOn, match_on}
use Rattle.lowering_soundness.proofs.Numbering.{Below, below_same, expression_below}
use Rattle.lowering_soundness.proofs.Standing.{Slotted, MatchStands}
use Rattle.lowering_soundness.proofs.EntryHeld.{held_wide}
use Rattle.lowering_soundness.proofs.Typed.{expression_types}
use Rattle.lowering_soundness.proofs.Bodies.{length_all_named, length_registers, registers_wait, waits_on, waiting_among, and_right, not_true, enter, after_placed, later, none_later, let_split, split_none, rest_none, lent_kept, unlent, named_done, registers_apart, wide_empty, past_placed, past_none, first_by, rest_by, on_entry, entry_below, past_below, let_below_later, let_below, into, block_into}
use Rattle.lowering_soundness.proofs.Labelled.{Labelled, labelled_none, labelled_on, labelled_quiet, labelled_sides}
use Rattle.lowering_soundness.proofs.Linked.{Linked, reported_linked, sight_linked}
use Rattle.lowering_soundness.proofs.Formed.{IsFormed, Formed, at_formed, wide_formed, moves_formed, gives_formed, over_formed, met_formed, result_formed, goes_formed, arguments_formed, handed_formed, taken_formed, received_formed, begins_formed, entered_formed}
use Rattle.lowering_soundness.proofs.Shaped.{IsShaped, IsRight, reported_shaped, sight_shaped, label_open}

reported_right : (c : PlainCode) (n : ℕ) (map : List Kind) (m : ℕ → Kind) → Reports n map m → Linked c.types m → ((r : ℕ) → IsShaped c.types (m r)) → IsRight c.types n map
reported_right c n map m reports linked shaped =
    let same : m ≡ kind_at map = λ i r. sym (reports.each r) i in
    record { wide = reports.wide; linked = subst (Linked c.types) same linked; shaped = λ r. subst (IsShaped c.types) (sym (reports.each r)) (shaped r) }

module _ (c : PlainCode) (f : PlainFunction) (st : Setting) (wd : W.World) (w : R.World) (fip : Bool) (shares : Shares c st wd) (callees : Callees c st wd w) (N : ℕ) (tables : AreSoundTables c) (opens : AreOpen f.labels) where
  abbrev pub AreRight : ℕ → ℕ → Type 0
  AreRight a b = Labelled f (IsRight c.types f.registers) a b

  known_right : (k : Known) (a b : ℕ) → Rooted (held_at k.held) → Formed c.types k.held → Quiet f a b (reported c k) → AreRight a b
  known_right k a b rooted formed quiet =
      labelled_quiet f (IsRight c.types f.registers) a b (reported c k) quiet (λ map there reports. reported_right c f.registers map (reported c k) reports (reported_linked c k rooted) (reported_shaped c k formed))

  -- ---- a match

  wide_each : (l : Known) → Formed c.types l.held → (r : ℕ) → IsFormed c.types (wide_at (held_at l.held) r)
  wide_each l formed r = subst (IsFormed c.types) (held_wide l.held r) (at_formed c.types (map widened l.held) r (wide_formed c.types l.held formed))

  sides_right : (ch : Choice) (l : Known) → MatchStands c st f ch l → Formed c.types l.held → (n at end : ℕ) → SidesLaid c f (wide_at (held_at l.held)) ch n at end → AreRight at end
  sides_right ch l stands formed n at end h =
      labelled_sides f (IsRight c.types f.registers) c (wide_at (held_at l.held)) ch
      (λ p κ read m sight map there reports. (
      let right = right_wide c st f ch l stands in
      reported_right c f.registers map m reports (sight_linked c f (wide_at (held_at l.held)) ch right κ read m sight)
      (sight_shaped c f (wide_at (held_at l.held)) ch right κ read m sight (wide_each l formed) (λ r. subst (λ k. is_open k ≡ true) (reports.each r) (label_open f.labels p map opens there r))))) n at end h

  match_right : (at : ℕ) (k : Known) (ds : Bool) (t : ℕ) (a : Argument) (q : Pattern) (cs : Clauses) (ch : Choice) (l : Known) (e : ℕ) → MatchLaid c st f at k ds t a q cs ch l e → MatchStands c st f ch l → Formed c.types l.held → AreRight at e
  match_right at k ds t a q cs ch l e laid stands formed =
      labelled_on f (IsRight c.types f.registers) at laid.mid e (known_right l at laid.mid stands.rooted formed laid.first.quiet) (sides_right ch l stands formed laid.more laid.mid e laid.sides)

  -- what clauses' patterns ask of the scrutinee
  abbrev Entries : Choice → List Pattern → Type 0
  Entries ch ps = (j : ℕ) (q : Pattern) → slice_get ps j ≡ Some q → Slotted st c.types ch.type q × IsPattern c.types ch.type (row_of q)

  entries_of : (ch : Choice) (l : Known) (q : Pattern) (cs : Clauses) → MatchStands c st f ch l → ch.patterns ≡ q ∷ clause_patterns cs → Entries ch (q ∷ clause_patterns cs)
  entries_of ch l q cs stands patterns j p there =
      let e = ap (λ ps. slice_get ps j) patterns ∙ there in (stands.slots j p e, stands.typed j p e)

  -- ---- what is known after a part

  values_formed : (at : ℕ) (k : Known) (as' : Arguments) (rs : List ℕ) (mid : ℕ) (m : Known) → ValuesLaid c st f at k as' rs mid m → BuildsArguments c.types as' → Formed c.types k.held → Formed c.types m.held
  values_formed at k as' rs mid m h builds formed = arguments_formed c st wd w shares callees tables f.instrs at k as' rs mid m h.arguments builds formed

  give_formed : (at : ℕ) (k : Known) (as' : Arguments) (ds : List ℕ) (end : ℕ) (l : Known) → GiveLaid c st fip f at k as' (Into ds) end l → BuildsArguments c.types as' → Formed c.types k.held → Formed c.types l.held
  give_formed at k as' ds end l h builds formed =
      moves_formed c.types f.instrs h.mid h.m h.registers ds end l h.given (values_formed at k as' h.registers h.mid h.m h.values builds formed)

  operator_formed : (at : ℕ) (k : Known) (o : Operator) (p : Place) (x y : Argument) (ds : List ℕ) (end : ℕ) (l : Known) → OperatorLaid c st fip f at k o p x y (Into ds) end l → BuildsArgument c.types x × BuildsArgument c.types y → Formed c.types k.held → Formed c.types l.held
  operator_formed at k o p x y ds end l h builds formed =
      let op = h.operation in
      moves_formed c.types f.instrs (suc h.mid) op.holds (op.destination ∷ []) ds end l op.given
      (goes_formed c st wd w shares callees tables (Into ds) h.m (H.Scalar (result_type o)) op.destination op.holds op.goes (result_formed c st wd w shares callees tables o)
      (values_formed at k (MoreArguments x (MoreArguments y NoArguments)) (h.left ∷ h.right ∷ []) h.mid h.m h.values (builds.0, (builds.1, tt)) formed))

  called_formed : (at : ℕ) (k : Known) (g : ℕ) (as' : Arguments) (ds : List ℕ) (end : ℕ) (l : Known) → CalledLaid c st fip f at k g as' (Into ds) end l → BuildsArguments c.types as' → Formed c.types k.held → Formed c.types l.held
  called_formed at k g as' ds end l h builds formed =
      let call = h.call in
      subst (λ (l : Known). Formed c.types l.held) (sym call.ends.known)
      (received_formed c st wd w shares callees tables call.m.held call.instance.results ds (shares.functions g call.function call.instance call.numbered call.there).typed
      (taken_formed c st wd w shares callees tables (record h.m { held = handed h.m.held call.instance.params h.registers }) call.instance.credits call.credits call.m call.taken
      (handed_formed c st wd w shares callees tables h.m.held call.instance.params h.registers (values_formed at k as' h.registers h.mid h.m h.values builds formed))))

  ends_formed : (o : Known) (e : Expression) (rs : List ℕ) (cs : Clauses) (at : ℕ) (k : Known) (target next : ℕ) (l : Known) → ClauseEnds c st fip f o e rs cs at k target next l → Formed c.types k.held → Formed c.types l.held
  ends_formed o e rs cs at k target next l h formed =
      subst (λ (l : Known). Formed c.types l.held) (sym h.known)
      (wide_formed c.types h.left.held (over_formed c.types f fip st o e rs h.mid h.bare h.stop h.left h.over (gives_formed c.types f true h.bares.steps at k h.mid h.bare h.bares.gives formed)))

  begun_formed : (at : ℕ) (k : Known) (ds : Bool) (t : ℕ) (a : Argument) (q : Pattern) (cs : Clauses) (ch : Choice) (l : Known) (e : ℕ) → MatchLaid c st f at k ds t a q cs ch l e → Formed c.types k.held → Formed c.types l.held
  begun_formed at k ds t a q cs ch l e laid formed = begins_formed c st wd w shares callees tables f at k laid.variable t ch l laid.begins formed

  opened_formed : (ch : Choice) (l : Known) (q : Pattern) (m : ℕ) → is_type c.types ch.type ≡ true → Slotted st c.types ch.type q × IsPattern c.types ch.type (row_of q) → Formed c.types l.held → Formed c.types (entered st ch q l m).held
  opened_formed ch l q m typed entry formed = entered_formed c st wd w shares callees tables ch q l m typed entry.0 entry.1 formed

  named_right : (at : ℕ) (k : Known) (e : Expression) (rs : List ℕ) (mid : ℕ) (m : Known) → NamedLaid c st f at k e rs mid m → Rooted (held_at k.held) → Formed c.types k.held → Builds c.types e → AreRight at mid × Formed c.types m.held
  named_right at k (Give a) rs mid m h rooted formed builds = (known_right k at mid rooted formed h.quiet, values_formed at k (MoreArguments a NoArguments) rs mid m h.values (builds, tt) formed)
  named_right at k (Tuple p as') rs mid m h rooted formed builds = (known_right k at mid rooted formed h.quiet, values_formed at k as' rs mid m h.values builds formed)
  named_right at k (Operation o p x y) rs mid m h rooted formed builds = absurd h
  named_right at k (Call g l p as') rs mid m h rooted formed builds = absurd h
  named_right at k (Match g t p a q body cs) rs mid m h rooted formed builds = absurd h
  named_right at k (Nested body) rs mid m h rooted formed builds = absurd h

  -- ---- results go to registers

  mutual
    into_right : (s : Scope) (sc : Scalars) (n : Names) (B : ℕ → Bool) (K : ℕ → Item → ℕ) → Placed c s sc n → (P X : Item → ℕ) (at : ℕ) (k : Known) (e : Expression) (ds : List ℕ) (end : ℕ) (l : Known) (b : Bool) (ts : List ℕ) → ExpressionLaid c st fip f at k e (Into ds) end l → Types true wd s b e ts → Derives fip B P (term w sc n e) → Numbered w N n e → Below k n.next → ((z y : ℕ) → K z (Own y) ≤ X (Own y)) → NoneFrom n.next (λ i. P i + X i) → Ties fip c.types s B K (λ i. P i + X i) (λ q. 0) k → Waiting k ds → length ds ≡ length ts → length k.names ≡ N → length k.held ≡ f.registers → Formed c.types k.held → Builds c.types e → AreRight at end × Formed c.types l.held
    into_right s sc n B K placed P X at k (Give a) ds end l b ts h typed d num below kept none ties wait many names wide formed builds = (known_right k at end ties.rooted formed h.quiet, give_formed at k (MoreArguments a NoArguments) ds end l h (builds, tt) formed)
    into_right s sc n B K placed P X at k (Tuple p as') ds end l b ts h typed d num below kept none ties wait many names wide formed builds = (known_right k at end ties.rooted formed h.quiet, give_formed at k as' ds end l h builds formed)
    into_right s sc n B K placed P X at k (Operation o p x y) ds end l b ts h typed d num below kept none ties wait many names wide formed builds = (known_right k at end ties.rooted formed h.quiet, operator_formed at k o p x y ds end l h builds formed)
    into_right s sc n B K placed P X at k (Call g nm p as') ds end l b ts h typed d num below kept none ties wait many names wide formed builds = (known_right k at end ties.rooted formed h.quiet, called_formed at k g as' ds end l h builds formed)
    into_right s sc n B K placed P X at k (Match g t p a q body cs) ds end l b ts h typed d num below kept none ties wait many names wide formed builds =
        let taken = takes w g t in
        let k0 = h.1 in
        let ch = h.2 in
        let l1 = h.3 in
        let e = h.4 in
        let m = h.5 in
        let next = h.8 in
        let left = h.9 in
        let met = h.10 in
        let entry = h.14 in
        let u = typed.0 in
        let ys = variables w n.next (binders q) in
        let bare = bared c f fip s B K (λ i. P i + X i) (λ q. 0) (λ z y. (let a = kept z y in omega (arith, a))) h.11.steps at k h.0 k0 h.11.gives ties h.12 in
        let laid : MatchLaid c st f h.0 k0 g u a q cs ch l1 e = subst (λ t. MatchLaid c st f h.0 k0 g t a q cs ch l1 e) typed.1 h.13 in
        let x = scrutinee c wd w s sc n a laid.variable false u placed laid.is_variable typed.2 in
        let utyped = placed.typed x.number u x.scope in
        let scalar = ap w.scalar typed.1 ∙ callees.scalars u utyped in
        let tb = term_block w (entering w n.next sc (binders q)) (inside w taken n (binders q)) body in
        let own = owner c st wd w shares callees f fip taken s sc n B K P X k0 a laid.variable u (register ch.root)
        (clauses w sc taken (past_clause w taken n q body) ys (nodes q) tb cs)
        kept x (λ e. sym scalar ∙ not_true (w.scalar t) (and_right g (not (w.scalar t)) e)) laid.begins.named d none bare.ties in
        let used = bare.ties.named x.number (register ch.root) (ap (register_of k0.names) (sym x.is) ∙ laid.begins.named) in
        let names0 : length k0.names ≡ N = ap length bare.names ∙ names in
        let wide0 = bare.width ∙ wide in
        let on = match_on c st wd w shares callees f fip taken s B K own.owned X own.read u g h.0 a ch k0 l1 q cs e ts laid (ap (λ b. g && not b) (shares.scalars u utyped ∙ sym scalar)) utyped typed.3 typed.5 used wide0 own.stands (all_met c st wd w shares callees f fip ch l1 (Match g t p a q body cs) q cs e m ds end left next met laid.patterns entry h.17) in
        let fb = first_by c f st wd w fip shares callees N taken sc n B own.owned (past_clause w taken n q body) ys (nodes q) tb cs own.derives in
        let room = num.1 in
        let many_names = on.names in
        let cb = on_entry c f st wd w fip shares callees N s sc n B K X own.read kept own.least placed own.owned own.none u utyped taken ch k0 l1 q cs on q fb.0 m fb.1 typed.3 (laid.begins.roomy 0 q (ap (λ ps. slice_get ps 0) laid.patterns)) num.0 (omega (arith, room, many_names, names0)) entry.more in
        let same_next = bare.next in
        let empty0 : (r : ℕ) → suc r ≤ k.next → held_at k.held r ≡ H.Nothing → held_at k0.held r ≡ H.Nothing = λ r low z. barely_nothing (held_at k.held) (held_at k0.held) r bare.each z in
        let wait0 = waits_on k k0 ds wait (omega (arith, same_next)) (λ r i. let z = waiting_among k ds r wait i in empty0 r z.1 z.0) in
        let empty1 : (r : ℕ) → suc r ≤ k0.next → held_at k0.held r ≡ H.Nothing → held_at l1.held r ≡ H.Nothing = λ r low z. wide_empty c f st wd w fip shares callees N (held_at l1.held r) (on.same_held r ∙ ap widened z) in
        let below1 = below_same k l1 n.next (on.same_names ∙ bare.names) below in
        let belowq = entry_below c f st wd w fip shares callees N n taken q ch l1 m num.0 below1 in
        let waits = entry_waits c st wd w shares callees f fip s sc n B K X own.read kept placed own.owned own.none u taken ch k0 l1 q cs on q m ds entry.more empty1 wait0 in
        let got = block_into c f st wd w fip shares callees N (s ++ bound_by wd (Some u) q) (entering w n.next sc (binders q)) (inside w taken n (binders q)) (O.setting ys (not taken) B) (reading taken ys own.read K) cb.placed fb.0 X e (entered st ch q l1 m) body ds h.6 h.7 b ts h.15 typed.4 fb.2 num.2 belowq (reading_kept taken ys own.read X K kept own.least) cb.none cb.ties waits many (cb.names ∙ (many_names ∙ names0)) (cb.width ∙ (on.width ∙ wide0)) in
        let chosen : is_type c.types ch.type ≡ true = ap (is_type c.types) laid.begins.type ∙ utyped in
        let formed0 = gives_formed c.types f true h.11.steps at k h.0 k0 h.11.gives formed in
        let formed1 = begun_formed h.0 k0 g u a q cs ch l1 e laid formed0 in
        let patterns = entries_of ch l1 q cs on.match_stands laid.patterns in
        let first = block_into_right (s ++ bound_by wd (Some u) q) (entering w n.next sc (binders q)) (inside w taken n (binders q)) (O.setting ys (not taken) B) (reading taken ys own.read K) cb.placed fb.0 X e (entered st ch q l1 m) body ds h.6 h.7 b ts h.15 typed.4 fb.2 num.2 belowq (reading_kept taken ys own.read X K kept own.least) cb.none cb.ties waits many (cb.names ∙ (many_names ∙ names0)) (cb.width ∙ (on.width ∙ wide0)) (opened_formed ch l1 q m chosen (patterns 0 q refl) formed1) builds.0 in
        let rest = clauses_into_right s sc (past_clause w taken n q body) B K X own.read kept own.least (past_placed c f st wd w fip shares callees N s sc n taken q body placed) own.owned (past_none c f st wd w fip shares callees N n taken q body (λ i. own.owned i + X i) own.none) u utyped taken ch k0 l1 q cs on (Match g t p a q body cs) 1 cs
        (λ j r there. laid.begins.roomy (suc j) r (ap (λ ps. slice_get ps (suc j)) laid.patterns ∙ there)) ys (nodes q) tb ds ts end left next met h.17 typed.5 own.derives num.3 (past_below c f st wd w fip shares callees N n taken q body l1 below1) empty1 wait0 many (many_names ∙ names0) (on.width ∙ wide0) chosen (λ j r there. patterns (suc j) r there) formed1 builds.1 (ends_formed l1 (Match g t p a q body cs) ds cs h.6 h.7 end next left h.16 first.1) in (
          labelled_on f (IsRight c.types f.registers) at h.0 end (known_right k at h.0 ties.rooted formed h.12)
              (labelled_on f (IsRight c.types f.registers) h.0 e end (match_right h.0 k0 g u a q cs ch l1 e laid on.match_stands formed1)
              (labelled_on f (IsRight c.types f.registers) e h.6 end first.0
              (labelled_on f (IsRight c.types f.registers) h.6 next end (known_right h.7 h.6 next got.delivered.ties.rooted first.1 h.16.quiet) rest.0))),
          subst (λ (l : Known). Formed c.types l.held) (sym h.18.known) rest.1,
        )
    into_right s sc n B K placed P X at k (Nested body) ds end l b ts h typed d num below kept none ties wait many names wide formed builds =
        block_into_right s sc n B K placed P X at k body ds end l b ts h typed d num below kept none ties wait many names wide formed builds

    block_into_right : (s : Scope) (sc : Scalars) (n : Names) (B : ℕ → Bool) (K : ℕ → Item → ℕ) → Placed c s sc n → (P X : Item → ℕ) (at : ℕ) (k : Known) (d : Block) (ds : List ℕ) (end : ℕ) (l : Known) (b : Bool) (ts : List ℕ) → BlockLaid c st fip f at k d (Into ds) end l → TypesBlock true wd s b d ts → Derives fip B P (term_block w sc n d) → NumberedBlock w N n d → Below k n.next → ((z y : ℕ) → K z (Own y) ≤ X (Own y)) → NoneFrom n.next (λ i. P i + X i) → Ties fip c.types s B K (λ i. P i + X i) (λ q. 0) k → Waiting k ds → length ds ≡ length ts → length k.names ≡ N → length k.held ≡ f.registers → Formed c.types k.held → BuildsBlock c.types d → AreRight at end × Formed c.types l.held
    block_into_right s sc n B K placed P X at k (Last e) ds end l b ts h typed d num below kept none ties wait many names wide formed builds =
        into_right s sc n B K placed P X at k e ds end l b ts h typed d num below kept none ties wait many names wide formed builds
    block_into_right s sc n B K placed A X at k (Let bs e rest) ds end l b ts (inl h) typed d num below kept none ties wait many names wide formed builds =
        let P = d.0 in
        let R = d.1 in
        let Q = d.2 in
        let rs = h.0 in
        let mid = h.1 in
        let m = h.2 in
        let us = typed.0 in
        let n1 = following n (shape w n e) in
        let D = O.setting (variables w n1.next bs) false B in
        let types = expression_types c st wd w shares callees s (all_annotated bs) e us placed.typed typed.1 in
        let parts = let_split c f st wd w fip shares callees N s B K A P R X k d.3 ties in
        let comp = named_done c f st wd w fip shares callees N s sc n (lending B R) (lent_in B K R) placed P (λ i. R i + X i) at k e rs mid m (all_annotated bs) us h.3 typed.1 d.5 (lent_kept c f st wd w fip shares callees N B K R X kept)
        (ties_lending fip c.types s B K (λ i. P i + (R i + X i)) R (λ q. 0) k (λ x. omega arith) parts) wide in
        let same_names = ap length comp.names in
        let room = num.1 in
        let ent = enter c f st wd w fip shares callees N s sc n1 bs us B K R Q X m rs (after_placed c f st wd w fip shares callees N s sc n e (later c f st wd w fip shares callees N n e) placed) num.0 (omega (arith, room, names, same_names)) typed.2 types d.4
        (none_later c f st wd w fip shares callees N n e (λ i. R i + X i) (rest_none c f st wd w fip shares callees N n.next P R X (split_none c f st wd w fip shares callees N n.next A P R X d.3 none))) kept (unlent c f st wd w fip shares callees N s B K R (λ i. R i + X i) (λ q. owed c.types rs us q + 0) m comp.ties) comp.hold in
        let after = with_names m bs rs in
        let waits = waits_on k after ds wait comp.next (λ r i. let a = waiting_among k ds r wait i in comp.empty r a.1 a.0) in
        let front = named_right at k e rs mid m h.3 ties.rooted formed builds.0 in
        let back = block_into_right (s ++ entries bs (map Some us)) (entering w n1.next sc bs) (inside w true n1 bs) D K ent.placed Q X mid after rest ds end l b ts h.4 typed.3 d.6 num.3 (let_below c f st wd w fip shares callees N n e bs rs m num.0 (below_same k m n.next comp.names below)) kept ent.none ent.ties waits many (length_all_named m.names bs rs ∙ (same_names ∙ names)) (comp.width ∙ wide) front.1 builds.1 in
        (labelled_on f (IsRight c.types f.registers) at mid end front.0 back.0, back.1)
    block_into_right s sc n B K placed A X at k (Let bs e rest) ds end l b ts (inr h) typed d num below kept none ties wait many names wide formed builds =
        let P = d.0 in
        let R = d.1 in
        let Q = d.2 in
        let rs = registers_for k.next bs in
        let mid = h.0 in
        let m = h.1 in
        let us = typed.0 in
        let n1 = following n (shape w n e) in
        let D = O.setting (variables w n1.next bs) false B in
        let types = expression_types c st wd w shares callees s (all_annotated bs) e us placed.typed typed.1 in
        let parts = let_split c f st wd w fip shares callees N s B K A P R X k d.3 ties in
        let more_next : k.next ≤ k.next + length bs = omega arith in
        let less = lent_kept c f st wd w fip shares callees N B K R X kept in
        let split = split_none c f st wd w fip shares callees N n.next A P R X d.3 none in
        let lent = ties_reserved fip c.types s (lending B R) (lent_in B K R) (λ i. P i + (R i + X i)) (λ q. 0) k (k.next + length bs) more_next (ties_lending fip c.types s B K (λ i. P i + (R i + X i)) R (λ q. 0) k (λ x. omega arith) parts) in
        let waits0 = registers_wait k k.next (k.next + length bs) bs ties.fresh (omega arith) in
        let as_many = length_registers k.next bs ∙ bind_many bs us typed.2 in
        let got = into c f st wd w fip shares callees N s sc n (lending B R) (lent_in B K R) placed P (λ i. R i + X i) at (reserved k bs) e rs mid m (all_annotated bs) us h.2 typed.1 d.5 num.2 below less split lent waits0 as_many names wide in
        let same_names = got.delivered.names in
        let room = num.1 in
        let ent = enter c f st wd w fip shares callees N s sc n1 bs us B K R Q X m rs (after_placed c f st wd w fip shares callees N s sc n e (later c f st wd w fip shares callees N n e) placed) num.0 (omega (arith, room, names, same_names)) typed.2 types d.4
        (none_later c f st wd w fip shares callees N n e (λ i. R i + X i) (rest_none c f st wd w fip shares callees N n.next P R X split)) kept (unlent c f st wd w fip shares callees N s B K R (λ i. R i + X i) (λ q. owed c.types rs us q + 0) m got.delivered.ties) got.delivered.hold in
        let below_m = expression_below c f st fip w N n at (reserved k bs) e rs mid m n1.next h.2 num.2 (let z = next_after w n e in omega (arith, z)) below in
        let below_after = let_below_later c f st wd w fip shares callees N n e bs rs m num.0 below_m in
        let after = with_names m bs rs in
        let waits = waits_on k after ds wait (let z = got.delivered.next in omega (arith, z)) (λ r i. let a = waiting_among k ds r wait i in let low = a.1 in got.delivered.empty r (omega (arith, low)) a.0 (registers_apart c f st wd w fip shares callees N k bs r a.1)) in
        let front = into_right s sc n (lending B R) (lent_in B K R) placed P (λ i. R i + X i) at (reserved k bs) e rs mid m (all_annotated bs) us h.2 typed.1 d.5 num.2 below less split lent waits0 as_many names wide formed builds.0 in
        let back = block_into_right (s ++ entries bs (map Some us)) (entering w n1.next sc bs) (inside w true n1 bs) D K ent.placed Q X mid after rest ds end l b ts h.3 typed.3 d.6 num.3 below_after kept ent.none ent.ties waits many (length_all_named m.names bs rs ∙ (same_names ∙ names)) (got.delivered.width ∙ wide) front.1 builds.1 in
        (labelled_on f (IsRight c.types f.registers) at mid end front.0 back.0, back.1)

    -- the clauses after one
    clauses_into_right : (s : Scope) (sc : Scalars) (n : Names) (B : ℕ → Bool) (K : ℕ → Item → ℕ) (X L : Item → ℕ) → Kept K X → ((y : ℕ) → L (Own y) ≤ X (Own y)) → Placed c s sc n → (R : Item → ℕ) → NoneFrom n.next (λ i. R i + X i) → (u : ℕ) → is_type c.types u ≡ true → (taken : Bool) (ch : Choice) (k l : Known) (q0 : Pattern) (cs0 : Clauses) → MatchOn c st wd w shares callees f fip taken s B K R X L u ch k l q0 cs0 → (o : Expression) (i : ℕ) (cs : Clauses) → ((j : ℕ) (q : Pattern) → slice_get (clause_patterns cs) j ≡ Some q → Roomy q ch.root) → (ys ks : List ℕ) (te : Term) (ds ts : List ℕ) (end : ℕ) (j : Known) (at : ℕ) (met : Known) → ClausesMeet c st fip f ch l o i cs ds end j at met → TypesClauses true wd s u cs ts → DerivesBy c st wd w shares callees f fip taken B R (clauses w sc taken n ys ks te cs) → NumberedClauses w N taken n cs → Below l n.next → ((r : ℕ) → suc r ≤ k.next → held_at k.held r ≡ H.Nothing → held_at l.held r ≡ H.Nothing) → Waiting k ds → length ds ≡ length ts → length l.names ≡ N → length l.held ≡ f.registers → is_type c.types ch.type ≡ true → Entries ch (clause_patterns cs) → Formed c.types l.held → BuildsClauses c.types cs → Formed c.types j.held → AreRight at end × Formed c.types met.held
    clauses_into_right s sc n B K X L kept least placed R none u utyped taken ch k l q0 cs0 on o i NoClauses roomy ys ks te ds ts end j at met h typed d num below empty wait many names wide chosen patterns formed builds before = (labelled_none f (IsRight c.types f.registers) at end (sym h.0), subst (λ (l : Known). Formed c.types l.held) (sym h.1) before)
    clauses_into_right s sc n B K X L kept least placed R none u utyped taken ch k l q0 cs0 on o i (MoreClauses q body cs) roomy ys ks te ds ts end j at met h typed d num below empty wait many names wide chosen patterns formed builds before =
        let start = h.1 in
        let m = h.2 in
        let next = h.5 in
        let both = h.7 in
        let entry = h.9 in
        let zs = variables w n.next (binders q) in
        let tb = term_block w (entering w n.next sc (binders q)) (inside w taken n (binders q)) body in
        let rest_d = rest_by c f st wd w fip shares callees N taken B R ys ks te (clauses w sc taken (past_clause w taken n q body) zs (nodes q) tb cs) d in
        let fb = first_by c f st wd w fip shares callees N taken sc n B R (past_clause w taken n q body) zs (nodes q) tb cs rest_d in
        let room = num.1 in
        let cb = on_entry c f st wd w fip shares callees N s sc n B K X L kept least placed R none u utyped taken ch k l q0 cs0 on q fb.0 m fb.1 typed.0 (roomy 0 q refl) num.0 (omega (arith, room, names)) entry.more in
        let belowq = entry_below c f st wd w fip shares callees N n taken q ch l m num.0 below in
        let waits = entry_waits c st wd w shares callees f fip s sc n B K X L kept placed R none u taken ch k l q0 cs0 on q m ds entry.more empty wait in
        let got = block_into c f st wd w fip shares callees N (s ++ bound_by wd (Some u) q) (entering w n.next sc (binders q)) (inside w taken n (binders q)) (O.setting zs (not taken) B) (reading taken zs L K) cb.placed fb.0 X start (entered st ch q l m) body ds h.3 h.4 true ts h.10 typed.1 fb.2 num.2 belowq (reading_kept taken zs L X K kept least) cb.none cb.ties waits many (cb.names ∙ names) (cb.width ∙ wide) in
        let one = block_into_right (s ++ bound_by wd (Some u) q) (entering w n.next sc (binders q)) (inside w taken n (binders q)) (O.setting zs (not taken) B) (reading taken zs L K) cb.placed fb.0 X start (entered st ch q l m) body ds h.3 h.4 true ts h.10 typed.1 fb.2 num.2 belowq (reading_kept taken zs L X K kept least) cb.none cb.ties waits many (cb.names ∙ names) (cb.width ∙ wide) (opened_formed ch l q m chosen (patterns 0 q refl) formed) builds.0 in
        let rest = clauses_into_right s sc (past_clause w taken n q body) B K X L kept least (past_placed c f st wd w fip shares callees N s sc n taken q body placed) R (past_none c f st wd w fip shares callees N n taken q body (λ i. R i + X i) none) u utyped taken ch k l q0 cs0 on o (suc i) cs
        (λ j r there. roomy (suc j) r there) zs (nodes q) tb ds ts end both next met h.13 typed.2 rest_d num.3 (past_below c f st wd w fip shares callees N n taken q body l below) empty wait many names wide chosen (λ j r there. patterns (suc j) r there) formed builds.1 (met_formed c.types j h.6 both h.12 before) in (
          labelled_on f (IsRight c.types f.registers) at start end (sides_right ch l on.match_stands formed h.0 at start h.8)
              (labelled_on f (IsRight c.types f.registers) start h.3 end one.0
              (labelled_on f (IsRight c.types f.registers) h.3 next end (known_right h.4 h.3 next got.delivered.ties.rooted one.1 h.11.quiet) rest.0)),
          rest.1,
        )

  -- ---- results are the function's

  mutual
    ends_right : (s : Scope) (sc : Scalars) (n : Names) (B : ℕ → Bool) (K : ℕ → Item → ℕ) → Placed c s sc n → (P : Item → ℕ) (at : ℕ) (k : Known) (e : Expression) (end : ℕ) (l : Known) (b : Bool) (ts : List ℕ) → ExpressionLaid c st fip f at k e Return end l → Types true wd s b e ts → Derives fip B P (term w sc n e) → Numbered w N n e → Below k n.next → ((z y : ℕ) → K z (Own y) ≤ 0) → NoneFrom n.next (λ i. P i + 0) → Ties fip c.types s B K (λ i. P i + 0) (λ q. 0) k → length k.names ≡ N → length k.held ≡ f.registers → Formed c.types k.held → Builds c.types e → AreRight at end
    ends_right s sc n B K placed P at k (Give a) end l b ts h typed d num below kept none ties names wide formed builds = known_right k at end ties.rooted formed h.quiet
    ends_right s sc n B K placed P at k (Tuple p as') end l b ts h typed d num below kept none ties names wide formed builds = known_right k at end ties.rooted formed h.quiet
    ends_right s sc n B K placed P at k (Operation o p x y) end l b ts h typed d num below kept none ties names wide formed builds = known_right k at end ties.rooted formed h.quiet
    ends_right s sc n B K placed P at k (Call g nm p as') end l b ts h typed d num below kept none ties names wide formed builds = known_right k at end ties.rooted formed h.quiet
    ends_right s sc n B K placed P at k (Match g t p a q body cs) end l b ts h typed d num below kept none ties names wide formed builds =
        let taken = takes w g t in
        let ch = h.0 in
        let l1 = h.1 in
        let e = h.2 in
        let m = h.3 in
        let mid = h.4 in
        let u = typed.0 in
        let entry = h.7 in
        let laid : MatchLaid c st f at k g u a q cs ch l1 e = subst (λ t. MatchLaid c st f at k g t a q cs ch l1 e) typed.1 h.6 in
        let x = scrutinee c wd w s sc n a laid.variable false u placed laid.is_variable typed.2 in
        let utyped = placed.typed x.number u x.scope in
        let scalar = ap w.scalar typed.1 ∙ callees.scalars u utyped in
        let own = owner c st wd w shares callees f fip taken s sc n B K P (λ i. 0) k a laid.variable u (register ch.root)
        (clauses w sc taken (past_clause w taken n q body) (variables w n.next (binders q)) (nodes q) (term_block w (entering w n.next sc (binders q)) (inside w taken n (binders q)) body) cs)
        kept x (λ e. sym scalar ∙ not_true (w.scalar t) (and_right g (not (w.scalar t)) e)) laid.begins.named d none ties in
        let used = ties.named x.number (register ch.root) (ap (register_of k.names) (sym x.is) ∙ laid.begins.named) in
        let on = match_on c st wd w shares callees f fip taken s B K own.owned (λ i. 0) own.read u g at a ch k l1 q cs e ts laid (ap (λ b. g && not b) (shares.scalars u utyped ∙ sym scalar)) utyped typed.3 typed.5 used wide own.stands (all_entries c st wd w shares callees f fip ch l1 q cs e m mid end laid.patterns entry h.9) in
        let fb = first_by c f st wd w fip shares callees N taken sc n B own.owned (past_clause w taken n q body) (variables w n.next (binders q)) (nodes q) (term_block w (entering w n.next sc (binders q)) (inside w taken n (binders q)) body) cs own.derives in
        let room = num.1 in
        let width = on.width in
        let many = on.names in
        let cb = on_entry c f st wd w fip shares callees N s sc n B K (λ i. 0) own.read kept own.least placed own.owned own.none u utyped taken ch k l1 q cs on q fb.0 m fb.1 typed.3 (laid.begins.roomy 0 q (ap (λ ps. slice_get ps 0) laid.patterns)) num.0 (omega (arith, room, many, names)) entry.more in
        let chosen : is_type c.types ch.type ≡ true = ap (is_type c.types) laid.begins.type ∙ utyped in
        let formed1 = begun_formed at k g u a q cs ch l1 e laid formed in
        let patterns = entries_of ch l1 q cs on.match_stands laid.patterns in
        let one = block_ends_right (s ++ bound_by wd (Some u) q) (entering w n.next sc (binders q)) (inside w taken n (binders q)) (O.setting (variables w n.next (binders q)) (not taken) B) (reading taken (variables w n.next (binders q)) own.read K) cb.placed fb.0 e (entered st ch q l1 m) body mid h.5 b ts h.8 typed.4 fb.2 num.2 (entry_below c f st wd w fip shares callees N n taken q ch l1 m num.0 (below_same k l1 n.next on.same_names below)) (reading_kept taken (variables w n.next (binders q)) own.read (λ i. 0) K kept own.least) cb.none cb.ties (cb.names ∙ (many ∙ names)) (cb.width ∙ (width ∙ wide)) (opened_formed ch l1 q m chosen (patterns 0 q refl) formed1) builds.0 in
        labelled_on f (IsRight c.types f.registers) at e end (match_right at k g u a q cs ch l1 e laid on.match_stands formed1)
        (labelled_on f (IsRight c.types f.registers) e mid end one
        (clauses_ends_right s sc (past_clause w taken n q body) B K own.read own.least (past_placed c f st wd w fip shares callees N s sc n taken q body placed) own.owned (past_none c f st wd w fip shares callees N n taken q body (λ i. own.owned i + 0) own.none) u utyped taken ch k l1 q cs on 1 cs
        (λ j r there. laid.begins.roomy (suc j) r (ap (λ ps. slice_get ps (suc j)) laid.patterns ∙ there)) (variables w n.next (binders q)) (nodes q) (term_block w (entering w n.next sc (binders q)) (inside w taken n (binders q)) body) mid end ts h.9 typed.5 own.derives num.3 (past_below c f st wd w fip shares callees N n taken q body l1 (below_same k l1 n.next on.same_names below)) kept (many ∙ names) (width ∙ wide) chosen (λ j r there. patterns (suc j) r there) formed1 builds.1))
    ends_right s sc n B K placed P at k (Nested body) end l b ts h typed d num below kept none ties names wide formed builds =
        block_ends_right s sc n B K placed P at k body end l b ts h typed d num below kept none ties names wide formed builds

    pub block_ends_right : (s : Scope) (sc : Scalars) (n : Names) (B : ℕ → Bool) (K : ℕ → Item → ℕ) → Placed c s sc n → (P : Item → ℕ) (at : ℕ) (k : Known) (d : Block) (end : ℕ) (l : Known) (b : Bool) (ts : List ℕ) → BlockLaid c st fip f at k d Return end l → TypesBlock true wd s b d ts → Derives fip B P (term_block w sc n d) → NumberedBlock w N n d → Below k n.next → ((z y : ℕ) → K z (Own y) ≤ 0) → NoneFrom n.next (λ i. P i + 0) → Ties fip c.types s B K (λ i. P i + 0) (λ q. 0) k → length k.names ≡ N → length k.held ≡ f.registers → Formed c.types k.held → BuildsBlock c.types d → AreRight at end
    block_ends_right s sc n B K placed P at k (Last e) end l b ts h typed d num below kept none ties names wide formed builds =
        ends_right s sc n B K placed P at k e end l b ts h typed d num below kept none ties names wide formed builds
    block_ends_right s sc n B K placed A at k (Let bs e rest) end l b ts (inl h) typed d num below kept none ties names wide formed builds =
        let P = d.0 in
        let R = d.1 in
        let Q = d.2 in
        let X : Item → ℕ = λ i. 0 in
        let rs = h.0 in
        let mid = h.1 in
        let m = h.2 in
        let us = typed.0 in
        let n1 = following n (shape w n e) in
        let D = O.setting (variables w n1.next bs) false B in
        let types = expression_types c st wd w shares callees s (all_annotated bs) e us placed.typed typed.1 in
        let parts = let_split c f st wd w fip shares callees N s B K A P R X k d.3 ties in
        let comp = named_done c f st wd w fip shares callees N s sc n (lending B R) (lent_in B K R) placed P (λ i. R i + X i) at k e rs mid m (all_annotated bs) us h.3 typed.1 d.5 (lent_kept c f st wd w fip shares callees N B K R X kept)
        (ties_lending fip c.types s B K (λ i. P i + (R i + X i)) R (λ q. 0) k (λ x. omega arith) parts) wide in
        let same_names = ap length comp.names in
        let room = num.1 in
        let ent = enter c f st wd w fip shares callees N s sc n1 bs us B K R Q X m rs (after_placed c f st wd w fip shares callees N s sc n e (later c f st wd w fip shares callees N n e) placed) num.0 (omega (arith, room, names, same_names)) typed.2 types d.4
        (none_later c f st wd w fip shares callees N n e (λ i. R i + X i) (rest_none c f st wd w fip shares callees N n.next P R X (split_none c f st wd w fip shares callees N n.next A P R X d.3 none))) kept (unlent c f st wd w fip shares callees N s B K R (λ i. R i + X i) (λ q. owed c.types rs us q + 0) m comp.ties) comp.hold in
        let front = named_right at k e rs mid m h.3 ties.rooted formed builds.0 in
        labelled_on f (IsRight c.types f.registers) at mid end front.0
        (block_ends_right (s ++ entries bs (map Some us)) (entering w n1.next sc bs) (inside w true n1 bs) D K ent.placed Q mid (with_names m bs rs) rest end l b ts h.4 typed.3 d.6 num.3 (let_below c f st wd w fip shares callees N n e bs rs m num.0 (below_same k m n.next comp.names below)) kept ent.none ent.ties (length_all_named m.names bs rs ∙ (same_names ∙ names)) (comp.width ∙ wide) front.1 builds.1)
    block_ends_right s sc n B K placed A at k (Let bs e rest) end l b ts (inr h) typed d num below kept none ties names wide formed builds =
        let P = d.0 in
        let R = d.1 in
        let Q = d.2 in
        let X : Item → ℕ = λ i. 0 in
        let rs = registers_for k.next bs in
        let mid = h.0 in
        let m = h.1 in
        let us = typed.0 in
        let n1 = following n (shape w n e) in
        let D = O.setting (variables w n1.next bs) false B in
        let types = expression_types c st wd w shares callees s (all_annotated bs) e us placed.typed typed.1 in
        let parts = let_split c f st wd w fip shares callees N s B K A P R X k d.3 ties in
        let more_next : k.next ≤ k.next + length bs = omega arith in
        let less = lent_kept c f st wd w fip shares callees N B K R X kept in
        let split = split_none c f st wd w fip shares callees N n.next A P R X d.3 none in
        let lent = ties_reserved fip c.types s (lending B R) (lent_in B K R) (λ i. P i + (R i + X i)) (λ q. 0) k (k.next + length bs) more_next (ties_lending fip c.types s B K (λ i. P i + (R i + X i)) R (λ q. 0) k (λ x. omega arith) parts) in
        let waits0 = registers_wait k k.next (k.next + length bs) bs ties.fresh (omega arith) in
        let as_many = length_registers k.next bs ∙ bind_many bs us typed.2 in
        let got = into c f st wd w fip shares callees N s sc n (lending B R) (lent_in B K R) placed P (λ i. R i + X i) at (reserved k bs) e rs mid m (all_annotated bs) us h.2 typed.1 d.5 num.2 below less split lent waits0 as_many names wide in
        let same_names = got.delivered.names in
        let room = num.1 in
        let ent = enter c f st wd w fip shares callees N s sc n1 bs us B K R Q X m rs (after_placed c f st wd w fip shares callees N s sc n e (later c f st wd w fip shares callees N n e) placed) num.0 (omega (arith, room, names, same_names)) typed.2 types d.4
        (none_later c f st wd w fip shares callees N n e (λ i. R i + X i) (rest_none c f st wd w fip shares callees N n.next P R X split)) kept (unlent c f st wd w fip shares callees N s B K R (λ i. R i + X i) (λ q. owed c.types rs us q + 0) m got.delivered.ties) got.delivered.hold in
        let front = into_right s sc n (lending B R) (lent_in B K R) placed P (λ i. R i + X i) at (reserved k bs) e rs mid m (all_annotated bs) us h.2 typed.1 d.5 num.2 below less split lent waits0 as_many names wide formed builds.0 in
        labelled_on f (IsRight c.types f.registers) at mid end front.0
        (block_ends_right (s ++ entries bs (map Some us)) (entering w n1.next sc bs) (inside w true n1 bs) D K ent.placed Q mid (with_names m bs rs) rest end l b ts h.3 typed.3 d.6 num.3 (let_below_later c f st wd w fip shares callees N n e bs rs m num.0 (expression_below c f st fip w N n at (reserved k bs) e rs mid m n1.next h.2 num.2 (let z = next_after w n e in omega (arith, z)) below)) kept ent.none ent.ties (length_all_named m.names bs rs ∙ (same_names ∙ names)) (got.delivered.width ∙ wide) front.1 builds.1)

    -- the clauses after one
    clauses_ends_right : (s : Scope) (sc : Scalars) (n : Names) (B : ℕ → Bool) (K : ℕ → Item → ℕ) (L : Item → ℕ) → ((y : ℕ) → L (Own y) ≤ 0) → Placed c s sc n → (R : Item → ℕ) → NoneFrom n.next (λ i. R i + 0) → (u : ℕ) → is_type c.types u ≡ true → (taken : Bool) (ch : Choice) (k l : Known) (q0 : Pattern) (cs0 : Clauses) → MatchOn c st wd w shares callees f fip taken s B K R (λ i. 0) L u ch k l q0 cs0 → (i : ℕ) (cs : Clauses) → ((j : ℕ) (q : Pattern) → slice_get (clause_patterns cs) j ≡ Some q → Roomy q ch.root) → (ys ks : List ℕ) (te : Term) (at end : ℕ) (ts : List ℕ) → ClausesLaid c st fip f ch l i cs at end → TypesClauses true wd s u cs ts → DerivesBy c st wd w shares callees f fip taken B R (clauses w sc taken n ys ks te cs) → NumberedClauses w N taken n cs → Below l n.next → ((z y : ℕ) → K z (Own y) ≤ 0) → length l.names ≡ N → length l.held ≡ f.registers → is_type c.types ch.type ≡ true → Entries ch (clause_patterns cs) → Formed c.types l.held → BuildsClauses c.types cs → AreRight at end
    clauses_ends_right s sc n B K L least placed R none u utyped taken ch k l q0 cs0 on i NoClauses roomy ys ks te at end ts h typed d num below kept names wide chosen patterns formed builds = labelled_none f (IsRight c.types f.registers) at end h
    clauses_ends_right s sc n B K L least placed R none u utyped taken ch k l q0 cs0 on i (MoreClauses q body cs) roomy ys ks te at end ts h typed d num below kept names wide chosen patterns formed builds =
        let start = h.1 in
        let m = h.2 in
        let mid = h.3 in
        let entry = h.6 in
        let tb = term_block w (entering w n.next sc (binders q)) (inside w taken n (binders q)) body in
        let rest = rest_by c f st wd w fip shares callees N taken B R ys ks te (clauses w sc taken (past_clause w taken n q body) (variables w n.next (binders q)) (nodes q) tb cs) d in
        let fb = first_by c f st wd w fip shares callees N taken sc n B R (past_clause w taken n q body) (variables w n.next (binders q)) (nodes q) tb cs rest in
        let room = num.1 in
        let cb = on_entry c f st wd w fip shares callees N s sc n B K (λ i. 0) L kept least placed R none u utyped taken ch k l q0 cs0 on q fb.0 m fb.1 typed.0 (roomy 0 q refl) num.0 (omega (arith, room, names)) entry.more in
        let one = block_ends_right (s ++ bound_by wd (Some u) q) (entering w n.next sc (binders q)) (inside w taken n (binders q)) (O.setting (variables w n.next (binders q)) (not taken) B) (reading taken (variables w n.next (binders q)) L K) cb.placed fb.0 start (entered st ch q l m) body mid h.4 true ts h.7 typed.1 fb.2 num.2 (entry_below c f st wd w fip shares callees N n taken q ch l m num.0 below) (reading_kept taken (variables w n.next (binders q)) L (λ i. 0) K kept least) cb.none cb.ties (cb.names ∙ names) (cb.width ∙ wide) (opened_formed ch l q m chosen (patterns 0 q refl) formed) builds.0 in
        labelled_on f (IsRight c.types f.registers) at start end (sides_right ch l on.match_stands formed h.0 at start h.5)
        (labelled_on f (IsRight c.types f.registers) start mid end one
        (clauses_ends_right s sc (past_clause w taken n q body) B K L least (past_placed c f st wd w fip shares callees N s sc n taken q body placed) R (past_none c f st wd w fip shares callees N n taken q body (λ i. R i + 0) none) u utyped taken ch k l q0 cs0 on (suc i) cs
        (λ j r there. roomy (suc j) r there) (variables w n.next (binders q)) (nodes q) tb mid end ts h.8 typed.2 rest num.3 (past_below c f st wd w fip shares callees N n taken q body l below) kept names wide chosen (λ j r there. patterns (suc j) r there) formed builds.1))
