-- Only variables whose binders are before a place have registers there.
use Rattle.std.proofs.Common.{◌≡◌, inl, inr, ℕ, zero, suc, ◌+◌, ◌<◌, ◌≤◌, Bool, true, false, ◌||◌, List, [], ◌∷◌, length, replicate, get_or, Option, Some, None, refl, sym, ap, ◌∙◌, arith, if◌then◌else◌, ◌==◌}
use Rattle.std.proofs.lemmas.Option.{none-some}
use Rattle.separation.specs.fip_base.declared.plain.Param.{Param}
use Rattle.lowering_relation.specs.fip_trees.declared.program.Binder.{Binder}
use Rattle.lowering_relation.specs.fip_trees.Tree.{Argument, Variable, Literal, Constructor, Arguments, NoArguments, MoreArguments}
use Rattle.lowering_relation.specs.fip_trees.Tree.{Pattern, BinderPattern, LiteralPattern, ConstructorPattern, Patterns, NoPatterns, MorePatterns}
use Rattle.lowering_relation.specs.fip_trees.Tree.{Expression, Give, Tuple, Operation, Call, Match, Nested, Block, Last, Let, Clauses, NoClauses, MoreClauses, Instance}
use Rattle.derivation_making.specs.fip_rules.World as R
use Rattle.derivation_making.specs.fip_rules.Shapes.{Names, following, shape, binders, binders_all, takes}
use Rattle.derivation_making.specs.derivation_check.Scopes.{within, within_block, within_clauses}
use Rattle.derivation_making.specs.ownership_agreement.Bodies.{inside, past_clause}
use Rattle.derivation_making.proofs.Linking.{next_inside}
use Rattle.derivation_making.proofs.Reading.{next_after, next_past}
use Rattle.separation.specs.cell_code.Plain.{PlainFunction, PlainCode}
use Rattle.separation.proofs.separation_kinds.Basics.{or_not, equal, unequal}
use Rattle.lowering_relation.specs.Spots.{Spot, At, Spots, NoSpots, MoreSpots, register}
use Rattle.lowering_relation.specs.Opening.{is_named}
use Rattle.lowering_relation.specs.Entering.{unnaming, variable_held, with_variable, with_cell, entering, entering_all, root_of, spent_if, entering_root}
use Rattle.lowering_relation.specs.declared.held.Held.{Held}
use Rattle.lowering_relation.specs.declared.held.Held.TheVariants as H
use Rattle.lowering_relation.specs.Known.{Known, register_of, naming, holding}
use Rattle.lowering_relation.specs.Values.{Setting, is_scalar, ArgumentAt, ArgumentsAt, BuiltAt}
use Rattle.lowering_relation.specs.LoweredFunctions.{with_param, with_params, with_next_credit, with_credits, nothing_known, known_at_start}
use Rattle.lowering_relation.specs.LoweredBodies.{Into, registers_for, reserved, with_names, GoesTo, AreTaken}
use Rattle.lowering_relation.specs.GivenUp.{GivesOne, GivesUp}
use Rattle.lowering_relation.specs.Moves.{MoveLaid, MovesLaid}
use Rattle.lowering_relation.specs.Matches.{entered, Forgets, MatchLaid}
use Rattle.lowering_relation.specs.Tests.{Choice}
use Rattle.lowering_relation.specs.Leftover.{LeavesOver}
use Rattle.lowering_relation.specs.Joins.{ClauseEnds, Met}
use Rattle.lowering_relation.specs.LaidBodies.{NamedLaid, ExpressionLaid, BlockLaid, ClausesMeet}
use Rattle.lowering_soundness.specs.Placed.{InOrder, Numbered, NumberedBlock, NumberedClauses}
use Rattle.lowering_soundness.proofs.Naming.{register_old}
use Rattle.lowering_soundness.proofs.Cleared.{unless_register, unnamed_old}
use Rattle.lowering_soundness.proofs.Openings.{order_both}

-- variables with registers have numbers below n
abbrev pub Below : Known → ℕ → Type 0
Below k n = (x r : ℕ) → register_of k.names (Some x) ≡ Some r → x < n

pub below_same : (k l : Known) (n : ℕ) → l.names ≡ k.names → Below k n → Below l n
below_same k l n e h x r is = h x r (ap (λ ns. register_of ns (Some x)) (sym e) ∙ is)

pub below_more : (k : Known) (n m : ℕ) → n ≤ m → Below k n → Below k m
below_more k n m le h x r is = let z = h x r is in omega (arith, z, le)

-- ---- variables get registers

named_below : (k : Known) (y r n : ℕ) → y < n → Below k n → Below (naming k y r) n
named_below k y r n low h x p is = elim (or_not (y == x)) as (λ v. x < n) [
  | inl same ↦ (let e = equal y x same in omega (arith, e, low))
  | inr other ↦ h x p (sym (register_old k.names y r x (unequal y x other)) ∙ is)
]

unnamed_below : (k : Known) (y n : ℕ) → y < n → Below k n → Below (unnaming k y) n
unnamed_below k y n low h x p is = elim (or_not (y == x)) as (λ v. x < n) [
  | inl same ↦ (let e = equal y x same in omega (arith, e, low))
  | inr other ↦ h x p (sym (unnamed_old k.names y x (unequal y x other)) ∙ is)
]

pub lets_below : (bs : List Binder) (rs : List ℕ) (k : Known) (n m : ℕ) → InOrder n bs → n + length bs ≤ m → Below k m → Below (with_names k bs rs) m
lets_below [] rs k n m order room h = h
lets_below (b ∷ bs) [] k n m order room h = h
lets_below (b ∷ bs) (r ∷ rs) k n m order room h = lets_below bs rs (naming k b.number r) (suc n) m order.1 (omega (arith, room)) (named_below k b.number r m (let e = order.0 in omega (arith, e, room)) h)

-- ---- a clause's entry

module _ (st : Setting) (takes : Bool) where
  variable_below : (root : Option ℕ) (b : Binder) (r : ℕ) (k : Known) (m : ℕ) → b.number < m → Below k m → Below (with_variable st takes root b r k) m
  variable_below root b r k m low h = by (takes || is_named b)
    where
      by : (y : Bool) → Below (if y then holding (naming k b.number r) r (variable_held st takes root b.ty) else unnaming k b.number) m
      by true = below_same (naming k b.number r) (holding (naming k b.number r) r (variable_held st takes root b.ty)) m refl (named_below k b.number r m low h)
      by false = unnamed_below k b.number m low h

  cell_below : (t d : ℕ) (ps : Patterns) (r : ℕ) (k : Known) (m : ℕ) → Below k m → Below (with_cell st takes t d ps r k) m
  cell_below t d ps r k m h = by takes ps
    where
      by_bare : (y : Bool) → Below (if y then k else holding k r (H.Bare t d)) m
      by_bare true = h
      by_bare false = below_same k (holding k r (H.Bare t d)) m refl h

      by : (y : Bool) (ps : Patterns) → Below (with_cell st y t d ps r k) m
      by false ps = h
      by true NoPatterns = by_bare (is_scalar st t)
      by true (MorePatterns p ps) = λ x q is. h x q (unless_register r k.names x q is)

  mutual
    entering_below : (root : Option ℕ) (p : Pattern) (q : Spot) (k : Known) (n m : ℕ) → InOrder n (binders p) → n + length (binders p) ≤ m → Below k m → Below (entering st takes root p q k) m
    entering_below root (BinderPattern b) (At r fs) k n m order room h = variable_below root b r k m (let e = order.0 in omega (arith, e, room)) h
    entering_below root (LiteralPattern i p) (At r fs) k n m order room h = h
    entering_below root (ConstructorPattern t d c l p ps) (At r fs) k n m order room h = all_below root ps fs (with_cell st takes t c ps r k) n m order room (cell_below t c ps r k m h)

    all_below : (root : Option ℕ) (ps : Patterns) (qs : Spots) (k : Known) (n m : ℕ) → InOrder n (binders_all ps) → n + length (binders_all ps) ≤ m → Below k m → Below (entering_all st takes root ps qs k) m
    all_below root NoPatterns qs k n m order room h = h
    all_below root (MorePatterns p ps) NoSpots k n m order room h = h
    all_below root (MorePatterns p ps) (MoreSpots q qs) k n m order room h =
        let parts = order_both n (binders p) (binders_all ps) order in
        let many = Rattle.std.proofs.Common.length-append (binders p) (binders_all ps) in
        all_below root ps qs (entering st takes root p q k) (n + length (binders p)) m parts.1 (omega (arith, room, many))
        (entering_below root p q k n m parts.0 (omega (arith, room, many)) h)

  root_below : (q : Pattern) (s : Spot) (k : Known) (n m : ℕ) → InOrder n (binders q) → n + length (binders q) ≤ m → Below k m → Below (entering_root st takes q s k) m
  root_below (BinderPattern b) (At r fs) k n m order room h = named_below k b.number r m (let e = order.0 in omega (arith, e, room)) h
  root_below (LiteralPattern i p) (At r fs) k n m order room h = h
  root_below (ConstructorPattern t d c l p ps) (At r fs) k n m order room h =
      entering_below (root_of r (get_or k.held r H.Nothing)) (ConstructorPattern t d c l p ps) (At r fs) (spent_if takes r k) n m order room (spent takes)
    where
      spent : (b : Bool) → Below (spent_if b r k) m
      spent true = h
      spent false = h

pub entered_below : (st : Setting) (ch : Choice) (q : Pattern) (l : Known) (next n m : ℕ) → InOrder n (binders q) → n + length (binders q) ≤ m → Below l m → Below (entered st ch q l next) m
entered_below st ch q l next n m order room h = root_below st ch.takes q ch.root (record l { next = next }) n m order room h

-- ---- the start of a function

params_below : (st : Setting) (ps : List Param) (bs : List Binder) (k : Known) (n m : ℕ) → InOrder n bs → n + length bs ≤ m → Below k m → Below (with_params st k ps bs) m
params_below st [] bs k n m order room h = h
params_below st (p ∷ ps) [] k n m order room h = h
params_below st (p ∷ ps) (b ∷ bs) k n m order room h =
    params_below st ps bs (with_param st k p b) (suc n) m order.1 (omega (arith, room))
    (below_same (naming k b.number k.next) (with_param st k p b) m refl (named_below k b.number k.next m (let e = order.0 in omega (arith, e, room)) h))

credits_below : (ns : List ℕ) (k : Known) (m : ℕ) → Below k m → Below (with_credits k ns) m
credits_below [] k m h = h
credits_below (n ∷ ns) k m h = credits_below ns (with_next_credit k n) m (λ x q is. h x q (unless_register k.next k.names x q is))

nothing_below : (v x r : ℕ) → register_of (replicate v None) (Some x) ≡ Some r → ⊥
nothing_below zero x r h = absurd (cc)
nothing_below (suc v) zero r h = absurd (cc)
nothing_below (suc v) (suc x) r h = nothing_below v x r h

pub start_below : (st : Setting) (n : ℕ) (d : Instance) (m : ℕ) → InOrder 0 d.binders → length d.binders ≤ m → Below (known_at_start st n d) m
start_below st n d m order room =
    credits_below d.credits (with_params st (nothing_known n d.variables) d.params d.binders) m
    (params_below st d.params d.binders (nothing_known n d.variables) 0 m order (omega (arith, room)) (λ x r is. absurd (nothing_below d.variables x r is)))

-- ---- where no variable gets a register

mutual
  argument_names : (st : Setting) (code : List Rattle.separation.specs.cell_code.declared.code.Instr.Instr) (at : ℕ) (k : Known) (a : Argument) (r end : ℕ) (l : Known) → ArgumentAt st code at k a r end l → l.names ≡ k.names
  argument_names st code at k (Variable x n p) r end l h = ap (λ (l : Known). l.names) h.known
  argument_names st code at k (Literal i p) r end l h = ap (λ (l : Known). l.names) h.known
  argument_names st code at k (Constructor t d c n p as') r end l h = built h.0 h.4 ∙ arguments_names st code at k as' h.0 h.1 h.2 h.3
    where
      built : (rs : List ℕ) → BuiltAt st code h.1 h.2 t c rs r end l → l.names ≡ h.2.names
      built [] (inl y) = ap (λ (l : Known). l.names) y.known
      built [] (inr y) = ap (λ (l : Known). l.names) y.known
      built (x ∷ xs) y = ap (λ (l : Known). l.names) y.known

  pub arguments_names : (st : Setting) (code : List Rattle.separation.specs.cell_code.declared.code.Instr.Instr) (at : ℕ) (k : Known) (as' : Arguments) (rs : List ℕ) (end : ℕ) (l : Known) → ArgumentsAt st code at k as' rs end l → l.names ≡ k.names
  arguments_names st code at k NoArguments [] end l h = ap (λ (l : Known). l.names) h.1
  arguments_names st code at k NoArguments (r ∷ rs) end l h = absurd h
  arguments_names st code at k (MoreArguments a as') [] end l h = absurd h
  arguments_names st code at k (MoreArguments a as') (r ∷ rs) end l h = arguments_names st code h.0 h.1 as' rs end l h.3 ∙ argument_names st code at k a r h.0 h.1 h.2

moves_names : (code : List Rattle.separation.specs.cell_code.declared.code.Instr.Instr) (at : ℕ) (k : Known) (rs ds : List ℕ) (end : ℕ) (l : Known) → MovesLaid code at k rs ds end l → l.names ≡ k.names
moves_names code at k [] ds end l h = ap (λ (l : Known). l.names) h.1
moves_names code at k (r ∷ rs) [] end l h = ap (λ (l : Known). l.names) h.1
moves_names code at k (r ∷ rs) (d ∷ ds) end l h = moves_names code h.0 h.1 rs ds end l h.3 ∙ move h.2
  where
    move : MoveLaid code at k r d h.0 h.1 → h.1.names ≡ k.names
    move (inl y) = ap (λ (l : Known). l.names) y.1.known
    move (inr y) = ap (λ (l : Known). l.names) y.known

goes_names : (ds : List ℕ) (k : Known) (h : Held) (d : ℕ) (l : Known) → GoesTo (Into ds) k h d l → l.names ≡ k.names
goes_names [] k h d l y = ap (λ (l : Known). l.names) y.1
goes_names (e ∷ ds) k h d l y = ap (λ (l : Known). l.names) y.1

taken_names : (k : Known) (ns rs : List ℕ) (l : Known) → AreTaken k ns rs l → l.names ≡ k.names
taken_names k [] [] l h = ap (λ (l : Known). l.names) h
taken_names k [] (r ∷ rs) l h = absurd h
taken_names k (n ∷ ns) [] l h = absurd h
taken_names k (n ∷ ns) (r ∷ rs) l h = taken_names (record k { held = Rattle.std.specs.Prelude.slice_set k.held r H.Nothing; credits = h.0 }) ns rs l h.2

pub gives_names : (f : PlainFunction) (fip : Bool) (n at : ℕ) (k : Known) (end : ℕ) (l : Known) → GivesUp fip f n at k end l → l.names ≡ k.names
gives_names f fip zero at k end l h = ap (λ (l : Known). l.names) h.1
gives_names f fip (suc n) at k end l h = gives_names f fip n (suc at) h.0 end l h.2 ∙ one h.1
  where
    one : GivesOne fip f at k h.0 → h.0.names ≡ k.names
    one (inl y) = ap (λ (l : Known). l.names) y.known
    one (inr y) = elim y.1 as (λ v. h.0.names ≡ k.names) [
      | inl d ↦ ap (λ (l : Known). l.names) d.known
      | inr d ↦ ap (λ (l : Known). l.names) d.known
    ]

module _ (c : PlainCode) (f : PlainFunction) (st : Setting) (fip : Bool) (w : R.World) (N : ℕ) where
  pub match_names : (at : ℕ) (k : Known) (g : Bool) (t : ℕ) (a : Argument) (q : Pattern) (cs : Clauses) (ch : Choice) (l : Known) (e : ℕ) → MatchLaid c st f at k g t a q cs ch l e → l.names ≡ k.names
  match_names at k g t a q cs ch l e h = ap (λ (l : Known). l.names) h.begins.is ∙ by h.begins.forgets
    where
      by : Forgets c f at k (register ch.root) h.begins.known → h.begins.known.names ≡ k.names
      by (inl y) = ap (λ (l : Known). l.names) y.0
      by (inr y) = ap (λ (l : Known). l.names) y.0

  over_names : (b : Bool) (o : Known) (e : Expression) (rs : List ℕ) (at : ℕ) (k : Known) (end : ℕ) (l : Known) → LeavesOver b st f o e rs at k end l → l.names ≡ k.names
  over_names true o e rs at k end l h = ap (λ (l : Known). l.names) h.1
  over_names false o e rs at k end l h = gives_names f false h.steps at k end l h.gives

  ends_names : (o : Known) (e : Expression) (rs : List ℕ) (cs : Clauses) (at : ℕ) (k : Known) (target next : ℕ) (l : Known) → ClauseEnds c st fip f o e rs cs at k target next l → l.names ≡ k.names
  ends_names o e rs cs at k target next l h =
      ap (λ (l : Known). l.names) h.known
      ∙ (over_names fip o e rs h.mid h.bare h.stop h.left h.over ∙ gives_names f true h.bares.steps at k h.mid h.bare h.bares.gives)

  met_below : (j l m : Known) (n : ℕ) → Met j l m → Below j n → Below m n
  met_below j l m n h below x r is = elim (h.names x) as (λ v. x < n) [
    | inl p ↦ below x r (sym p.1 ∙ is)
    | inr p ↦ absurd (none-some r (sym p.1 ∙ is))
  ]

  pub named_names : (at : ℕ) (k : Known) (e : Expression) (rs : List ℕ) (mid : ℕ) (m : Known) → NamedLaid c st f at k e rs mid m → m.names ≡ k.names
  named_names at k (Give a) rs mid m h = arguments_names st f.instrs at k (MoreArguments a NoArguments) rs mid m h.values.arguments
  named_names at k (Tuple p as') rs mid m h = arguments_names st f.instrs at k as' rs mid m h.values.arguments
  named_names at k (Operation o p x y) rs mid m h = absurd h
  named_names at k (Call g n p as') rs mid m h = absurd h
  named_names at k (Match d t p a q b cs) rs mid m h = absurd h
  named_names at k (Nested b) rs mid m h = absurd h

  mutual
    pub expression_below : (n : Names) (at : ℕ) (k : Known) (e : Expression) (ds : List ℕ) (end : ℕ) (l : Known) (m : ℕ) → ExpressionLaid c st fip f at k e (Into ds) end l → Numbered w N n e → n.next + within e ≤ m → Below k n.next → Below l m
    expression_below n at k (Give a) ds end l m h num room below =
        below_more l n.next m (omega (arith, room)) (below_same k l n.next (moves_names f.instrs h.mid h.m h.registers ds end l h.given ∙ arguments_names st f.instrs at k (MoreArguments a NoArguments) h.registers h.mid h.m h.values.arguments) below)
    expression_below n at k (Tuple p as') ds end l m h num room below =
        below_more l n.next m (omega (arith, room)) (below_same k l n.next (moves_names f.instrs h.mid h.m h.registers ds end l h.given ∙ arguments_names st f.instrs at k as' h.registers h.mid h.m h.values.arguments) below)
    expression_below n at k (Operation o p x y) ds end l m h num room below =
        below_more l n.next m (omega (arith, room)) (below_same k l n.next
        (moves_names f.instrs (suc h.mid) h.operation.holds (h.operation.destination ∷ []) ds end l h.operation.given
        ∙ (goes_names ds h.m (H.Scalar (Rattle.lowering_relation.specs.LoweredBodies.result_type o)) h.operation.destination h.operation.holds h.operation.goes
        ∙ arguments_names st f.instrs at k (MoreArguments x (MoreArguments y NoArguments)) (h.left ∷ h.right ∷ []) h.mid h.m h.values.arguments)) below)
    expression_below n at k (Call g o p as') ds end l m h num room below =
        below_more l n.next m (omega (arith, room)) (below_same k l n.next
        (ap (λ (l : Known). l.names) h.call.ends.known
        ∙ (taken_names (record h.m { held = Rattle.lowering_relation.specs.LoweredBodies.handed h.m.held h.call.instance.params h.registers }) h.call.instance.credits h.call.credits h.call.m h.call.taken
        ∙ arguments_names st f.instrs at k as' h.registers h.mid h.m h.values.arguments)) below)
    expression_below n at k (Match g t p a q body cs) ds end l m (begin, k0, ch, l1, e, next', mid, after', next, left, met, bare, quiet', laid, entry, inner, ends, others, meets) num room below =
        let taken = takes w g t in
        let first = next_inside w taken n (binders q) in
        let past = next_past w taken n q body in
        let start : Below l1 n.next = below_same k l1 n.next (match_names begin k0 g t a q cs ch l1 e laid ∙ gives_names f true bare.steps at k begin k0 bare.gives) below in
        let enter = entered_below st ch q l1 next' n.next (inside w taken n (binders q)).next num.0 (omega (arith, first)) (below_more l1 n.next (inside w taken n (binders q)).next (omega (arith, first)) start) in
        let done = block_below (inside w taken n (binders q)) e (entered st ch q l1 next') body ds mid after' m inner num.2 (omega (arith, first, room)) enter in
        let ended = below_same after' left m (ends_names l1 (Match g t p a q body cs) ds cs mid after' end next left ends) done in
        let all = clauses_below (past_clause w taken n q body) taken ch l1 (Match g t p a q body cs) 1 cs ds end left next met m others num.3 (omega (arith, past, room)) (below_more l1 n.next (past_clause w taken n q body).next (omega (arith, past)) start) ended in
        below_same met l m (ap (λ (l : Known). l.names) meets.known) all
    expression_below n at k (Nested b) ds end l m h num room below = block_below n at k b ds end l m h num room below

    pub block_below : (n : Names) (at : ℕ) (k : Known) (d : Block) (ds : List ℕ) (end : ℕ) (l : Known) (m : ℕ) → BlockLaid c st fip f at k d (Into ds) end l → NumberedBlock w N n d → n.next + within_block d ≤ m → Below k n.next → Below l m
    block_below n at k (Last e) ds end l m h num room below = expression_below n at k e ds end l m h num room below
    block_below n at k (Let bs e rest) ds end l m (inl h) num room below =
        let n1 = following n (shape w n e) in
        let more = next_after w n e in
        let all = next_inside w true n1 bs in
        let mid : Below h.2 n1.next = below_more h.2 n.next n1.next (omega (arith, more)) (below_same k h.2 n.next (named_names at k e h.0 h.1 h.2 h.3) below) in
        block_below (inside w true n1 bs) h.1 (with_names h.2 bs h.0) rest ds end l m h.4 num.3 (omega (arith, more, all, room))
        (lets_below bs h.0 h.2 n1.next (inside w true n1 bs).next num.0 (omega (arith, all)) (below_more h.2 n1.next (inside w true n1 bs).next (omega (arith, all)) mid))
    block_below n at k (Let bs e rest) ds end l m (inr h) num room below =
        let n1 = following n (shape w n e) in
        let more = next_after w n e in
        let all = next_inside w true n1 bs in
        let mid = expression_below n at (reserved k bs) e (registers_for k.next bs) h.0 h.1 n1.next h.2 num.2 (omega (arith, more)) below in
        block_below (inside w true n1 bs) h.0 (with_names h.1 bs (registers_for k.next bs)) rest ds end l m h.3 num.3 (omega (arith, more, all, room))
        (lets_below bs (registers_for k.next bs) h.1 n1.next (inside w true n1 bs).next num.0 (omega (arith, all)) (below_more h.1 n1.next (inside w true n1 bs).next (omega (arith, all)) mid))

    clauses_below : (n : Names) (taken : Bool) (ch : Choice) (l : Known) (o : Expression) (i : ℕ) (cs : Clauses) (ds : List ℕ) (end : ℕ) (j : Known) (at : ℕ) (met : Known) (m : ℕ) → ClausesMeet c st fip f ch l o i cs ds end j at met → NumberedClauses w N taken n cs → n.next + within_clauses cs ≤ m → Below l n.next → Below j m → Below met m
    clauses_below n taken ch l o i NoClauses ds end j at met m h num room below done = below_same j met m (ap (λ (l : Known). l.names) h.1) done
    clauses_below n taken ch l o i (MoreClauses q body cs) ds end j at met m h num room below done =
        let past = next_past w taken n q body in
        clauses_below (past_clause w taken n q body) taken ch l o (suc i) cs ds end h.7 h.5 met m h.13 num.3 (omega (arith, past, room)) (below_more l n.next (past_clause w taken n q body).next (omega (arith, past)) below)
        (met_below j h.6 h.7 m h.12 done)
