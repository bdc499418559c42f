-- It serves the proof that lowered code is sound: which instructions compute an expression or a block, with the labels
-- and the instructions that give up what is left. The bodies of a match's clauses are in the order of the text, each
-- after the tests that choose it; where a let binds the match, they give its value to the let's registers and meet
-- after the last one.
use Rattle.std.specs.Prelude.{◌≡◌, ◌⊎◌, ◌≤◌, ℕ, suc, Bool, List, [], ◌∷◌}
use Rattle.tree_semantics.specs.fip_language.declared.Place.{Place}
use Rattle.tree_semantics.specs.fip_language.declared.Operator.{Operator}
use Rattle.credit_check.specs.fip_trees.Tree.{Expression, Give, Tuple, Operation, Call, Match, Nested, Block, Last, Let}
use Rattle.credit_check.specs.fip_trees.Tree.{Argument, Arguments, NoArguments, MoreArguments, Clauses, NoClauses, MoreClauses}
use Rattle.code_rules.specs.cell_code.Plain.{PlainFunction, PlainCode}
use Rattle.lowering_relation.specs.Known.{Known}
use Rattle.lowering_relation.specs.Values.{Setting, ArgumentsAt}
use Rattle.lowering_relation.specs.LoweredBodies.{Target, Into, Return, registers_for, reserved, with_names}
use Rattle.lowering_relation.specs.Describing.{held_at}
use Rattle.lowering_relation.specs.Labels.{reported, Quiet}
use Rattle.lowering_relation.specs.Tests.{Choice, SidesLaid}
use Rattle.lowering_relation.specs.Matches.{wide_at, entered, EntryLaid, MatchLaid}
use Rattle.lowering_relation.specs.Credits.{LastGone}
use Rattle.lowering_relation.specs.Joins.{BaresEnd, ClauseEnds, Met, Meets}
use Rattle.lowering_relation.specs.Handed.{GivenLaid, OperationLaid, CallLaid}

-- Values are computed into registers, and nothing else is there. The last credits of each size are used.
pub record ValuesLaid (c : PlainCode) (st : Setting) (f : PlainFunction) (at : ℕ) (k : Known) (as' : Arguments)
    (rs : List ℕ) (mid : ℕ) (m : Known) : Type 0 where
  pub arguments : ArgumentsAt st f.instrs at k as' rs mid m
  pub room : m.next ≤ f.registers
  pub last : LastGone k.credits m.credits

-- values that go to the target
pub record GiveLaid (c : PlainCode) (st : Setting) (fip : Bool) (f : PlainFunction) (at : ℕ) (k : Known)
    (as' : Arguments) (target : Target) (end : ℕ) (after : Known) : Type 0 where
  pub registers : List ℕ
  pub mid : ℕ
  pub m : Known
  pub values : ValuesLaid c st f at k as' registers mid m
  pub given : GivenLaid fip f mid m registers target end after
  pub quiet : Quiet f at end (reported c k)

-- an operator of two values
pub record OperatorLaid (c : PlainCode) (st : Setting) (fip : Bool) (f : PlainFunction) (at : ℕ) (k : Known)
    (o : Operator) (p : Place) (a b : Argument) (target : Target) (end : ℕ) (after : Known) : Type 0 where
  pub left : ℕ
  pub right : ℕ
  pub mid : ℕ
  pub m : Known
  pub values : ValuesLaid c st f at k (MoreArguments a (MoreArguments b NoArguments)) (left ∷ right ∷ []) mid m
  pub operation : OperationLaid fip f mid m o p left right target end after
  pub one_more : operation.holds.next ≤ f.registers
  pub quiet : Quiet f at end (reported c k)

-- a call of instance g
pub record CalledLaid (c : PlainCode) (st : Setting) (fip : Bool) (f : PlainFunction) (at : ℕ) (k : Known)
    (g : ℕ) (as' : Arguments) (target : Target) (end : ℕ) (after : Known) : Type 0 where
  pub registers : List ℕ
  pub mid : ℕ
  pub m : Known
  pub values : ValuesLaid c st f at k as' registers mid m
  pub call : CallLaid st fip f mid m g registers target end after
  pub quiet : Quiet f at end (reported c k)

-- values that only get names
pub record BoundLaid (c : PlainCode) (st : Setting) (f : PlainFunction) (at : ℕ) (k : Known) (as' : Arguments)
    (rs : List ℕ) (mid : ℕ) (m : Known) : Type 0 where
  pub values : ValuesLaid c st f at k as' rs mid m
  pub quiet : Quiet f at mid (reported c k)

abbrev pub NamedLaid :
    PlainCode → Setting → PlainFunction → ℕ → Known → Expression → List ℕ → ℕ → Known → Type 0
NamedLaid c st f at k (Give a) rs mid m = BoundLaid c st f at k (MoreArguments a NoArguments) rs mid m
NamedLaid c st f at k (Tuple p as') rs mid m = BoundLaid c st f at k as' rs mid m
NamedLaid c st f at k (Operation o p a b) rs mid m = ⊥
NamedLaid c st f at k (Call g n p as') rs mid m = ⊥
NamedLaid c st f at k (Match ds t p a q b cs) rs mid m = ⊥
NamedLaid c st f at k (Nested b) rs mid m = ⊥

-- from `at`, where k is known, to `end`
abbrev mutual
  pub ExpressionLaid :
      PlainCode → Setting → Bool → PlainFunction → ℕ → Known → Expression → Target → ℕ → Known → Type 0
  ExpressionLaid c st fip f at k (Give a) target end after =
      GiveLaid c st fip f at k (MoreArguments a NoArguments) target end after
  ExpressionLaid c st fip f at k (Tuple p as') target end after = GiveLaid c st fip f at k as' target end after
  ExpressionLaid c st fip f at k (Operation o p a b) target end after =
      OperatorLaid c st fip f at k o p a b target end after
  ExpressionLaid c st fip f at k (Call g n p as') target end after =
      CalledLaid c st fip f at k g as' target end after
  ExpressionLaid c st fip f at k (Match ds t p a q b cs) (Into rs) end after =
      (begin : ℕ) × (k0 : Known) × (ch : Choice) × (l : Known) × (e : ℕ) × (n : ℕ) × (mid : ℕ) × (m : Known)
      × (next : ℕ) × (left : Known) × (met : Known) × BaresEnd c f at k begin k0
      × Quiet f at begin (reported c k) × MatchLaid c st f begin k0 ds t a q cs ch l e × EntryLaid c st f ch l 0 q e n
      × BlockLaid c st fip f e (entered st ch q l n) b (Into rs) mid m
      × ClauseEnds c st fip f l (Match ds t p a q b cs) rs cs mid m end next left
      × ClausesMeet c st fip f ch l (Match ds t p a q b cs) 1 cs rs end left next met × Meets f met end after
  ExpressionLaid c st fip f at k (Match ds t p a q b cs) Return end after =
      (ch : Choice) × (l : Known) × (e : ℕ) × (n : ℕ) × (mid : ℕ) × (m : Known)
      × MatchLaid c st f at k ds t a q cs ch l e × EntryLaid c st f ch l 0 q e n
      × BlockLaid c st fip f e (entered st ch q l n) b Return mid m × ClausesLaid c st fip f ch l 1 cs mid end
  ExpressionLaid c st fip f at k (Nested b) target end after = BlockLaid c st fip f at k b target end after

  pub BlockLaid : PlainCode → Setting → Bool → PlainFunction → ℕ → Known → Block → Target → ℕ → Known → Type 0
  BlockLaid c st fip f at k (Last e) target end after = ExpressionLaid c st fip f at k e target end after
  BlockLaid c st fip f at k (Let bs e rest) target end after =
      ((rs : List ℕ) × (mid : ℕ) × (m : Known) × NamedLaid c st f at k e rs mid m
      × BlockLaid c st fip f mid (with_names m bs rs) rest target end after)
      ⊎ ((mid : ℕ) × (m : Known)
      × ExpressionLaid c st fip f at (reserved k bs) e (Into (registers_for k.next bs)) mid m
      × BlockLaid c st fip f mid (with_names m bs (registers_for k.next bs)) rest target end after)

  -- the clauses from number i on: tests that choose one where others failed, and its body
  pub ClausesLaid :
      PlainCode → Setting → Bool → PlainFunction → Choice → Known → ℕ → Clauses → ℕ → ℕ → Type 0
  ClausesLaid c st fip f ch l i NoClauses at end = end ≡ at
  ClausesLaid c st fip f ch l i (MoreClauses q b cs) at end =
      (more : ℕ) × (start : ℕ) × (n : ℕ) × (mid : ℕ) × (m : Known)
      × SidesLaid c f (wide_at (held_at l.held)) ch more at start × EntryLaid c st f ch l i q start n
      × BlockLaid c st fip f start (entered st ch q l n) b Return mid m × ClausesLaid c st fip f ch l (suc i) cs mid end

  -- The clauses from number i on of match o, which is bound by a let; j is known where those before them meet, and met
  -- is where all do.
  pub ClausesMeet :
      PlainCode → Setting → Bool → PlainFunction → Choice → Known → Expression → ℕ → Clauses → List ℕ → ℕ → Known → ℕ →
      Known → Type 0
  ClausesMeet c st fip f ch l o i NoClauses rs end j at met = (at ≡ end) × (met ≡ j)
  ClausesMeet c st fip f ch l o i (MoreClauses q b cs) rs end j at met =
      (more : ℕ) × (start : ℕ) × (n : ℕ) × (mid : ℕ) × (m : Known) × (next : ℕ) × (left : Known) × (both : Known)
      × SidesLaid c f (wide_at (held_at l.held)) ch more at start × EntryLaid c st f ch l i q start n
      × BlockLaid c st fip f start (entered st ch q l n) b (Into rs) mid m
      × ClauseEnds c st fip f l o rs cs mid m end next left × Met j left both
      × ClausesMeet c st fip f ch l o (suc i) cs rs end both next met
