-- The theorems on types, cells and the stack, joined for programs that pass all checks.
use Rattle.std.proofs.Common.{◌≡◌, ◌≢◌, ◌≤◌, ℕ, zero, suc, ◌+◌, List, [], ◌∷◌, map, Option, Some, None, slice_get, if◌then◌else◌, refl, ap, ◌∙◌}
use Rattle.tail_groups.specs.fip_language.declared.FunKind.TheVariants.{Fip}
use Rattle.tail_groups.specs.fip_language.declared.limits.TheConstants.{FRAME_WORDS}
use Rattle.tail_groups.specs.fip_language.Values.{Values}
use Rattle.tail_groups.specs.fip_language.Table.{Table, HaveTypes}
use Rattle.tail_groups.specs.fip_language.Meaning.{Answer, Gives, Trap, Out, Deep, Stuck}
use Rattle.tail_groups.specs.fip_base.declared.plain.Stack.{Stack}
use Rattle.tail_groups.specs.fip_trees.declared.groups.Member.{Member}
use Rattle.tail_groups.specs.fip_trees.Tree.{Argument, Variable, Literal, Constructor, Expression, Give, Tuple, Operation, Call, Match, Nested, Block, Last, Let, Clauses, NoClauses, MoreClauses, Instance, Program}
use Rattle.tail_groups.specs.call_groups.Stacks.{HasFrame}
use Rattle.tail_groups.specs.Registers.{registers}
use Rattle.tail_groups.specs.Rules.{is_fip}
use Rattle.tail_groups.specs.Members.{frame, stack}
use Rattle.type_safety.specs.instance_semantics.Meaning.{flat_meaning}
use Rattle.type_safety.specs.Soundness.{IsSoundAnswer, parameter_types}
use Rattle.type_safety.proofs.WellTyped.{meaning_sound}
use Rattle.ownership_agreement.specs.Sized as Z
use Rattle.ownership_agreement.specs.Agreement.{AreSized}
use Rattle.ownership_agreement.proofs.Instances.{programs_agree}
use Rattle.in_place_safety.specs.Conservation.{KeepsCells, AreFipDerived}
use Rattle.in_place_safety.proofs.Keeping.{fip_of, meaning_keeps}
use Rattle.in_place_safety.specs.Scrutinees.{IsVariable, MatchesVariables, BlockMatchesVariables, ClausesMatchVariables, AllMatchVariables}
use Rattle.in_place_safety.specs.Bounds.{AreBounded}
use Rattle.in_place_safety.proofs.Within.{frame_at, meaning_within}
use Rattle.in_place_safety.specs.InPlace.{EndsInPlace, RunsInPlace, IsChecked}
use Rattle.in_place_safety.proofs.Strong.{fip_calls_fip}

-- ---- scrutinees are variables

variable : (a : Argument) → Z.IsVariable a → IsVariable a
variable (Variable x n p) h = tt
variable (Literal i p) h = h
variable (Constructor t d c n p as') h = h

mutual
  expression_variables : (p : Program) (e : Expression) → Z.SizedExpression p e → MatchesVariables e
  expression_variables p (Give a) h = tt
  expression_variables p (Tuple q as') h = tt
  expression_variables p (Operation o q l r) h = tt
  expression_variables p (Call g n q as') h = tt
  expression_variables p (Match k t q a r body cs) h = (variable a h.0, block_variables p body h.2, clauses_variables p cs h.3)
  expression_variables p (Nested b) h = block_variables p b h

  block_variables : (p : Program) (b : Block) → Z.SizedBlock p b → BlockMatchesVariables b
  block_variables p (Last e) h = expression_variables p e h
  block_variables p (Let bs e rest) h = (expression_variables p e h.0, block_variables p rest h.1)

  clauses_variables : (p : Program) (cs : Clauses) → Z.SizedClauses p cs → ClausesMatchVariables cs
  clauses_variables p NoClauses h = tt
  clauses_variables p (MoreClauses r body cs) h = (block_variables p body h.1, clauses_variables p cs h.2)

all_variables : (p : Program) (ds : List Instance) → AreSized p ds → AllMatchVariables ds
all_variables p [] h = tt
all_variables p (d ∷ ds) h = (block_variables p d.body h.0.body, all_variables p ds h.1)

-- ---- what is checked

derived : (p : Program) (ms : List Member) → IsChecked p ms → AreFipDerived p p.instances
derived p ms c = fip_of p p.instances ((programs_agree p c.sized).0 c.owned)

pub bounded : (p : Program) (ms : List Member) → IsChecked p ms → AreBounded p.instances ms
bounded p ms c = record {
  members = c.members;
  fip = fip_calls_fip p c.typed.formed (derived p ms c);
  scrutinees = all_variables p p.instances c.sized;
}

ends_so : (tb : Table) (f : Instance) (vs : Values) (a : Answer) → IsSoundAnswer tb f.results a → KeepsCells f vs a → a ≢ Deep → EndsInPlace tb f vs a
ends_so tb f vs (Gives results left) h g n = (h, g)
ends_so tb f vs (Trap kind line col) h g n = tt
ends_so tb f vs Out h g n = tt
ends_so tb f vs Deep h g n = absurd (n refl)
ends_so tb f vs Stuck h g n = absurd h

pub runs_in_place : (p : Program) (ms : List Member) (i : ℕ) (f : Instance) (m : Member) (s : Stack) (vs : Values) (n d : ℕ) → IsChecked p ms → slice_get p.instances i ≡ Some f → f.kind ≡ Fip → slice_get ms i ≡ Some m → m.stack ≡ Some s → HaveTypes p.types (parameter_types f) vs → s.frames ≤ d → RunsInPlace p.types f vs s d (flat_meaning p i vs n d)
runs_in_place p ms i f m s vs n d c e k there has typed l =
    let within = meaning_within p ms i m s vs n d (bounded p ms c) there has in
    record {
      ends = ends_so p.types f vs (flat_meaning p i vs n d).answer (meaning_sound p i f vs n d c.typed e typed) (meaning_keeps p i f vs n d c.typed.formed c.typed.typed (derived p ms c) e k typed) (within.enough l);
      stack = within;
    }

-- ---- each fip instance has a number

member_there : (ms : List Member) (i : ℕ) (o : Option Stack) → slice_get (map stack ms) i ≡ Some o → (m : Member) × (slice_get ms i ≡ Some m) × (m.stack ≡ o)
member_there [] i o e = cc
member_there (x ∷ ms) zero o e = (x, refl, cc)
member_there (x ∷ ms) (suc i) o e = member_there ms i o e

pub has_stack : (p : Program) (ms : List Member) (i : ℕ) (f : Instance) → IsChecked p ms → slice_get p.instances i ≡ Some f → f.kind ≡ Fip → (m : Member) × (s : Stack) × (slice_get ms i ≡ Some m) × (m.stack ≡ Some s)
has_stack p ms i f c e k =
    let b = bounded p ms c in
    let stacks = b.members.stacks b.fip in
    let framed : HasFrame (map frame p.instances) i = (registers f + FRAME_WORDS, frame_at p.instances i f e ∙ ap (λ z. Some (if is_fip z then Some (registers f + FRAME_WORDS) else None)) k) in
    let s = stacks.some i framed in
    let m = member_there ms i (Some s.0) s.1 in
    (m.0, s.0, m.1, m.2)
