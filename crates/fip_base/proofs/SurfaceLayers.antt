-- The view of the surface tree, a layer at a time.
use Rattle.std.proofs.Common.{Vec, Global, ◌≡◌, ℕ, ℤ, Bool, List, [], ◌∷◌, ◌++◌, map, refl, sym, ap, ◌∙◌}
use Rattle.fip_language.specs.declared.Place.{Place}
use Rattle.fip_language.specs.declared.Operator.{Operator}
use Rattle.fip_language.specs.Surface as S
use Rattle.fip_base.specs.CoreView as core
use Rattle.fip_base.specs.SurfaceView as surface
use Rattle.fip_base.specs.SurfaceView.{Action, action, acted, kept, left_by}
use Rattle.fip_base.specs.declared.core_form.Written.{Written}
use Rattle.fip_base.specs.declared.surface.Step.TheOpen as O
use Rattle.fip_base.specs.declared.surface.Step.TheVariants as V
use Rattle.fip_base.specs.declared.surface.Step.TheFolds.{fold-roll-Step, fold_out-Expression, fold_out-Block}
use Rattle.fip_base.specs.declared.surface.Expression.{Expression, out-Expression}
use Rattle.fip_base.specs.declared.surface.Block.{Block, out-Block}
use Rattle.fip_base.specs.declared.surface.Clause.{Clause}

pub expression_view : (e : Expression) → surface.expression e ≡ surface.one_of (surface.left_by (map surface.action (out-Expression e).steps.items) [])
expression_view e =
    fold_out-Expression surface.Action S.Block surface.Case S.Expression surface.LetPart surface.step_action surface.block_step surface.clause_step
    surface.expression_step surface.let_step e

pub block_view : (b : Block) → surface.block b ≡ surface.block_of (map surface.let_part (out-Block b).lets.items) (surface.expression (out-Block b).last)
block_view b =
    fold_out-Block surface.Action S.Block surface.Case S.Expression surface.LetPart surface.step_action surface.block_step surface.clause_step
    surface.expression_step surface.let_step b

pub action_variable : (x : List ℕ) (p : Place) → action (V.Variable x p) ≡ surface.Leaves (S.Variable x p)
action_variable x p =
    ap surface.action (sym (V.rolls-Variable x p))
    ∙ fold-roll-Step surface.Action S.Block surface.Case S.Expression surface.LetPart surface.step_action surface.block_step surface.clause_step
    surface.expression_step surface.let_step (O.Variable x p)

pub action_literal : (i : ℤ) (p : Place) → action (V.Literal i p) ≡ surface.Leaves (S.Literal i p)
action_literal i p =
    ap surface.action (sym (V.rolls-Literal i p))
    ∙ fold-roll-Step surface.Action S.Block surface.Case S.Expression surface.LetPart surface.step_action surface.block_step surface.clause_step
    surface.expression_step surface.let_step (O.Literal i p)

pub action_call : (x : List ℕ) (p : Place) (ts : Vec Written Global) (es : Vec Expression Global) → action (V.Call x p ts es) ≡ surface.Leaves (S.Call x p (core.writtens ts.items) (surface.expressions es.items))
action_call x p ts es =
    ap surface.action (sym (V.rolls-Call x p ts es))
    ∙ fold-roll-Step surface.Action S.Block surface.Case S.Expression surface.LetPart surface.step_action surface.block_step surface.clause_step
    surface.expression_step surface.let_step (O.Call x p ts es)

pub action_constructor : (x : List ℕ) (p : Place) (es : Vec Expression Global) → action (V.Constructor x p es) ≡ surface.Leaves (S.Constructor x p (surface.expressions es.items))
action_constructor x p es =
    ap surface.action (sym (V.rolls-Constructor x p es))
    ∙ fold-roll-Step surface.Action S.Block surface.Case S.Expression surface.LetPart surface.step_action surface.block_step surface.clause_step
    surface.expression_step surface.let_step (O.Constructor x p es)

pub action_tuple : (p : Place) (es : Vec Expression Global) → action (V.Tuple p es) ≡ surface.Leaves (S.Tuple p (surface.expressions es.items))
action_tuple p es =
    ap surface.action (sym (V.rolls-Tuple p es))
    ∙ fold-roll-Step surface.Action S.Block surface.Case S.Expression surface.LetPart surface.step_action surface.block_step surface.clause_step
    surface.expression_step surface.let_step (O.Tuple p es)

pub action_binary : (o : Operator) (p : Place) → action (V.Binary o p) ≡ surface.Operates o p
action_binary o p =
    ap surface.action (sym (V.rolls-Binary o p))
    ∙ fold-roll-Step surface.Action S.Block surface.Case S.Expression surface.LetPart surface.step_action surface.block_step surface.clause_step
    surface.expression_step surface.let_step (O.Binary o p)

pub action_match : (d : Bool) (p : Place) (cs : Vec Clause Global) → action (V.Match d p cs) ≡ surface.Matches d p (surface.clauses cs.items)
action_match d p cs =
    ap surface.action (sym (V.rolls-Match d p cs))
    ∙ fold-roll-Step surface.Action S.Block surface.Case S.Expression surface.LetPart surface.step_action surface.block_step surface.clause_step
    surface.expression_step surface.let_step (O.Match d p cs)

pub action_if : (p : Place) (y n : Block) → action (V.If p y n) ≡ surface.Chooses p (surface.block y) (surface.block n)
action_if p y n =
    ap surface.action (sym (V.rolls-If p y n))
    ∙ fold-roll-Step surface.Action S.Block surface.Case S.Expression surface.LetPart surface.step_action surface.block_step surface.clause_step
    surface.expression_step surface.let_step (O.If p y n)

-- a step more, the last one
pub left_by_push : (as' : List Action) (a : Action) (es : List S.Expression) → left_by (as' ++ a ∷ []) es ≡ acted a (left_by as' es) ∷ kept a (left_by as' es)
left_by_push [] a es = refl
left_by_push (b ∷ as') a es = left_by_push as' a (acted b es ∷ kept b es)
