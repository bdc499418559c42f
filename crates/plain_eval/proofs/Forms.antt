-- Expressions at each of their forms, and how much work is left.
use Rattle.std.proofs.Common.{◌≡◌, ℕ, zero, suc, ◌+◌, ◌*◌, ◌≤◌, List, [], ◌∷◌, map, Some, Vec, Global, sym, ap, ◌∙◌, subst, arith}
use Rattle.std.specs.Prelude.{slice_get}
use Rattle.fip_trees.specs.fip_language.declared.Place.{Place}
use Rattle.fip_trees.specs.fip_language.declared.Operator.{Operator}
use Rattle.fip_trees.specs.Tree as T
use Rattle.fip_trees.specs.Tree.{Name}
use Rattle.fip_trees.specs.declared.program.Argument.{Argument}
use Rattle.fip_trees.specs.declared.program.Instance.{Instance}
use Rattle.fip_trees.specs.declared.program.Expression.TheOpen as E
use Rattle.fip_trees.specs.declared.program.Expression.TheVariants as EV
use Rattle.fip_trees.specs.declared.program.Expression.TheFolds.{fold-roll-Expression}
use Rattle.fip_trees.specs.TreeView.{BoundPart, Case, argument, arguments, expression, expression_step, binding_step, block, block_step, clause_step, instance_of}
use Rattle.plain_eval.specs.Work.{block_size, largest}

pub expression_give : (a : Argument) → expression (EV.Give a) ≡ T.Give (argument a)
expression_give a = ap expression (sym (EV.rolls-Give a)) ∙ fold-roll-Expression T.Expression BoundPart T.Block Case expression_step binding_step block_step clause_step (E.Give a)

pub expression_tuple : (p : Place) (xs : Vec Argument Global) → expression (EV.Tuple p xs) ≡ T.Tuple p (arguments xs.items)
expression_tuple p xs = ap expression (sym (EV.rolls-Tuple p xs)) ∙ fold-roll-Expression T.Expression BoundPart T.Block Case expression_step binding_step block_step clause_step (E.Tuple p xs)

pub expression_operation : (o : Operator) (p : Place) (l r : Argument) → expression (EV.Operation o p l r) ≡ T.Operation o p (argument l) (argument r)
expression_operation o p l r = ap expression (sym (EV.rolls-Operation o p l r)) ∙ fold-roll-Expression T.Expression BoundPart T.Block Case expression_step binding_step block_step clause_step (E.Operation o p l r)

pub expression_call : (g : ℕ) (n : Name) (p : Place) (xs : Vec Argument Global) → expression (EV.Call g n p xs) ≡ T.Call g n p (arguments xs.items)
expression_call g n p xs = ap expression (sym (EV.rolls-Call g n p xs)) ∙ fold-roll-Expression T.Expression BoundPart T.Block Case expression_step binding_step block_step clause_step (E.Call g n p xs)

pub largest_there : (ds : List Instance) (i : ℕ) (d : Instance) → slice_get ds i ≡ Some d → block_size (block d.body) ≤ largest (map instance_of ds)
largest_there [] i d e = cc
largest_there (x ∷ ds) zero d e = let same : x ≡ d = cc in subst (λ (d : Instance). block_size (block d.body) ≤ largest (map instance_of (x ∷ ds))) same (omega arith)
largest_there (x ∷ ds) (suc i) d e = let h = largest_there ds i d e in omega (arith, h)

pub call_less : (most left k k' b s s' : ℕ) → k ≡ suc left → k' ≡ left → b ≤ most → s' ≡ s → (1 + most) * k' + (suc b + s') ≤ (1 + most) * k + (1 + s)
call_less most left k k' b s s' e f l g = subst (λ n. (1 + most) * n + (suc b + s') ≤ (1 + most) * k + (1 + s)) (sym f) (subst (λ n. (1 + most) * left + (suc b + n) ≤ (1 + most) * k + (1 + s)) (sym g) (subst (λ n. (1 + most) * left + (suc b + s) ≤ (1 + most) * n + (1 + s)) (sym e) (falls most left b s l))) where
  falls : (most left b s : ℕ) → b ≤ most → (1 + most) * left + (suc b + s) ≤ (1 + most) * suc left + (1 + s)
  falls most left b s l = grind arith

pub form_less : (most x s r : ℕ) → r ≡ suc x → most + (suc x + s) ≤ most + (r + s)
form_less most x s r e = omega (arith, e)
