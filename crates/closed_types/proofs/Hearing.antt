-- Bodies of the code, one part after another.
use Rattle.std.proofs.Common.{◌≡◌, ℕ, ◌+◌, ◌<◌, List, ◌∷◌, length, map, drop, get_or, Vec, Global, ap, sym, ◌∙◌}
use Rattle.fip_base.specs.fip_language.declared.Place.{Place}
use Rattle.fip_base.specs.fip_language.Core as C
use Rattle.fip_base.specs.fip_language.declared.Operator.{Operator}
use Rattle.fip_base.specs.declared.core_form.MatchKind.{MatchKind}
use Rattle.fip_base.specs.declared.core_form.Argument.{Argument}
use Rattle.fip_base.specs.declared.core_form.Written.{Written}
use Rattle.fip_base.specs.declared.core_form.Expression.TheOpen as E
use Rattle.fip_base.specs.declared.core_form.Expression.TheVariants as EV
use Rattle.fip_base.specs.CoreView.{argument, arguments, clauses, is_destructive, BoundPart, Case, expression, expression_step, binding, binding_step, binders, block, block_of, block_step, clause, clause_step, pattern, writtens}
use Rattle.fip_base.specs.declared.core_form.Expression.TheFolds.{fold-roll-Expression, fold_out-Block, fold_out-Binding, fold_out-Clause}
use Rattle.fip_base.specs.declared.core_form.Block.{Block, out-Block}
use Rattle.fip_base.specs.declared.core_form.Binding.{Binding, out-Binding}
use Rattle.fip_base.specs.declared.core_form.Clause.{Clause, out-Clause}
use Rattle.closed_types.proofs.Lists.{drop_item}

pub block_is : (d : Block) → block d ≡ block_of (map binding (out-Block d).bindings.items) (expression (out-Block d).last)
block_is d = fold_out-Block C.Expression BoundPart C.Block Case expression_step binding_step block_step clause_step d

pub clause_is : (d : Clause) → clause d ≡ record { pattern = pattern (out-Clause d).pattern; body = block (out-Clause d).body }
clause_is d = fold_out-Clause C.Expression BoundPart C.Block Case expression_step binding_step block_step clause_step d

pub binding_is : (d : Binding) → binding d ≡ record { binders = binders (out-Binding d).binders.items; bound = expression (out-Binding d).bound }
binding_is d = fold_out-Binding C.Expression BoundPart C.Block Case expression_step binding_step block_step clause_step d

pub expression_operation : (o : Operator) (p : Place) (a b : Argument) → expression (EV.Operation o p a b) ≡ C.Operation o p (argument a) (argument b)
expression_operation o p a b = ap expression (sym (EV.rolls-Operation o p a b)) ∙ fold-roll-Expression C.Expression BoundPart C.Block Case expression_step binding_step block_step clause_step (E.Operation o p a b)

pub expression_call : (x : C.Name) (p : Place) (ws : Vec Written Global) (as' : Vec Argument Global) → expression (EV.Call x p ws as') ≡ C.Call x p (writtens ws.items) (arguments as'.items)
expression_call x p ws as' = ap expression (sym (EV.rolls-Call x p ws as')) ∙ fold-roll-Expression C.Expression BoundPart C.Block Case expression_step binding_step block_step clause_step (E.Call x p ws as')

pub expression_match : (k : MatchKind) (p : Place) (a : Argument) (cs : Vec Clause Global) → expression (EV.Match k p a cs) ≡ C.Match (is_destructive k) p (argument a) (clauses cs.items)
expression_match k p a cs = ap expression (sym (EV.rolls-Match k p a cs)) ∙ fold-roll-Expression C.Expression BoundPart C.Block Case expression_step binding_step block_step clause_step (E.Match k p a cs)

-- one item of a walk that hears each item of a list
pub hear_step : {A H : Type 0} (one : H → A → H) (all : H → List A → H) → ((h : H) (x : A) (xs : List A) → all h (x ∷ xs) ≡ all (one h x) xs) → (xs : List A) (i : ℕ) (x : A) (h g whole : H) → i < length xs → x ≡ get_or xs i x → g ≡ one h x → all h (drop i xs) ≡ whole → all g (drop (i + 1) xs) ≡ whole
hear_step one all splits xs i x h g whole l e noted before =
    ap (λ k. all k (drop (i + 1) xs)) noted
    ∙ sym (splits h x (drop (i + 1) xs))
    ∙ ap (all h) (sym (drop_item xs i x l e))
    ∙ before
