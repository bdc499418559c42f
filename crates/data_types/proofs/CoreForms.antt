-- The views of the core form at each of its forms, and of lists that are made or walked one after another.
use Rattle.std.proofs.Common.{◌≡◌, ℕ, ◌-◌, List, [], ◌∷◌, ◌++◌, map, Vec, Global, Option, refl, sym, ap, ◌∙◌}
use Rattle.fip_language.specs.declared.Place.{Place}
use Rattle.fip_language.specs.Core as C
use Rattle.fip_language.specs.declared.Operator.{Operator}
use Rattle.fip_base.specs.declared.core_form.MatchKind.{MatchKind}
use Rattle.fip_base.specs.declared.core_form.Argument.{Argument}
use Rattle.fip_base.specs.declared.core_form.Expression.TheOpen as E
use Rattle.fip_base.specs.declared.core_form.Expression.TheVariants as EV
use Rattle.fip_base.specs.CoreView.{argument, clauses, is_destructive, BoundPart, Case, expression, expression_step, binding, binding_step, binders, block, block_of, block_step, clause, clause_step, pattern, written, written_step, writtens}
use Rattle.fip_base.specs.declared.core_form.Written.{Written}
use Rattle.fip_base.specs.declared.core_form.Written.TheOpen as W
use Rattle.fip_base.specs.declared.core_form.Written.TheVariants as WV
use Rattle.fip_base.specs.declared.core_form.Written.TheFolds.{fold-roll-Written}
use Rattle.fip_base.specs.declared.core_form.Expression.TheFolds.{fold-roll-Expression, fold_out-Block, fold_out-Binding, fold_out-Clause}
use Rattle.fip_base.specs.declared.core_form.Block.{Block, out-Block}
use Rattle.fip_base.specs.declared.core_form.Binding.{Binding, out-Binding}
use Rattle.fip_base.specs.declared.core_form.Clause.{Clause, out-Clause}
use Rattle.fip_trees.specs.declared.decls.FieldType.{FieldType}
use Rattle.fip_trees.specs.declared.decls.FieldType.TheOpen as F
use Rattle.fip_trees.specs.declared.decls.FieldType.TheVariants as FV
use Rattle.fip_trees.specs.declared.decls.FieldType.TheFolds.{fold-roll-FieldType}
use Rattle.fip_trees.specs.declared.least.Violation.{Violation}
use Rattle.fip_trees.specs.Least.{after}
use Rattle.fip_trees.specs.Names.{meaning}
use Rattle.fip_trees.proofs.Leasts.{after-append}
use Rattle.data_types.specs.Declarations.{Scope}
use Rattle.data_types.specs.Faults.{count_written, use_faults, written_faults, writtens_faults}
use Rattle.data_types.specs.Types as t
use Rattle.data_types.specs.View.{ty, ty_step, tys, row}

pub block_is : (d : Block) → block d ≡ block_of (map binding (out-Block d).bindings.items) (expression (out-Block d).last)
block_is d = fold_out-Block C.Expression BoundPart C.Block Case expression_step binding_step block_step clause_step d

pub clause_is : (d : Clause) → clause d ≡ record { pattern = pattern (out-Clause d).pattern; body = block (out-Clause d).body }
clause_is d = fold_out-Clause C.Expression BoundPart C.Block Case expression_step binding_step block_step clause_step d

pub binding_is : (d : Binding) → binding d ≡ record { binders = binders (out-Binding d).binders.items; bound = expression (out-Binding d).bound }
binding_is d = fold_out-Binding C.Expression BoundPart C.Block Case expression_step binding_step block_step clause_step d

pub expression_operation : (o : Operator) (p : Place) (a b : Argument) → expression (EV.Operation o p a b) ≡ C.Operation o p (argument a) (argument b)
expression_operation o p a b = ap expression (sym (EV.rolls-Operation o p a b)) ∙ fold-roll-Expression C.Expression BoundPart C.Block Case expression_step binding_step block_step clause_step (E.Operation o p a b)

pub expression_match : (k : MatchKind) (p : Place) (a : Argument) (cs : Vec Clause Global) → expression (EV.Match k p a cs) ≡ C.Match (is_destructive k) p (argument a) (clauses cs.items)
expression_match k p a cs = ap expression (sym (EV.rolls-Match k p a cs)) ∙ fold-roll-Expression C.Expression BoundPart C.Block Case expression_step binding_step block_step clause_step (E.Match k p a cs)

-- ---- types

pub applied_is : (n : ℕ) (ts : Vec FieldType Global) → ty (FV.Applied n ts) ≡ t.Applied (n - 1) (tys ts.items)
applied_is n ts = ap ty (sym (FV.rolls-Applied n ts)) ∙ fold-roll-FieldType t.Ty ty_step (F.Applied n ts)

pub int_is : ty FV.Int ≡ t.Given
int_is = ap ty (sym FV.rolls-Int) ∙ fold-roll-FieldType t.Ty ty_step F.Int

-- types after others
abbrev pub onto : List t.Ty → t.Tys → t.Tys
onto [] us = us
onto (x ∷ xs) us = t.MoreTys x (onto xs us)

pub onto_push : (xs : List t.Ty) (y : t.Ty) (us : t.Tys) → onto (xs ++ y ∷ []) us ≡ onto xs (t.MoreTys y us)
onto_push [] y us = refl
onto_push (x ∷ xs) y us = ap (t.MoreTys x) (onto_push xs y us)

pub onto_none : (xs : List t.Ty) → onto xs t.NoTys ≡ row xs
onto_none [] = refl
onto_none (x ∷ xs) = ap (t.MoreTys x) (onto_none xs)

-- ---- names with arguments

pub written_named : (n : C.Name) (p : Place) (ws : Vec Written Global) → written (WV.Named n p ws) ≡ C.WrittenName n p (writtens ws.items)
written_named n p ws = ap written (sym (WV.rolls-Named n p ws)) ∙ fold-roll-Written C.Written written_step (W.Named n p ws)

pub named_noted : (s : Scope) (w : C.Written) (x n : C.Name) (p : Place) (ws : C.Writtens) (k : ℕ) (l m : Option Violation) → w ≡ C.WrittenName n p ws → x ≡ n → k ≡ count_written ws → m ≡ after l (writtens_faults s ws) → after m (use_faults (meaning x s.parameters) (meaning x s.names.types) x p k) ≡ after l (written_faults s w)
named_noted s w x n p ws k l m is same count noted =
    ap (λ y. after m (use_faults (meaning y s.parameters) (meaning y s.names.types) y p k)) same
    ∙ ap (λ j. after m (use_faults (meaning n s.parameters) (meaning n s.names.types) n p j)) count
    ∙ ap (λ m. after m (use_faults (meaning n s.parameters) (meaning n s.names.types) n p (count_written ws))) noted
    ∙ sym (after-append l (writtens_faults s ws) (use_faults (meaning n s.parameters) (meaning n s.names.types) n p (count_written ws)))
    ∙ sym (ap (λ v. after l (written_faults s v)) is)
