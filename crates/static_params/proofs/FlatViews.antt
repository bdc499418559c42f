-- The views of expressions and patterns at each of their forms, in the core form and in programs without static
-- parameters.
use Rattle.std.proofs.Common.{◌≡◌, ℕ, ◌∙◌, ap, sym, Vec, Global}
use Rattle.std.specs.declared.boxed.Box.{Box}
use Rattle.fip_language.specs.declared.Place.{Place}
use Rattle.fip_language.specs.declared.Operator.{Operator}
use Rattle.fip_language.specs.Core as C
use Rattle.fip_base.specs.CoreView as V
use Rattle.fip_base.specs.declared.core_form.Argument as CA
use Rattle.fip_base.specs.declared.core_form.Binder as CB
use Rattle.fip_base.specs.declared.core_form.Block as CBlock
use Rattle.fip_base.specs.declared.core_form.Pattern as CP
use Rattle.fip_base.specs.declared.core_form.Pattern.TheOpen as CPO
use Rattle.fip_base.specs.declared.core_form.Pattern.TheVariants as CPV
use Rattle.fip_base.specs.declared.core_form.Pattern.TheFolds as CPF
use Rattle.fip_base.specs.declared.core_form.Expression.TheOpen as CEO
use Rattle.fip_base.specs.declared.core_form.Expression.TheVariants as CEV
use Rattle.fip_base.specs.declared.core_form.Expression.TheFolds as CEF
use Rattle.fip_trees.specs.Tree as T
use Rattle.fip_trees.specs.TreeView as W
use Rattle.fip_trees.specs.declared.program.Binder.{Binder}
use Rattle.fip_trees.specs.declared.program.Argument.{Argument}
use Rattle.fip_trees.specs.declared.program.Pattern.TheOpen as PO
use Rattle.fip_trees.specs.declared.program.Pattern.TheVariants as PV
use Rattle.fip_trees.specs.declared.program.Pattern.TheFolds as PF
use Rattle.fip_trees.specs.declared.program.Expression.TheOpen as EO
use Rattle.fip_trees.specs.declared.program.Expression.TheVariants as EV
use Rattle.fip_trees.specs.declared.program.Expression.TheFolds as EF

-- ---- the core form

pub core_give : (a : CA.Argument) → V.expression (CEV.Give a) ≡ C.Give (V.argument a)
core_give a = ap V.expression (sym (CEV.rolls-Give a)) ∙ CEF.fold-roll-Expression C.Expression V.BoundPart C.Block V.Case V.expression_step V.binding_step V.block_step V.clause_step (CEO.Give a)

pub core_tuple : (p : Place) (as' : Vec CA.Argument Global) → V.expression (CEV.Tuple p as') ≡ C.Tuple p (V.arguments as'.items)
core_tuple p as' = ap V.expression (sym (CEV.rolls-Tuple p as')) ∙ CEF.fold-roll-Expression C.Expression V.BoundPart C.Block V.Case V.expression_step V.binding_step V.block_step V.clause_step (CEO.Tuple p as')

pub core_nested : (b : Box CBlock.Block Global) → V.expression (CEV.Nested b) ≡ C.Nested (V.block b.value)
core_nested b = ap V.expression (sym (CEV.rolls-Nested b)) ∙ CEF.fold-roll-Expression C.Expression V.BoundPart C.Block V.Case V.expression_step V.binding_step V.block_step V.clause_step (CEO.Nested b)

pub core_binder : (b : CB.Binder) → V.pattern (CPV.Binder b) ≡ C.BinderPattern (V.binder b)
core_binder b = ap V.pattern (sym (CPV.rolls-Binder b)) ∙ CPF.fold-roll-Pattern C.Pattern V.pattern_step (CPO.Binder b)

pub core_constructor : (x : C.Name) (p : Place) (ps : Vec CP.Pattern Global) → V.pattern (CPV.Constructor x p ps) ≡ C.ConstructorPattern x p (V.patterns ps.items)
core_constructor x p ps = ap V.pattern (sym (CPV.rolls-Constructor x p ps)) ∙ CPF.fold-roll-Pattern C.Pattern V.pattern_step (CPO.Constructor x p ps)

-- ---- programs without static parameters

pub view_give : (a : Argument) → W.expression (EV.Give a) ≡ T.Give (W.argument a)
view_give a = ap W.expression (sym (EV.rolls-Give a)) ∙ EF.fold-roll-Expression T.Expression W.BoundPart T.Block W.Case W.expression_step W.binding_step W.block_step W.clause_step (EO.Give a)

pub view_tuple : (p : Place) (as' : Vec Argument Global) → W.expression (EV.Tuple p as') ≡ T.Tuple p (W.arguments as'.items)
view_tuple p as' = ap W.expression (sym (EV.rolls-Tuple p as')) ∙ EF.fold-roll-Expression T.Expression W.BoundPart T.Block W.Case W.expression_step W.binding_step W.block_step W.clause_step (EO.Tuple p as')

pub view_operation : (o : Operator) (p : Place) (a b : Argument) → W.expression (EV.Operation o p a b) ≡ T.Operation o p (W.argument a) (W.argument b)
view_operation o p a b = ap W.expression (sym (EV.rolls-Operation o p a b)) ∙ EF.fold-roll-Expression T.Expression W.BoundPart T.Block W.Case W.expression_step W.binding_step W.block_step W.clause_step (EO.Operation o p a b)

pub view_call : (g : ℕ) (x : C.Name) (p : Place) (as' : Vec Argument Global) → W.expression (EV.Call g x p as') ≡ T.Call g x p (W.arguments as'.items)
view_call g x p as' = ap W.expression (sym (EV.rolls-Call g x p as')) ∙ EF.fold-roll-Expression T.Expression W.BoundPart T.Block W.Case W.expression_step W.binding_step W.block_step W.clause_step (EO.Call g x p as')

pub view_binder : (b : Binder) → W.pattern (PV.Binder b) ≡ T.BinderPattern b
view_binder b = ap W.pattern (sym (PV.rolls-Binder b)) ∙ PF.fold-roll-Pattern T.Pattern W.pattern_step (PO.Binder b)
