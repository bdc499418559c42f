use Rattle.std.proofs.Common.{◌∙◌, ◌∷◌, [], ◌++◌, ap}
use Rattle.fip_base.specs.fip_language.Core as C
use Rattle.fip_base.specs.CoreView as core
use Rattle.fip_base.specs.declared.core_form.Expression.TheFolds.{fold-roll-Binding}
use Rattle.fip_core.specs.Walk.{bindings, binding_of}
use Rattle.fip_core.proofs.CoreFacts.{bindings_push}
use Rattle.fip_core.proofs.core_of.put.Goals as goal

pub returns : goal.returns
returns c = record {
  lets =
      ap bindings c.in_ok-push.ensures.items
      ∙ bindings_push c.args.out.now.items _
      ∙ ap (λ b. bindings c.args.out.now.items ++ binding_of b ∷ [])
      (fold-roll-Binding C.Expression core.BoundPart C.Block core.Case core.expression_step core.binding_step core.block_step core.clause_step
      (record { binders = c.args.binders; bound = c.args.bound }));
}
