use Rattle.std.proofs.Common.{ap, ◌∙◌}
use Rattle.fip_trees.specs.TreeView.{instances}
use Rattle.lower_parts.specs.lowering_relation.LoweredBodies.{function_of}
use Rattle.cell_lower.proofs.Programs.{numbers_end}
use Rattle.cell_lower.proofs.functions.numbers_of.Goals as goal

pub returns : goal.returns
returns c = record { numbered = λ g. numbers_end c.loop-instance.numbers.items c.deref-instance-items.result.now c.loop-instance.instance-index c.loop-instance.next c.loop-instance-test.false c.loop-instance.invariant.numbers g ∙ ap (λ x. function_of (instances x) g) c.deref-instance-items.ensures.value }
