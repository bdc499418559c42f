use Rattle.std.proofs.Common.{◌∙◌}
use Rattle.lower_parts.proofs.lowering_relation.Placing.{gives_up_on}
use Rattle.lower_parts.proofs.lower_frame.Losing.{loses_on}
use Rattle.lower_parts.proofs.Shedding.{sheds_on}
use Rattle.lower_parts.proofs.Laying.{laid_on}
use Rattle.lower_parts.proofs.lower_frame.Accounts.{no_trees_next}
use Rattle.std.proofs.Common.{false, ◌+◌, arith}
use Rattle.cell_lower.proofs.lowerer.Lowerer.drop_all.Goals as goal

pub loop-register-preserved : goal.loop-register-preserved
loop-register-preserved c = record {
  given_up = gives_up_on _ _ _ c.loop-register.invariant.given_up c.in_ok-drop_tree.ensures.given_up;
  loses = loses_on _ _ _ c.loop-register.invariant.loses c.in_ok-drop_tree.ensures.loses;
  sheds = sheds_on _ _ _ _ _ _ c.loop-register.invariant.sheds c.in_ok-drop_tree.ensures.sheds;
  context = c.in_ok-drop_tree.ensures.context ∙ c.loop-register.invariant.context;
  gives_up = c.in_ok-drop_tree.ensures.gives_up ∙ c.loop-register.invariant.gives_up;
  walk = c.in_ok-drop_tree.ensures.walk ∙ c.loop-register.invariant.walk;
  laid = laid_on false _ _ _ _ _ _ c.loop-register.invariant.laid c.in_ok-drop_tree.ensures.laid;
  trees = no_trees_next c.loop-register.self.frame.held c.drop_tree.new.self.frame.held c.loop-register.register (c.loop-register.register + 1) (omega arith) c.in_ok-drop_tree.ensures.laid.trees c.in_ok-drop_tree.ensures.tree c.loop-register.invariant.trees;
}
