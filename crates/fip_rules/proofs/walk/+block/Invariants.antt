use Rattle.std.proofs.Common.{◌≡◌, ◌≤◌, drop, map, length}
use Rattle.fip_trees.specs.TreeView.{expression, binding, clauses, block_of}
use Rattle.fip_trees.specs.declared.program.Block.{out-Block}
use Rattle.fip_rules.specs.Shapes.{shape_block}
use Rattle.fip_rules.specs.Stands.{names, go, left_to, others}
use Rattle.fip_rules.specs.Views.{world_of}
use Rattle.fip_rules.proofs.walk.+block.Given as goal

abbrev pub invariant-other_clauses-loop-next : goal.invariant-other_clauses-loop-next
invariant-other_clauses-loop-next l = others (world_of l.world) l.is_taken l.kept.used l.kept.always l.state l.ways.used.items l.ways.always.items (clauses (drop l.next-index l.clauses)) ≡ others (world_of l.world) l.is_taken l.kept.used l.kept.always l.initial.state l.initial.ways.used.items l.initial.ways.always.items (clauses l.clauses)

abbrev pub invariant-block-loop-next : goal.invariant-block-loop-next
invariant-block-loop-next l = record {
  kept : length l.initial.state.walked.scope ≤ length l.state.walked.scope;
  state : left_to (length l.initial.state.walked.scope) (go l.state (shape_block (world_of l.world) (names l.state) (block_of (map binding (drop l.next-index l.next-items)) (expression (out-Block l.block).last)))) ≡ go l.initial.state (shape_block (world_of l.world) (names l.initial.state) (block_of (map binding l.next-items) (expression (out-Block l.block).last)));
}
