use Rattle.std.proofs.Common.{◌≡◌, drop, map}
use Rattle.fip_trees.specs.TreeView.{expression, binding, clauses, block_of}
use Rattle.fip_trees.specs.declared.program.Block.{out-Block}
use Rattle.derivation_walk.specs.Seen.{world_of, seen_of, see_clauses, see_parts}
use Rattle.derivation_walk.proofs.found.+block.Given as goal

abbrev pub invariant-clauses-loop-next : goal.invariant-clauses-loop-next
invariant-clauses-loop-next l = see_clauses (world_of l.context) (seen_of l.found) (clauses (drop l.next-index l.clauses)) ≡ see_clauses (world_of l.context) (seen_of l.initial.found) (clauses l.clauses)

abbrev pub invariant-block-loop-binding : goal.invariant-block-loop-binding
invariant-block-loop-binding l = see_parts (world_of l.context) (seen_of l.found) (block_of (map binding (drop l.binding-index l.binding-items)) (expression (out-Block l.block).last)) ≡ see_parts (world_of l.context) (seen_of l.initial.found) (block_of (map binding l.binding-items) (expression (out-Block l.block).last))
