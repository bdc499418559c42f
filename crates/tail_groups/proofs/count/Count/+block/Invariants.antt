use Rattle.std.proofs.Common.{◌≡◌, ◌+◌, drop, map}
use Rattle.fip_trees.specs.TreeView.{expression, binding, clauses, block_of}
use Rattle.fip_trees.specs.declared.program.Block.{out-Block}
use Rattle.tail_groups.specs.Registers.{in_block, in_clauses}
use Rattle.tail_groups.proofs.count.Count.+block.Given as goal

abbrev pub invariant-clauses-loop-next : goal.invariant-clauses-loop-next
invariant-clauses-loop-next l =
    l.self.number + in_clauses (clauses (drop l.next-index l.clauses)) ≡ l.initial.self.number + in_clauses (clauses l.clauses)

abbrev pub invariant-block-loop-binding : goal.invariant-block-loop-binding
invariant-block-loop-binding l =
    l.self.number + in_block (block_of (map binding (drop l.binding-index l.binding-items)) (expression (out-Block l.block).last))
    ≡ l.initial.self.number + in_block (block_of (map binding l.binding-items) (expression (out-Block l.block).last))
