use Rattle.std.proofs.Common.{◌≡◌, ◌++◌, drop, map}
use Rattle.fip_trees.specs.TreeView.{expression, binding, clauses, block_of}
use Rattle.fip_trees.specs.declared.program.Block.{out-Block}
use Rattle.tail_groups.specs.Sites.{called, block_sites, clauses_sites}
use Rattle.tail_groups.proofs.calls.+block.Given as goal

abbrev pub invariant-add_clauses-loop-next : goal.invariant-add_clauses-loop-next
invariant-add_clauses-loop-next l =
    l.calls.items ++ map called (clauses_sites l.is_tail (clauses (drop l.next-index l.clauses)))
    ≡ l.initial.calls.items ++ map called (clauses_sites l.is_tail (clauses l.clauses))

abbrev pub invariant-add_block-loop-binding : goal.invariant-add_block-loop-binding
invariant-add_block-loop-binding l =
    l.calls.items ++ map called (block_sites l.is_tail (block_of (map binding (drop l.binding-index l.binding-items)) (expression (out-Block l.block).last)))
    ≡ l.initial.calls.items ++ map called (block_sites l.is_tail (block_of (map binding l.binding-items) (expression (out-Block l.block).last)))
