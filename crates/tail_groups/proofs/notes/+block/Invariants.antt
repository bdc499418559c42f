use Rattle.std.proofs.Common.{◌≡◌, drop, map}
use Rattle.fip_trees.specs.Least.{after}
use Rattle.fip_trees.specs.TreeView.{expression, binding, clauses, block_of}
use Rattle.fip_trees.specs.declared.program.Block.{out-Block}
use Rattle.tail_groups.specs.Notes.{block_notes, clauses_notes}
use Rattle.tail_groups.proofs.notes.+block.Given as goal

abbrev pub invariant-note_clauses-loop-next : goal.invariant-note_clauses-loop-next
invariant-note_clauses-loop-next l =
    after l.least (clauses_notes l.caller.groups.now l.caller.number l.is_tail (clauses (drop l.next-index l.clauses)))
    ≡ after l.initial.least (clauses_notes l.caller.groups.now l.caller.number l.is_tail (clauses l.clauses))

abbrev pub invariant-note_block-loop-binding : goal.invariant-note_block-loop-binding
invariant-note_block-loop-binding l =
    after l.least (block_notes l.caller.groups.now l.caller.number l.is_tail (block_of (map binding (drop l.binding-index l.binding-items)) (expression (out-Block l.block).last)))
    ≡ after l.initial.least (block_notes l.caller.groups.now l.caller.number l.is_tail (block_of (map binding l.binding-items) (expression (out-Block l.block).last)))
