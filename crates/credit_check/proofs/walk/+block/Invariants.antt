use Rattle.std.proofs.Common.{◌≡◌, ◌++◌, drop, map}
use Rattle.fip_trees.specs.Least.{after}
use Rattle.fip_trees.specs.Sizes.{no_sizes}
use Rattle.fip_trees.specs.TreeView.{program, expression, binding, clauses, block_of}
use Rattle.fip_trees.specs.declared.program.Block.{out-Block}
use Rattle.credit_check.specs.Tallies.{clauses_sizes, clauses_needs, clauses_notes, block_sizes, parts_needs, block_notes}
use Rattle.credit_check.proofs.walk.+block.Given as goal

abbrev pub invariant-other_clauses-loop-next : goal.invariant-other_clauses-loop-next
invariant-other_clauses-loop-next l = record {
  sizes : clauses_sizes (program l.context.program.now) l.is_taken l.most (clauses (drop l.next-index l.clauses)) ≡ clauses_sizes (program l.context.program.now) l.is_taken l.first (clauses l.clauses);
  kept : l.needs.items ++ clauses_needs (program l.context.program.now) (clauses (drop l.next-index l.clauses)) ≡ l.initial.needs.items ++ clauses_needs (program l.context.program.now) (clauses l.clauses);
  noted : after l.least (clauses_notes (program l.context.program.now) l.context.instance l.context.is_fip l.is_taken l.place l.first (clauses (drop l.next-index l.clauses))) ≡ after l.initial.least (clauses_notes (program l.context.program.now) l.context.instance l.context.is_fip l.is_taken l.place l.first (clauses l.clauses));
}

abbrev pub invariant-parts-loop-binding : goal.invariant-parts-loop-binding
invariant-parts-loop-binding l = record {
  sizes : block_sizes (program l.context.program.now) l.sizes (block_of (map binding (drop l.binding-index l.binding-items)) (expression (out-Block l.block).last)) ≡ block_sizes (program l.context.program.now) no_sizes (block_of (map binding l.binding-items) (expression (out-Block l.block).last));
  kept : l.needs.items ++ parts_needs (program l.context.program.now) (block_of (map binding (drop l.binding-index l.binding-items)) (expression (out-Block l.block).last)) ≡ l.initial.needs.items ++ parts_needs (program l.context.program.now) (block_of (map binding l.binding-items) (expression (out-Block l.block).last));
  noted : after l.least (block_notes (program l.context.program.now) l.context.instance l.context.is_fip (block_of (map binding (drop l.binding-index l.binding-items)) (expression (out-Block l.block).last))) ≡ after l.initial.least (block_notes (program l.context.program.now) l.context.instance l.context.is_fip (block_of (map binding l.binding-items) (expression (out-Block l.block).last)));
}
