use Rattle.std.proofs.Common.{◌≡◌, drop}
use Rattle.fip_trees.specs.Least.{after}
use Rattle.fip_trees.specs.TreeView.{block, clauses, expression}
use Rattle.fip_trees.specs.declared.program.Block.{out-Block}
use Rattle.type_check.specs.Scope.{Keeps}
use Rattle.type_check.specs.Faults.{found_block, block_faults, clauses_faults, fill_block, fill_clauses}
use Rattle.type_check.proofs.Halves.{Clauses_half, Block_half, Left}
use Rattle.type_check.proofs.expressions.+expression.Given as goal

abbrev pub invariant-check_clauses-loop-clause : goal.invariant-check_clauses-loop-clause
invariant-check_clauses-loop-clause l = record {
  unvisited : goal.unvisited-check_clauses-loop-clause l;
  scope : l.scope ≡ l.initial.scope;
  tree : Clauses_half l.walk.tables.now l.initial.scope l.ty l.types l.clause-index l.clauses ≡ fill_clauses l.walk.tables.now l.initial.scope l.ty l.types (clauses l.initial.clauses);
  faults : after l.least (clauses_faults l.walk.tables.now l.walk.instance l.initial.scope l.ty l.types (clauses (drop l.clause-index l.clauses))) ≡ after l.initial.least (clauses_faults l.walk.tables.now l.walk.instance l.initial.scope l.ty l.types (clauses l.initial.clauses));
}

abbrev pub invariant-check_block-loop-binding : goal.invariant-check_block-loop-binding
invariant-check_block-loop-binding l = record {
  unvisited : goal.unvisited-check_block-loop-binding l;
  kept : Keeps l.initial.scope l.scope;
  tree : Block_half l.walk.tables.now l.scope l.results.expected l.results.types.now l.binding-index l.binding-items (expression (out-Block l.fn.block).last) ≡ fill_block l.walk.tables.now l.initial.scope l.results.expected l.results.types.now (block l.fn.block);
  found : found_block l.walk.tables.now l.scope l.results.expected l.results.types.now (Left l.binding-index l.binding-items (expression (out-Block l.fn.block).last)) ≡ found_block l.walk.tables.now l.initial.scope l.results.expected l.results.types.now (block l.fn.block);
  faults : after l.least (block_faults l.walk.tables.now l.walk.instance l.scope l.results.expected l.results.types.now (Left l.binding-index l.binding-items (expression (out-Block l.fn.block).last))) ≡ after l.initial.least (block_faults l.walk.tables.now l.walk.instance l.initial.scope l.results.expected l.results.types.now (block l.fn.block));
}
