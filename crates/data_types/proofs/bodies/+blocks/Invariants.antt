use Rattle.std.proofs.Common.{◌≡◌, map, drop}
use Rattle.fip_base.specs.CoreView.{binding, block, block_of, clauses, expression}
use Rattle.fip_base.specs.declared.core_form.Block.{out-Block}
use Rattle.fip_trees.specs.Least.{after}
use Rattle.data_types.specs.Faults.{block_faults, clauses_faults}
use Rattle.data_types.proofs.bodies.+blocks.Given as goal

abbrev pub invariant-check_clauses-loop-clause : goal.invariant-check_clauses-loop-clause
invariant-check_clauses-loop-clause l = after l.least (clauses_faults l.scope (clauses (drop l.clause-index l.clauses))) ≡ after l.initial.least (clauses_faults l.scope (clauses l.clauses))

abbrev pub invariant-check_block-loop-binding : goal.invariant-check_block-loop-binding
invariant-check_block-loop-binding l = after l.least (block_faults l.scope (block_of (map binding (drop l.binding-index l.binding-items)) (expression (out-Block l.block).last))) ≡ after l.initial.least (block_faults l.scope (block l.block))
