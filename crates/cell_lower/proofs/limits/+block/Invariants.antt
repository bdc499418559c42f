use Rattle.std.proofs.Common.{◌≡◌, drop, map}
use Rattle.fip_trees.specs.TreeView.{expression, binding, clauses, block_of}
use Rattle.fip_trees.specs.declared.program.Block.{out-Block}
use Rattle.cell_lower.specs.Limits as L
use Rattle.cell_lower.proofs.limits.+block.Given as goal

abbrev pub invariant-wide_block-loop-binding : goal.invariant-wide_block-loop-binding
invariant-wide_block-loop-binding l = L.wide_block l.types (block_of (map binding (drop l.binding-index l.binding-items)) (expression (out-Block l.block).last)) ≡ L.wide_block l.types (block_of (map binding l.binding-items) (expression (out-Block l.block).last))

abbrev pub invariant-wide_clauses-loop-clause : goal.invariant-wide_clauses-loop-clause
invariant-wide_clauses-loop-clause l = L.wide_clauses l.types (clauses (drop l.clause-index l.clauses)) ≡ L.wide_clauses l.types (clauses l.clauses)
