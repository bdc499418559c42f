use Rattle.std.proofs.Common.{◌≡◌, drop, map}
use Rattle.fip_trees.specs.TreeView.{expression, binding, block_of}
use Rattle.fip_trees.specs.declared.program.Block.{out-Block}
use Rattle.cell_lower.specs.Limits as L
use Rattle.cell_lower.proofs.limits.+matches.Given as goal

abbrev pub invariant-matches_block-loop-binding : goal.invariant-matches_block-loop-binding
invariant-matches_block-loop-binding l = L.matches_block (block_of (map binding (drop l.binding-index l.binding-items)) (expression (out-Block l.block).last)) ≡ L.matches_block (block_of (map binding l.binding-items) (expression (out-Block l.block).last))
