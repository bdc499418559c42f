use Rattle.std.proofs.Common.{map, drop}
use Rattle.fip_trees.specs.TreeView as V
use Rattle.derivation_trees.specs.Trees.{entry}
use Rattle.derivation_trees.specs.WholeTrees.{AreTrees}
use Rattle.derivation_walk.proofs.WalkRows.{Going}
use Rattle.derivation_walk.proofs.make.derive.Given as goal

abbrev pub invariant-loop-number : goal.invariant-loop-number
invariant-loop-number l = record {
  trees : AreTrees l.lines.items;
  walked : Going (V.program l.typed.program) l.needs l.number (map V.instance_of (drop l.number l.instance-items)) (map V.instance_of l.instance-items) (map entry l.lines.items);
}
