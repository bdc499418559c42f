use Rattle.std.proofs.Common.{◌≡◌, drop, map, ◌++◌}
use Rattle.fip_trees.specs.TreeView.{instances}
use Rattle.cell_lower.specs.Lowered.{function_instrs}
use Rattle.cell_lower.specs.Shape.{header, headers, headers_from}
use Rattle.lower_parts.specs.Writing.{setting}
use Rattle.cell_lower.proofs.Programs.{FollowCodes}
use Rattle.cell_lower.specs.LaidProgram.{laid_at}
use Rattle.cell_lower.specs.Small.{small_at}
use Rattle.cell_lower.proofs.Instances.{FollowEach}
use Rattle.lower_parts.specs.lower_frame.Spelled.{AreSpelt}
use Rattle.cell_lower.proofs.functions.functions_of.Given as goal

abbrev pub invariant-loop-instance : goal.invariant-loop-instance
invariant-loop-instance l = record {
  number : l.number ≡ l.instance-index;
  rest : map header l.functions.items ++ headers_from l.groups l.number (instances (drop l.instance-index l.instances)) ≡ headers l.groups (instances l.instances);
  laid : FollowEach (laid_at (setting l.context) l.needs) (instances l.instances) (instances (drop l.instance-index l.instances)) l.number l.functions.items;
  small : FollowEach (small_at (setting l.context) l.groups) (instances l.instances) (instances (drop l.instance-index l.instances)) l.number l.functions.items;
  codes : FollowCodes (setting l.context) (instances l.instances) (instances (drop l.instance-index l.instances)) (map function_instrs l.functions.items);
  spelt : AreSpelt l.functions.items;
}
