use Rattle.std.proofs.Common.{◌≡◌, drop, Some}
use Rattle.fip_trees.specs.TreeView.{arguments, instance_of}
use Rattle.lower_parts.specs.Marks.{marking_passed}
use Rattle.cell_lower.proofs.lowerer.Lowerer.mark_passed.Given as goal

abbrev pub invariant-loop-argument : goal.invariant-loop-argument
invariant-loop-argument l = record {
  place : l.place ≡ l.argument-index;
  rest : marking_passed l.self.frame.names (Some (instance_of l.instance)) l.place (arguments (drop l.argument-index l.arguments)) l.marks.items ≡ marking_passed l.self.frame.names (Some (instance_of l.instance)) 0 (arguments l.arguments) l.initial.marks.items;
}
