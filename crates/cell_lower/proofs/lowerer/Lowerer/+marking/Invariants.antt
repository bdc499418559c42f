use Rattle.std.proofs.Common.{◌≡◌, drop}
use Rattle.fip_trees.specs.TreeView.{arguments}
use Rattle.lower_parts.specs.Marks.{marking_all}
use Rattle.cell_lower.proofs.lowerer.Lowerer.+marking.Given as goal

abbrev pub invariant-mark_all-loop-argument : goal.invariant-mark_all-loop-argument
invariant-mark_all-loop-argument l = marking_all l.self.frame.names (arguments (drop l.argument-index l.arguments)) l.marks.items ≡ marking_all l.self.frame.names (arguments l.arguments) l.initial.marks.items
