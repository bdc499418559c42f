use Rattle.std.proofs.Common.{◌≡◌, drop}
use Rattle.fip_trees.specs.TreeView.{clauses, expression}
use Rattle.fip_trees.specs.declared.program.Block.{out-Block}
use Rattle.lower_parts.specs.Marks.{marking_block, marking_clauses}
use Rattle.lower_parts.specs.Writing.{setting}
use Rattle.lower_parts.proofs.Blocks.{rest_of}
use Rattle.cell_lower.proofs.lowerer.Lowerer.+used.Given as goal

abbrev pub invariant-mark_block-loop-binding : goal.invariant-mark_block-loop-binding
invariant-mark_block-loop-binding l = marking_block l.self.frame.names (setting l.self.context.now).instances (rest_of l.binding-items l.binding-index (expression (out-Block l.block).last)) l.marks.items ≡ marking_block l.self.frame.names (setting l.self.context.now).instances (rest_of l.binding-items 0 (expression (out-Block l.block).last)) l.initial.marks.items

abbrev pub invariant-mark_clauses-loop-clause : goal.invariant-mark_clauses-loop-clause
invariant-mark_clauses-loop-clause l = marking_clauses l.self.frame.names (setting l.self.context.now).instances (clauses (drop l.clause-index l.clauses)) l.marks.items ≡ marking_clauses l.self.frame.names (setting l.self.context.now).instances (clauses l.clauses) l.initial.marks.items
