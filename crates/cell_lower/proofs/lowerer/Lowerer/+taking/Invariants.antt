use Rattle.std.proofs.Common.{◌≡◌, drop}
use Rattle.fip_trees.specs.TreeView.{patterns}
use Rattle.lower_parts.specs.lowering_relation.Opening.{taking_all}
use Rattle.lower_parts.specs.lower_frame.Positions.{spots_of, past}
use Rattle.cell_lower.proofs.lowerer.Lowerer.+taking.Given as goal

abbrev pub invariant-take_all-loop-part : goal.invariant-take_all-loop-part
invariant-take_all-loop-part l = record {
  place : l.place ≡ l.part-index;
  takes : taking_all (patterns (drop l.part-index l.patterns)) (past l.part-index (spots_of l.fields)) l.self.buffer ≡ taking_all (patterns l.patterns) (spots_of l.fields) l.initial.self.buffer;
  frame : l.self.frame ≡ l.initial.self.frame;
  context : l.self.context ≡ l.initial.self.context;
  gives_up : l.self.gives_up ≡ l.initial.self.gives_up;
  walk : l.self.walk ≡ l.initial.self.walk;
}
