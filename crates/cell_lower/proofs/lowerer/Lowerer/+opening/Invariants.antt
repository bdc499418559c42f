use Rattle.std.proofs.Common.{◌≡◌, drop}
use Rattle.fip_trees.specs.TreeView.{patterns}
use Rattle.lower_parts.specs.lowering_relation.Entering.{entering_all}
use Rattle.lower_parts.specs.lower_frame.Positions.{spots_of, past}
use Rattle.lower_parts.specs.Writing.{setting}
use Rattle.cell_lower.proofs.lowerer.Lowerer.+opening.Given as goal

abbrev pub invariant-open_all-loop-part : goal.invariant-open_all-loop-part
invariant-open_all-loop-part l = record {
  place : l.place ≡ l.part-index;
  opens : entering_all (setting l.initial.self.context.now) l.takes l.root (patterns (drop l.part-index l.patterns)) (past l.part-index (spots_of l.fields)) l.self.frame ≡ entering_all (setting l.initial.self.context.now) l.takes l.root (patterns l.patterns) (spots_of l.fields) l.initial.self.frame;
  buffer : l.self.buffer ≡ l.initial.self.buffer;
  context : l.self.context ≡ l.initial.self.context;
  gives_up : l.self.gives_up ≡ l.initial.self.gives_up;
  walk : l.self.walk ≡ l.initial.self.walk;
}
