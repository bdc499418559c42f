use Rattle.std.proofs.Common.{◌≡◌, drop}
use Rattle.fip_trees.specs.TreeView.{patterns}
use Rattle.lower_parts.specs.lowering_relation.Spots as S
use Rattle.lower_parts.specs.lowering_relation.Opening.{naming_all}
use Rattle.lower_parts.specs.lower_frame.Positions.{spot_of, past}
use Rattle.lower_parts.specs.Scenes.{reading_of}
use Rattle.cell_lower.proofs.lowerer.Lowerer.+naming.Given as goal

abbrev pub invariant-read_fields-loop-part : goal.invariant-read_fields-loop-part
invariant-read_fields-loop-part l = record {
  place : l.place ≡ l.part-index;
  reads : naming_all (patterns (drop l.part-index l.patterns)) (past l.part-index (S.fields (spot_of l.spot))) (S.register (spot_of l.spot)) l.part-index (reading_of l.self.buffer l.read.items) ≡ naming_all (patterns l.patterns) (S.fields (spot_of l.spot)) (S.register (spot_of l.spot)) 0 (reading_of l.initial.self.buffer l.initial.read.items);
  frame : l.self.frame ≡ l.initial.self.frame;
  context : l.self.context ≡ l.initial.self.context;
  gives_up : l.self.gives_up ≡ l.initial.self.gives_up;
  walk : l.self.walk ≡ l.initial.self.walk;
}
