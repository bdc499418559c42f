use Rattle.std.proofs.Common.{◌≡◌, drop}
use Rattle.match_knowledge.specs.View.{knowns}
use Rattle.lower_parts.specs.lowering_relation.Spots as S
use Rattle.lower_parts.specs.lower_frame.Positions.{spot_of, past}
use Rattle.lower_parts.specs.Overlays.{overlaid_all}
use Rattle.lower_parts.specs.Writing.{setting}
use Rattle.cell_lower.proofs.lowerer.Lowerer.+overlay.Given as goal

abbrev pub invariant-overlay_all-loop-part : goal.invariant-overlay_all-loop-part
invariant-overlay_all-loop-part l = record {
  place : l.field ≡ l.part-index;
  kinds : overlaid_all (setting l.self.context.now) l.overlay.root l.overlay.read.now (drop l.part-index l.types) (knowns (drop l.part-index l.parts)) (past l.part-index (S.fields (spot_of l.spot))) (S.register (spot_of l.spot)) l.part-index l.kinds.items ≡ overlaid_all (setting l.self.context.now) l.overlay.root l.overlay.read.now l.types (knowns l.parts) (S.fields (spot_of l.spot)) (S.register (spot_of l.spot)) 0 l.initial.kinds.items;
}
