use Rattle.std.proofs.Common.{◌≡◌, length, take}
use Rattle.fip_trees.specs.TreeView as V
use Rattle.lowering_relation.specs.Growing.{AllGrow}
use Rattle.lowering_relation.specs.Opening.{AllRoomy}
use Rattle.lower_frame.specs.Registers.{HasRoom}
use Rattle.lower_frame.specs.Positions.{spots_of, reaching}
use Rattle.lower_frame.proofs.spots.+spots.Given as goal

abbrev pub invariant-add_all-loop-part : goal.invariant-add_all-loop-part
invariant-add_all-loop-part l = record {
  place : l.place ≡ l.part-index;
  there : length l.fields.items ≡ length l.initial.fields.items;
  grow : AllGrow (spots_of l.initial.fields.items) (spots_of l.fields.items) l.initial.frame.next l.frame.next;
  roomy : AllRoomy (V.patterns (take l.part-index l.patterns)) (spots_of l.fields.items);
  frame : l.frame ≡ reaching l.initial.frame l.frame.next;
  room : HasRoom l.initial.frame l.frame;
}
