use Rattle.std.proofs.Common.{◌≡◌, ◌-◌, length}
use Rattle.lowering_relation.specs.Growing.{AllGrow}
use Rattle.lower_frame.specs.Registers.{HasRoom}
use Rattle.lower_frame.specs.Positions.{spots_of, reaching}
use Rattle.lower_frame.proofs.spots.add_fields.Given as goal

abbrev pub invariant-loop-alloc : goal.invariant-loop-alloc
invariant-loop-alloc l = record {
  grow : AllGrow (spots_of l.initial.fields.items) (spots_of l.fields.items) l.initial.frame.next l.frame.next;
  frame : l.frame ≡ reaching l.initial.frame l.frame.next;
  room : HasRoom l.initial.frame l.frame;
}

abbrev pub decreases-loop-alloc : goal.decreases-loop-alloc
decreases-loop-alloc l = l.number - length l.fields.items
