use Rattle.std.proofs.Common.{rules, sym, subst, ◌∙◌, ◌+◌, arith}
use Rattle.fip_trees.specs.TreeView.{pattern, patterns}
use Rattle.lowering_relation.specs.Opening.{Roomy, AllRoomy}
use Rattle.lower_frame.specs.declared.spots.Spot.{out-Spot, roll-Spot}
use Rattle.lower_frame.specs.Positions.{spot_of, spots_of, RoomyAt}
use Rattle.lower_frame.proofs.Frames.{item}
use Rattle.lower_frame.proofs.Growing.{grown_on, grown_at, reached_on, room_on, roomy_on, roomy_set, spot_grown, spot_roomy}
use Rattle.lower_frame.proofs.spots.+spots.Goals as goal

pub add_all-loop-part-preserved : goal.add_all-loop-part-preserved
add_all-loop-part-preserved t c = record {
  place = search rules;
  there = c.in_ok-add_part.ensures.as_many ∙ c.loop-part.invariant.there;
  grow = grown_on c.args.fields.now.items c.loop-part.fields.items c.add_part.new.fields.items c.args.frame.now.next c.loop-part.frame.next c.add_part.new.frame.next c.loop-part.invariant.grow c.in_ok-add_part.ensures.grow;
  roomy = roomy_on c.args.patterns.now c.loop-part.part-index (c.loop-part.part-index + 1) c.part-item.result c.loop-part.fields.items c.add_part.new.fields.items c.loop-part.frame.next c.add_part.new.frame.next (omega arith) (item c.args.patterns.now c.loop-part.part-index c.part-item.result c.loop-part-test.true c.part-item.is) c.in_ok-add_part.ensures.grow c.loop-part.invariant.roomy (subst (λ z. RoomyAt (pattern c.part-item.result) z (spots_of c.add_part.new.fields.items)) c.loop-part.invariant.place c.in_ok-add_part.ensures.roomy);
  frame = reached_on c.args.frame.now c.loop-part.frame c.add_part.new.frame c.loop-part.invariant.frame c.in_ok-add_part.ensures.frame;
  room = room_on c.args.frame.now c.loop-part.frame c.add_part.new.frame c.loop-part.invariant.frame c.loop-part.invariant.room c.in_ok-add_part.ensures.room;
}

pub add_part-returns-clause-grow : goal.add_part-returns-clause-grow
add_part-returns-clause-grow t c = grown_at c.args.fields.now.items c.args.place c.in-Some.field.now c.add_spots.new.spot c.args.frame.now.next c.add_spots.new.frame.next (item c.args.fields.now.items c.args.place c.in-Some.field.now c.in-Some.ensures.item.3.0 c.in-Some.ensures.value) c.in_ok-add_spots-in-Some.ensures.grows

pub add_part-returns-clause-roomy : goal.add_part-returns-clause-roomy
add_part-returns-clause-roomy t c = roomy_set c.args.fields.now.items c.args.place c.in-Some.field.now c.add_spots.new.spot (pattern c.args.part.now) (item c.args.fields.now.items c.args.place c.in-Some.field.now c.in-Some.ensures.item.3.0 c.in-Some.ensures.value) c.in_ok-add_spots-in-Some.ensures.roomy

pub add_spots-returns-in_ok-add_parts-in-Constructor-clause-grows : goal.add_spots-returns-in_ok-add_parts-in-Constructor-clause-grows
add_spots-returns-in_ok-add_parts-in-Constructor-clause-grows t c = spot_grown c.args.spot.now c.add_parts.new.fields c.args.frame.now.next c.add_parts.new.frame.next c.in_ok-add_parts-in-Constructor.ensures.grow

pub add_spots-returns-in_ok-add_parts-in-Constructor-clause-roomy : goal.add_spots-returns-in_ok-add_parts-in-Constructor-clause-roomy
add_spots-returns-in_ok-add_parts-in-Constructor-clause-roomy t c = subst (λ x. Roomy (pattern x) (spot_of (roll-Spot record { register = (out-Spot c.args.spot.now).register; fields = c.add_parts.new.fields }))) (sym c.in-Constructor.is) (spot_roomy c.in-Constructor.ty c.in-Constructor.data c.in-Constructor.number c.in-Constructor.name c.in-Constructor.place c.in-Constructor.patterns (out-Spot c.args.spot.now).register c.add_parts.new.fields (subst (λ x. AllRoomy (patterns x) (spots_of c.add_parts.new.fields.items)) c.as_slice.ensures.value c.in_ok-add_parts-in-Constructor.ensures.roomy))

pub add_parts-returns-clause-grow : goal.add_parts-returns-clause-grow
add_parts-returns-clause-grow t c = grown_on c.args.fields.now.items c.add_fields.new.fields.items c.add_all.new.fields.items c.args.frame.now.next c.add_fields.new.frame.next c.add_all.new.frame.next c.in_ok-add_fields.ensures.grow c.in_ok-add_all.ensures.grow

pub add_parts-returns-clause-room : goal.add_parts-returns-clause-room
add_parts-returns-clause-room t c = room_on c.args.frame.now c.add_fields.new.frame c.add_all.new.frame c.in_ok-add_fields.ensures.frame c.in_ok-add_fields.ensures.room c.in_ok-add_all.ensures.room
