use Rattle.lower_frame.proofs.Growing.{grown_on, reached_on, room_on}
use Rattle.lower_frame.proofs.spots.add_fields.Goals as goal

pub loop-alloc-preserved : goal.loop-alloc-preserved
loop-alloc-preserved c = record {
  grow = grown_on c.args.fields.now.items c.loop-alloc.fields.items c.add_field.new.fields.items c.args.frame.now.next c.loop-alloc.frame.next c.add_field.new.frame.next c.loop-alloc.invariant.grow c.in_ok-add_field.ensures.grow;
  frame = reached_on c.args.frame.now c.loop-alloc.frame c.add_field.new.frame c.loop-alloc.invariant.frame c.in_ok-add_field.ensures.frame;
  room = room_on c.args.frame.now c.loop-alloc.frame c.add_field.new.frame c.loop-alloc.invariant.frame c.loop-alloc.invariant.room c.in_ok-add_field.ensures.room;
}
