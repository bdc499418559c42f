use Rattle.std.proofs.Common.{ap, ◌∙◌, ◌+◌, arith}
use Rattle.lower_parts.specs.lowering_relation.Known.{Known}
use Rattle.lower_parts.specs.lowering_relation.LoweredBodies.{registers_for}
use Rattle.lower_parts.proofs.Blocks.{reserved_next, reserved_to}
use Rattle.lower_parts.proofs.lower_frame.Growing.{reached_on, reached_used, room_on}
use Rattle.cell_lower.proofs.lowerer.Lowerer.reserve.Goals as goal

pub loop-preserved : goal.loop-preserved
loop-preserved c = record {
  registers = reserved_next c.loop.registers.items c.push.new.self.items c.args.binders.now c.loop.counter c.loop.self.frame.next c.fresh.new.self.next (c.loop.counter + 1) c.in_ok-fresh.field-0 (registers_for c.args.self.now.frame.next c.args.binders.now) (omega arith) (ap (λ (x : Known). x.next) c.in_ok-fresh.ensures.used) (omega arith) c.loop.invariant.registers c.in_ok-fresh.ensures.next c.in_ok-push.ensures.items;
  frame = reserved_to c.loop.self.frame c.fresh.new.self c.args.binders.now c.loop.counter (c.loop.counter + 1) (omega arith) (omega arith) c.in_ok-fresh.ensures.used ∙ c.loop.invariant.frame;
  reached = reached_on c.args.self.now.frame c.loop.self.frame c.fresh.new.self c.loop.invariant.reached (reached_used c.loop.self.frame c.fresh.new.self c.in_ok-fresh.ensures.used);
  room = room_on c.args.self.now.frame c.loop.self.frame c.fresh.new.self c.loop.invariant.reached c.loop.invariant.room c.in_ok-fresh.ensures.room;
  context = c.loop.invariant.context;
  gives_up = c.loop.invariant.gives_up;
  walk = c.loop.invariant.walk;
  buffer = c.loop.invariant.buffer;
}
