use Rattle.std.proofs.Common.{rules, arith, ◌∙◌, ◌+◌}
use Rattle.lower_parts.specs.lower_frame.Positions.{spot_of, spots_of}
use Rattle.lower_parts.proofs.Folding.{taken_next, item, spot_there}
use Rattle.cell_lower.proofs.lowerer.Lowerer.+taking.Goals as goal

pub take_all-loop-part-preserved : goal.take_all-loop-part-preserved
take_all-loop-part-preserved t c = record {
  place = search rules;
  takes = taken_next c.args.patterns.now (spots_of c.args.fields.now) c.loop-part.part-index c.loop-part.place (c.loop-part.part-index + 1) c.part-item.result c.loop-part.self.buffer c.take_part.new.self.buffer c.loop-part.invariant.place (omega arith) (item c.args.patterns.now c.loop-part.part-index c.part-item.result c.loop-part-test.true c.part-item.is) c.in_ok-take_part.ensures.takes ∙ c.loop-part.invariant.takes;
  frame = c.in_ok-take_part.ensures.frame ∙ c.loop-part.invariant.frame;
  context = c.in_ok-take_part.ensures.context ∙ c.loop-part.invariant.context;
  gives_up = c.in_ok-take_part.ensures.gives_up ∙ c.loop-part.invariant.gives_up;
  walk = c.in_ok-take_part.ensures.walk ∙ c.loop-part.invariant.walk;
}

pub take_part-returns-clause-takes : goal.take_part-returns-clause-takes
take_part-returns-clause-takes t c = record { spot = spot_of c.in_ok-field.field.now; there = spot_there c.args.fields.now c.args.place c.in_ok-field.field.now c.in_ok-field.ensures.there; is = c.in_ok-take_apart.ensures.takes }
