use Rattle.std.proofs.Common.{rules, arith, ◌∙◌, ◌+◌}
use Rattle.lower_parts.specs.lower_frame.Positions.{spot_of, spots_of}
use Rattle.lower_parts.specs.Writing.{setting}
use Rattle.lower_parts.proofs.Folding.{entered_next, item, spot_there}
use Rattle.cell_lower.proofs.lowerer.Lowerer.+opening.Goals as goal

pub open_all-loop-part-preserved : goal.open_all-loop-part-preserved
open_all-loop-part-preserved t c = record {
  place = search rules;
  opens = entered_next (setting c.args.self.now.context.now) c.args.takes c.args.root c.args.patterns.now (spots_of c.args.fields.now) c.loop-part.part-index c.loop-part.place (c.loop-part.part-index + 1) c.part-item.result c.loop-part.self.frame c.open_field.new.self.frame c.loop-part.invariant.place (omega arith) (item c.args.patterns.now c.loop-part.part-index c.part-item.result c.loop-part-test.true c.part-item.is) (rw c.loop-part.invariant.context at c.in_ok-open_field.ensures.opens) ∙ c.loop-part.invariant.opens;
  buffer = c.in_ok-open_field.ensures.buffer ∙ c.loop-part.invariant.buffer;
  context = c.in_ok-open_field.ensures.context ∙ c.loop-part.invariant.context;
  gives_up = c.in_ok-open_field.ensures.gives_up ∙ c.loop-part.invariant.gives_up;
  walk = c.in_ok-open_field.ensures.walk ∙ c.loop-part.invariant.walk;
}

pub open_field-returns-clause-opens : goal.open_field-returns-clause-opens
open_field-returns-clause-opens t c = record { spot = spot_of c.in_ok-field.field.now; there = spot_there c.args.fields.now c.args.place c.in_ok-field.field.now c.in_ok-field.ensures.there; is = c.in_ok-open_part.ensures.opens }
