use Rattle.std.proofs.Common.{rules, arith, ◌∙◌, ◌+◌}
use Rattle.std.proofs.lemmas.Option.{slice_get-get_or}
use Rattle.lower_parts.proofs.Writing.{moves_to}
use Rattle.cell_lower.proofs.lowerer.Lowerer.move_all.Goals as goal

pub loop-source-preserved : goal.loop-source-preserved
loop-source-preserved c = record {
  place = search rules;
  rest = moves_to c.args.self.now.frame c.args.self.now.buffer c.args.sources.now c.args.destinations.now c.loop-source.self.frame c.move_to.new.self.frame c.loop-source.self.buffer c.move_to.new.self.buffer c.args.sources.now c.args.destinations.now c.loop-source.source-index c.loop-source.place (c.loop-source.place + 1) _ c.loop-source.invariant.place (omega arith) (slice_get-get_or c.args.sources.now c.loop-source.source-index 0 c.loop-source-test.true) c.loop-source.invariant.rest c.in_ok-move_to.ensures.moves;
  context = c.in_ok-move_to.ensures.context ∙ c.loop-source.invariant.context;
  gives_up = c.in_ok-move_to.ensures.gives_up ∙ c.loop-source.invariant.gives_up;
  walk = c.in_ok-move_to.ensures.walk ∙ c.loop-source.invariant.walk;
}
