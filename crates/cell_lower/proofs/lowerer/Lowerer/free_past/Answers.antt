use Rattle.std.proofs.Common.{◌∙◌}
use Rattle.lower_parts.proofs.lowering_relation.Placing.{gives_up_on}
use Rattle.lower_parts.proofs.lower_frame.Losing.{loses_on}
use Rattle.lower_parts.proofs.Shedding.{sheds_on}
use Rattle.lower_parts.specs.lower_frame.Credits.{sized}
use Rattle.lower_parts.proofs.Laying.{laid_on, spends_next}
use Rattle.lower_parts.proofs.Leaving.{frees_done, frees_next, within_next}
use Rattle.std.proofs.Common.{rules, false, ◌+◌, arith}
use Rattle.cell_lower.proofs.lowerer.Lowerer.free_past.Goals as goal

pub loop-freed-preserved : goal.loop-freed-preserved
loop-freed-preserved c = record {
  given_up = gives_up_on _ _ _ c.loop-freed.invariant.given_up c.in_ok-free_one.ensures.given_up;
  loses = loses_on _ _ _ c.loop-freed.invariant.loses c.in_ok-free_one.ensures.loses;
  sheds = sheds_on _ _ _ _ _ _ c.loop-freed.invariant.sheds c.in_ok-free_one.ensures.sheds;
  context = c.in_ok-free_one.ensures.context ∙ c.loop-freed.invariant.context;
  gives_up = c.in_ok-free_one.ensures.gives_up ∙ c.loop-freed.invariant.gives_up;
  walk = c.in_ok-free_one.ensures.walk ∙ c.loop-freed.invariant.walk;
  laid = laid_on false _ _ _ _ _ _ c.loop-freed.invariant.laid c.in_ok-free_one.ensures.laid;
  spent = spends_next c.args.self.now.frame c.loop-freed.self.frame c.free_one.new.self.frame c.loop-freed.self.buffer c.free_one.new.self.buffer c.args.size c.args.kept c.loop-freed._freed (c.loop-freed._freed + 1) (omega arith) (search rules) c.loop-freed.invariant.laid.accounts c.loop-freed.invariant.spent c.in_ok-free_one.ensures.spent;
  within = within_next c.args.kept (sized c.args.size c.args.self.now.frame.credits) c.count-count.result c.loop-freed._freed (c.loop-freed._freed + 1) (omega arith) c.count-count.ensures.count c.loop-freed-test.true;
  frees = frees_next c.args.self.now.frame c.loop-freed.self.frame c.free_one.new.self.frame c.args.size c.args.kept c.loop-freed._freed (c.loop-freed._freed + 1) (omega arith) (search rules) c.loop-freed.invariant.laid.accounts c.loop-freed.invariant.frees c.in_ok-free_one.ensures.frees;
}

pub returns-clause-frees : goal.returns-clause-frees
returns-clause-frees c = frees_done c.args.self.now.frame c.loop-freed.self.frame c.args.size c.args.kept c.loop-freed._freed c.count-count.result c.count-count.ensures.count c.loop-freed-test.false (search rules) c.loop-freed.invariant.within c.loop-freed.invariant.frees
