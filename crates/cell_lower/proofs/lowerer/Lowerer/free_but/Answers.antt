use Rattle.std.proofs.Common.{◌∙◌, ◌+◌, false, arith}
use Rattle.fip_language.specs.declared.limits.TheConstants.{MOST_FIELDS}
use Rattle.lower_parts.proofs.lowering_relation.Placing.{gives_up_on}
use Rattle.lower_parts.proofs.lower_frame.Losing.{loses_on}
use Rattle.lower_parts.proofs.Shedding.{sheds_on}
use Rattle.lower_parts.proofs.Laying.{laid_on}
use Rattle.lower_parts.proofs.Leaving.{but_done, but_next}
use Rattle.cell_lower.proofs.lowerer.Lowerer.free_but.Goals as goal

pub loop-below-preserved : goal.loop-below-preserved
loop-below-preserved c = record {
  given_up = gives_up_on _ _ _ c.loop-below.invariant.given_up c.in_ok-free_past.ensures.given_up;
  loses = loses_on _ _ _ c.loop-below.invariant.loses c.in_ok-free_past.ensures.loses;
  sheds = sheds_on _ _ _ _ _ _ c.loop-below.invariant.sheds c.in_ok-free_past.ensures.sheds;
  context = c.in_ok-free_past.ensures.context ∙ c.loop-below.invariant.context;
  gives_up = c.in_ok-free_past.ensures.gives_up ∙ c.loop-below.invariant.gives_up;
  walk = c.in_ok-free_past.ensures.walk ∙ c.loop-below.invariant.walk;
  laid = laid_on false _ _ _ _ _ _ c.loop-below.invariant.laid c.in_ok-free_past.ensures.laid;
  frees = but_next c.args.entry.now c.args.need.now c.loop-below.below (c.loop-below.below + 1) (c.loop-below.below + 1) c.kept_of.result c.args.self.now.frame c.loop-below.self.frame c.free_past.new.self.frame (omega arith) (omega arith) c.kept_of.ensures c.loop-below.invariant.laid.accounts c.loop-below.invariant.frees c.in_ok-free_past.ensures.frees;
}

pub returns-clause-frees : goal.returns-clause-frees
returns-clause-frees c = but_done c.args.entry.now c.args.need.now c.loop-below.below MOST_FIELDS c.args.self.now.frame c.loop-below.self.frame (omega arith) c.loop-below.invariant.frees
