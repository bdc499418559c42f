use Rattle.std.proofs.Common.{get_or, refl, arith}
use Rattle.task_lines.proofs.Credits.{credits_start, credits_on, credits_end}
use Rattle.task_lines.proofs.task_line.add_credits.Goals as goal

pub loop-size-init : goal.loop-size-init
loop-size-init c = λ h. credits_start c.args.counts.now c.args.credits.now

pub loop-size-preserved : goal.loop-size-preserved
loop-size-preserved c = λ h. credits_on c.args.counts.now c.loop-size.counts c.add_one.new.self c.args.credits.now c.loop-size.size-index (get_or c.args.credits.now c.loop-size.size-index 0) (let t = c.loop-size-test.true in omega (arith, t)) refl h (c.add_one.ensures.one, c.add_one.ensures.others) (c.loop-size.invariant h)

pub returns : goal.returns
returns c = λ h. credits_end c.args.counts.now c.loop-size.counts c.args.credits.now c.loop-size.size-index (let t = c.loop-size-test.false in omega (arith, t)) (c.loop-size.invariant h)
