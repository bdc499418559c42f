use Rattle.fip_trees.specs.Least.{after}
use Rattle.credit_check.specs.Tallies.{below}
use Rattle.credit_check.proofs.Steps.{below_step}
use Rattle.credit_check.proofs.notes.note_below.Goals as goal

pub loop-size-preserved : goal.loop-size-preserved
loop-size-preserved c = below_step c.loop-size.least c.note_if.new.least (after c.args.least.now (below c.args.rule c.args.place c.args.instance c.args.one.now c.args.other.now)) c.args.rule c.args.place c.args.instance c.args.one.now c.args.other.now c.loop-size.size c.of.result c.of-in-loop-size.result c.loop-size-test.true c.of.ensures.number c.of-in-loop-size.ensures.number c.in_ok-note_if.ensures c.loop-size.invariant
