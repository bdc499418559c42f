use Rattle.std.proofs.lemmas.Bool.{eq-eqb}
use Rattle.derivation_walk.specs.Walked.{same_from}
use Rattle.derivation_walk.proofs.WalkSteps.{same_more}
use Rattle.derivation_walk.proofs.credits.are_same.Goals as goal

pub loop-size-preserved : goal.loop-size-preserved
loop-size-preserved c = same_more (same_from c.args.one.now c.args.other.now 1 16) c.args.one.now c.args.other.now c.loop-size.size c.of.result c.of-in-loop-size.result c.loop-size-test.true c.of.ensures.number c.of-in-loop-size.ensures.number (eq-eqb c.of.result c.of-in-loop-size.result c.if-of.false) c.loop-size.invariant
