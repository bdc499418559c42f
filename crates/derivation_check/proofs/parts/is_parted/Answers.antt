use Rattle.derivation_check.specs.Places.{parts}
use Rattle.derivation_check.proofs.Windows.{parted_sound}
use Rattle.derivation_check.proofs.parts.is_parted.Goals as goal

pub returns-clause-sound : goal.returns-clause-sound
returns-clause-sound c t = parted_sound c.args.whole.now (parts c.args.nodes.now c.args.first c.args.count) c.loop-start.start c.requires c.loop-start-test.false c.loop-start.invariant (c.is_parted_from.ensures.inside c.if-not-is_parted_from.false)
