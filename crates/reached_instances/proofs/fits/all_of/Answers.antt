use Rattle.std.proofs.Common.{get_or, None, sym, subst}
use Rattle.reached_instances.proofs.Putting.{item_is}
use Rattle.reached_instances.proofs.Gathering.{IsGathered, gathered_starts, gathered_goes, gathered_ends, gathered_fails}
use Rattle.reached_instances.proofs.fits.all_of.Goals as goal

pub loop-argument-init : goal.loop-argument-init
loop-argument-init c = subst (λ is. IsGathered c.args.arguments.now is 0) (sym c.new-places.ensures.items) (gathered_starts c.args.arguments.now)

pub loop-argument-preserved : goal.loop-argument-preserved
loop-argument-preserved c = gathered_goes c.args.arguments.now c.loop-argument.places.items c.push.new.self.items c.loop-argument.argument-index c.in-Some.place (get_or c.args.arguments.now c.loop-argument.argument-index None) c.loop-argument-test.true (item_is c.args.arguments.now c.loop-argument.argument-index None c.loop-argument-test.true) c.in-Some.is c.in_ok-push-in-Some.ensures.items c.loop-argument.invariant

pub returns-in-None-clause-trees : goal.returns-in-None-clause-trees
returns-in-None-clause-trees c = λ ts. gathered_fails c.args.arguments.now c.loop-argument.places.items c.loop-argument.argument-index (get_or c.args.arguments.now c.loop-argument.argument-index None) ts c.loop-argument-test.true (item_is c.args.arguments.now c.loop-argument.argument-index None c.loop-argument-test.true) c.in-None.is c.loop-argument.invariant

pub returns-clause-within : goal.returns-clause-within
returns-clause-within c = λ bs w. (c.loop-argument.invariant.within bs w).0

pub returns-clause-trees : goal.returns-clause-trees
returns-clause-trees c = λ ts. gathered_ends c.args.arguments.now c.loop-argument.places c.loop-argument.argument-index ts c.loop-argument-test.false c.loop-argument.invariant
