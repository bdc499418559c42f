use Rattle.reached_instances.proofs.Gathering.{IsGathered}
use Rattle.reached_instances.proofs.fits.all_of.Given as goal

abbrev pub invariant-loop-argument : goal.invariant-loop-argument
invariant-loop-argument l = IsGathered l.arguments l.places.items l.argument-index
