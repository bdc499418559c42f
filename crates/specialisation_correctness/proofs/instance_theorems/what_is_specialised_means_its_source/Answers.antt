-- What specialising gives is specialised, by name, and each instance means what its function means.
use Rattle.specialisation_correctness.proofs.Specialised.{specialised, accepted_means}
use Rattle.specialisation_correctness.proofs.instance_theorems.what_is_specialised_means_its_source.Goals as goal

pub returns-clause-specialised : goal.returns-clause-specialised
returns-clause-specialised c = λ core s p accepted declared source. specialised core s p declared source accepted

pub returns-clause-means : goal.returns-clause-means
returns-clause-means c = λ core s p accepted i f given arguments calls frames declared source e. accepted_means core s p declared source accepted i f given arguments calls frames e
