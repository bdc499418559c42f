-- Roots mean what the functions of their names mean, and each function without static parameters is one.
use Rattle.specialisation_correctness.proofs.Specialised.{accepted_root, accepted_runs}
use Rattle.specialisation_correctness.proofs.instance_theorems.functions_mean_themselves.Goals as goal

pub returns-clause-roots : goal.returns-clause-roots
returns-clause-roots c = λ core s p i instance arguments calls frames declared source accepted e r. accepted_root core s p declared source accepted i instance arguments calls frames e r

pub returns-clause-all : goal.returns-clause-all
returns-clause-all c = λ core s p place f declared source accepted e n. accepted_runs core s p declared source accepted place f e n
