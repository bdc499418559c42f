-- Roots mean what the functions of their names mean, and each function without static parameters is one.
use Rattle.specialisation_correctness.proofs.Meant.{root_meant, function_meant}
use Rattle.specialisation_correctness.proofs.source_theorems.typed_programs_mean_their_sources.Goals as goal

pub returns-clause-roots : goal.returns-clause-roots
returns-clause-roots c = λ source core p i instance arguments calls frames parsed typed e r. root_meant source p typed core parsed i instance arguments calls frames e r

pub returns-clause-all : goal.returns-clause-all
returns-clause-all c = λ source core p place f parsed typed e n. function_meant source p typed core parsed place f e n
