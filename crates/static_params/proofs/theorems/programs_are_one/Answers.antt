use Rattle.static_params.proofs.AnswerTheorems.{programs_one, accepted_or_refused}
use Rattle.static_params.proofs.theorems.programs_are_one.Goals as goal

pub returns-clause-one : goal.returns-clause-one
returns-clause-one c = programs_one

pub returns-clause-accepted : goal.returns-clause-accepted
returns-clause-accepted c = accepted_or_refused
