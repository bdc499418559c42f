use Rattle.static_params.proofs.AnswerTheorems.{instances_one, not_many}
use Rattle.static_params.proofs.theorems.instances_are_one.Goals as goal

pub returns-clause-one : goal.returns-clause-one
returns-clause-one c = instances_one

pub returns-clause-few : goal.returns-clause-few
returns-clause-few c = not_many
