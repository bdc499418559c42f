use Rattle.static_params.proofs.AnswerTheorems.{numbers_one, not_many_types}
use Rattle.static_params.proofs.theorems.types_are_one.Goals as goal

pub returns-clause-one : goal.returns-clause-one
returns-clause-one c = numbers_one

pub returns-clause-few : goal.returns-clause-few
returns-clause-few c = not_many_types
