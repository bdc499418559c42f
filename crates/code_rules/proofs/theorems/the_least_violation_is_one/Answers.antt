use Rattle.code_rules.proofs.Order.{least_once}
use Rattle.code_rules.proofs.theorems.the_least_violation_is_one.Goals as goal

pub returns : goal.returns
returns c = record { theorem = least_once }
