use Rattle.code_rules.proofs.Numbers.{groups_in_rows}
use Rattle.code_rules.proofs.theorems.groups_are_those_of_rows.Goals as goal

pub returns : goal.returns
returns c = record { theorem = groups_in_rows }
