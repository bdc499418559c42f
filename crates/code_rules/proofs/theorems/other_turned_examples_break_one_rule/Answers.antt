use Rattle.code_rules.proofs.Examples.{promise_just, leaves_tree_just, drops_tree_just, waits_self_just, no_result_just}
use Rattle.code_rules.proofs.theorems.other_turned_examples_break_one_rule.Goals as goal

pub returns-clause-of_labels : goal.returns-clause-of_labels
returns-clause-of_labels c = promise_just

pub returns-clause-of_leftovers : goal.returns-clause-of_leftovers
returns-clause-of_leftovers c = leaves_tree_just

pub returns-clause-of_releases : goal.returns-clause-of_releases
returns-clause-of_releases c = drops_tree_just

pub returns-clause-of_groups : goal.returns-clause-of_groups
returns-clause-of_groups c = waits_self_just

pub returns-clause-of_headers : goal.returns-clause-of_headers
returns-clause-of_headers c = no_result_just
