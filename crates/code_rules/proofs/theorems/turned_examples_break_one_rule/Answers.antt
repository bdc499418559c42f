use Rattle.code_rules.proofs.Examples.{turned_just, past_end_just, gives_gone_just, puts_tree_just, no_end_just}
use Rattle.code_rules.proofs.theorems.turned_examples_break_one_rule.Goals as goal

pub returns-clause-of_tables : goal.returns-clause-of_tables
returns-clause-of_tables c = turned_just

pub returns-clause-of_ranges : goal.returns-clause-of_ranges
returns-clause-of_ranges c = past_end_just

pub returns-clause-of_sources : goal.returns-clause-of_sources
returns-clause-of_sources c = gives_gone_just

pub returns-clause-of_destinations : goal.returns-clause-of_destinations
returns-clause-of_destinations c = puts_tree_just

pub returns-clause-of_ends : goal.returns-clause-of_ends
returns-clause-of_ends c = no_end_just
