use Rattle.code_rules.proofs.Examples.{after_just, heir_sound}
use Rattle.code_rules.proofs.theorems.what_was_read_goes_with_its_cell.Goals as goal

pub returns-clause-lost : goal.returns-clause-lost
returns-clause-lost c = after_just

pub returns-clause-kept : goal.returns-clause-kept
returns-clause-kept c = heir_sound
