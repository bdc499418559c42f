use Rattle.machine_semantics.proofs.Reading.{tree_read}
use Rattle.machine_semantics.proofs.theorems.a_drop_reads_the_tree_of_its_word.Goals as goal

pub returns : goal.returns
returns c = record { theorem = tree_read }
