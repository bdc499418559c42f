use Rattle.compiler_correctness.proofs.Joined.{on_trees_meant, on_cells_meant, instances_meant}
use Rattle.compiler_correctness.proofs.semantics_theorems.accepted_code_means_its_source.Goals as goal

pub returns : goal.returns
returns c = record { trees = on_trees_meant; cells = on_cells_meant; instances = instances_meant }
