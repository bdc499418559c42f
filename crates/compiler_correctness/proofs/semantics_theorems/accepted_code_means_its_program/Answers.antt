use Rattle.compiler_correctness.proofs.Joined.{on_trees, on_cells}
use Rattle.compiler_correctness.proofs.semantics_theorems.accepted_code_means_its_program.Goals as goal

pub returns : goal.returns
returns c = record { trees = on_trees; cells = on_cells }
