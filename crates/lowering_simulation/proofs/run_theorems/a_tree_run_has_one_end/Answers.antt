use Rattle.lowering_simulation.proofs.Whole.{one_end}
use Rattle.lowering_simulation.proofs.run_theorems.a_tree_run_has_one_end.Goals as goal

pub returns : goal.returns
returns c = record { theorem = one_end }
