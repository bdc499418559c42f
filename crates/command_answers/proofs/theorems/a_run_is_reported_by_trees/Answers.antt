use Rattle.command_answers.proofs.ByTrees.{exec_by_trees}
use Rattle.command_answers.proofs.Generated.{gen_by_trees}
use Rattle.command_answers.proofs.theorems.a_run_is_reported_by_trees.Goals as goal

pub returns : goal.returns
returns c = record { executes = exec_by_trees; generates = gen_by_trees }
