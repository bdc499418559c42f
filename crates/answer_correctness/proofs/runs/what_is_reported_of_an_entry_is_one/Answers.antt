use Rattle.command_answers.proofs.ByTrees.{exec_by_trees}
use Rattle.command_answers.proofs.TreesOnce.{trees_once}
use Rattle.command_answers.proofs.command_library.command_run.ExecOnce.{exec_once}
use Rattle.answer_correctness.proofs.runs.what_is_reported_of_an_entry_is_one.Goals as goal

pub returns : goal.returns
returns c = record {
  one = exec_once;
  is = λ source name input room gauge d e h k. trees_once source name input room gauge e d (exec_by_trees source name input room gauge e k) h;
}
