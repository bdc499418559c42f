use Rattle.answer_correctness.proofs.Shown.{nothing_done, nothing_reported}
use Rattle.answer_correctness.proofs.theorems.a_failure_leaves_out_and_files.Goals as goal

pub returns : goal.returns
returns c = record {
  kept = λ words files input h a bad. nothing_done files input h words a bad;
  err = λ words files input h a good. nothing_reported files input h words a good;
}
