use Rattle.command_answers.specs.Ends as A
use Rattle.command_answers.specs.Exec as X
use Rattle.answer_correctness.proofs.members.a_ready_entry_is_run.Goals as goal

pub returns : goal.returns
returns c = record {
  misspelt = λ source input r y at h. X.Misspelt y at h;
  small = λ source input r y vs h k. X.Small y vs h k;
  exec = λ source input r s vs e h k t. X.Ran s vs e h k t;
  kept = λ source input name entry out room s vs f h k t. A.Ended f (X.Ran s vs _ h k t);
  traced = λ source input name entry out text room s vs t h k reported of' short. A.Traced text t (X.Ran s vs _ h k reported) of' short;
  untraced = λ source input name entry out room t of' long. A.TooLong t of' long;
  tasks = λ source input name seed turns room e h. h;
}
