use Rattle.session_semantics.proofs.OneForm.{task_values_once}
use Rattle.session_semantics.proofs.theorems.a_task_has_one_form.Goals as goal

pub returns-clause-values : goal.returns-clause-values
returns-clause-values c = task_values_once
