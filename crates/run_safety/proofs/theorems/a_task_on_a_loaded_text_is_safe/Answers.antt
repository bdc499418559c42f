use Rattle.run_safety.proofs.Starting.{start_safe}
use Rattle.run_safety.proofs.theorems.a_task_on_a_loaded_text_is_safe.Goals as goal

pub returns : goal.returns
returns c = record { theorem = start_safe }
