use Rattle.machine_correctness.proofs.Texts.{text_begins}
use Rattle.machine_correctness.proofs.run_theorems.what_is_loaded_from_a_text_begins.Goals as goal

pub returns : goal.returns
returns c = record { theorem = text_begins }
