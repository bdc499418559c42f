use Rattle.separation.proofs.Running.{run_sound}
use Rattle.separation.proofs.state_theorems.no_instruction_is_stuck.Goals as goal

pub returns : goal.returns
returns c = record { theorem = run_sound }
