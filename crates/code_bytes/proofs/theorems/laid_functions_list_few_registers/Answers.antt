use Rattle.code_bytes.proofs.Whole.{laid_narrow}
use Rattle.code_bytes.proofs.theorems.laid_functions_list_few_registers.Goals as goal

pub returns : goal.returns
returns c = record { theorem = laid_narrow }
