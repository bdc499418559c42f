use Rattle.compiler_correctness.proofs.StackNumbers.{laid_out_has_stacks}
use Rattle.compiler_correctness.proofs.soundness_theorems.lowered_accepted_code_has_its_stack_numbers.Goals as goal

pub returns : goal.returns
returns c = record { theorem = λ source program code members i n m accepted headed laid found e there. laid_out_has_stacks source program accepted code headed laid members found i n m e there }
