use Rattle.machine_correctness.proofs.Texts.{printable}
use Rattle.machine_correctness.proofs.run_theorems.meant_words_can_be_printed.Goals as goal

pub returns : goal.returns
returns c = record { theorem = λ tb s types words vs h. printable tb s.store types words vs h }
