use Rattle.answer_correctness.proofs.OneAnswer.{one_answer}
use Rattle.answer_correctness.proofs.theorems.an_answer_is_one.Goals as goal

pub returns : goal.returns
returns c = record {
  theorem = λ words files input out err h k x y a b some more. one_answer out err h k x y words files input a b some more;
}
