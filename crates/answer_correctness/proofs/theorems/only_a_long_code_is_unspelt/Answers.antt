use Rattle.answer_correctness.proofs.theorems.only_a_long_code_is_unspelt.Goals as goal

pub returns : goal.returns
returns c = record {
  theorem = λ p code is u. (is.spelt.0, is.spelt.1, u is.spelt.0 is.spelt.1);
}
