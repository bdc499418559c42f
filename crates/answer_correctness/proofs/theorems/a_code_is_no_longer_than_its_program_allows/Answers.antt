use Rattle.answer_correctness.proofs.LongCodes.{code_within, long_allowed}
use Rattle.answer_correctness.proofs.theorems.a_code_is_no_longer_than_its_program_allows.Goals as goal

pub returns : goal.returns
returns c = record {
  theorem = code_within;
  refused = long_allowed;
}
