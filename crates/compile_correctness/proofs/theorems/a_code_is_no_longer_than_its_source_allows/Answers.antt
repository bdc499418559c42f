use Rattle.compile_correctness.proofs.Bytes.{file_short}
use Rattle.compile_correctness.proofs.theorems.a_code_is_no_longer_than_its_source_allows.Goals as goal

pub returns : goal.returns
returns c = record { theorem = file_short }
