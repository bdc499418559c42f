use Rattle.compiler_correctness.proofs.EncodingWhole.{typed_has_file}
use Rattle.compiler_correctness.proofs.encoding_theorems.the_code_of_an_accepted_source_has_a_file.Goals as goal

pub returns : goal.returns
returns c = record { theorem = λ source program members code accepted found types functions sound spelt. typed_has_file source program members code accepted.tailed.credited.owned.matched.typed found types functions sound spelt }
