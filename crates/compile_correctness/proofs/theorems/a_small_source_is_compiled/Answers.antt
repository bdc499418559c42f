use Rattle.compile_correctness.proofs.Bytes.{uncompiled_large}
use Rattle.compile_correctness.proofs.theorems.a_small_source_is_compiled.Goals as goal

pub returns : goal.returns
returns c = record { theorem = uncompiled_large }
