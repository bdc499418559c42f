use Rattle.run_loading.proofs.Inverse.{read_is_a_trace, read_is_its_text}
use Rattle.run_loading.proofs.theorems.what_is_read_is_a_trace.Goals as goal

pub returns : goal.returns
returns c = record {
  trace = λ bytes t end small h. read_is_a_trace bytes t end small h;
  text = λ bytes t end small h. read_is_its_text bytes t end small h;
}
