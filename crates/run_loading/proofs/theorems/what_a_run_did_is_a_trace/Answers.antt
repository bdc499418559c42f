use Rattle.run_loading.proofs.RunTraces.{run_is_traced}
use Rattle.run_loading.proofs.Small.{first_writable}
use Rattle.run_loading.proofs.theorems.what_a_run_did_is_a_trace.Goals as goal

pub returns : goal.returns
returns c = record {
  run = λ code before waits n kept s calls steps start few writable number small. run_is_traced code before waits n kept s calls steps start few writable number small;
  loaded = λ types ts vs credits few have short. first_writable types ts vs credits few have short;
}
