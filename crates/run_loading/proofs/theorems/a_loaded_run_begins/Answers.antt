use Rattle.run_loading.proofs.Begins.{is_loaded, begins}
use Rattle.run_loading.proofs.theorems.a_loaded_run_begins.Goals as goal

pub returns : goal.returns
returns c = record {
  there = λ code n f vs frames is. is_loaded code n f vs frames is;
  starts = λ code before waits n f vs frames s sound literals kinds is have loads. (begins code before waits n f vs frames s sound literals kinds is have loads).0;
  stands = λ code before waits n f vs frames s sound literals kinds is have loads. (begins code before waits n f vs frames s sound literals kinds is have loads).1;
}
