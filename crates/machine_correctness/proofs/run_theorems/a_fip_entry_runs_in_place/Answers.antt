use Rattle.machine_correctness.proofs.Flat.{each_cells, each_frames, each_words}
use Rattle.machine_correctness.proofs.run_theorems.a_fip_entry_runs_in_place.Goals as goal

pub returns : goal.returns
returns c = record {
  cells = λ code before waits n f vs frames s calls steps size sound kinds begins fip.
      each_cells code before waits n f vs frames s calls sound kinds begins fip steps size;
  frames = λ code before waits n f vs frames s calls steps stack sound kinds begins fip number.
      each_frames code before waits n f vs frames s calls sound kinds begins fip steps stack number;
  words = λ code before waits n f vs frames s calls steps stack sound kinds begins fip number.
      each_words code before waits n f vs frames s calls sound kinds begins fip steps stack number;
}
