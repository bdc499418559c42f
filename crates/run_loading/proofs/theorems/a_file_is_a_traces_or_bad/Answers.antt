use Rattle.run_loading.proofs.Either.{is_one, one_trace, not_both, one_place}
use Rattle.run_loading.proofs.theorems.a_file_is_a_traces_or_bad.Goals as goal

pub returns : goal.returns
returns c = record {
  some = λ bytes. is_one bytes;
  one = λ bytes t u h k. one_trace bytes t u h k;
  apart = λ bytes t at h k. not_both bytes t at h k;
  place = λ bytes at to h k. one_place bytes at to h k;
}
