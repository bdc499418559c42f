use Rattle.std.proofs.Common.{[], Some, refl, inr, arith}
use Rattle.command_answers.specs.command_library.command_words.Words.{Replay}
use Rattle.command_answers.specs.command_library.run_loading.Example.{rewriting, file_with}
use Rattle.command_answers.proofs.command_library.run_loading.Examples.{file_is_read, other_file_is_bad, no_bytes_are_bad}
use Rattle.answer_correctness.proofs.Coming.{fetched}
use Rattle.answer_correctness.proofs.members.an_example_of_replay.Goals as goal

pub returns : goal.returns
returns c = record {
  nothing = λ files input name step f.
      fetched files input name (Replay name step) (Some []) _ refl f (inr (omega arith, no_bytes_are_bad));
  other = λ files input name step f.
      fetched files input name (Replay name step) (Some (file_with 2)) _ refl f (inr (omega arith, other_file_is_bad));
  shown = λ files input name step f.
      fetched files input name (Replay name step) (Some (file_with 0)) _ refl f
      (rewriting, record { short = omega arith; end = 80; reads = file_is_read }, refl);
}
