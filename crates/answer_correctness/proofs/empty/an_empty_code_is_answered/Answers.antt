use Rattle.std.proofs.Common.{Some, refl}
use Rattle.command_answers.specs.command_library.command_words.Words.{Verify, Upgrade, Run}
use Rattle.command_answers.specs.Ends as A
use Rattle.answer_correctness.specs.Empty.{empty_code, empty_file}
use Rattle.answer_correctness.proofs.Coming.{fetched}
use Rattle.answer_correctness.proofs.EmptySource as E
use Rattle.answer_correctness.proofs.empty.an_empty_code_is_answered.Goals as goal

pub returns : goal.returns
returns c = record {
  verify = λ files input name f.
      fetched files input name (Verify name) (Some empty_file) _ refl f (A.CodeSound _ E.code_listing);
  upgrade = λ files input name out f.
      fetched files input name (Upgrade name out) (Some empty_file) _ refl f
      (A.CodeSound _ (E.code_listing, (empty_file, E.upgraded)));
  run = λ files input r f.
      fetched files input r.file (Run r) (Some empty_file) _ refl f
      (A.CodeSound _ (A.NoFunction empty_code E.file_sound (E.names_none r.entry)));
}
