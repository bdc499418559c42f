use Rattle.std.proofs.Common.{refl, Some}
use Rattle.command_answers.specs.command_library.command_words.Words.{Verify, Upgrade, Run}
use Rattle.command_answers.specs.command_library.command_source.Codes as C
use Rattle.command_answers.specs.command_library.command_run.CodeRun as R
use Rattle.command_answers.specs.Ends as A
use Rattle.answer_correctness.proofs.Coming.{fetched}
use Rattle.answer_correctness.proofs.members.a_code_file_is_answered.Goals as goal

pub returns : goal.returns
returns c = record {
  long = λ files bytes input name f h.
      fetched files input name (Verify name) (Some bytes) _ refl f (A.CodeRefused _ (C.LongFile h));
  refused = λ files bytes input r e f h. fetched files input r.file (Run r) (Some bytes) _ refl f (A.CodeRefused e h);
  verify = λ files bytes input text name f h.
      fetched files input name (Verify name) (Some bytes) _ refl f (A.CodeSound _ h);
  upgrade = λ files bytes input text file name out f h k.
      fetched files input name (Upgrade name out) (Some bytes) _ refl f (A.CodeSound _ (h, (file, k)));
  unspelt = λ files bytes input name out code f h k.
      fetched files input name (Upgrade name out) (Some bytes) _ refl f (A.CodeSound _ ((code, h, k), refl));
  small = λ files bytes input r c' vs f taken h k.
      fetched files input r.file (Run r) (Some bytes) _ refl f (A.CodeSound _ (A.Runs _ taken (R.Small c' vs h k)));
  run = λ files bytes input r c' vs q e f taken h k t.
      fetched files input r.file (Run r) (Some bytes) _ refl f (A.CodeSound _ (A.Runs _ taken (R.Ran c' vs q e h k t)));
}
