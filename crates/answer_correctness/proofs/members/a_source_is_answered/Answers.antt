use Rattle.command_answers.specs.Ends as A
use Rattle.answer_correctness.proofs.Coming.{of_source, too_long}
use Rattle.answer_correctness.proofs.members.a_source_is_answered.Goals as goal

pub returns : goal.returns
returns c = record {
  refused = λ files source input name c' w r e k f h. of_source files source input name c' w _ e k f (A.Refused r h);
  long = λ files source input name f h. too_long files source input name f h;
  long_input = λ files source input name c' w e k f ready reads h.
      of_source files source input name c' w _ e k f (A.LongInput ready reads h);
  ready = λ files source input name c' w o e k f ready taken h.
      of_source files source input name c' w o e k f (A.Ready o ready taken h);
}
