use Rattle.std.proofs.Common.{refl}
use Rattle.answer_correctness.proofs.members.a_ready_source_is_used.Goals as goal

pub returns : goal.returns
returns c = record {
  check = λ source input text file h. h;
  compile = λ source input text name out h. h;
  unspelt = λ source input name out h. (h, refl);
  eval = λ source input name entry calls frames e h. h;
  derive = λ source input file name out h. ((file, h), refl);
  underivable = λ source input name out h. (h, refl);
}
