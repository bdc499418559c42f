use Rattle.worked_examples.proofs.Declaring.{list_breaks_none, brackets_are_missed, endless_first, just_endless, just_unknown, nat_is_unknown, x_stands_twice}
use Rattle.worked_examples.proofs.theorems.what_small_declarations_break.Goals as goal

pub returns : goal.returns
returns c = record {
  none = list_breaks_none;
  brackets = brackets_are_missed;
  endless = endless_first;
  just_endless = just_endless;
  unknown = just_unknown;
  named = nat_is_unknown;
  twice = x_stands_twice;
}
