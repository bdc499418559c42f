use Rattle.register_kinds.proofs.Torn.{unmarked_so}
use Rattle.register_kinds.proofs.held.is_whole.Goals as goal

pub returns-in-Some : goal.returns-in-Some
returns-in-Some c = record {
  whole = λ ks e a. a c.in-Some.torn c.in-Some.is c.args.register (c.is_marked.ensures.unmarked (unmarked_so c.is_marked.result e));
}
