use Rattle.std.proofs.Common.{sym, ◌∙◌}
use Rattle.register_kinds.proofs.Torn.{marked_one}
use Rattle.register_kinds.proofs.held.is_torn.Goals as goal

pub returns-in-Some : goal.returns-in-Some
returns-in-Some c = record {
  torn = λ e r m i.
      marked_one c.args.torn.now c.in-Some.root r (c.is_marked.ensures.marked e) m (sym c.in-Some.is ∙ i);
}
