use Rattle.std.proofs.Common.{sym, ◌∙◌}
use Rattle.register_kinds.proofs.Torn.{marks_more, marks_one}
use Rattle.register_kinds.proofs.held.mark_unless.Goals as goal

pub returns-then-not-fine-clause-marked : goal.returns-then-not-fine-clause-marked
returns-then-not-fine-clause-marked c = λ f r m i.
    marks_one c.args.torn.now c.mark.new.self c.in-Some.root r c.mark.ensures.is m (sym c.in-Some.is ∙ i)

pub returns-then-not-fine-clause-more : goal.returns-then-not-fine-clause-more
returns-then-not-fine-clause-more c = λ r m.
    marks_more c.args.torn.now c.mark.new.self c.in-Some.root r c.mark.ensures.is m
