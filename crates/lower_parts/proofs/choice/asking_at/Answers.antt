use Rattle.std.proofs.Common.{sym, ◌∙◌}
use Rattle.match_knowledge.specs.View.{parts, knowns}
use Rattle.lower_parts.proofs.Folding.{asks_some, found_asks, found_known, found_part}
use Rattle.lower_parts.proofs.choice.asking_at.Goals as goal

pub unreachable-requires : goal.unreachable-requires
unreachable-requires c = asks_some (parts c.args.parts.now) (knowns c.args.knowns.now) 0 c.requires.asks (sym c.in-None.is ∙ c.first_asking.ensures.first)

pub returns-clause-part : goal.returns-clause-part
returns-clause-part c = found_part c.args.parts.now c.args.knowns.now c.in-Some.field (sym c.first_asking.ensures.first ∙ c.in-Some.is)

pub returns-clause-known : goal.returns-clause-known
returns-clause-known c = found_known c.args.parts.now c.args.knowns.now c.in-Some.field (sym c.first_asking.ensures.first ∙ c.in-Some.is)

pub returns-clause-asks : goal.returns-clause-asks
returns-clause-asks c = found_asks c.args.parts.now c.args.knowns.now c.in-Some.field (sym c.first_asking.ensures.first ∙ c.in-Some.is)
