use Rattle.std.proofs.Common.{rules, ◌∙◌}
use Rattle.parser_operators.proofs.levels.end_bracket.Goals as goal

pub returns-in_default : goal.returns-in_default
returns-in_default c = record { next = λ negated w x e. c.refused.ensures.next negated w x (e ∙ search rules) }
