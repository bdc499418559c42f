use Rattle.std.proofs.Common.{rules, false}
use Rattle.parser_types.proofs.following.after_signature_parameter.Goals as goal

pub returns-in_default : goal.returns-in_default
returns-in_default c = record { next = c.refused.ensures.next false _ _ (search rules) }
