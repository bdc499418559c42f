use Rattle.std.proofs.Common.{sym, ap, ◌∙◌}
use Rattle.fip_trees.specs.fip_language.Meaning.{binder_value}
use Rattle.plain_eval.proofs.arguments.variable.Goals as goal

pub returns-in-Some : goal.returns-in-Some
returns-in-Some c = record { stands = λ s env v h e. c.value.ensures.stands s env v h (sym (ap (binder_value env) c.in-Some.is) ∙ e) }
