use Rattle.std.proofs.Common.{sym, ◌∙◌}
use Rattle.fip_trees.specs.TreeView.{program}
use Rattle.fip_rules.proofs.Whole.{refused, accepted}
use Rattle.fip_rules.proofs.check.check_owned.Goals as goal

pub returns-in-None-clause-owned : goal.returns-in-None-clause-owned
returns-in-None-clause-owned c = accepted (program c.args.typed.now.program) c.in-Ok.least c.in-Ok.ensures (sym c.into_refusal.ensures.least ∙ c.in-None.is)

pub returns-in-Some-clause-least : goal.returns-in-Some-clause-least
returns-in-Some-clause-least c = refused (program c.args.typed.now.program) c.in-Ok.least c.in-Some.refusal c.in-Ok.ensures (sym c.into_refusal.ensures.least ∙ c.in-Some.is)
