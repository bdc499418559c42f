use Rattle.std.proofs.Common.{sym, subst, ◌∙◌}
use Rattle.fip_trees.specs.TreeView.{program}
use Rattle.credit_check.specs.Held.{Holds}
use Rattle.credit_check.proofs.Rows.{holds}
use Rattle.credit_check.proofs.Whole.{refused, accepted}
use Rattle.credit_check.proofs.check.check_credits.Goals as goal

pub returns-in-None-clause-needs : goal.returns-in-None-clause-needs
returns-in-None-clause-needs c = let p = program c.args.typed.now.program in subst (λ nss. Holds p nss) (sym (c.new.ensures.same ∙ c.in-Ok.ensures.needs)) (holds p p.instances)

pub returns-in-None-clause-credited : goal.returns-in-None-clause-credited
returns-in-None-clause-credited c = accepted (program c.args.typed.now.program) c.in-Ok.checked.least c.in-Ok.ensures.noted (sym c.into_refusal.ensures.least ∙ c.in-None.is)

pub returns-in-Some-clause-least : goal.returns-in-Some-clause-least
returns-in-Some-clause-least c = refused (program c.args.typed.now.program) c.in-Ok.checked.least c.in-Some.refusal c.in-Ok.ensures.noted (sym c.into_refusal.ensures.least ∙ c.in-Some.is)

pub returns-in-None-clause-exact : goal.returns-in-None-clause-exact
returns-in-None-clause-exact c = c.new.ensures.same ∙ c.in-Ok.ensures.needs
