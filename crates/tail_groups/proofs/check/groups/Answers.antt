use Rattle.std.proofs.Common.{sym, subst, ◌∙◌}
use Rattle.fip_trees.specs.TreeView.{program, instances}
use Rattle.tail_groups.specs.Found.{AreFound}
use Rattle.tail_groups.specs.Notes.{IsNoted}
use Rattle.tail_groups.proofs.Founds.{members_found}
use Rattle.tail_groups.proofs.Whole.{refused_by, accepted_by}
use Rattle.tail_groups.proofs.check.groups.Goals as goal

pub returns-in-None-clause-tail : goal.returns-in-None-clause-tail
returns-in-None-clause-tail c = accepted_by (program c.args.typed.now.program) c.in-Ok.least (subst (λ is. IsNoted (instances is) c.in-Ok.least) c.as_slice-instances.ensures.value c.in-Ok.ensures.noted) (sym c.into_refusal.ensures.least ∙ c.in-None.is)

pub returns-in-None-clause-members : goal.returns-in-None-clause-members
returns-in-None-clause-members c =
    members_found (program c.args.typed.now.program) c.in-Ok.groups
    (subst (λ is. AreFound (instances is) c.in-Ok.groups) c.as_slice-instances.ensures.value c.in-Ok.ensures.found)
    (accepted_by (program c.args.typed.now.program) c.in-Ok.least (subst (λ is. IsNoted (instances is) c.in-Ok.least) c.as_slice-instances.ensures.value c.in-Ok.ensures.noted) (sym c.into_refusal.ensures.least ∙ c.in-None.is))

pub returns-in-Some-clause-least : goal.returns-in-Some-clause-least
returns-in-Some-clause-least c = refused_by (program c.args.typed.now.program) c.in-Ok.least c.in-Some.refusal (subst (λ is. IsNoted (instances is) c.in-Ok.least) c.as_slice-instances.ensures.value c.in-Ok.ensures.noted) (sym c.into_refusal.ensures.least ∙ c.in-Some.is)
