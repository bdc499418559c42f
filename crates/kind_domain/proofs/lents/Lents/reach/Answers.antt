use Rattle.std.proofs.Common.{sym, ap, subst, ◌∙◌}
use Rattle.code_rules.specs.Kinds.{has}
use Rattle.kind_domain.specs.Leading.{AreLents}
use Rattle.kind_domain.proofs.Heirs.{lents_reach}
use Rattle.kind_domain.proofs.lents.Lents.reach.Goals as goal

pub invariant_of-self : goal.invariant_of-self
invariant_of-self c =
    subst (AreLents c.self.inside.items.items c.self.inside.top c.self.inside.listed) (sym c.keep.ensures.is)
    (lents_reach c.self.inside.items.items c.self.inside.top c.self.inside.listed c.self.inside.reached.items
    c.args.register c.args.heir c.self.invariant
    (ap (λ v. has v.held c.args.register) c.self.view_is ∙ c.requires.listed))
