use Rattle.std.proofs.Common.{ap, sym, ◌∙◌, map, refl, subst}
use Rattle.std.specs.Prelude.{None}
use Rattle.kind_domain.specs.cell_code.Plain.{plain_label}
use Rattle.register_kinds.specs.Kept.{IsKept}
use Rattle.kind_domain.specs.Owners.{rooted, swapped}
use Rattle.register_kinds.specs.Takes.{stands_for}
use Rattle.register_kinds.proofs.Keeps.{keeps_swapped}
use Rattle.kind_domain.proofs.Naming.{all_same}
use Rattle.register_kinds.proofs.registers.Registers.change_names.Goals as goal

pub returns-in-None-clause-kinds : goal.returns-in-None-clause-kinds
returns-in-None-clause-kinds c =
    sym (all_same (λ d. d) (λ d. refl) c.args.self.now.kinds)
    ∙ ap (λ o. map (rooted (stands_for o c.args.register)) c.args.self.now.kinds) (sym c.in-None.is)

pub invariant_of-self : goal.invariant_of-self
invariant_of-self c =
    subst (λ ks. IsKept ks (map plain_label c.self.inside.labels.now) c.self.inside.lents c.self.inside.below
    c.swap-in-Some.new.self c.swap-in-Some-2.new.self None c.start.new.self c.self.inside.busy c.self.inside.asked.items c.self.inside.sets)
    (sym c.swap.ensures.is)
    (keeps_swapped c.self.inside.known (map plain_label c.self.inside.labels.now) c.self.inside.lents
    c.self.inside.below c.self.inside.trees c.swap-in-Some.new.self c.self.inside.loose c.swap-in-Some-2.new.self
    c.self.inside.held c.self.inside.log c.start.new.self
    c.self.inside.busy c.self.inside.asked.items c.self.inside.sets c.args.register c.in-Some.keeper
    c.self.invariant c.swap-in-Some.ensures.swapped c.swap-in-Some-2.ensures.swapped c.start.ensures.none)

pub returns-in-Some-clause-kinds : goal.returns-in-Some-clause-kinds
returns-in-Some-clause-kinds c =
    c.swap.ensures.is ∙ ap (λ s. map (rooted (swapped c.args.register c.in-Some.keeper)) s.kinds) c.self.view_is
    ∙ ap (λ o. map (rooted (stands_for o c.args.register)) c.args.self.now.kinds) (sym c.in-Some.is)
