use Rattle.std.proofs.Common.{map, sym, subst}
use Rattle.kind_domain.specs.cell_code.Plain.{plain_label}
use Rattle.register_kinds.specs.Climbs.{AreKnown}
use Rattle.register_kinds.proofs.Keeps.{keeps_held}
use Rattle.register_kinds.proofs.registers.Registers.set_held.Goals as goal

pub invariant_of-self : goal.invariant_of-self
invariant_of-self c =
    keeps_held c.self.inside.known (map plain_label c.self.inside.labels.now) c.self.inside.lents c.self.inside.below
    c.self.inside.trees c.self.inside.loose c.self.inside.held c.args.held c.self.inside.log c.self.inside.busy
    c.self.inside.asked.items c.self.inside.sets c.self.invariant
    (subst (λ s. AreKnown s.kinds c.args.held) (sym c.self.view_is) c.requires.known)
