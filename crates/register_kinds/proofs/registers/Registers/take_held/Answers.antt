use Rattle.std.proofs.Common.{map, sym, subst}
use Rattle.kind_domain.specs.cell_code.Plain.{plain_label}
use Rattle.register_kinds.specs.Climbs.{AreKnown}
use Rattle.register_kinds.proofs.Keeps.{keeps_held}
use Rattle.register_kinds.proofs.Torn.{known_none}
use Rattle.register_kinds.proofs.registers.Registers.take_held.Goals as goal

pub invariant_of-self : goal.invariant_of-self
invariant_of-self c =
    keeps_held c.self.inside.known (map plain_label c.self.inside.labels.now) c.self.inside.lents c.self.inside.below
    c.self.inside.trees c.self.inside.loose c.self.inside.held c.take.new.self c.self.inside.log c.self.inside.busy
    c.self.inside.asked.items c.self.inside.sets c.self.invariant
    (subst (AreKnown c.self.inside.known) (sym c.take.ensures.after) (known_none c.self.inside.known))

pub returns-clause-known : goal.returns-clause-known
returns-clause-known c =
    subst (λ s. AreKnown s.kinds c.take.result) c.self.view_is
    (subst (AreKnown c.self.inside.known) (sym c.take.ensures.value) c.self.invariant.holds)
