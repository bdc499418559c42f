use Rattle.std.proofs.Common.{sym, ◌∙◌, ap, map, slice_get}
use Rattle.kind_domain.specs.cell_code.Plain.{plain_label}
use Rattle.kind_domain.specs.code_rules.Fitting.{fit_all}
use Rattle.register_kinds.specs.Arrivals.{arrive}
use Rattle.std.specs.Prelude.{Some}
use Rattle.register_kinds.proofs.Arriving.{arrive_tested, keeps_seen_but}
use Rattle.register_kinds.proofs.registers.Registers.fit_without.Goals as goal

pub invariant_of-self : goal.invariant_of-self
invariant_of-self c =
    keeps_seen_but c.self.inside.known (map plain_label c.self.inside.labels.now) c.self.inside.lents
    c.self.inside.below c.self.inside.trees c.self.inside.loose c.self.inside.held c.self.inside.log c.see_but.new.self c.self.inside.busy c.self.inside.asked.items
    c.self.inside.sets c.args.label
    (record { register = c.args.register; constructor = c.args.constructor }) c.self.invariant
    (λ m e. ap (λ s. fit_all m.kinds (arrive (Some (record {
      register = c.args.register;
      constructor = c.args.constructor;
    })) 0 s.kinds)) (c.self.view_is ∙ c.fits_map-fits.ensures.same)
    ∙ sym (c.fits_map-fits.ensures.is m (ap (λ s. slice_get s.maps c.args.label) (sym (c.self.view_is ∙ c.fits_map-fits.ensures.same)) ∙ e))
    ∙ c.if-fits.true)
    c.see_but.ensures.seen

pub returns-then-fits-clause-is : goal.returns-then-fits-clause-is
returns-then-fits-clause-is c =
    λ m e. c.fits_map-fits.ensures.is m e ∙ ap (fit_all m.kinds) (arrive_tested c.args.self.now.kinds
    (record { register = c.args.register; constructor = c.args.constructor }))

pub returns-else-fits-clause-is : goal.returns-else-fits-clause-is
returns-else-fits-clause-is c =
    λ m e. c.fits_map-fits.ensures.is m e ∙ ap (fit_all m.kinds) (arrive_tested c.args.self.now.kinds
    (record { register = c.args.register; constructor = c.args.constructor }))
