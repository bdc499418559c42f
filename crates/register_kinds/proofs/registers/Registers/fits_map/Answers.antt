use Rattle.std.proofs.Common.{sym, ◌∙◌, ap, slice_get}
use Rattle.kind_domain.specs.code_rules.Fitting.{fit_all}
use Rattle.register_kinds.specs.Arrivals.{arrive}
use Rattle.register_kinds.proofs.Arriving.{map_is}
use Rattle.register_kinds.proofs.registers.Registers.fits_map.Goals as goal

pub returns-in-None-clause-is : goal.returns-in-None-clause-is
returns-in-None-clause-is c =
    λ m e. absurd (c.map_of.ensures.none c.in-None.is m (ap (λ s. slice_get s.maps c.args.label) c.self.view_is ∙ e))

pub returns-in-Some-clause-is : goal.returns-in-Some-clause-is
returns-in-Some-clause-is c =
    let f = c.in-Some.ensures.found in
    λ m e. c.fits_kinds.ensures.is
    ∙ ap (λ z. fit_all z (arrive c.args.tested 0 c.args.self.now.kinds))
    (sym f.2 ∙ ap (λ z. z.kinds) (map_is _ f.0 m f.1 (ap (λ s. slice_get s.maps c.args.label) c.self.view_is ∙ e)))
