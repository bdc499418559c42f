use Rattle.std.proofs.Common.{sym, ◌∙◌, ap, refl, slice_get}
use Rattle.kind_domain.specs.code_rules.Fitting.{fit_all}
use Rattle.register_kinds.specs.Arrivals.{arrive, each_fits, tested_fits}
use Rattle.register_kinds.proofs.Arriving.{seen_case}
use Rattle.register_kinds.proofs.registers.Registers.fits_kinds.Goals as goal

pub returns-in-Some-clause-is : goal.returns-in-Some-clause-is
returns-in-Some-clause-is c =
    let m = c.requires.map.0 in
    let g = ap (λ s. slice_get s.maps c.args.label) c.self.view_is ∙ c.requires.map.1 in
    let ks = c.self.inside.known in
    c.changed_fit.ensures.is
    ∙ seen_case c.args.tested m.kinds c.args.kinds.now c.self.inside.known ks ks
    c.in-Some.changed.now (each_fits c.args.tested c.args.kinds.now ks c.in-Some.changed.now)
    (tested_fits c.args.tested c.args.kinds.now ks) (sym c.requires.map.2) refl refl
    (c.self.invariant.are_maps.long c.args.label m g)
    (c.self.invariant.sees c.args.label m c.in-Some.changed.now g c.in-Some.ensures.is) refl refl
    ∙ ap (λ z. fit_all z (arrive c.args.tested 0 c.self.inside.known)) c.requires.map.2
    ∙ ap (λ s. fit_all c.args.kinds.now (arrive c.args.tested 0 s.kinds)) c.self.view_is
