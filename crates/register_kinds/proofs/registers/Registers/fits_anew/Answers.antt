use Rattle.std.proofs.Common.{sym, ◌∙◌, ap, length, slice_get, subst, arith}
use Rattle.kind_domain.specs.code_rules.Fitting.{fit_all}
use Rattle.register_kinds.specs.Arrivals.{arrive}
use Rattle.kind_domain.specs.Busy.{IsAsked}
use Rattle.kind_domain.proofs.AskedMaps.{got_asked}
use Rattle.register_kinds.proofs.Sparse.{said_by}
use Rattle.register_kinds.proofs.registers.Registers.fits_anew.Goals as goal

pub asked_fit-requires-clause-said : goal.asked_fit-requires-clause-said
asked_fit-requires-clause-said c =
    let m = c.requires.map.0 in
    let g = ap (λ s. slice_get s.maps c.args.label) c.self.view_is ∙ c.requires.map.1 in
    let long = c.self.invariant.are_maps.long c.args.label m g in
    let few = c.self.invariant.few in
    said_by c.args.kinds.now c.in-Some.asked.now
    (subst (λ z. IsAsked z c.in-Some.asked.now) c.requires.map.2
    (c.self.invariant.asks c.args.label m c.in-Some.asked.now g
    (ap (λ xs. slice_get xs c.args.label) (sym c.deref.ensures.value)
    ∙ got_asked c.deref.result.now c.args.label c.in-Some.asked.now _ c.in-Some.ensures.lookup.3.0
    c.in-Some.ensures.lookup.1) (omega arith)))

pub returns-in-Some-clause-is : goal.returns-in-Some-clause-is
returns-in-Some-clause-is c =
    let m = c.requires.map.0 in
    let g = ap (λ s. slice_get s.maps c.args.label) c.self.view_is ∙ c.requires.map.1 in
    let long = c.self.invariant.are_maps.long c.args.label m g in
    let few = c.self.invariant.few in
    c.asked_fit.ensures.is
    (ap length (sym c.requires.map.2) ∙ long)
    c.self.invariant.counted
    (subst (λ z. IsAsked z c.in-Some.asked.now) c.requires.map.2
    (c.self.invariant.asks c.args.label m c.in-Some.asked.now g
    (ap (λ xs. slice_get xs c.args.label) (sym c.deref.ensures.value)
    ∙ got_asked c.deref.result.now c.args.label c.in-Some.asked.now _ c.in-Some.ensures.lookup.3.0
    c.in-Some.ensures.lookup.1) (omega arith)))
    ∙ ap (λ s. fit_all c.args.kinds.now (arrive c.args.tested 0 s.kinds)) c.self.view_is
