use Rattle.std.proofs.Common.{sym, ◌∙◌}
use Rattle.kind_domain.specs.code_rules.Kinds.{set_of}
use Rattle.std.proofs.Common.{subst}
use Rattle.kind_domain.specs.Rising.{Rise}
use Rattle.kind_domain.specs.Views.{kind_of}
use Rattle.register_kinds.proofs.Arriving.{at_get, fits_from, free_from, rise_kind}
use Rattle.kind_domain.proofs.Places.{at_past}
use Rattle.kind_domain.proofs.SetsCompared.{within_is}
use Rattle.register_kinds.proofs.fits.fits_at.Goals as goal

pub fits-requires-clause-known_rises : goal.fits-requires-clause-known_rises
fits-requires-clause-known_rises c =
    subst (λ k. Rise (set_of k)) (sym c.get-one.ensures.is) (c.requires.known_rise c.args.register)

pub fits-requires-clause-kind_rises : goal.fits-requires-clause-kind_rises
fits-requires-clause-kind_rises c =
    rise_kind c.args.kinds.now c.args.register c.in-Some.kind.now _ c.requires.kinds_rise
    c.in-Some.ensures.lookup.3.0 c.in-Some.ensures.lookup.1

pub fits-requires-clause-within : goal.fits-requires-clause-within
fits-requires-clause-within c =
    within_is c.found_within-within.result c.args.sets.now c.args.known.now c.args.kinds.now c.args.label
    c.args.register c.lacked_at-lacked.result (kind_of c.get-one.result) c.in-Some.kind.now c.requires.comparable
    (sym c.get-one.ensures.is)
    (at_get c.args.kinds.now c.args.register _ c.in-Some.ensures.lookup.3.0 ∙ sym c.in-Some.ensures.lookup.1)
    c.found_within-within.ensures.is

pub returns-in-None-clause-is : goal.returns-in-None-clause-is
returns-in-None-clause-is c =
    free_from c.args.tested c.args.kinds.now c.args.known.now c.args.register (kind_of c.get-in-None.result)
    c.is_free.result c.is_free.ensures.is c.get-in-None.ensures.is
    (at_past c.args.kinds.now c.args.register c.in-None.ensures.lookup.3)

pub returns-in-Some-clause-is : goal.returns-in-Some-clause-is
returns-in-Some-clause-is c =
    fits_from c.args.tested c.args.kinds.now c.args.known.now c.args.register c.in-Some.kind.now
    (kind_of c.get-one.result) c.lacked_at-lacked.result c.fits.result c.fits.ensures.is
    c.lacked_at-lacked.ensures.is
    (at_get c.args.kinds.now c.args.register _ c.in-Some.ensures.lookup.3.0 ∙ sym c.in-Some.ensures.lookup.1)
    (sym c.get-one.ensures.is)
