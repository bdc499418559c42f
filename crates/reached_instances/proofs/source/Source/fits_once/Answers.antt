use Rattle.std.proofs.Common.{sym, subst, map}
use Rattle.fip_base.specs.CoreView.{signature_parameter, result_type}
use Rattle.closed_types.specs.SharedTrees.{Grows}
use Rattle.reached_instances.specs.SourceView.{source}
use Rattle.closed_types.proofs.Growing.{grows_same}
use Rattle.reached_instances.proofs.Fitting.{known_right, known_more, ready_if_right}
use Rattle.reached_instances.proofs.source.Source.fits_once.Goals as goal

pub returns-in-Some-clause-grows : goal.returns-in-Some-clause-grows
returns-in-Some-clause-grows c = grows_same c.args.shared.now.branches

pub returns-in-Some-clause-right : goal.returns-in-Some-clause-right
returns-in-Some-clause-right c = λ r a w k. r

pub returns-in-Some-clause-fit : goal.returns-in-Some-clause-fit
returns-in-Some-clause-fit c = λ r a w k. known_right (source c.args.self.now) c.args.shared.now c.args.passing c.in-Some.fit c.args.there.now (map signature_parameter c.args.parameters.now) (result_type c.args.given.now) r.known c.in-Some.ensures a k

pub returns-in_ok-note_fit-in-None-clause-grows : goal.returns-in_ok-note_fit-in-None-clause-grows
returns-in_ok-note_fit-in-None-clause-grows c = subst (Grows c.args.shared.now.branches) (sym c.in_ok-note_fit-in-None.ensures.branches) c.in_ok-fit-in-None.ensures.grows

pub returns-in_ok-note_fit-in-None-clause-right : goal.returns-in_ok-note_fit-in-None-clause-right
returns-in_ok-note_fit-in-None-clause-right c = λ r a w k. record {
  looked_up = r.looked_up;
  known = known_more (source c.args.self.now) c.args.shared.now c.fits.new.shared c.note_fit.new.self c.args.passing c.in_ok-fit-in-None.fit c.args.there.now (map signature_parameter c.args.parameters.now) (result_type c.args.given.now) c.in_ok-fit-in-None.ensures.grows c.in_ok-fit-in-None.ensures.fits c.in_ok-note_fit-in-None.ensures.branches c.in_ok-note_fit-in-None.ensures.noted r.known a w k (c.in_ok-fit-in-None.ensures.fit (ready_if_right c.args.self.now c.args.shared.now c.args.there.now r a.within));
}

pub returns-in_ok-note_fit-in-None-clause-fit : goal.returns-in_ok-note_fit-in-None-clause-fit
returns-in_ok-note_fit-in-None-clause-fit c = λ r a w k. c.in_ok-fit-in-None.ensures.fit (ready_if_right c.args.self.now c.args.shared.now c.args.there.now r a.within)
