use Rattle.register_kinds.proofs.Arriving.{rise_drop, rise_kind}
use Rattle.register_kinds.proofs.fits.all_fit.Goals as goal

pub fits-requires-clause-known_rises : goal.fits-requires-clause-known_rises
fits-requires-clause-known_rises c =
    rise_drop c.args.known.now c.loop-kind.place _ _ c.requires.known_rise c.in-Some.ensures.some

pub fits-requires-clause-kind_rises : goal.fits-requires-clause-kind_rises
fits-requires-clause-kind_rises c =
    rise_kind c.args.kinds.now c.loop-kind.kind-index c.kind-item.result _ c.requires.kinds_rise
    c.loop-kind-test.true c.kind-item.is
