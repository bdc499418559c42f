use Rattle.std.proofs.Common.{◌≡◌, drop}
use Rattle.register_kinds.specs.Arrivals.{each_fits}
use Rattle.kind_domain.specs.Busy.{AllSay, registers_of}
use Rattle.register_kinds.proofs.fits.asks_fit.Given as goal

abbrev pub invariant-loop-ask : goal.invariant-loop-ask
invariant-loop-ask l = record {
  sets : l.sets ≡ l.initial.sets;
  said : AllSay l.kinds (drop l.ask-index l.asks);
  rest : each_fits l.tested l.kinds l.known (registers_of (drop l.ask-index l.asks))
      ≡ each_fits l.tested l.kinds l.known (registers_of l.asks);
}
