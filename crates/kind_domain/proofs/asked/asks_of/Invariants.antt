use Rattle.std.proofs.Common.{◌≡◌, ◌<◌, ◌++◌, drop, length}
use Rattle.kind_domain.specs.Busy.{asks_from}
use Rattle.kind_domain.proofs.asked.asks_of.Given as goal

abbrev pub invariant-loop-kind : goal.invariant-loop-kind
invariant-loop-kind l = record {
  step : length l.kinds < 65536 → l.register ≡ l.kind-index;
  rest : length l.kinds < 65536 →
      l.asks.items ++ asks_from l.kind-index (drop l.kind-index l.kinds) ≡ asks_from 0 l.kinds;
}
