use Rattle.std.proofs.Common.{arith}
use Rattle.std.specs.Prelude.{[]}
use Rattle.kind_domain.proofs.Sights.{none_seen}
use Rattle.kind_domain.proofs.log.Log.start.Goals as goal

pub returns-in-Some : goal.returns-in-Some
returns-in-Some c = record {
  none = none_seen c.self.inside.turn c.self.inside.top c.in-Some.turn [] c.self.inside.seen.items
      (let h = c.in-Some.ensures in omega arith) c.self.invariant.sights;
}
