use Rattle.std.proofs.Common.{◌≡◌, ◌+◌, arith}
use Rattle.derivation_check.proofs.Owning.{numbered_step}
use Rattle.derivation_check.proofs.binders.+numbered.Goals as goal

pub all_numbered-loop-pattern-preserved : goal.all_numbered-loop-pattern-preserved
all_numbered-loop-pattern-preserved t c = record {
  room = let e = c.in-Some.ensures.count in let f = e.1 in omega arith;
  numbered = numbered_step c.args.core c.args.next c.loop-pattern.count c.in-Some.more c.args.patterns.now c.loop-pattern.pattern-index c.pattern-item.result c.loop-pattern.invariant.numbered c.loop-pattern-test.true c.pattern-item.is c.in-Some.ensures.count.0 c.in-Some.ensures.numbered;
}
