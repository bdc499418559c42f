use Rattle.std.proofs.Common.{arith, rules}
use Rattle.std.proofs.lemmas.Option.{slice_get-get_or}
use Rattle.lower_frame.proofs.Meeting.{held_more, held_all}
use Rattle.lower_frame.proofs.frame.held_by_both.Goals as goal

pub loop-held-preserved : goal.loop-held-preserved
loop-held-preserved c = record {
  size = search rules;
  both = held_more c.args.here.now c.args.there.now c.loop-held.both.items c.push.new.self.items _ c.held_if.result c.loop-held.held-index c.len-place.result c.loop-held.invariant.size (slice_get-get_or c.args.here.now c.loop-held.held-index _ c.loop-held-test.true) (search rules) c.held_if.ensures.both c.in_ok-push.ensures.items c.loop-held.invariant.both;
}

pub returns-clause-both : goal.returns-clause-both
returns-clause-both c = held_all c.args.here.now c.args.there.now c.loop-held.both.items c.loop-held.held-index c.loop-held.invariant.size (omega (arith, c.loop-held-test.false)) c.loop-held.invariant.both
