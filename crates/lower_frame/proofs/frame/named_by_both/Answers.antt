use Rattle.std.proofs.Common.{arith, rules}
use Rattle.std.proofs.lemmas.Option.{slice_get-get_or}
use Rattle.lower_frame.proofs.Meeting.{named_more, named_all}
use Rattle.lower_frame.proofs.frame.named_by_both.Goals as goal

pub loop-name-preserved : goal.loop-name-preserved
loop-name-preserved c = record {
  size = search rules;
  both = named_more c.args.here.now c.args.there.now c.loop-name.both.items c.push.new.self.items _ c.name_if.result c.loop-name.name-index c.len-place.result c.loop-name.invariant.size (slice_get-get_or c.args.here.now c.loop-name.name-index _ c.loop-name-test.true) (search rules) c.name_if.ensures.both c.in_ok-push.ensures.items c.loop-name.invariant.both;
}

pub returns-clause-both : goal.returns-clause-both
returns-clause-both c = named_all c.args.here.now c.args.there.now c.loop-name.both.items c.loop-name.name-index c.loop-name.invariant.size (omega (arith, c.loop-name-test.false)) c.loop-name.invariant.both
