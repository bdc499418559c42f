use Rattle.std.proofs.Common.{rules}
use Rattle.match_cover.proofs.CoverSteps.{bodies_next, bodies_end}
use Rattle.match_cover.proofs.coverage.note_all_coverage.Goals as goal

pub loop-number-preserved : goal.loop-number-preserved
loop-number-preserved c = bodies_next c.args.types.now c.args.instances.now c.loop-number.number c.index-instances-number.result c.args.out.now c.loop-number.out c.note_body.new.out (search rules) c.index-instances-number.is c.in_ok-note_body.ensures c.loop-number.invariant

pub returns : goal.returns
returns c = bodies_end c.args.types.now c.args.instances.now c.loop-number.number c.args.out.now c.loop-number.out (search rules) c.loop-number.invariant
