use Rattle.std.proofs.Common.{rules}
use Rattle.call_groups.specs.CallGraph.{rows}
use Rattle.call_groups.proofs.search.Search.follow.Goals as goal
use Rattle.call_groups.proofs.Steps.{step_settled, keeps_both}

pub loop-at-preserved : goal.loop-at-preserved
loop-at-preserved c = record {
  sound =
      step_settled (rows c.args.calls.now) c.loop-at.self c.settle.new.self c.calls_of-row.result.now c.args.visit.function c.args.visit.place
      c.loop-at.at c.callee_at-callee.result c.calls_of-row.ensures c.callee_at-callee.ensures c.loop-at.invariant.sound (search rules)
      c.settle.ensures.settled c.settle.ensures.same;
  same = keeps_both c.args.self.now c.loop-at.self c.settle.new.self c.loop-at.invariant.same c.settle.ensures.same;
}
