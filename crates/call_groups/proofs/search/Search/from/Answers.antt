use Rattle.std.proofs.Common.{rules}
use Rattle.call_groups.specs.CallGraph.{rows}
use Rattle.call_groups.specs.Search.{IsNew}
use Rattle.call_groups.proofs.search.Search.from.Goals as goal
use Rattle.call_groups.proofs.Steps.{step_first, met_not_new, met_further}

pub loop-visit-init : goal.loop-visit-init
loop-visit-init c =
    let n : IsNew c.args.self.now.standings.items c.args.function = search rules in
    record {
      sound = step_first (rows c.args.calls.now) c.args.self.now c.meet.new.self c.args.function c.requires n c.in_ok-meet.ensures.meets;
      met = met_not_new c.args.self.now c.meet.new.self c.args.function n c.in_ok-meet.ensures.meets;
      further = met_further c.args.self.now c.meet.new.self c.args.function n c.in_ok-meet.ensures.meets;
    }
