use Rattle.std.proofs.Common.{◌≡◌, ◌<◌, ◌+◌, ◌++◌, length, drop, ap, ◌∙◌, arith, rules, refl}
use Rattle.std.proofs.lemmas.Grind.{common_steps}
use Rattle.call_groups.specs.Search.{group_all}
use Rattle.call_groups.specs.declared.search.Standing.TheVariants.{Grouped}
use Rattle.call_groups.proofs.search.Search.group_from.Goals as goal
use Rattle.call_groups.proofs.Steps.{group_step, order_step}
use Rattle.call_groups.proofs.Unmet.{unmet_put}

pub loop-at-preserved : goal.loop-at-preserved
loop-at-preserved c =
    let lp : length c.loop-at.self.path.items ≡ length c.args.self.now.path.items = ap length c.loop-at.invariant.path in
    let lt : c.loop-at.at < length c.loop-at.self.path.items = first_of (omega arith, grind (arith, common_steps), search rules) in
    record {
      met = rw c.put.ensures (let less = unmet_put c.loop-at.self.standings.items c.index-function.result.now (Grouped c.len-group.result) refl in let more = c.loop-at.invariant.met in omega arith);
      visits = c.loop-at.invariant.visits;
      pieces = c.loop-at.invariant.pieces;
      path = c.loop-at.invariant.path;
      group = c.loop-at.invariant.group;
      standings =
          ap (group_all c.len-group.result (drop (c.loop-at.at + 1) c.loop-at.self.path.items)) c.put.ensures
          ∙ (group_step c.len-group.result c.loop-at.self.path.items c.loop-at.at c.index-function.result.now c.loop-at.self.standings.items lt c.index-function.ensures
          ∙ c.loop-at.invariant.standings);
      order =
          ap (λ os. os ++ drop (c.loop-at.at + 1) c.loop-at.self.path.items) c.in_ok-push.ensures.items
          ∙ (order_step c.loop-at.self.order.items c.loop-at.self.path.items c.loop-at.at c.index-function.result.now lt c.index-function.ensures
          ∙ c.loop-at.invariant.order);
    }
