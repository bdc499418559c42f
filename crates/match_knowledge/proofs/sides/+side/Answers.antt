use Rattle.std.proofs.Common.{rules, drop}
use Rattle.match_knowledge.specs.View.{parts, knowns}
use Rattle.match_knowledge.specs.Known.{side_all}
use Rattle.match_knowledge.proofs.Steps.{side_arm, side_done, no_knowns}
use Rattle.match_knowledge.proofs.sides.+side.Goals as goal

pub side_all-loop-k-preserved : goal.side_all-loop-k-preserved
side_all-loop-k-preserved t c = record {
  place = search rules;
  made = side_arm c.loop-k.new.items c.push.new.self.items c.in_ok-side_at.field-0 c.k-item.result c.args.ps.now c.args.ks.now c.loop-k.k-index c.loop-k.j c.loop-k.met c.is_met-met.result c.args.holds (side_all c.args.holds (parts c.args.ps.now) (knowns c.args.ks.now)) (search rules) c.loop-k.invariant.place (search rules) c.k-item.is (search rules) c.is_met-met.ensures c.loop-k.invariant.made;
}

pub side_all-returns : goal.side_all-returns
side_all-returns t c = side_done c.loop-k.new.items (parts (drop c.loop-k.j c.args.ps.now)) c.loop-k.met c.args.holds (knowns (drop c.loop-k.k-index c.args.ks.now)) (side_all c.args.holds (parts c.args.ps.now) (knowns c.args.ks.now)) (no_knowns c.args.ks.now c.loop-k.k-index (search rules)) c.loop-k.invariant.made
