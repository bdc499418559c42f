use Rattle.std.proofs.Common.{rules, drop}
use Rattle.match_knowledge.specs.View.{parts}
use Rattle.match_knowledge.specs.Known.{opens}
use Rattle.match_knowledge.proofs.Steps.{opens_arm, opens_done, no_parts}
use Rattle.match_knowledge.proofs.sides.opens_of.Goals as goal

pub loop-p-preserved : goal.loop-p-preserved
loop-p-preserved c = opens_arm c.loop-p.new.items c.push.new.self.items c.open.result c.args.ps.now c.loop-p._p-index c._p-item.result (opens (parts c.args.ps.now)) (search rules) c.open.ensures (search rules) c.loop-p.invariant

pub returns : goal.returns
returns c = opens_done c.loop-p.new.items (parts (drop c.loop-p._p-index c.args.ps.now)) (opens (parts c.args.ps.now)) (no_parts c.args.ps.now c.loop-p._p-index (search rules)) c.loop-p.invariant
