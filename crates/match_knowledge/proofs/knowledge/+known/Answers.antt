use Rattle.std.proofs.Common.{rules, drop}
use Rattle.match_knowledge.specs.View.{parts}
use Rattle.match_knowledge.specs.Left.{all_known}
use Rattle.match_knowledge.proofs.Steps.{known_arm, known_done, no_parts}
use Rattle.match_knowledge.proofs.knowledge.+known.Goals as goal

pub all_known-loop-p-preserved : goal.all_known-loop-p-preserved
all_known-loop-p-preserved t c = known_arm c.loop-p.new.items c.push.new.self.items c.in_ok-known_of.field-0 c.args.ps.now c.loop-p.p-index c.p-item.result (all_known (parts c.args.ps.now)) (search rules) (search rules) c.p-item.is (search rules) c.loop-p.invariant

pub all_known-returns : goal.all_known-returns
all_known-returns t c = known_done c.loop-p.new.items (parts (drop c.loop-p.p-index c.args.ps.now)) (all_known (parts c.args.ps.now)) (no_parts c.args.ps.now c.loop-p.p-index (search rules)) c.loop-p.invariant
