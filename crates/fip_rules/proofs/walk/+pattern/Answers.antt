use Rattle.std.proofs.Common.{rules, arith, drop, ◌+◌}
use Rattle.std.proofs.lemmas.Grind.{common_steps}
use Rattle.fip_trees.specs.TreeView.{pattern, patterns}
use Rattle.fip_rules.specs.Views.{world_of}
use Rattle.fip_rules.proofs.Steps.{bind_step}
use Rattle.fip_rules.proofs.walk.+pattern.Goals as goal

pub bind_patterns-loop-pattern-preserved : goal.bind_patterns-loop-pattern-preserved
bind_patterns-loop-pattern-preserved t c = bind_step c.loop-pattern.state c.bind_pattern.new.state _ (world_of c.args.world.now) c.args.is_taken (pattern c.pattern-item.result) (patterns (drop (c.loop-pattern.pattern-index + 1) c.args.patterns.now)) (search rules) (grind (arith, common_steps))
