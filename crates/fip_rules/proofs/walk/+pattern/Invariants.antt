use Rattle.std.proofs.Common.{◌≡◌, drop}
use Rattle.fip_trees.specs.TreeView.{patterns}
use Rattle.fip_rules.specs.Shapes.{taking, binders_all}
use Rattle.fip_rules.specs.Stands.{entered_all}
use Rattle.fip_rules.specs.Views.{world_of}
use Rattle.fip_rules.proofs.walk.+pattern.Given as goal

abbrev pub invariant-bind_patterns-loop-pattern : goal.invariant-bind_patterns-loop-pattern
invariant-bind_patterns-loop-pattern l = entered_all l.state (taking (world_of l.world) l.is_taken (binders_all (patterns (drop l.pattern-index l.patterns)))) ≡ entered_all l.initial.state (taking (world_of l.world) l.is_taken (binders_all (patterns l.patterns)))
