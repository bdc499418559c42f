use Rattle.std.proofs.Common.{◌≡◌, true, drop}
use Rattle.fip_rules.specs.Shapes.{taking}
use Rattle.fip_rules.specs.Stands.{entered_all}
use Rattle.fip_rules.specs.Views.{world_of}
use Rattle.fip_rules.proofs.walk.bind_all.Given as goal

abbrev pub invariant-loop-binder : goal.invariant-loop-binder
invariant-loop-binder l = entered_all l.state (taking (world_of l.world) true (drop l.binder-index l.binders)) ≡ entered_all l.initial.state (taking (world_of l.world) true l.binders)
