use Rattle.std.proofs.Common.{◌≡◌, drop}
use Rattle.fip_rules.specs.Shapes.{parameters}
use Rattle.fip_rules.specs.Stands.{entered_all}
use Rattle.fip_rules.specs.Views.{world_of}
use Rattle.fip_rules.proofs.check.bind_parameters.Given as goal

abbrev pub invariant-loop-binder : goal.invariant-loop-binder
invariant-loop-binder l = record {
  place : l.place ≡ l.binder-index;
  state : entered_all l.state (parameters (world_of l.world) (drop l.place l.params) (drop l.binder-index l.binders)) ≡ entered_all l.initial.state (parameters (world_of l.world) l.params l.binders);
}
