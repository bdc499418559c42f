use Rattle.std.proofs.Common.{◌≡◌, ◌-◌, drop, length, ◌≤◌}
use Rattle.fip_trees.specs.TreeView.{program}
use Rattle.fip_rules.specs.World.{world}
use Rattle.derivation_check.specs.Accepted.{owned_parameters}
use Rattle.derivation_check.proofs.values.Walk.owns_parameters.Given as goal

abbrev pub decreases-loop-number : goal.decreases-loop-number
decreases-loop-number l = length l.params - l.number

abbrev pub invariant-loop-number : goal.invariant-loop-number
invariant-loop-number l = record {
  up : drop l.place l.owned ≡ owned_parameters (world (program l.self.program.now) l.self.kind) l.number (drop l.number l.params) → l.owned ≡ owned_parameters (world (program l.self.program.now) l.self.kind) 0 l.params;
  down : l.owned ≡ owned_parameters (world (program l.self.program.now) l.self.kind) 0 l.params → drop l.place l.owned ≡ owned_parameters (world (program l.self.program.now) l.self.kind) l.number (drop l.number l.params);
  inside : l.place ≤ length l.owned;
}
