use Rattle.std.proofs.Common.{◌≡◌, ◌+◌, drop, length, ◌≤◌}
use Rattle.fip_trees.specs.TreeView.{program}
use Rattle.fip_rules.specs.World.{world}
use Rattle.derivation_check.specs.Calculus.{numbers}
use Rattle.derivation_check.proofs.values.Walk.owns_all.Given as goal

abbrev pub invariant-loop-binder : goal.invariant-loop-binder
invariant-loop-binder l = record {
  next : l.here.next ≡ l.next + l.binder-index;
  up : drop l.here.place l.owned ≡ numbers (world (program l.self.program.now) l.self.kind) l.here.next (drop l.binder-index l.binders) → l.owned ≡ numbers (world (program l.self.program.now) l.self.kind) l.next l.binders;
  down : l.owned ≡ numbers (world (program l.self.program.now) l.self.kind) l.next l.binders → drop l.here.place l.owned ≡ numbers (world (program l.self.program.now) l.self.kind) l.here.next (drop l.binder-index l.binders);
  inside : l.here.place ≤ length l.owned;
}
