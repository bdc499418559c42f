use Rattle.std.proofs.Common.{◌≡◌, ◌≤◌, drop, length}
use Rattle.fip_trees.specs.TreeView.{program, arguments}
use Rattle.fip_rules.specs.World.{world}
use Rattle.derivation_check.specs.Owned.{AreOwned}
use Rattle.derivation_check.specs.Places.{parts}
use Rattle.derivation_check.specs.ScopeView.{frames, scope_of}
use Rattle.derivation_check.specs.Calculus.{DerivesPassed}
use Rattle.derivation_check.proofs.values.Walk.all_passed.Given as goal

abbrev pub invariant-loop-argument : goal.invariant-loop-argument
invariant-loop-argument l = record {
  place : l.place ≡ l.argument-index;
  inside : l.place ≤ length l.params;
  owned : AreOwned l.next (parts l.self.nodes.now l.rest.place l.rest.left);
  up : DerivesPassed (world (program l.self.program.now) l.self.kind) (scope_of (frames l.scope)) l.next (drop l.argument-index l.params) (arguments (drop l.argument-index l.arguments)) (parts l.self.nodes.now l.rest.place l.rest.left) → DerivesPassed (world (program l.self.program.now) l.self.kind) (scope_of (frames l.scope)) l.next l.params (arguments l.arguments) (parts l.self.nodes.now l.fn.nodes.place l.fn.nodes.left);
  down : DerivesPassed (world (program l.self.program.now) l.self.kind) (scope_of (frames l.scope)) l.next l.params (arguments l.arguments) (parts l.self.nodes.now l.fn.nodes.place l.fn.nodes.left) → DerivesPassed (world (program l.self.program.now) l.self.kind) (scope_of (frames l.scope)) l.next (drop l.argument-index l.params) (arguments (drop l.argument-index l.arguments)) (parts l.self.nodes.now l.rest.place l.rest.left);
}
