use Rattle.std.proofs.Common.{drop}
use Rattle.fip_trees.specs.TreeView.{program, arguments}
use Rattle.fip_rules.specs.World.{world}
use Rattle.derivation_check.specs.Owned.{AreOwned}
use Rattle.derivation_check.specs.Places.{parts}
use Rattle.derivation_check.specs.ScopeView.{frames, scope_of}
use Rattle.derivation_check.specs.Calculus.{DerivesValues}
use Rattle.derivation_check.proofs.values.Walk.+argument.Given as goal

abbrev pub invariant-arguments-loop-argument : goal.invariant-arguments-loop-argument
invariant-arguments-loop-argument l = record {
  owned : AreOwned l.next (parts l.self.nodes.now l.place l.left);
  up : DerivesValues (world (program l.self.program.now) l.self.kind) (scope_of (frames l.scope)).variables l.next (parts l.self.nodes.now l.place l.left) (arguments (drop l.argument-index l.arguments)) → DerivesValues (world (program l.self.program.now) l.self.kind) (scope_of (frames l.scope)).variables l.next (parts l.self.nodes.now l.first l.count) (arguments l.arguments);
  down : DerivesValues (world (program l.self.program.now) l.self.kind) (scope_of (frames l.scope)).variables l.next (parts l.self.nodes.now l.first l.count) (arguments l.arguments) → DerivesValues (world (program l.self.program.now) l.self.kind) (scope_of (frames l.scope)).variables l.next (parts l.self.nodes.now l.place l.left) (arguments (drop l.argument-index l.arguments));
}
