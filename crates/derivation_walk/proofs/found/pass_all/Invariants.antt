use Rattle.std.proofs.Common.{◌≡◌, drop}
use Rattle.fip_trees.specs.TreeView.{arguments}
use Rattle.derivation_walk.specs.Seen.{world_of, seen_of, pass_all}
use Rattle.derivation_walk.proofs.found.pass_all.Given as goal

abbrev pub invariant-loop-argument : goal.invariant-loop-argument
invariant-loop-argument l = record {
  place : l.place ≡ l.argument-index;
  seen : pass_all (world_of l.context) l.expression l.callee l.place (seen_of l.found) (arguments (drop l.argument-index l.arguments)) ≡ pass_all (world_of l.context) l.expression l.callee 0 (seen_of l.initial.found) (arguments l.arguments);
}
