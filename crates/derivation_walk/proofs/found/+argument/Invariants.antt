use Rattle.std.proofs.Common.{◌≡◌, drop}
use Rattle.fip_trees.specs.TreeView.{arguments}
use Rattle.derivation_walk.specs.Seen.{seen_of, own_all}
use Rattle.derivation_walk.proofs.found.+argument.Given as goal

abbrev pub invariant-own_all-loop-argument : goal.invariant-own_all-loop-argument
invariant-own_all-loop-argument l = own_all l.expression (seen_of l.found) (arguments (drop l.argument-index l.arguments)) ≡ own_all l.expression (seen_of l.initial.found) (arguments l.arguments)
