use Rattle.std.proofs.Common.{◌≡◌, drop}
use Rattle.fip_trees.specs.TreeView as V
use Rattle.command_source.specs.Roots.{root_named}
use Rattle.command_source.proofs.entry.root_named.Given as goal

abbrev pub invariant-loop-number : goal.invariant-loop-number
invariant-loop-number l = record {
  rest : root_named l.name (V.instances (drop l.number l.instances)) ≡ root_named l.name (V.instances l.instances);
}
