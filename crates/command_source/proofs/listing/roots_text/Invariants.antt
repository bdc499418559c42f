use Rattle.std.proofs.Common.{◌≡◌, ◌++◌, drop}
use Rattle.fip_trees.specs.TreeView.{instances}
use Rattle.command_source.specs.Roots.{root_lines}
use Rattle.command_source.proofs.listing.roots_text.Given as goal

abbrev pub invariant-loop-number : goal.invariant-loop-number
invariant-loop-number l = record {
  rest : l.text.items ++ root_lines l.groups l.number (instances (drop l.number l.instance-items)) ≡ root_lines l.groups 0 (instances l.instance-items);
}
