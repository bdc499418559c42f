use Rattle.std.proofs.Common.{◌≡◌, drop}
use Rattle.fip_trees.specs.TreeView.{patterns}
use Rattle.lower_frame.specs.lowering_relation.Opening.{any_named}
use Rattle.lower_parts.proofs.choice.+names.Given as goal

abbrev pub invariant-any_named-loop-part : goal.invariant-any_named-loop-part
invariant-any_named-loop-part l = any_named (patterns (drop l.part-index l.patterns)) ≡ any_named (patterns l.patterns)
