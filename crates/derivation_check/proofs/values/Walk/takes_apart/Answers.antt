use Rattle.std.proofs.Common.{◌+◌, length}
use Rattle.fip_trees.specs.TreeView.{pattern}
use Rattle.fip_rules.specs.Shapes.{binders}
use Rattle.derivation_check.proofs.values.Walk.takes_apart.Goals as goal

pub are_given-requires : goal.are_given-requires
are_given-requires c = c.credits_at.ensures.rise (c.args.next + length (binders (pattern c.args.pattern.now))) c.requires.owned
