use Rattle.std.proofs.Common.{[], ◌++◌}
use Rattle.derivation_trees.specs.Trees.{heads}
use Rattle.derivation_text.specs.Writing.{nodes_text}
use Rattle.derivation_text.proofs.Writers.{nodes_done}
use Rattle.derivation_text.proofs.write.write_nodes.Goals as goal

pub returns : goal.returns
returns c = nodes_done c.args.nodes.now c.loop-node.node-index c.loop-node.text.items c.loop-node.open.items (c.args.text.now.items ++ nodes_text [] (heads c.args.nodes.now)) c.loop-node-test.false c.loop-node.invariant
