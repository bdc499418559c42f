use Rattle.std.proofs.Common.{◌≡◌, [], ◌++◌, drop}
use Rattle.derivation_trees.specs.Trees.{heads}
use Rattle.derivation_text.specs.Writing.{nodes_text, turned}
use Rattle.derivation_text.proofs.write.write_nodes.Given as goal

abbrev pub invariant-loop-node : goal.invariant-loop-node
invariant-loop-node l = l.text.items ++ nodes_text (turned l.open.items) (heads (drop l.node-index l.nodes)) ≡ l.fn.text.items ++ nodes_text [] (heads l.nodes)
