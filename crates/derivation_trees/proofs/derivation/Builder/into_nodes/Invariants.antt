use Rattle.std.proofs.Common.{◌≡◌, []}
use Rattle.derivation_trees.proofs.derivation.Builder.into_nodes.Given as goal

abbrev pub invariant-loop : goal.invariant-loop
invariant-loop l = l.fn.self.open.items ≡ [] → l.self.nodes.items ≡ l.fn.self.nodes.items
