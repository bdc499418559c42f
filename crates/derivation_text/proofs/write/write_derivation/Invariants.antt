use Rattle.std.proofs.Common.{◌≡◌, ◌++◌, drop, map}
use Rattle.derivation_trees.specs.Trees.{entry}
use Rattle.derivation_trees.specs.WholeTrees.{AreTrees}
use Rattle.derivation_text.specs.ProofText.{lines_text}
use Rattle.derivation_text.proofs.write.write_derivation.Given as goal

abbrev pub invariant-loop-line : goal.invariant-loop-line
invariant-loop-line l = AreTrees l.line-items → l.text.items ++ lines_text (map entry (drop l.line-index l.line-items)) ≡ lines_text (map entry l.line-items)
