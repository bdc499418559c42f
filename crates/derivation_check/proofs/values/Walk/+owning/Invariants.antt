use Rattle.fip_trees.specs.TreeView.{program}
use Rattle.fip_rules.specs.World.{world}
use Rattle.derivation_check.proofs.Owning.{OwnsAt}
use Rattle.derivation_check.proofs.values.Walk.+owning.Given as goal

abbrev pub invariant-owns_patterns-loop-pattern : goal.invariant-owns_patterns-loop-pattern
invariant-owns_patterns-loop-pattern l = OwnsAt (world (program l.self.program.now) l.self.kind) l.owned l.patterns l.fn.at.next l.fn.at.place l.here.next l.here.place l.pattern-index
