use Rattle.std.proofs.Common.{drop, Option}
use Rattle.fip_language.specs.Table.{Table}
use Rattle.match_cover.specs.declared.trees.Tree.{Tree}
use Rattle.match_cover.specs.Matches.{IsDecisionOf}
use Rattle.match_cover.proofs.numbers.decision.Given as goal

abbrev pub invariant-loop-instance : goal.invariant-loop-instance
invariant-loop-instance l = (tb : Table) (o : Option Tree) → IsDecisionOf tb (drop l.instance-index l.instance-items) l.number o → IsDecisionOf tb l.instance-items l.initial.number o
