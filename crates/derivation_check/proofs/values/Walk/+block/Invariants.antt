use Rattle.std.proofs.Common.{◌≡◌}
use Rattle.fip_trees.specs.TreeView.{program, expression}
use Rattle.fip_trees.specs.declared.program.Block.{out-Block}
use Rattle.fip_rules.specs.World.{world}
use Rattle.derivation_check.specs.Owned.{owned}
use Rattle.derivation_check.specs.ScopeView.{frames, scope_of}
use Rattle.derivation_check.proofs.Blocks.{BlockAt, ClausesAt}
use Rattle.derivation_check.proofs.values.Walk.+block.Given as goal

abbrev pub invariant-block-loop-binding : goal.invariant-block-loop-binding
invariant-block-loop-binding l = record {
  done : l.done ≡ l.binding-index;
  walked : BlockAt (world (program l.self.program.now) l.self.kind) (scope_of (frames l.scope)) l.core l.next l.self.nodes.now l.fn.place l.binding-items (expression (out-Block l.block).last) l.count l.here l.binding-index;
}

abbrev pub invariant-clauses-loop-clause : goal.invariant-clauses-loop-clause
invariant-clauses-loop-clause l = ClausesAt (world (program l.self.program.now) l.self.kind) (scope_of (frames l.scope)) l.core l.next l.head.taken (owned l.head.found.node.now.variables.items l.head.found.node.now.credits.items) l.self.nodes.now l.fn.first l.fn.all l.clauses l.count l.place l.left l.clause-index
