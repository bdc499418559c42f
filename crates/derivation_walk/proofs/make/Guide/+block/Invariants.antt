use Rattle.std.proofs.Common.{◌≡◌, ◌+◌, ◌*◌, ◌≤◌, drop, map}
use Rattle.fip_trees.specs.TreeView.{expression, binding, block, clauses, block_of}
use Rattle.fip_trees.specs.declared.program.Block.{out-Block}
use Rattle.derivation_trees.specs.Building.{built}
use Rattle.derivation_walk.specs.Growing.{grown, grown_all, closed_times}
use Rattle.derivation_walk.specs.Costs.{total}
use Rattle.derivation_walk.specs.Guides.{guided, asking}
use Rattle.derivation_walk.specs.Walked.{walked_parts, walked_clauses, size_parts, size_clauses}
use Rattle.derivation_walk.proofs.make.Guide.+block.Given as goal

abbrev pub invariant-clauses-loop-next : goal.invariant-clauses-loop-next
invariant-clauses-loop-next l = record {
  grows : grown_all (built l.walk.nodes) (walked_clauses (guided l.self) l.walk.next l.is_taken l.binder record { variables = l.variables; credits = l.credits } (clauses (drop l.next-index l.clauses))) ≡ grown_all (built l.initial.walk.nodes) (walked_clauses (guided l.self) l.initial.walk.next l.is_taken l.binder record { variables = l.variables; credits = l.credits } (clauses l.clauses));
  next : l.walk.next + size_clauses (clauses (drop l.next-index l.clauses)) ≡ l.initial.walk.next + size_clauses (clauses l.clauses);
  kept : total l.walk ≡ total l.initial.walk;
}

abbrev pub invariant-parts-loop-binding : goal.invariant-parts-loop-binding
invariant-parts-loop-binding l = record {
  grows : closed_times l.opened (grown (built l.walk.nodes) (walked_parts (guided l.self) l.walk.next record { variables = l.numbers.items; credits = l.sizes } record { first = l.first; end = l.asked.end; need = l.need } (block_of (map binding (drop l.binding-index l.binding-items)) (expression (out-Block l.block).last)))) ≡ grown (built l.fn.walk.nodes) (walked_parts (guided l.self) l.fn.walk.next record { variables = l.fn.variables.items; credits = l.fn.credits } (asking l.asked) (block l.block));
  next : l.walk.next + size_parts (block_of (map binding (drop l.binding-index l.binding-items)) (expression (out-Block l.block).last)) ≡ l.fn.walk.next + size_parts (block l.block);
  kept : total l.walk ≡ total l.fn.walk;
  few : l.opened ≤ 2 * l.binding-index;
}
