use Rattle.std.proofs.Common.{rules, arith, ◌≡◌, drop, map, ap, sym, ◌+◌, ◌∙◌}
use Rattle.std.proofs.lemmas.Grind.{common_steps}
use Rattle.std.proofs.lemmas.Result.{on_ok_weaker}
use Rattle.fip_trees.specs.TreeView.{binding, block, block_of, clause, clauses, expression}
use Rattle.fip_trees.specs.declared.program.Block.{out-Block}
use Rattle.fip_trees.specs.declared.program.Clause.{Clause}
use Rattle.derivation_walk.specs.Seen.{world_of, seen_of, see, see_clause, see_clauses}
use Rattle.derivation_walk.proofs.UsesSteps.{none_left, block_first, more_seen, block_seen, clause_seen, match_seen}
use Rattle.derivation_walk.proofs.found.+block.Goals as goal

pub clauses-loop-next-preserved : goal.clauses-loop-next-preserved
clauses-loop-next-preserved t c = clause_seen (world_of c.args.context.now) (seen_of c.loop-next.found) (seen_of c.clause.new.found) _ (clause c.next-item.result) (clauses (drop (c.loop-next.next-index + 1) c.args.clauses.now)) (search rules) (grind (arith, common_steps))

pub block-loop-binding-preserved : goal.block-loop-binding-preserved
block-loop-binding-preserved t c = more_seen (world_of c.args.context.now) (seen_of c.loop-binding.found) (seen_of c.bind_all.new.found) (seen_of c.expression.new.found) _ c.binding-item.result (map binding (drop (c.loop-binding.binding-index + 1) c.deref-binding-items.result.now)) (expression (out-Block c.args.block.now).last) (search rules) (search rules) (grind (arith, common_steps))

pub block-returns : goal.block-returns
block-returns t c = on_ok_weaker c.expression-2.result (λ (u : seen_of c.expression-2.new.found ≡ see (world_of c.args.context.now) (seen_of c.loop-binding.found) (expression (out-Block c.args.block.now).last)). block_seen (world_of c.args.context.now) (seen_of c.args.found.now) (seen_of c.number.new.found) (seen_of c.loop-binding.found) (seen_of c.expression-2.new.found) (map binding c.deref-binding-items.result.now) (map binding (drop c.loop-binding.binding-index c.deref-binding-items.result.now)) (expression (out-Block c.args.block.now).last) (block c.args.block.now) (block_first c.args.block.now c.deref-binding-items.result.now c.deref-binding-items.ensures.value) (none_left c.deref-binding-items.result.now c.loop-binding.binding-index c.loop-binding-test.false) c.in_ok-number.ensures.numbered c.loop-binding.invariant u) c.expression-2.ensures

pub expression-returns-in_ok-clause-in-Match : goal.expression-returns-in_ok-clause-in-Match
expression-returns-in_ok-clause-in-Match t c = on_ok_weaker c.clauses.result (λ (u : seen_of c.clauses.new.found ≡ see_clauses (world_of c.args.context.now) (seen_of c.clause.new.found) (clauses c.deref-in-Match-2.result.now)). match_seen (world_of c.args.context.now) (seen_of c.args.found.now) (seen_of c.number-in-Match.new.found) (seen_of c.pass.new.found) (seen_of c.clause.new.found) (seen_of c.clauses.new.found) c.in_ok-at-in-Match.at c.args.expression.now c.in-Match.kind c.in-Match.ty c.in-Match.place c.in-Match.scrutinee c.in-Match.first c.in-Match.others c.takes-is_taken.result c.in-Match.is c.takes-is_taken.ensures.taken c.in_ok-at-in-Match.ensures.is c.in_ok-at-in-Match.ensures.numbered c.in_ok-pass-in-Match.ensures
    (c.in_ok-clause-in-Match.ensures ∙ ap (λ (d : Clause). see_clause (world_of c.args.context.now) (seen_of c.pass.new.found) (clause d)) c.deref-in-Match.ensures)
    (u ∙ ap (λ ds. see_clauses (world_of c.args.context.now) (seen_of c.clause.new.found) (clauses ds)) c.deref-in-Match-2.ensures.value)) c.clauses.ensures
