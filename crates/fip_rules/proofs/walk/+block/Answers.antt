use Rattle.std.proofs.Common.{rules, arith, ◌+◌, drop, length, map, true}
use Rattle.std.proofs.lemmas.Grind.{common_steps}
use Rattle.fip_trees.specs.TreeView.{pattern, binding, expression, block, block_of}
use Rattle.fip_trees.specs.declared.program.Block.{out-Block}
use Rattle.fip_trees.specs.declared.program.Clause.{out-Clause}
use Rattle.fip_trees.proofs.TreeViews.{clause_is}
use Rattle.fip_rules.specs.Shape as S
use Rattle.fip_rules.specs.Shapes.{taking, binders, shape, shape_block}
use Rattle.fip_rules.specs.Stands.{names}
use Rattle.fip_rules.specs.Views.{world_of}
use Rattle.fip_rules.proofs.Theorems.{left_go}
use Rattle.fip_rules.proofs.Steps.{bound_level, bound_step, clause_step, kept_scope, block_step, block_end}
use Rattle.fip_rules.proofs.Views.{none_left, block_first, match_one, match_more}
use Rattle.fip_rules.proofs.walk.+block.Goals as goal

pub block-loop-next-init : goal.block-loop-next-init
block-loop-next-init t c = record { kept = grind (arith, common_steps); state = left_go c.args.state.now (shape_block (world_of c.args.world.now) (names c.args.state.now) (block_of (map binding c.deref-next-items.result.now) (expression (out-Block c.args.block.now).last))) }

pub block-loop-next-preserved : goal.block-loop-next-preserved
block-loop-next-preserved t c = record {
  kept = kept_scope (length c.args.state.now.walked.scope) c.loop-next.state c.binding.new.state (taking (world_of c.args.world.now) true (binding c.next-item.result).binders) (S.Bound (shape (world_of c.args.world.now) (names c.loop-next.state) (binding c.next-item.result).bound)) c.loop-next.invariant.kept (search rules);
  state = block_step (length c.args.state.now.walked.scope) c.loop-next.state c.binding.new.state _ (world_of c.args.world.now) (binding c.next-item.result) (map binding (drop (c.loop-next.next-index + 1) c.deref-next-items.result.now)) (expression (out-Block c.args.block.now).last) c.loop-next.invariant.kept (search rules) (grind (arith, common_steps));
}

pub block-returns : goal.block-returns
block-returns t c = record { walked = block_end (length c.args.state.now.walked.scope) c.in_scope-kept.result c.args.state.now c.loop-next.state c.expression.new.state c.leave.new.self (world_of c.args.world.now) (map binding c.deref-next-items.result.now) (map binding (drop c.loop-next.next-index c.deref-next-items.result.now)) (expression (out-Block c.args.block.now).last) (block c.args.block.now) (block_first c.args.block.now c.deref-next-items.result.now (search rules)) (none_left c.deref-next-items.result.now c.loop-next.next-index (search rules)) c.loop-next.invariant.state (search rules) (search rules) (search rules) }

pub bound-surface-requires : goal.bound-surface-requires
bound-surface-requires t c = bound_level c.args.state.now c.deepen.new.self c.expression.new.state (λ d. shape (world_of c.args.world.now) d (expression c.args.bound.now)) c.kept-kept.result.level (search rules) (search rules) (search rules)

pub bound-returns : goal.bound-returns
bound-returns t c = bound_step c.args.state.now c.deepen.new.self c.expression.new.state c.surface.new.self (λ d. shape (world_of c.args.world.now) d (expression c.args.bound.now)) c.kept-kept.result.level c.kept-kept.result.waiting c.kept-kept.result.used (search rules) (search rules) (search rules) (search rules) (search rules) (search rules)

pub clause-returns : goal.clause-returns
clause-returns t c = rw (clause_is) (clause_step c.args.state.now c.bind_pattern.new.state c.block.new.state c.leave.new.self (taking (world_of c.args.world.now) c.args.is_taken (binders (pattern (out-Clause c.args.clause.now).pattern))) (λ d. shape_block (world_of c.args.world.now) d (block (out-Clause c.args.clause.now).body)) c.in_scope-kept.result (search rules) (search rules) (search rules) (search rules))

pub expression-returns-then-is_empty : goal.expression-returns-then-is_empty
expression-returns-then-is_empty t c = match_one c.args.state.now c.pass.new.state c.clause.new.state (world_of c.args.world.now) c.args.expression.now c.in-Match.kind c.in-Match.ty c.in-Match.place c.in-Match.scrutinee c.in-Match.first c.in-Match.others c.takes-is_taken.result c.in-Match.is c.takes-is_taken.ensures.taken c.if-is_empty.ensures (search rules) (search rules)

pub expression-returns-in_ok-other_clauses-in-Match : goal.expression-returns-in_ok-other_clauses-in-Match
expression-returns-in_ok-other_clauses-in-Match t c = match_more c.args.state.now c.pass.new.state c.clause.new.state c.first_way.new.self c.other_clauses.new.state (world_of c.args.world.now) c.args.expression.now c.in-Match.kind c.in-Match.ty c.in-Match.place c.in-Match.scrutinee c.in-Match.first c.in-Match.others c.takes-is_taken.result c.in_ok-ways-in-Match.ways.used.items c.in_ok-ways-in-Match.ways.always.items c.kept-kept.result.used c.kept-kept.result.always c.in-Match.is c.takes-is_taken.ensures.taken c.if-is_empty.ensures (search rules) (search rules) (search rules) (search rules) (search rules) (search rules) (search rules) (search rules)
