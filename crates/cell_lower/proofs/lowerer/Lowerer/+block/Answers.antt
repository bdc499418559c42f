use Rattle.std.proofs.Common.{rules, ◌≡◌, refl, sym, subst, ap, ◌∙◌, ◌+◌, ◌<◌, arith, not, [], ◌∷◌, length, drop}
use Rattle.std.specs.Borrow.{Bor}
use Rattle.fip_trees.specs.declared.program.Block.{out-Block}
use Rattle.fip_trees.specs.declared.program.Binding.{out-Binding}
use Rattle.fip_trees.specs.declared.program.Clause.{out-Clause}
use Rattle.fip_trees.specs.declared.program.Expression.{the_lemmas}
use Rattle.fip_trees.specs.TreeView.{arguments, binding, block, clause, clauses, expression}
use Rattle.lower_parts.specs.lowering_relation.LoweredBodies.{with_names}
use Rattle.lower_parts.specs.lowering_relation.WellMatched.{WellMatched}
use Rattle.lower_parts.specs.declared.context.Context.{Context}
use Rattle.cell_lower.specs.declared.lowerer.Walk.{Walk}
use Rattle.lower_parts.specs.Bodies.{span, span_block, span_clauses, Asked, AskedBlock, Lays, LaysBlock, LaysLet}
use Rattle.lower_parts.specs.Laying.{AppliesLaid, GivesValuesLaid}
use Rattle.lower_parts.specs.Matches.{ClauseLays}
use Rattle.lower_parts.specs.Clauses.{WritesClause}
use Rattle.lower_parts.specs.Writing.{setting, target_of, AppliesTo, Binds, ComputesAll, GivesValues, Writes}
use Rattle.lower_parts.proofs.Folding.{item}
use Rattle.lower_parts.proofs.Blocks.{follows_on, follows_done}
use Rattle.lower_parts.proofs.Clauses.{clauses_next, clauses_end}
use Rattle.lower_parts.proofs.Expressions.{bound_give, bound_tuple, written_call}
use Rattle.lower_parts.proofs.Following.{follows_laid_on, follows_laid_done, walks_on, walks_done, walks_block, laid_give, laid_tuple, laid_operation, laid_call, laid_nested, walked_give, walked_tuple, walked_operation, walked_call, walked_nested, let_give, let_tuple, let_from, walked_bound, clause_lays_from, walked_clause, follow_clauses_next, follow_clauses_end, walks_clauses_on, walks_clauses_end, walked_matched}
use Rattle.cell_lower.proofs.Parts.{bound_from, match_from, match_laid_from}
use Rattle.cell_lower.proofs.lowerer.Lowerer.+block.Goals as goal

pub binding-returns-in_ok-register-in-Give-clause-binds : goal.binding-returns-in_ok-register-in-Give-clause-binds
binding-returns-in_ok-register-in-Give-clause-binds t c well = bound_give (setting c.args.self.now.context.now) c.args.self.now.frame c.value.new.self.frame c.name_all.new.self.frame c.args.self.now.buffer c.value.new.self.buffer c.name_all.new.self.buffer c.args.binding.now c.in-Give.argument c.in_ok-register-in-Give.register c.in-Give.is c.in_ok-register-in-Give.ensures.computes (c.name_all.ensures.named ∙ ap (λ x. with_names c.value.new.self.frame x (c.in_ok-register-in-Give.register ∷ [])) c.as_slice.ensures.value) c.name_all.ensures.buffer

pub binding-returns-in_ok-registers-in-Tuple-clause-binds : goal.binding-returns-in_ok-registers-in-Tuple-clause-binds
binding-returns-in_ok-registers-in-Tuple-clause-binds t c well = bound_tuple (setting c.args.self.now.context.now) c.args.self.now.frame c.values.new.self.frame c.name_all-in-Tuple.new.self.frame c.args.self.now.buffer c.values.new.self.buffer c.name_all-in-Tuple.new.self.buffer c.args.binding.now c.in-Tuple.place c.in-Tuple.arguments c.in_ok-registers-in-Tuple.registers.items c.in-Tuple.is
    (subst (λ x. ComputesAll (setting c.args.self.now.context.now) c.args.self.now.frame c.args.self.now.buffer (arguments x) c.in_ok-registers-in-Tuple.registers.items c.values.new.self.frame c.values.new.self.buffer) c.as_slice-in-Tuple.ensures.value c.in_ok-registers-in-Tuple.ensures.computes)
    (c.name_all-in-Tuple.ensures.named ∙ ap (λ x. with_names c.values.new.self.frame x c.as_slice-in-Tuple-3.result.now) c.as_slice-in-Tuple-2.ensures.value ∙ ap (with_names c.values.new.self.frame (out-Binding c.args.binding.now).binders.items) c.as_slice-in-Tuple-3.ensures.value)
    c.name_all-in-Tuple.ensures.buffer

pub binding-returns-in_ok-register-in-Give-clause-laid : goal.binding-returns-in_ok-register-in-Give-clause-laid
binding-returns-in_ok-register-in-Give-clause-laid t c = let_give (setting c.args.self.now.context.now) (not c.args.self.now.gives_up) c.args.self.now.walk.needs.now c.args.self.now.frame c.value.new.self.frame c.name_all.new.self.frame c.args.self.now.buffer c.value.new.self.buffer c.name_all.new.self.buffer c.args.binding.now c.in-Give.argument c.in_ok-register-in-Give.register c.in-Give.is c.in_ok-register-in-Give.ensures.computes (c.name_all.ensures.named ∙ ap (λ x. with_names c.value.new.self.frame x (c.in_ok-register-in-Give.register ∷ [])) c.as_slice.ensures.value) c.name_all.ensures.buffer

pub binding-returns-in_ok-register-in-Give-clause-walk : goal.binding-returns-in_ok-register-in-Give-clause-walk
binding-returns-in_ok-register-in-Give-clause-walk t c = walked_bound c.args.self.now.walk.needs.now c.name_all.new.self.walk.needs.now c.args.binding.now
    (walked_give c.args.self.now.walk.needs.now c.name_all.new.self.walk.needs.now (out-Binding c.args.binding.now).bound c.in-Give.argument c.in-Give.is
    (ap (λ (x : Walk). x.needs.now) c.name_all.ensures.walk ∙ ap (λ (x : Walk). x.needs.now) c.in_ok-register-in-Give.ensures.walk ∙ c.enter.ensures.needs))

pub binding-returns-in_ok-registers-in-Tuple-clause-laid : goal.binding-returns-in_ok-registers-in-Tuple-clause-laid
binding-returns-in_ok-registers-in-Tuple-clause-laid t c = let_tuple (setting c.args.self.now.context.now) (not c.args.self.now.gives_up) c.args.self.now.walk.needs.now c.args.self.now.frame c.values.new.self.frame c.name_all-in-Tuple.new.self.frame c.args.self.now.buffer c.values.new.self.buffer c.name_all-in-Tuple.new.self.buffer c.args.binding.now c.in-Tuple.place c.in-Tuple.arguments c.in_ok-registers-in-Tuple.registers.items c.in-Tuple.is
    (subst (λ x. ComputesAll (setting c.args.self.now.context.now) c.args.self.now.frame c.args.self.now.buffer (arguments x) c.in_ok-registers-in-Tuple.registers.items c.values.new.self.frame c.values.new.self.buffer) c.as_slice-in-Tuple.ensures.value c.in_ok-registers-in-Tuple.ensures.computes)
    (c.name_all-in-Tuple.ensures.named ∙ ap (λ x. with_names c.values.new.self.frame x c.as_slice-in-Tuple-3.result.now) c.as_slice-in-Tuple-2.ensures.value ∙ ap (with_names c.values.new.self.frame (out-Binding c.args.binding.now).binders.items) c.as_slice-in-Tuple-3.ensures.value)
    c.name_all-in-Tuple.ensures.buffer

pub binding-returns-in_ok-registers-in-Tuple-clause-walk : goal.binding-returns-in_ok-registers-in-Tuple-clause-walk
binding-returns-in_ok-registers-in-Tuple-clause-walk t c = walked_bound c.args.self.now.walk.needs.now c.name_all-in-Tuple.new.self.walk.needs.now c.args.binding.now
    (walked_tuple c.args.self.now.walk.needs.now c.name_all-in-Tuple.new.self.walk.needs.now (out-Binding c.args.binding.now).bound c.in-Tuple.place c.in-Tuple.arguments c.in-Tuple.is
    (ap (λ (x : Walk). x.needs.now) c.name_all-in-Tuple.ensures.walk ∙ ap (λ (x : Walk). x.needs.now) c.in_ok-registers-in-Tuple.ensures.walk ∙ c.enter-in-Tuple.ensures.needs))

pub binding-returns-in_ok-expression-in_default : goal.binding-returns-in_ok-expression-in_default
binding-returns-in_ok-expression-in_default t c = record {
  binds = bound_from (setting c.args.self.now.context.now) (setting c.reserve.new.self.context.now) c.args.self.now.frame c.reserve.new.self.frame c.expression.new.self.frame c.name_all-in_default.new.self.frame c.args.self.now.buffer c.reserve.new.self.buffer c.expression.new.self.buffer c.name_all-in_default.new.self.buffer c.args.binding.now (out-Binding c.args.binding.now).bound c.in_ok-registers-in_default.registers.items c.as_slice-in_default-2.result.now c.as_slice-in_default-4.result.now c.as_slice-in_default.result.now c.as_slice-in_default-3.result.now
      (ap (λ (x : Bor Context). setting x.now) c.in_ok-registers-in_default.ensures.context) refl c.as_slice-in_default.ensures.value c.as_slice-in_default-3.ensures.value c.as_slice-in_default-2.ensures.value c.as_slice-in_default-4.ensures.value c.in_ok-registers-in_default.ensures.registers c.in_ok-registers-in_default.ensures.reserved c.in_ok-registers-in_default.ensures.buffer c.in_ok-expression-in_default.ensures.writes c.name_all-in_default.ensures.named c.name_all-in_default.ensures.buffer;
  context = c.name_all-in_default.ensures.context ∙ c.in_ok-expression-in_default.ensures.context ∙ c.in_ok-registers-in_default.ensures.context;
  gives_up = c.name_all-in_default.ensures.gives_up ∙ c.in_ok-expression-in_default.ensures.gives_up ∙ c.in_ok-registers-in_default.ensures.gives_up;
  laid = let_from (setting c.args.self.now.context.now) (setting c.reserve.new.self.context.now) (not c.args.self.now.gives_up) (not c.reserve.new.self.gives_up) c.args.self.now.walk.needs.now c.reserve.new.self.walk.needs.now c.args.self.now.frame c.reserve.new.self.frame c.expression.new.self.frame c.name_all-in_default.new.self.frame c.args.self.now.buffer c.reserve.new.self.buffer c.expression.new.self.buffer c.name_all-in_default.new.self.buffer c.args.binding.now (out-Binding c.args.binding.now).bound c.in_ok-registers-in_default.registers.items c.as_slice-in_default-2.result.now c.as_slice-in_default-4.result.now c.as_slice-in_default.result.now c.as_slice-in_default-3.result.now
      (ap (λ (x : Bor Context). setting x.now) c.in_ok-registers-in_default.ensures.context) (ap not c.in_ok-registers-in_default.ensures.gives_up) (ap (λ (x : Walk). x.needs.now) c.in_ok-registers-in_default.ensures.walk) refl c.as_slice-in_default.ensures.value c.as_slice-in_default-3.ensures.value c.as_slice-in_default-2.ensures.value c.as_slice-in_default-4.ensures.value c.in_ok-registers-in_default.ensures.registers c.in_ok-registers-in_default.ensures.reserved c.in_ok-registers-in_default.ensures.room c.in_ok-registers-in_default.ensures.buffer c.in_ok-expression-in_default.ensures.laid c.name_all-in_default.ensures.named c.name_all-in_default.ensures.buffer;
  walk = walked_bound c.args.self.now.walk.needs.now c.name_all-in_default.new.self.walk.needs.now c.args.binding.now
      (ap (λ (x : Walk). x.needs.now) c.name_all-in_default.ensures.walk ∙ c.in_ok-expression-in_default.ensures.walk ∙ ap (λ (x : Walk). drop (span (expression (out-Binding c.args.binding.now).bound)) x.needs.now) c.in_ok-registers-in_default.ensures.walk);
}

pub block-loop-binding-preserved : goal.block-loop-binding-preserved
block-loop-binding-preserved t c = record {
  context = c.in_ok-binding.ensures.context ∙ c.loop-binding.invariant.context;
  gives_up = c.in_ok-binding.ensures.gives_up ∙ c.loop-binding.invariant.gives_up;
  rest = follows_on c.args.self.now.context.now.program.now.types (setting c.args.self.now.context.now) c.args.self.now.frame c.args.self.now.buffer (block c.args.block.now) c.loop-binding.self.frame c.binding.new.self.frame c.loop-binding.self.buffer c.binding.new.self.buffer c.deref-binding-items.result.now c.loop-binding.binding-index (c.loop-binding.binding-index + 1) c.binding-item.result (expression (out-Block c.args.block.now).last) (target_of c.args.target) (omega arith) (item c.deref-binding-items.result.now c.loop-binding.binding-index c.binding-item.result c.loop-binding-test.true c.binding-item.is) c.loop-binding.invariant.rest
      (subst (λ (x : Bor Context). WellMatched x.now.program.now.types (binding c.binding-item.result).bound → Binds (setting x.now) c.loop-binding.self.frame c.loop-binding.self.buffer (binding c.binding-item.result).binders (binding c.binding-item.result).bound c.binding.new.self.frame c.binding.new.self.buffer) c.loop-binding.invariant.context c.in_ok-binding.ensures.binds);
  laid = follows_laid_on (setting c.args.self.now.context.now) (not c.args.self.now.gives_up) c.enter.new.self.needs.now c.args.self.now.frame c.args.self.now.buffer (block c.args.block.now) c.loop-binding.self.walk.needs.now c.binding.new.self.walk.needs.now c.loop-binding.self.frame c.binding.new.self.frame c.loop-binding.self.buffer c.binding.new.self.buffer c.deref-binding-items.result.now c.loop-binding.binding-index (c.loop-binding.binding-index + 1) c.binding-item.result (expression (out-Block c.args.block.now).last) (target_of c.args.target) (omega arith) (item c.deref-binding-items.result.now c.loop-binding.binding-index c.binding-item.result c.loop-binding-test.true c.binding-item.is) c.in_ok-binding.ensures.walk c.loop-binding.invariant.laid
      (subst (λ (x : Bor Context). Asked (setting x.now) c.loop-binding.self.walk.needs.now (binding c.binding-item.result).bound → 0 < length (binding c.binding-item.result).binders → LaysLet (setting x.now) (not c.args.self.now.gives_up) c.loop-binding.self.frame c.loop-binding.self.buffer (binding c.binding-item.result).binders (binding c.binding-item.result).bound c.binding.new.self.frame c.binding.new.self.buffer) c.loop-binding.invariant.context
      (subst (λ x. Asked (setting c.loop-binding.self.context.now) c.loop-binding.self.walk.needs.now (binding c.binding-item.result).bound → 0 < length (binding c.binding-item.result).binders → LaysLet (setting c.loop-binding.self.context.now) (not x) c.loop-binding.self.frame c.loop-binding.self.buffer (binding c.binding-item.result).binders (binding c.binding-item.result).bound c.binding.new.self.frame c.binding.new.self.buffer) c.loop-binding.invariant.gives_up c.in_ok-binding.ensures.laid));
  walk = walks_on c.enter.new.self.needs.now (block c.args.block.now) c.loop-binding.self.walk.needs.now c.binding.new.self.walk.needs.now c.deref-binding-items.result.now c.loop-binding.binding-index (c.loop-binding.binding-index + 1) c.binding-item.result (expression (out-Block c.args.block.now).last) (omega arith) (item c.deref-binding-items.result.now c.loop-binding.binding-index c.binding-item.result c.loop-binding-test.true c.binding-item.is) c.in_ok-binding.ensures.walk c.loop-binding.invariant.walk;
}

pub block-returns-clause-writes : goal.block-returns-clause-writes
block-returns-clause-writes t c =
    follows_done c.args.self.now.context.now.program.now.types (setting c.args.self.now.context.now) c.args.self.now.frame c.args.self.now.buffer (block c.args.block.now) c.loop-binding.self.frame c.expression.new.self.frame c.loop-binding.self.buffer c.expression.new.self.buffer c.deref-binding-items.result.now c.loop-binding.binding-index (expression (out-Block c.args.block.now).last) (target_of c.args.target) c.loop-binding-test.false c.loop-binding.invariant.rest
    (subst (λ (x : Bor Context). WellMatched x.now.program.now.types (expression (out-Block c.args.block.now).last) → Writes (setting x.now) c.loop-binding.self.frame c.loop-binding.self.buffer (expression (out-Block c.args.block.now).last) (target_of c.args.target) c.expression.new.self.frame c.expression.new.self.buffer) c.loop-binding.invariant.context c.in_ok-expression.ensures.writes)

pub block-returns-clause-laid : goal.block-returns-clause-laid
block-returns-clause-laid t c asked =
    follows_laid_done (setting c.args.self.now.context.now) (not c.args.self.now.gives_up) c.enter.new.self.needs.now c.args.self.now.frame c.args.self.now.buffer (block c.args.block.now) c.loop-binding.self.walk.needs.now c.loop-binding.self.frame c.expression.new.self.frame c.loop-binding.self.buffer c.expression.new.self.buffer c.deref-binding-items.result.now c.loop-binding.binding-index (expression (out-Block c.args.block.now).last) (target_of c.args.target) c.loop-binding-test.false c.loop-binding.invariant.laid
    (subst (λ (x : Bor Context). Asked (setting x.now) c.loop-binding.self.walk.needs.now (expression (out-Block c.args.block.now).last) → Lays (setting x.now) (not c.args.self.now.gives_up) c.loop-binding.self.frame c.loop-binding.self.buffer (expression (out-Block c.args.block.now).last) (target_of c.args.target) c.expression.new.self.frame c.expression.new.self.buffer) c.loop-binding.invariant.context
    (subst (λ x. Asked (setting c.loop-binding.self.context.now) c.loop-binding.self.walk.needs.now (expression (out-Block c.args.block.now).last) → Lays (setting c.loop-binding.self.context.now) (not x) c.loop-binding.self.frame c.loop-binding.self.buffer (expression (out-Block c.args.block.now).last) (target_of c.args.target) c.expression.new.self.frame c.expression.new.self.buffer) c.loop-binding.invariant.gives_up c.in_ok-expression.ensures.laid))
    (subst (λ x. AskedBlock (setting c.args.self.now.context.now) x (block c.args.block.now)) (sym c.enter.ensures.needs) asked)

pub block-returns-clause-walk : goal.block-returns-clause-walk
block-returns-clause-walk t c =
    walks_block c.args.self.now.walk.needs.now c.enter.new.self.needs.now c.expression.new.self.walk.needs.now (block c.args.block.now) c.enter.ensures.needs
    (walks_done c.enter.new.self.needs.now (block c.args.block.now) c.loop-binding.self.walk.needs.now c.expression.new.self.walk.needs.now c.deref-binding-items.result.now c.loop-binding.binding-index (expression (out-Block c.args.block.now).last) c.loop-binding-test.false c.in_ok-expression.ensures.walk c.loop-binding.invariant.walk)

pub clauses-loop-clause-preserved : goal.clauses-loop-clause-preserved
clauses-loop-clause-preserved t c = record {
  next = let a = c.in_ok-clause.ensures.next in let b = c.loop-clause.invariant.next in omega (arith, a, b);
  context = c.in_ok-clause.ensures.context ∙ c.loop-clause.invariant.context;
  gives_up = c.in_ok-clause.ensures.gives_up ∙ c.loop-clause.invariant.gives_up;
  rest = clauses_next (setting c.args.self.now.context.now) c.args.matching.now (target_of c.args.target) c.args.progress.now c.args.self.now.buffer (clauses c.args.clauses.now) c.loop-clause.progress c.loop-clause.self.buffer c.args.clauses.now c.loop-clause.clause-index (c.loop-clause.clause-index + 1) c.clause-item.result c.clause.new.progress c.clause.new.self.buffer (omega arith) (item c.args.clauses.now c.loop-clause.clause-index c.clause-item.result c.loop-clause-test.true c.clause-item.is) c.loop-clause.invariant.rest
      (subst (λ (x : Bor Context). WritesClause (setting x.now) c.args.matching.now (clause c.clause-item.result) (target_of c.args.target) c.loop-clause.progress c.loop-clause.self.buffer c.clause.new.progress c.clause.new.self.buffer) c.loop-clause.invariant.context c.in_ok-clause.ensures.writes);
  laid = follow_clauses_next (setting c.args.self.now.context.now) (not c.args.self.now.gives_up) c.args.matching.now (target_of c.args.target) c.args.self.now.walk.needs.now c.args.progress.now c.args.self.now.frame c.args.self.now.buffer (clauses c.args.clauses.now) c.loop-clause.self.walk.needs.now c.clause.new.self.walk.needs.now c.loop-clause.progress c.clause.new.progress c.loop-clause.self.frame c.clause.new.self.frame c.loop-clause.self.buffer c.clause.new.self.buffer c.args.clauses.now c.loop-clause.clause-index (c.loop-clause.clause-index + 1) c.clause-item.result (omega arith) (item c.args.clauses.now c.loop-clause.clause-index c.clause-item.result c.loop-clause-test.true c.clause-item.is) c.in_ok-clause.ensures.walk c.loop-clause.invariant.laid
      (subst (λ (x : Bor Context). AskedBlock (setting x.now) (drop 1 c.loop-clause.self.walk.needs.now) (clause c.clause-item.result).body → ClauseLays (setting x.now) (not c.args.self.now.gives_up) c.args.matching.now (clause c.clause-item.result) (target_of c.args.target) c.loop-clause.progress c.loop-clause.self.frame c.loop-clause.self.buffer c.clause.new.progress c.clause.new.self.frame c.clause.new.self.buffer) c.loop-clause.invariant.context
      (subst (λ x. AskedBlock (setting c.loop-clause.self.context.now) (drop 1 c.loop-clause.self.walk.needs.now) (clause c.clause-item.result).body → ClauseLays (setting c.loop-clause.self.context.now) (not x) c.args.matching.now (clause c.clause-item.result) (target_of c.args.target) c.loop-clause.progress c.loop-clause.self.frame c.loop-clause.self.buffer c.clause.new.progress c.clause.new.self.frame c.clause.new.self.buffer) c.loop-clause.invariant.gives_up c.in_ok-clause.ensures.laid));
  walk = walks_clauses_on c.args.self.now.walk.needs.now (clauses c.args.clauses.now) c.loop-clause.self.walk.needs.now c.clause.new.self.walk.needs.now c.args.clauses.now c.loop-clause.clause-index (c.loop-clause.clause-index + 1) c.clause-item.result (omega arith) (item c.args.clauses.now c.loop-clause.clause-index c.clause-item.result c.loop-clause-test.true c.clause-item.is) c.in_ok-clause.ensures.walk c.loop-clause.invariant.walk;
}

pub clauses-returns-clause-writes : goal.clauses-returns-clause-writes
clauses-returns-clause-writes t c = clauses_end (setting c.args.self.now.context.now) c.args.matching.now (target_of c.args.target) c.args.progress.now c.args.self.now.buffer (clauses c.args.clauses.now) c.loop-clause.progress c.loop-clause.self.buffer c.args.clauses.now c.loop-clause.clause-index c.loop-clause-test.false c.loop-clause.invariant.rest

pub clauses-returns-clause-laid : goal.clauses-returns-clause-laid
clauses-returns-clause-laid t c u asked = follow_clauses_end (setting c.args.self.now.context.now) (not c.args.self.now.gives_up) c.args.matching.now (target_of c.args.target) c.args.self.now.walk.needs.now c.args.progress.now c.args.self.now.frame c.args.self.now.buffer (clauses c.args.clauses.now) c.loop-clause.self.walk.needs.now c.loop-clause.progress c.loop-clause.self.frame c.loop-clause.self.buffer c.args.clauses.now c.loop-clause.clause-index c.loop-clause-test.false c.loop-clause.invariant.laid u asked

pub clauses-returns-clause-walk : goal.clauses-returns-clause-walk
clauses-returns-clause-walk t c = walks_clauses_end c.args.self.now.walk.needs.now (clauses c.args.clauses.now) c.loop-clause.self.walk.needs.now c.args.clauses.now c.loop-clause.clause-index c.loop-clause-test.false c.loop-clause.invariant.walk

pub clause-returns-clause-laid : goal.clause-returns-clause-laid
clause-returns-clause-laid t c = clause_lays_from (setting c.args.self.now.context.now) (setting c.start_clause.new.self.context.now) (setting c.block.new.self.context.now) (not c.args.self.now.gives_up) (not c.start_clause.new.self.gives_up) (not c.block.new.self.gives_up) c.args.self.now.walk.needs.now c.start_clause.new.self.walk.needs.now c.args.matching.now c.args.clause.now (target_of c.args.target) c.args.progress.now c.start_clause.new.progress c.end_clause.new.progress c.args.self.now.frame c.start_clause.new.self.frame c.block.new.self.frame c.end_clause.new.self.frame c.args.self.now.buffer c.start_clause.new.self.buffer c.block.new.self.buffer c.end_clause.new.self.buffer
    (ap (λ (x : Bor Context). setting x.now) c.in_ok-start_clause.ensures.context) (ap (λ (x : Bor Context). setting x.now) (c.in_ok-block.ensures.context ∙ c.in_ok-start_clause.ensures.context)) (ap not c.in_ok-start_clause.ensures.gives_up) (ap not (c.in_ok-block.ensures.gives_up ∙ c.in_ok-start_clause.ensures.gives_up)) (ap (λ (x : Walk). x.needs.now) c.in_ok-start_clause.ensures.walk)
    c.in_ok-start_clause.ensures.laid c.in_ok-start_clause.ensures.next c.in_ok-start_clause.ensures.joined c.in_ok-block.ensures.laid c.in_ok-end_clause.ensures.laid c.in_ok-end_clause.ensures.clause c.in_ok-end_clause.ensures.sides c.in_ok-end_clause.ensures.next

pub clause-returns-clause-walk : goal.clause-returns-clause-walk
clause-returns-clause-walk t c = walked_clause c.args.self.now.walk.needs.now c.end_clause.new.self.walk.needs.now c.args.clause.now
    (ap (λ (x : Walk). x.needs.now) c.in_ok-end_clause.ensures.walk ∙ c.in_ok-block.ensures.walk ∙ ap (λ (x : Walk). drop (span_block (block (out-Clause c.args.clause.now).body)) x.needs.now) c.in_ok-start_clause.ensures.walk)

pub expression-returns-in_ok-apply-in-Call-clause-writes : goal.expression-returns-in_ok-apply-in-Call-clause-writes
expression-returns-in_ok-apply-in-Call-clause-writes t c = written_call c.args.self.now.context.now.program.now.types (setting c.args.self.now.context.now) c.args.self.now.frame c.apply.new.self.frame c.args.self.now.buffer c.apply.new.self.buffer c.args.expression.now c.in-Call.callee c.in-Call.name c.in-Call.place c.in-Call.arguments (target_of c.args.target) c.in-Call.is
    (subst (λ x. AppliesTo (setting c.args.self.now.context.now) c.args.self.now.frame c.args.self.now.buffer c.in-Call.callee (arguments x) (target_of c.args.target) c.apply.new.self.frame c.apply.new.self.buffer) c.as_slice-in-Call.ensures.value c.in_ok-apply-in-Call.ensures.applies)

pub expression-returns-in_ok-end_match-in-Match-clause-writes : goal.expression-returns-in_ok-end_match-in-Match-clause-writes
expression-returns-in_ok-end_match-in-Match-clause-writes t c = match_from (setting c.args.self.now.context.now) (setting c.start_match.new.self.context.now) (setting c.clause.new.self.context.now) c.args.self.now.frame c.args.self.now.buffer c.args.expression.now c.in-Match.kind c.in-Match.ty c.in-Match.place c.in-Match.scrutinee c.in-Match.first c.in-Match.others c.deref.result.now c.deref-in-Match.result.now c.as_slice-in-Match.result.now c.as_slice-in-Match.result.now c.in_ok-matching-in-Match.matching c.start_match.new.self.buffer (target_of c.args.target) c.in_ok-progress-in-Match.progress c.clause.new.progress c.clauses.new.progress c.clause.new.self.buffer c.clauses.new.self.buffer c.end_match.new.self.frame c.end_match.new.self.buffer
    c.in-Match.is (ap (λ (x : Bor Context). setting x.now) c.in_ok-matching-in-Match.ensures.context) (ap (λ (x : Bor Context). setting x.now) (c.in_ok-clause-in-Match.ensures.context ∙ c.in_ok-matching-in-Match.ensures.context)) c.deref.ensures c.deref-in-Match.ensures c.as_slice-in-Match.ensures.value c.as_slice-in-Match.ensures.value
    (c.in_ok-matching-in-Match.ensures.begins tt) c.in_ok-progress-in-Match.ensures.sides c.in_ok-progress-in-Match.ensures.clause c.in_ok-progress-in-Match.ensures.joined c.in_ok-clause-in-Match.ensures.writes c.in_ok-clauses-in-Match.ensures.writes c.in_ok-end_match-in-Match.ensures.ends

pub expression-returns-in_ok-give_one-in-Give-clause-laid : goal.expression-returns-in_ok-give_one-in-Give-clause-laid
expression-returns-in_ok-give_one-in-Give-clause-laid t c = laid_give (setting c.args.self.now.context.now) (not c.args.self.now.gives_up) c.args.self.now.walk.needs.now c.args.self.now.frame c.give_one.new.self.frame c.args.self.now.buffer c.give_one.new.self.buffer c.args.expression.now c.in-Give.argument (target_of c.args.target) c.in-Give.is c.in_ok-give_one-in-Give.ensures.writes c.in_ok-give_one-in-Give.ensures.laid

pub expression-returns-in_ok-give_one-in-Give-clause-walk : goal.expression-returns-in_ok-give_one-in-Give-clause-walk
expression-returns-in_ok-give_one-in-Give-clause-walk t c = walked_give c.args.self.now.walk.needs.now c.give_one.new.self.walk.needs.now c.args.expression.now c.in-Give.argument c.in-Give.is c.in_ok-give_one-in-Give.ensures.walk

pub expression-returns-in_ok-give_all-in-Tuple-clause-laid : goal.expression-returns-in_ok-give_all-in-Tuple-clause-laid
expression-returns-in_ok-give_all-in-Tuple-clause-laid t c = laid_tuple (setting c.args.self.now.context.now) (not c.args.self.now.gives_up) c.args.self.now.walk.needs.now c.args.self.now.frame c.give_all.new.self.frame c.args.self.now.buffer c.give_all.new.self.buffer c.args.expression.now c.in-Tuple.place c.in-Tuple.arguments (target_of c.args.target) c.in-Tuple.is
    (subst (λ x. GivesValues (setting c.args.self.now.context.now) c.args.self.now.frame c.args.self.now.buffer (arguments x) (target_of c.args.target) c.give_all.new.self.frame c.give_all.new.self.buffer) c.as_slice.ensures.value c.in_ok-give_all-in-Tuple.ensures.gives)
    (subst (λ x. GivesValuesLaid (setting c.args.self.now.context.now) (not c.args.self.now.gives_up) c.args.self.now.frame c.args.self.now.buffer (arguments x) (target_of c.args.target) c.give_all.new.self.frame c.give_all.new.self.buffer) c.as_slice.ensures.value c.in_ok-give_all-in-Tuple.ensures.laid)

pub expression-returns-in_ok-give_all-in-Tuple-clause-walk : goal.expression-returns-in_ok-give_all-in-Tuple-clause-walk
expression-returns-in_ok-give_all-in-Tuple-clause-walk t c = walked_tuple c.args.self.now.walk.needs.now c.give_all.new.self.walk.needs.now c.args.expression.now c.in-Tuple.place c.in-Tuple.arguments c.in-Tuple.is c.in_ok-give_all-in-Tuple.ensures.walk

pub expression-returns-in_ok-operate-in-Operation-clause-laid : goal.expression-returns-in_ok-operate-in-Operation-clause-laid
expression-returns-in_ok-operate-in-Operation-clause-laid t c = laid_operation (setting c.args.self.now.context.now) (not c.args.self.now.gives_up) c.args.self.now.walk.needs.now c.args.self.now.frame c.operate.new.self.frame c.args.self.now.buffer c.operate.new.self.buffer c.args.expression.now c.in-Operation.operator c.in-Operation.place c.in-Operation.left c.in-Operation.right (target_of c.args.target) c.in-Operation.is c.in_ok-operate-in-Operation.ensures.writes c.in_ok-operate-in-Operation.ensures.laid

pub expression-returns-in_ok-operate-in-Operation-clause-walk : goal.expression-returns-in_ok-operate-in-Operation-clause-walk
expression-returns-in_ok-operate-in-Operation-clause-walk t c = walked_operation c.args.self.now.walk.needs.now c.operate.new.self.walk.needs.now c.args.expression.now c.in-Operation.operator c.in-Operation.place c.in-Operation.left c.in-Operation.right c.in-Operation.is c.in_ok-operate-in-Operation.ensures.walk

pub expression-returns-in_ok-apply-in-Call-clause-laid : goal.expression-returns-in_ok-apply-in-Call-clause-laid
expression-returns-in_ok-apply-in-Call-clause-laid t c = laid_call (setting c.args.self.now.context.now) (not c.args.self.now.gives_up) c.args.self.now.walk.needs.now c.args.self.now.frame c.apply.new.self.frame c.args.self.now.buffer c.apply.new.self.buffer c.args.expression.now c.in-Call.callee c.in-Call.name c.in-Call.place c.in-Call.arguments (target_of c.args.target) c.in-Call.is
    (subst (λ x. AppliesTo (setting c.args.self.now.context.now) c.args.self.now.frame c.args.self.now.buffer c.in-Call.callee (arguments x) (target_of c.args.target) c.apply.new.self.frame c.apply.new.self.buffer) c.as_slice-in-Call.ensures.value c.in_ok-apply-in-Call.ensures.applies)
    (subst (λ x. AppliesLaid (setting c.args.self.now.context.now) (not c.args.self.now.gives_up) c.args.self.now.frame c.args.self.now.buffer c.in-Call.callee (arguments x) (target_of c.args.target) c.apply.new.self.frame c.apply.new.self.buffer) c.as_slice-in-Call.ensures.value c.in_ok-apply-in-Call.ensures.laid)

pub expression-returns-in_ok-apply-in-Call-clause-walk : goal.expression-returns-in_ok-apply-in-Call-clause-walk
expression-returns-in_ok-apply-in-Call-clause-walk t c = walked_call c.args.self.now.walk.needs.now c.apply.new.self.walk.needs.now c.args.expression.now c.in-Call.callee c.in-Call.name c.in-Call.place c.in-Call.arguments c.in-Call.is c.in_ok-apply-in-Call.ensures.walk

pub expression-returns-in_ok-block-in-Nested-clause-laid : goal.expression-returns-in_ok-block-in-Nested-clause-laid
expression-returns-in_ok-block-in-Nested-clause-laid t c = laid_nested (setting c.args.self.now.context.now) (not c.args.self.now.gives_up) c.args.self.now.walk.needs.now c.args.self.now.frame c.block.new.self.frame c.args.self.now.buffer c.block.new.self.buffer c.args.expression.now c.in-Nested.block (target_of c.args.target) c.in-Nested.is
    (subst (λ x. AskedBlock (setting c.args.self.now.context.now) (drop 1 c.args.self.now.walk.needs.now) (block x) → LaysBlock (setting c.args.self.now.context.now) (not c.args.self.now.gives_up) c.args.self.now.frame c.args.self.now.buffer (block x) (target_of c.args.target) c.block.new.self.frame c.block.new.self.buffer) c.deref-in-Nested.ensures c.in_ok-block-in-Nested.ensures.laid)

pub expression-returns-in_ok-block-in-Nested-clause-walk : goal.expression-returns-in_ok-block-in-Nested-clause-walk
expression-returns-in_ok-block-in-Nested-clause-walk t c = walked_nested c.args.self.now.walk.needs.now c.block.new.self.walk.needs.now c.args.expression.now c.in-Nested.block c.in-Nested.is
    (subst (λ x. c.block.new.self.walk.needs.now ≡ drop (span_block (block x)) c.args.self.now.walk.needs.now) c.deref-in-Nested.ensures c.in_ok-block-in-Nested.ensures.walk)

pub expression-returns-in_ok-end_match-in-Match-clause-laid : goal.expression-returns-in_ok-end_match-in-Match-clause-laid
expression-returns-in_ok-end_match-in-Match-clause-laid t c = match_laid_from (setting c.args.self.now.context.now) (setting c.start_match.new.self.context.now) (setting c.clause.new.self.context.now) (setting c.clauses.new.self.context.now) (not c.args.self.now.gives_up) (not c.start_match.new.self.gives_up) (not c.clause.new.self.gives_up) c.args.self.now.walk.needs.now c.start_match.new.self.walk.needs.now c.clause.new.self.walk.needs.now c.args.self.now.frame c.args.self.now.buffer c.args.expression.now c.in-Match.kind c.in-Match.ty c.in-Match.place c.in-Match.scrutinee c.in-Match.first c.in-Match.others c.is_destructive.result c.deref.result.now c.deref-in-Match.result.now c.as_slice-in-Match.result.now c.as_slice-in-Match.result.now (target_of c.args.target) c.in_ok-matching-in-Match.matching c.start_match.new.self.buffer c.in_ok-progress-in-Match.progress c.start_match.new.self.frame c.clause.new.progress c.clause.new.self.frame c.clause.new.self.buffer c.clauses.new.progress c.clauses.new.self.frame c.clauses.new.self.buffer c.end_match.new.self.frame c.end_match.new.self.buffer
    c.in-Match.is (ap (λ (x : Bor Context). setting x.now) c.in_ok-matching-in-Match.ensures.context) (ap (λ (x : Bor Context). setting x.now) (c.in_ok-clause-in-Match.ensures.context ∙ c.in_ok-matching-in-Match.ensures.context)) (ap (λ (x : Bor Context). setting x.now) (c.in_ok-clauses-in-Match.ensures.context ∙ c.in_ok-clause-in-Match.ensures.context ∙ c.in_ok-matching-in-Match.ensures.context))
    (ap not c.in_ok-matching-in-Match.ensures.gives_up) (ap not (c.in_ok-clause-in-Match.ensures.gives_up ∙ c.in_ok-matching-in-Match.ensures.gives_up))
    c.in_ok-matching-in-Match.ensures.walk (subst (λ x. c.clause.new.self.walk.needs.now ≡ drop (span_block (clause x).body) c.start_match.new.self.walk.needs.now) c.deref-in-Match.ensures c.in_ok-clause-in-Match.ensures.walk) c.is_destructive.ensures c.deref.ensures c.deref-in-Match.ensures c.as_slice-in-Match.ensures.value c.as_slice-in-Match.ensures.value
    c.in_ok-progress-in-Match.ensures.sides c.in_ok-progress-in-Match.ensures.clause c.in_ok-progress-in-Match.ensures.joined c.in_ok-matching-in-Match.ensures.frame c.in_ok-matching-in-Match.ensures.laid c.in_ok-clause-in-Match.ensures.laid c.in_ok-clauses-in-Match.ensures.laid c.in_ok-end_match-in-Match.ensures.laid

pub expression-returns-in_ok-end_match-in-Match-clause-walk : goal.expression-returns-in_ok-end_match-in-Match-clause-walk
expression-returns-in_ok-end_match-in-Match-clause-walk t c = walked_matched c.args.self.now.walk.needs.now c.start_match.new.self.walk.needs.now c.clause.new.self.walk.needs.now c.end_match.new.self.walk.needs.now c.args.expression.now c.in-Match.kind c.in-Match.ty c.in-Match.place c.in-Match.scrutinee c.in-Match.first c.in-Match.others c.in-Match.is c.in_ok-matching-in-Match.ensures.walk
    (subst (λ x. c.clause.new.self.walk.needs.now ≡ drop (span_block (clause x).body) c.start_match.new.self.walk.needs.now) c.deref-in-Match.ensures c.in_ok-clause-in-Match.ensures.walk)
    (ap (λ (x : Walk). x.needs.now) c.in_ok-end_match-in-Match.ensures.walk ∙ subst (λ x. c.clauses.new.self.walk.needs.now ≡ drop (span_clauses (clauses x)) c.clause.new.self.walk.needs.now) c.as_slice-in-Match.ensures.value c.in_ok-clauses-in-Match.ensures.walk)

pub expression-clauses-requires : goal.expression-clauses-requires
expression-clauses-requires t c = rw c.as_slice-in-Match.ensures.value (search (rules, the_lemmas))
