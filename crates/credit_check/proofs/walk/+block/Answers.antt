use Rattle.std.proofs.Common.{sym, ap, ◌∙◌, ◌++◌, ◌+◌, drop, map}
use Rattle.fip_trees.specs.Least.{after}
use Rattle.fip_trees.specs.Sizes.{no_sizes}
use Rattle.fip_trees.specs.TreeView.{program, expression, binding, block, block_of, clause, clauses}
use Rattle.fip_trees.specs.declared.program.Block.{out-Block}
use Rattle.fip_trees.specs.declared.program.Clause.{Clause}
use Rattle.credit_check.specs.Tallies.{sizes, block_sizes, clauses_sizes, clause_sizes, above_need, needs, parts_needs, clauses_needs, block_needs, notes, block_notes, clauses_notes, clause_notes}
use Rattle.credit_check.proofs.Steps.{closed, match_kept, match_noted, one_noted, drop_item, more_sizes, more_kept, more_noted, bound_is, bound_sizes, bound_kept, bound_noted, end_sizes, end_kept, end_noted}
use Rattle.credit_check.proofs.walk.+block.Goals as goal

pub block-returns-clause-kept : goal.block-returns-clause-kept
block-returns-clause-kept t c =
    let p = program c.args.context.now.program.now in
    let rest = parts_needs p (block c.args.block.now) in
    closed c.args.needs.now.items c.open.new.needs.items c.parts.new.needs.items c.close.new.needs.items rest c.in_ok-at.at c.in_ok-sizes.sizes no_sizes c.in_ok-at.ensures.kept c.in_ok-sizes.ensures.kept c.in_ok-at.ensures.number c.close.ensures.kept
    ∙ ap (λ z. c.args.needs.now.items ++ above_need z rest) c.in_ok-sizes.ensures.sizes

pub clause-returns-clause-noted : goal.clause-returns-clause-noted
clause-returns-clause-noted t c = one_noted (program c.args.context.now.program.now) c.args.context.now.instance c.args.context.now.is_fip c.args.is_taken c.args.clause.now c.place.result c.args.least.now c.block.new.least c.note_unused.new.least c.in_ok-sizes.sizes c.in_ok-given.given c.in_ok-sizes.ensures.sizes c.in_ok-given.ensures.given c.place.ensures.place c.in_ok-sizes.ensures.noted c.in_ok-note_unused.ensures.noted

pub expression-returns-in_ok-sizes-in-Match-clause-kept : goal.expression-returns-in_ok-sizes-in-Match-clause-kept
expression-returns-in_ok-sizes-in-Match-clause-kept t c =
    let p = program c.args.context.now.program.now in
    let most = c.in_ok-most-in-Match.most in
    let taken = c.takes-is_taken.result in
    match_kept p c.args.context.now.instance c.args.context.now.is_fip c.args.expression.now c.in-Match.kind c.in-Match.ty c.in-Match.place c.in-Match.scrutinee c.in-Match.first c.in-Match.others c.in-Match.is taken c.takes-is_taken.ensures.taken most
    (c.in_ok-most-in-Match.ensures.sizes ∙ ap (λ (x : Clause). clause_sizes p taken (clause x).pattern (clause x).body) c.deref-in-Match.ensures)
    c.args.needs.now.items c.open.new.needs.items c.clause.new.needs.items c.other_clauses.new.needs.items c.close.new.needs.items c.in_ok-at-in-Match.at c.in_ok-sizes-in-Match.sizes
    (c.in_ok-sizes-in-Match.ensures.sizes ∙ ap (λ xs. clauses_sizes p taken most (clauses xs)) c.deref-in-Match-2.ensures.value)
    c.in_ok-at-in-Match.ensures.kept c.in_ok-at-in-Match.ensures.number
    (c.in_ok-most-in-Match.ensures.kept ∙ ap (λ (x : Clause). c.open.new.needs.items ++ block_needs p (clause x).body) c.deref-in-Match.ensures)
    (c.in_ok-sizes-in-Match.ensures.kept ∙ ap (λ xs. c.clause.new.needs.items ++ clauses_needs p (clauses xs)) c.deref-in-Match-2.ensures.value)
    c.close.ensures.kept

pub expression-returns-in_ok-sizes-in-Match-clause-noted : goal.expression-returns-in_ok-sizes-in-Match-clause-noted
expression-returns-in_ok-sizes-in-Match-clause-noted t c =
    let p = program c.args.context.now.program.now in
    let i = c.args.context.now.instance in
    let fip = c.args.context.now.is_fip in
    let most = c.in_ok-most-in-Match.most in
    let taken = c.takes-is_taken.result in
    match_noted p i fip c.args.expression.now c.in-Match.kind c.in-Match.ty c.in-Match.place c.in-Match.scrutinee c.in-Match.first c.in-Match.others c.in-Match.is taken c.takes-is_taken.ensures.taken most
    (c.in_ok-most-in-Match.ensures.sizes ∙ ap (λ (x : Clause). clause_sizes p taken (clause x).pattern (clause x).body) c.deref-in-Match.ensures)
    c.args.least.now c.clause.new.least c.other_clauses.new.least
    (c.in_ok-most-in-Match.ensures.noted ∙ ap (λ (x : Clause). after c.args.least.now (clause_notes p i fip taken (clause x).pattern (clause x).body)) c.deref-in-Match.ensures)
    (c.in_ok-sizes-in-Match.ensures.noted ∙ ap (λ xs. after c.clause.new.least (clauses_notes p i fip taken c.in-Match.place most (clauses xs))) c.deref-in-Match-2.ensures.value)

pub other_clauses-loop-next-preserved : goal.other_clauses-loop-next-preserved
other_clauses-loop-next-preserved t c =
    let p = program c.args.context.now.program.now in
    let i = c.args.context.now.instance in
    let fip = c.args.context.now.is_fip in
    let taken = c.args.is_taken in
    let item = c.next-item.result in
    let later = clauses (drop (c.loop-next.next-index + 1) c.args.clauses.now) in
    let d = drop_item c.args.clauses.now c.loop-next.next-index item c.loop-next-test.true c.next-item.is in
    record {
      sizes = more_sizes p taken c.loop-next.most c.in_ok-sizes.sizes c.at_least.new.self (clauses_sizes p taken c.args.first (clauses c.args.clauses.now)) (clause item) later c.in_ok-sizes.ensures.sizes c.at_least.ensures.greatest
          (sym (ap (λ xs. clauses_sizes p taken c.loop-next.most (clauses xs)) d) ∙ c.loop-next.invariant.sizes);
      kept = more_kept p c.loop-next.needs.items c.clause.new.needs.items (c.args.needs.now.items ++ clauses_needs p (clauses c.args.clauses.now)) (clause item) later c.in_ok-sizes.ensures.kept
          (sym (ap (λ xs. c.loop-next.needs.items ++ clauses_needs p (clauses xs)) d) ∙ c.loop-next.invariant.kept);
      noted = more_noted p i fip taken c.args.place c.args.first c.in_ok-sizes.sizes c.loop-next.least c.clause.new.least c.note_different.new.least (after c.args.least.now (clauses_notes p i fip taken c.args.place c.args.first (clauses c.args.clauses.now))) (clause item) later c.in_ok-sizes.ensures.sizes c.in_ok-sizes.ensures.noted c.in_ok-note_different.ensures.noted
          (sym (ap (λ xs. after c.loop-next.least (clauses_notes p i fip taken c.args.place c.args.first (clauses xs))) d) ∙ c.loop-next.invariant.noted);
    }

pub parts-loop-binding-preserved : goal.parts-loop-binding-preserved
parts-loop-binding-preserved t c =
    let p = program c.args.context.now.program.now in
    let i = c.args.context.now.instance in
    let fip = c.args.context.now.is_fip in
    let items = c.deref-binding-items.result.now in
    let last = expression (out-Block c.args.block.now).last in
    let item = c.binding-item.result in
    let later = map binding (drop (c.loop-binding.binding-index + 1) items) in
    let d = drop_item items c.loop-binding.binding-index item c.loop-binding-test.true c.binding-item.is in
    record {
      sizes = bound_sizes p c.loop-binding.sizes c.in_ok-need.need c.try_add.new.self (block_sizes p no_sizes (block_of (map binding items) last)) (binding item) later last (c.in_ok-need.ensures.sizes ∙ ap (sizes p) (bound_is item)) c.in_ok-try_add.ensures.added
          (sym (ap (λ xs. block_sizes p c.loop-binding.sizes (block_of (map binding xs) last)) d) ∙ c.loop-binding.invariant.sizes);
      kept = bound_kept p c.loop-binding.needs.items c.expression.new.needs.items (c.args.needs.now.items ++ parts_needs p (block_of (map binding items) last)) (binding item) later last (c.in_ok-need.ensures.kept ∙ ap (λ z. c.loop-binding.needs.items ++ needs p z) (bound_is item))
          (sym (ap (λ xs. c.loop-binding.needs.items ++ parts_needs p (block_of (map binding xs) last)) d) ∙ c.loop-binding.invariant.kept);
      noted = bound_noted p i fip c.loop-binding.least c.expression.new.least (after c.args.least.now (block_notes p i fip (block_of (map binding items) last))) (binding item) later last (c.in_ok-need.ensures.noted ∙ ap (λ z. after c.loop-binding.least (notes p i fip z)) (bound_is item))
          (sym (ap (λ xs. after c.loop-binding.least (block_notes p i fip (block_of (map binding xs) last))) d) ∙ c.loop-binding.invariant.noted);
    }

pub parts-returns-clause-sizes : goal.parts-returns-clause-sizes
parts-returns-clause-sizes t c = end_sizes (program c.args.context.now.program.now) c.args.block.now c.deref-binding-items.result.now c.loop-binding.binding-index c.loop-binding.sizes c.in_ok-last.last c.try_add-2.new.self c.loop-binding-test.false c.deref-binding-items.ensures.value c.in_ok-last.ensures.sizes c.in_ok-try_add-2.ensures.added c.loop-binding.invariant.sizes

pub parts-returns-clause-kept : goal.parts-returns-clause-kept
parts-returns-clause-kept t c = end_kept (program c.args.context.now.program.now) c.args.block.now c.deref-binding-items.result.now c.loop-binding.binding-index c.args.needs.now.items c.loop-binding.needs.items c.expression-2.new.needs.items c.loop-binding-test.false c.deref-binding-items.ensures.value c.in_ok-last.ensures.kept c.loop-binding.invariant.kept

pub parts-returns-clause-noted : goal.parts-returns-clause-noted
parts-returns-clause-noted t c = end_noted (program c.args.context.now.program.now) c.args.context.now.instance c.args.context.now.is_fip c.args.block.now c.deref-binding-items.result.now c.loop-binding.binding-index c.args.least.now c.loop-binding.least c.expression-2.new.least c.loop-binding-test.false c.deref-binding-items.ensures.value c.in_ok-last.ensures.noted c.loop-binding.invariant.noted
