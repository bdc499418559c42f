use Rattle.std.proofs.Common.{sym, ap, ◌∙◌, ◌+◌, drop, map}
use Rattle.fip_trees.specs.Least.{after}
use Rattle.fip_trees.specs.TreeView.{expression, binding, block, block_of, clauses}
use Rattle.fip_trees.specs.declared.program.Block.{out-Block}
use Rattle.fip_trees.specs.declared.program.Clause.{Clause, out-Clause}
use Rattle.tail_groups.specs.Notes.{block_notes, clauses_notes}
use Rattle.tail_groups.proofs.Steps.{on_ok, drop_item, next_clause, next_binding, end_noted, match_noted}
use Rattle.tail_groups.proofs.notes.+block.Goals as goal

pub note_block-loop-binding-preserved : goal.note_block-loop-binding-preserved
note_block-loop-binding-preserved t c =
    let p = c.args.caller.now.groups.now in
    let i = c.args.caller.now.number in
    let tail = c.args.is_tail in
    let items = c.deref-binding-items.result.now in
    let last = expression (out-Block c.args.block.now).last in
    let item = c.binding-item.result in
    let later = map binding (drop (c.loop-binding.binding-index + 1) items) in
    let d = drop_item items c.loop-binding.binding-index item c.loop-binding-test.true c.binding-item.is in
    next_binding p i tail c.loop-binding.least c.note_expression.new.least (after c.args.least.now (block_notes p i tail (block_of (map binding items) last))) item later last c.in_ok-note_expression.ensures.noted
    (sym (ap (λ xs. after c.loop-binding.least (block_notes p i tail (block_of (map binding xs) last))) d) ∙ c.loop-binding.invariant)

pub note_block-returns : goal.note_block-returns
note_block-returns t c =
    let p = c.args.caller.now.groups.now in
    let i = c.args.caller.now.number in
    record {
      noted = on_ok c.note_expression-2.result (λ h. end_noted p i c.args.is_tail c.args.block.now c.deref-binding-items.result.now c.loop-binding.binding-index c.args.least.now c.loop-binding.least c.note_expression-2.new.least c.loop-binding-test.false c.deref-binding-items.ensures.value c.loop-binding.invariant h) c.note_expression-2.ensures.noted;
    }

pub note_clauses-loop-next-preserved : goal.note_clauses-loop-next-preserved
note_clauses-loop-next-preserved t c =
    let p = c.args.caller.now.groups.now in
    let i = c.args.caller.now.number in
    let tail = c.args.is_tail in
    let items = c.args.clauses.now in
    let item = c.next-item.result in
    let later = clauses (drop (c.loop-next.next-index + 1) items) in
    let d = drop_item items c.loop-next.next-index item c.loop-next-test.true c.next-item.is in
    next_clause p i tail c.loop-next.least c.note_block.new.least (after c.args.least.now (clauses_notes p i tail (clauses items))) item later c.in_ok-note_block.ensures.noted
    (sym (ap (λ xs. after c.loop-next.least (clauses_notes p i tail (clauses xs))) d) ∙ c.loop-next.invariant)

pub note_expression-returns-in_ok-note_block-in-Match : goal.note_expression-returns-in_ok-note_block-in-Match
note_expression-returns-in_ok-note_block-in-Match t c =
    let p = c.args.caller.now.groups.now in
    let i = c.args.caller.now.number in
    let tail = c.args.is_tail in
    record {
      noted = on_ok c.note_clauses.result (λ h. match_noted p i tail c.args.expression.now c.in-Match.kind c.in-Match.ty c.in-Match.place c.in-Match.scrutinee c.in-Match.first c.in-Match.others c.in-Match.is c.args.least.now c.note_block.new.least c.note_clauses.new.least
          (c.in_ok-note_block-in-Match.ensures.noted ∙ ap (λ (x : Clause). after c.args.least.now (block_notes p i tail (block (out-Clause x).body))) c.deref.ensures)
          (h ∙ ap (λ xs. after c.note_block.new.least (clauses_notes p i tail (clauses xs))) c.deref-in-Match.ensures.value)) c.note_clauses.ensures.noted;
    }
