use Rattle.std.proofs.Common.{ap, ◌∙◌, subst, map, List}
use Rattle.plain_rows.specs.Rows.{IsRow, count_rows}
use Rattle.plain_rows.specs.declared.store.Value.{Value}
use Rattle.plain_rows.specs.declared.store.Value.TheVariants as V
use Rattle.plain_eval.specs.Moving.{placed}
use Rattle.plain_eval.proofs.Moving.{row_moves, no_row_moves, take_all}
use Rattle.plain_eval.proofs.collect.move_row.Goals as goal

pub returns-in_ok-push-2-clause-moves : goal.returns-in_ok-push-2-clause-moves
returns-in_ok-push-2-clause-moves c = λ m v closed is mark move h.
    let a = c.args in
    let fields = c.fields-field-items.result.now in
    let all = c.as_slice.ensures.value ∙ c.loop-field.invariant ∙ ap (map (placed a.places.now)) (take_all fields c.loop-field.field-index c.loop-field-test.false) in
    let p = c.in_ok-push-2.ensures in
    row_moves a.store.now a.kept.now c.push-in-Some.new.self m a.places.now a.row c.in-Some.tag fields v p.kept p.rows (subst (λ (l : List Value). IsRow c.push-in-Some.new.self (count_rows a.kept.now) c.in-Some.tag l) all p.row) c.in-Some.ensures.tag c.fields-field-items.ensures.fields closed mark move h

pub returns-in_default-clause-moves : goal.returns-in_default-clause-moves
returns-in_default-clause-moves c = λ m v closed is mark move h. absurd (no_row_moves c.args.store.now c.args.kept.now c.args.row V.Unbound v c.in_default.ensures.tag h)
