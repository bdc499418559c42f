use Rattle.std.proofs.Common.{sym, ◌∙◌, subst, List, take}
use Rattle.std.proofs.lemmas.List.{take_more}
use Rattle.plain_rows.specs.declared.store.Value.{Value}
use Rattle.plain_eval.specs.Moving.{MarkedBelow}
use Rattle.plain_eval.proofs.Moving.{marked_push}
use Rattle.plain_eval.proofs.collect.mark.Goals as goal

pub loop-value-preserved : goal.loop-value-preserved
loop-value-preserved c =
    let inv = c.loop-value.invariant in
    let one = c.mark_one.ensures in
    let ws = c.args.values.now in
    let i = c.loop-value.value-index in
    let m = c.loop-value.reached.items in
    let m' = c.mark_one.new.reached.items in
    record {
      marks = subst (λ (l : List Value). MarkedBelow c.args.limit m' l) (sym (take_more ws i _ c.loop-value-test.true)) (marked_push c.args.limit m m' (take i ws) _ inv.marks one.marks one.keeps one.length);
      keeps = λ r h. one.keeps r (inv.keeps r h);
      others = λ r l h. inv.others r l (one.others r l h);
      length = one.length ∙ inv.length;
    }
