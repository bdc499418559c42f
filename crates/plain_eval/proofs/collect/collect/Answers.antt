use Rattle.std.proofs.Common.{sym, ap, ◌∙◌, subst, List, Bool, map, length}
use Rattle.plain_rows.specs.Rows.{count_rows}
use Rattle.plain_eval.specs.Moving.{placed, MarkedBelow, ClosedFrom, MovedBelow}
use Rattle.plain_eval.proofs.Moving.{collected}
use Rattle.plain_eval.proofs.collect.collect.Goals as goal

pub returns : goal.returns
returns c =
    let s = c.args.store.now in
    let ws = c.args.values.now.items in
    let r = c.in_ok-reached.ensures in
    let m = c.in_ok-reached.reached.items in
    let places = c.in_ok-kept.places.items in
    record {
      keeps = collected s c.in_ok-kept.kept m places ws c.place_all.new.values.items r.rows (subst (λ l. MarkedBelow (count_rows s) m l) c.as_slice.ensures.value r.roots)
          (subst (λ (l : List Bool). MovedBelow (length l) s l c.in_ok-kept.kept places) c.as_slice-2.ensures.value (c.in_ok-kept.ensures.moves (subst (λ (l : List Bool). ClosedFrom 0 s l) (sym c.as_slice-2.ensures.value) r.closed))) (c.place_all.ensures.placed ∙ ap (λ l. map (placed l) ws) c.as_slice-3.ensures.value);
    }
