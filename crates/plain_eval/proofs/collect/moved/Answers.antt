use Rattle.std.proofs.Common.{arith, ◌≡◌, ◌∙◌, ◌+◌, ◌++◌, [], ◌∷◌, ℕ, List, length, suc, subst, sym, ap}
use Rattle.std.specs.Prelude.{slice_get}
use Rattle.std.proofs.lemmas.Option.{get_or_from_slice_get}
use Rattle.std.proofs.lemmas.List.{length_push}
use Rattle.plain_rows.proofs.Standing.{get_last}
use Rattle.plain_rows.specs.declared.store.Value.TheVariants as V
use Rattle.plain_rows.specs.Rows.{Stands}
use Rattle.plain_eval.specs.Moving.{MovedBelow}
use Rattle.plain_eval.proofs.Moving.{moved_more, moved_step, moved_same}
use Rattle.plain_eval.proofs.collect.moved.Goals as goal

pub loop-row-preserved : goal.loop-row-preserved
loop-row-preserved c =
    let s = c.args.store.now in
    let m = c.args.reached.now in
    let k = c.loop-row.row in
    let kept = c.loop-row.kept in
    let places = c.loop-row.places.items in
    let places' = c.push.new.self.items in
    let inv = c.loop-row.invariant in
    let added : places' ≡ places ++ c.len.result ∷ [] = c.in_ok-push.ensures.items in
    let n : length places' ≡ k + 1 = ap length added ∙ length_push places c.len.result ∙ ap (λ n. n + 1) inv.places in
    let up : k + 1 ≡ suc k = omega arith in
    record {
      places = n;
      moves = λ closed.
          let before = moved_same k s kept m places places' c.len.result added (inv.moves closed) in
          let after = subst (λ (ps : List ℕ). MovedBelow k s m c.move_row.new.kept ps) (sym added) (moved_more k s kept c.move_row.new.kept m places c.len.result c.in_ok-move_row.ensures.kept (inv.moves closed)) in
          subst (λ n. MovedBelow n s m c.move_row.new.kept places') (sym up) (moved_step k s c.move_row.new.kept m places' c.len.result (n ∙ up) (ap (λ l. slice_get l k) added ∙ ap (slice_get (places ++ c.len.result ∷ [])) (sym inv.places) ∙ get_last places c.len.result)
          (λ v mark h. subst (λ p. Stands c.move_row.new.kept (V.Row p) v) (sym c.len.ensures.count) (c.in_ok-move_row.ensures.moves m v closed (get_or_from_slice_get m k _ _ mark) mark (subst (λ (ps : List ℕ). MovedBelow k s m kept ps) (sym c.as_slice-places.ensures.value) before) h)) after);
    }
