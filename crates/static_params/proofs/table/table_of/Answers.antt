use Rattle.std.proofs.Common.{◌∙◌, ◌++◌, ◌+◌, ◌<◌, ℕ, List, get_or, length, refl, ap, sym, subst}
use Rattle.fip_language.specs.Mentions.{all_of}
use Rattle.fip_language.specs.Table.{Shape}
use Rattle.reached_instances.specs.closed_types.Closed.{Closed}
use Rattle.static_params.specs.FlatProgram.{Numbers, rows_of}
use Rattle.static_params.specs.FlatView.{numbers_at}
use Rattle.reached_instances.specs.closed_types.SharedTrees.{AreWithin, tree_at, trees}
use Rattle.reached_instances.specs.SourceView.{source}
use Rattle.reached_instances.proofs.closed_types.Growing.{grows_same, grows_more}
use Rattle.static_params.proofs.PlaceNumbers.{numbers_kept, numbers_more}
use Rattle.reached_instances.proofs.Putting.{all_of_map, all_of_next, every_there, item_is, take_past}
use Rattle.reached_instances.proofs.closed_types.Using.{tree_kept}
use Rattle.static_params.proofs.table.table_of.Goals as goal

pub loop-place-init : goal.loop-place-init
loop-place-init c = record {
  grows = λ a. grows_same c.args.shared.now.branches;
  fits = λ a. refl;
  table = λ a. c.new-table.ensures.empty;
}

pub loop-place-preserved : goal.loop-place-preserved
loop-place-preserved c =
    let s = source c.args.source.now in
    let ns = c.args.numbers.now in
    let old = c.args.shared.now in
    let mid = c.loop-place.shared in
    let new = c.put_row.new.shared in
    let xs = c.as_slice-place-items.result.now in
    let i = c.loop-place.place-index in
    let x = get_or xs i 0 in
    let f = λ (j : ℕ). rows_of s (numbers_at (trees old.branches) ns) (tree_at (trees old.branches) j) in
    record {
      grows = λ a. let g = c.loop-place.invariant.grows a in grows_more old.branches mid.branches new.branches g (c.in_ok-put_row.ensures.grows (numbers_more ns old mid g a));
      fits = λ a. c.in_ok-put_row.ensures.fits (numbers_more ns old mid (c.loop-place.invariant.grows a) a) ∙ c.loop-place.invariant.fits a;
      table = λ a.
          let g = c.loop-place.invariant.grows a in
          let here = every_there (λ (j : ℕ). j < length old.branches + 1) xs i x (subst (AreWithin old.branches) (sym c.as_slice-place-items.ensures.same) a.types) c.loop-place-test.true (item_is xs i 0 c.loop-place-test.true) in
          c.in_ok-put_row.ensures.row (numbers_more ns old mid g a)
          ∙ ap (λ (m : Numbers). c.loop-place.table ++ rows_of s m (tree_at (trees mid.branches) x)) (numbers_kept ns old mid g a)
          ∙ ap (λ (t : Closed). c.loop-place.table ++ rows_of s (numbers_at (trees old.branches) ns) t) (tree_kept old.branches mid.branches x g here)
          ∙ ap (λ (l : List (List Shape)). l ++ f x) (c.loop-place.invariant.table a)
          ∙ sym (all_of_next f xs i x c.loop-place-test.true (item_is xs i 0 c.loop-place-test.true));
    }

pub returns-clause-grows : goal.returns-clause-grows
returns-clause-grows c = c.loop-place.invariant.grows

pub returns-clause-fits : goal.returns-clause-fits
returns-clause-fits c = c.loop-place.invariant.fits

pub returns-clause-table : goal.returns-clause-table
returns-clause-table c = λ a.
    let s = source c.args.source.now in
    let ns = c.args.numbers.now in
    let old = c.args.shared.now in
    let xs = c.as_slice-place-items.result.now in
    let f = λ (j : ℕ). rows_of s (numbers_at (trees old.branches) ns) (tree_at (trees old.branches) j) in
    c.loop-place.invariant.table a
    ∙ ap (all_of f) (take_past xs c.loop-place.place-index c.loop-place-test.false ∙ c.as_slice-place-items.ensures.same)
    ∙ sym (all_of_map (rows_of s (numbers_at (trees old.branches) ns)) (λ (j : ℕ). tree_at (trees old.branches) j) ns.types)
