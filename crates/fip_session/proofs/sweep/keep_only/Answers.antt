use Rattle.std.proofs.Common.{◌≡◌, ◌≢◌, ◌<◌, ◌∙◌, ℕ, None, Some, IfSome, IfNone, refl, sym, ap, subst}
use Rattle.cell_store.specs.Cells.{Cells, cell_at, IsAfter}
use Rattle.fip_language.specs.Store.{count}
use Rattle.fip_machine.specs.machine_cells.Small.{store_of}
use Rattle.store_trees.specs.Added.{places_of}
use Rattle.fip_session.specs.Swept.{IsMarked}
use Rattle.fip_session.proofs.Marking.{swept_on}
use Rattle.fip_session.proofs.Sweeping.{Sweeping, left_behind, less_left, next_cell}
use Rattle.fip_session.proofs.sweep.keep_only.Goals as goal

pub loop-at-smaller : goal.loop-at-smaller
loop-at-smaller c =
    let cs = c.loop-at.cells.cells in
    let p = c.in-Some.place in
    let o = c.after-at-in-Some.result in
    let there : cell_at cs p ≢ None = subst (λ n. IfSome n (λ q. cell_at cs q ≢ None)) c.in-Some.is c.loop-at.invariant.there in
    let less = less_left cs p o there c.after-at-in-Some.ensures.following in
    subst (λ n. left_behind c.release_unmarked.new.cells.cells o < left_behind cs n) (sym c.in-Some.is) (subst (λ ds. left_behind ds o < left_behind cs (Some p)) (sym c.release_unmarked.ensures.cells) less)

pub loop-at-preserved : goal.loop-at-preserved
loop-at-preserved c =
    let all = c.args.cells.now.cells in
    let first = store_of all c.args.cells.now.released in
    let p = c.in-Some.place in
    let o = c.after-at-in-Some.result in
    let new = c.release_unmarked.new.cells in
    let old = c.loop-at.cells in
    let list = c.args.kept.now.list.items in
    let kept : old.cells ≡ all = c.loop-at.invariant.cells in
    let same : new.cells ≡ old.cells = c.release_unmarked.ensures.cells in
    let whole : new.cells ≡ all = same ∙ kept in
    record {
      cells = whole;
      there = c.after-at-in-Some.ensures.there;
      swept = λ st.
          swept_on list c.as_slice.result.now first old.cells new.cells old.released new.released p o
          (subst (λ ms. IsMarked list ms) (sym c.as_slice.ensures.value) c.in_ok-marks.ensures.marks)
          st
          (subst (λ n. Sweeping (λ q. count q (places_of list)) first (store_of old.cells old.released) n) c.in-Some.is (c.loop-at.invariant.swept st))
          same c.release_unmarked.ensures.marked c.release_unmarked.ensures.unmarked c.after-at-in-Some.ensures.following
          (next_cell (Some p) o all (subst (λ (cs : Cells). IfSome o (λ q. (r : ℕ) → IsAfter (Some p) r → r < q → cell_at cs r ≡ None)) whole c.after-at-in-Some.ensures.first) (subst (λ (cs : Cells). IfNone o ((r : ℕ) → IsAfter (Some p) r → cell_at cs r ≡ None)) whole c.after-at-in-Some.ensures.none));
    }
