use Rattle.std.proofs.Common.{◌+◌, ◌/◌, ◌∙◌, [], ◌∷◌, ◌++◌, Some, sym, ap, subst, get_or}
use Rattle.std.specs.Prelude.{slice_set}
use Rattle.std.proofs.lemmas.Option.{none-some}
use Rattle.fip_language.specs.Store.{Cell}
use Rattle.cell_store.specs.Cells.{cell_at, size_in}
use Rattle.machine_frames.specs.Words.{words_from}
use Rattle.machine_cells.specs.Small.{store_of}
use Rattle.machine_cells.specs.Counting.{CountsReleased}
use Rattle.machine_cells.proofs.Counts.{counts_none, counts_write}
use Rattle.machine_frames.proofs.Laid.{words_long}
use Rattle.machine_cells.proofs.Pendings.{same_cell, is_there}
use Rattle.machine_step.specs.View.{state_of}
use Rattle.cell_store.specs.Reported.{Overwritten}
use Rattle.machine_step.specs.declared.rows.Stepped.TheVariants as S
use Rattle.machine_step.proofs.RowNexts.{put_next, put_reported}
use Rattle.machine_step.proofs.Helps.{same_place}
use Rattle.machine_step.proofs.rows.put_cell.Goals.{in-Some, in_default}
use Rattle.machine_step.proofs.rows.put_cell.Goals as goal

pub returns-clause-next : goal.returns-clause-next
returns-clause-next g c ks given ty small lent =
    let v = c.args.verified.now in
    let b = c.args.bounds in
    let ws = c.args.words.now in
    let cursor = c.args.cursor.now in
    let room = c.requires.placed.room in
    let cs = g.C.Cells.cells c.args.cells.now in
    let s = store_of cs (g.C.Cells.released c.args.cells.now) in
    let word = get_or ws (cursor.base + c.args.register) 0 in
    let after = c.match-sized_cell_of.cells in
    let n = store_of (g.C.Cells.cells after) (g.C.Cells.released after) in
    let new : Cell = record { tag = c.args.constructor; fields = words_from cursor.base ws c.args.fields.now } in
    put_next v b ks lent s ws cursor c.go_on.result (state_of v b lent n ws c.go_on.new.cursor) given c.args.register ty c.args.constructor c.args.fields.now n c.requires.register room c.requires.fields (λ u at size.
    let there = same_cell cs (word / 2) ∙ at in
    let found = c.sized_cell_of.ensures.found small (is_there (cell_at cs (word / 2)) u there) (ap size_in there ∙ size) in
    elim c.match-sized_cell_of.branch [
      | in-Some w ↦ (
          let place = same_place c.sized_cell_of.result w.in-Some.place (word / 2) w.in-Some.is found in
          ap (λ k. store_of (g.C.Cells.cells k) (g.C.Cells.released k)) w.cells-is
          ∙ (λ i. store_of ((w.put.ensures.cells ∙ ap (λ p. slice_set cs p (Some new)) place) i) (w.put.ensures.released i)))
      | in_default w ↦ absurd (none-some (word / 2) (sym w.in_default.is ∙ found))
    ]) c.go_on.ensures.went (c.go_on.ensures.state lent n)

pub returns-clause-reported : goal.returns-clause-reported
returns-clause-reported g c ks lent ty small goes first ts reported =
    let v = c.args.verified.now in
    let b = c.args.bounds in
    let ws = c.args.words.now in
    let cursor = c.args.cursor.now in
    let cs = g.C.Cells.cells c.args.cells.now in
    let s = store_of cs (g.C.Cells.released c.args.cells.now) in
    let old = state_of v b lent s ws cursor in
    let word = get_or ws (cursor.base + c.args.register) 0 in
    let after = c.match-sized_cell_of.cells in
    let z = put_reported v b ks lent s ws cursor S.Went old [] c.args.register ty c.args.constructor c.args.fields.now c.requires.register c.requires.placed.room c.requires.fields goes in
    let there = same_cell cs (word / 2) ∙ z.1 in
    let found = c.sized_cell_of.ensures.found small (is_there (cell_at cs (word / 2)) z.0 there) (ap size_in there ∙ z.2) in
    subst (λ us. g.C.Cells.was_reported first (ts ++ us) after) (sym z.3) (elim c.match-sized_cell_of.branch [
      | in-Some w ↦ (
          let place = same_place c.sized_cell_of.result w.in-Some.place (word / 2) w.in-Some.is found in
          let one = w.put.ensures.reported first ts reported in
          let at = subst (λ p. g.C.Cells.was_reported first (ts ++ Overwritten p c.args.constructor (words_from cursor.base ws c.args.fields.now) ∷ []) w.put.new.cells) place one in
          subst (g.C.Cells.was_reported first (ts ++ Overwritten (word / 2) c.args.constructor (words_from cursor.base ws c.args.fields.now) ∷ [])) (sym w.cells-is) at)
      | in_default w ↦ absurd (none-some (word / 2) (sym w.in_default.is ∙ found))
    ])

pub returns-clause-counted : goal.returns-clause-counted
returns-clause-counted g c freed =
    let ws = c.args.words.now in
    let cursor = c.args.cursor.now in
    let cs = g.C.Cells.cells c.args.cells.now in
    let rs = g.C.Cells.released c.args.cells.now in
    let after = c.match-sized_cell_of.cells in
    let new : Cell = record { tag = c.args.constructor; fields = words_from cursor.base ws c.args.fields.now } in
    elim c.match-sized_cell_of.branch [
      | in-Some w ↦ (
          let long = words_long cursor.base ws c.args.fields.now in
          let one = counts_write cs rs w.in-Some.place new freed w.in-Some.ensures.there (long ∙ sym w.in-Some.ensures.size) in
          let put = subst (λ qs. CountsReleased cs rs freed (slice_set cs w.in-Some.place (Some new)) qs freed) (sym w.put.ensures.released) one in
          let all = subst (λ ds. CountsReleased cs rs freed ds (g.C.Cells.released w.put.new.cells) freed) (sym w.put.ensures.cells) put in
          subst (λ k. CountsReleased cs rs freed (g.C.Cells.cells k) (g.C.Cells.released k) freed) (sym w.cells-is) all)
      | in_default w ↦ subst (λ k. CountsReleased cs rs freed (g.C.Cells.cells k) (g.C.Cells.released k) freed) (sym w.cells-is) (counts_none cs rs freed)
    ]

pub sized_cell_of-requires : goal.sized_cell_of-requires
sized_cell_of-requires g c = record {
  sure = λ sure.
      let q = c.requires.sure sure in
      let known = q.1 in
      let v = c.args.verified.now in
      let ws = c.args.words.now in
      let cursor = c.args.cursor.now in
      let cs = g.C.Cells.cells c.args.cells.now in
      let s = store_of cs (g.C.Cells.released c.args.cells.now) in
      let old = state_of v c.args.bounds known.lent s ws cursor in
      let word = get_or ws (cursor.base + c.args.register) 0 in
      let z = put_reported v c.args.bounds known.before known.lent s ws cursor S.Went old [] c.args.register q.0 c.args.constructor c.args.fields.now c.requires.register c.requires.placed.room c.requires.fields known.acts.known in
      let there = same_cell cs (word / 2) ∙ z.1 in
      (known.small, is_there (cell_at cs (word / 2)) z.0 there, ap size_in there ∙ z.2);
}
