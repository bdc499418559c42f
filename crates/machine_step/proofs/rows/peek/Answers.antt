use Rattle.std.proofs.Common.{◌+◌, ◌/◌, ◌∙◌, sym, ap, get_or}
use Rattle.std.specs.Prelude.{slice_set}
use Rattle.std.proofs.lemmas.Option.{none-some}
use Rattle.machine_cells.specs.Small.{store_of}
use Rattle.machine_step.specs.View.{words_of, state_of}
use Rattle.machine_step.specs.Coming.{moved}
use Rattle.machine_step.proofs.RowNexts.{peek_next}
use Rattle.machine_step.proofs.Helps.{same_place, read_word, in_size}
use Rattle.machine_step.proofs.Sures.{peeked_cell}
use Rattle.machine_step.proofs.rows.peek.Goals as goal

pub returns-in-Some-clause-next : goal.returns-in-Some-clause-next
returns-in-Some-clause-next g c ks given small lent =
    let v = c.args.verified.now in
    let b = c.args.bounds in
    let ws = c.args.words.now in
    let cursor = c.args.cursor.now in
    let room = c.requires.placed.room in
    let cs = g.C.Cells.cells c.args.cells.now in
    let s = store_of cs (g.C.Cells.released c.args.cells.now) in
    let word = get_or ws (cursor.base + c.args.register) 0 in
    peek_next v b ks lent s ws cursor c.write.result (state_of v b lent s c.write.new.words c.write.new.cursor) given c.args.destination c.args.register c.args.field c.requires.destination c.requires.register room c.write.ensures.went (λ u w at get.
    let place = same_place c.field_cell_of.result c.in-Some.place (word / 2) c.in-Some.is (c.field_cell_of.ensures.found small (in_size cs (word / 2) c.args.field u w at get)) in
    let read = read_word cs c.in-Some.place (word / 2) c.args.field u w c.field-word.result place at get c.field-word.ensures in
    c.write.ensures.state lent s ∙ ap (λ x. moved (cursor.at + 1) (slice_set (words_of ws cursor) c.args.destination x) (state_of v b lent s ws cursor)) read)

pub returns-in-None-clause-next : goal.returns-in-None-clause-next
returns-in-None-clause-next g c ks given small lent =
    let v = c.args.verified.now in
    let b = c.args.bounds in
    let ws = c.args.words.now in
    let cursor = c.args.cursor.now in
    let room = c.requires.placed.room in
    let cs = g.C.Cells.cells c.args.cells.now in
    let s = store_of cs (g.C.Cells.released c.args.cells.now) in
    let word = get_or ws (cursor.base + c.args.register) 0 in
    peek_next v b ks lent s ws cursor c.go_on.result (state_of v b lent s ws c.go_on.new.cursor) given c.args.destination c.args.register c.args.field c.requires.destination c.requires.register room c.go_on.ensures.went (λ u w at get.
    absurd (none-some (word / 2) (sym c.in-None.is ∙ c.field_cell_of.ensures.found small (in_size cs (word / 2) c.args.field u w at get))))

pub field_cell_of-requires : goal.field_cell_of-requires
field_cell_of-requires g c = record {
  sure = λ sure.
      let known = c.requires.sure sure in
      let ws = c.args.words.now in
      let cursor = c.args.cursor.now in
      let cs = g.C.Cells.cells c.args.cells.now in
      let s = store_of cs (g.C.Cells.released c.args.cells.now) in
      let word = get_or ws (cursor.base + c.args.register) 0 in
      let cell = peeked_cell c.args.verified.now c.args.bounds known.before known.lent s ws cursor c.args.destination c.args.register c.args.field c.requires.register c.requires.placed.room known.acts.known in
      (known.small, in_size cs (word / 2) c.args.field cell.0 cell.1 cell.2 cell.3);
}
