use Rattle.std.proofs.Common.{◌+◌, ◌/◌, ◌∙◌, ap, get_or}
use Rattle.machine_cells.specs.Small.{store_of}
use Rattle.machine_cells.proofs.Pendings.{same_cell, is_there}
use Rattle.machine_step.specs.View.{state_of}
use Rattle.machine_step.proofs.Stacked.{waiting_keeps}
use Rattle.machine_step.proofs.RowNexts.{take_next}
use Rattle.cell_store.specs.Cells.{cell_at, size_in}
use Rattle.machine_step.proofs.Sures.{taken_cell}
use Rattle.machine_step.proofs.rows.take_cell.Goals as goal

pub go_on-requires-clause-waiting : goal.go_on-requires-clause-waiting
go_on-requires-clause-waiting g c = waiting_keeps c.args.verified.now c.args.bounds c.args.words.now c.take_fields.new.words c.args.cursor.now.frames c.args.cursor.now.base c.take_fields.ensures.keeps c.requires.waiting

pub returns-clause-next : goal.returns-clause-next
returns-clause-next g c ks given small lent =
    let v = c.args.verified.now in
    let b = c.args.bounds in
    let ws = c.args.words.now in
    let cursor = c.args.cursor.now in
    let room = c.requires.placed.room in
    let cs = g.C.Cells.cells c.args.cells.now in
    let s = store_of cs (g.C.Cells.released c.args.cells.now) in
    let word = get_or ws (cursor.base + c.args.register) 0 in
    take_next v b ks lent s ws cursor c.go_on.result (state_of v b lent s c.take_fields.new.words c.go_on.new.cursor) given c.args.register c.args.fields.now c.take_fields.new.words c.requires.register room c.requires.fields c.take_fields.auto.words c.take_fields.ensures.keeps c.take_fields.ensures.none (λ u some at size. c.take_fields.ensures.fields small some u (same_cell cs (word / 2) ∙ at) size) c.go_on.ensures.went (c.go_on.ensures.state lent s)

pub take_fields-requires-clause-sure : goal.take_fields-requires-clause-sure
take_fields-requires-clause-sure g c sure some =
    let known = c.requires.sure sure in
    let ws = c.args.words.now in
    let cursor = c.args.cursor.now in
    let cs = g.C.Cells.cells c.args.cells.now in
    let s = store_of cs (g.C.Cells.released c.args.cells.now) in
    let word = get_or ws (cursor.base + c.args.register) 0 in
    let cell = taken_cell c.args.verified.now c.args.bounds known.before known.lent s ws cursor c.args.register c.args.fields.now some c.requires.register c.requires.placed.room known.acts.known in
    let found = same_cell cs (word / 2) ∙ cell.1 in
    (known.small, is_there (cell_at cs (word / 2)) cell.0 found, ap size_in found ∙ cell.2)
