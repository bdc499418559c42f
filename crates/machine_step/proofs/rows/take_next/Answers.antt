-- The fields come into registers, and the cell may be put together again.
use Rattle.std.proofs.Common.{◌≡◌, ◌∙◌, ◌+◌, ◌/◌, ◌<◌, List, ℕ, Some, length, get_or, ap, subst, sym, arith}
use Rattle.cell_code.specs.Runnable.{AreBelow, AreOthers, Row, IsSafe}
use Rattle.cell_code.specs.declared.code.Instr.TheVariants as I
use Rattle.cell_store.specs.Cells.{cell_at, size_in}
use Rattle.cell_code.specs.Plain.{plain}
use Rattle.machine_cells.specs.Small.{store_of}
use Rattle.machine_step.specs.Placed.{body_at}
use Rattle.machine_step.specs.View.{words_of, state_of}
use Rattle.machine_step.proofs.Stacked.{waiting_keeps}
use Rattle.machine_step.proofs.Goings.{some_there, both_gone, named_word}
use Rattle.machine_step.proofs.Turns.{take_gone, names_still}
use Rattle.machine_cells.proofs.Pendings.{same_cell, is_there}
use Rattle.machine_step.specs.Going.{Names}
use Rattle.machine_step.proofs.Sures.{can_act, taken_cell}
use Rattle.machine_step.proofs.rows.take_next.Goals as goal

pub go_on-requires-clause-waiting : goal.go_on-requires-clause-waiting
go_on-requires-clause-waiting g c = waiting_keeps c.args.verified.now c.args.bounds c.args.words.now c.take_at.new.words c.args.cursor.now.frames c.args.cursor.now.base c.take_at.ensures.keeps c.requires.waiting

pub put_sized-requires-clause-names : goal.put_sized-requires-clause-names
put_sized-requires-clause-names g c =
    let v = c.args.verified.now in
    let ws = c.args.words.now in
    let cursor = c.args.cursor.now in
    let cs = g.C.Cells.cells c.args.cells.now in
    let ds = c.as_slice-fields.result.now in
    let r = c.args.register in
    let row = subst (Row (body_at v cursor) cursor.at (IsSafe (body_at v cursor))) c.in-Take.is c.next_of.ensures.row in
    let others : AreOthers r ds = subst (λ q. AreOthers q ds) c.if-taken-register.true (subst (λ (rs : List ℕ). AreOthers c.in-Take.taken rs) (sym c.as_slice-fields.ensures.same) row.2) in
    let below = subst (λ q. q < cursor.registers) c.if-taken-register.true row.0 in
    let cell = some_there (cell_at cs c.args.place) c.requires.there in
    names_still cs ws c.take_at.new.words cursor c.go_on.new.cursor r c.args.place ds cell.0.fields c.go_on.ensures.same.base c.go_on.ensures.same.registers below c.requires.placed.room others (c.take_at.ensures.fields cell.0 cell.1) c.requires.names

pub returns-then-has_size-clause-gone : goal.returns-then-has_size-clause-gone
returns-then-has_size-clause-gone g c kinds small lent =
    let v = c.args.verified.now in
    let b = c.args.bounds in
    let ws = c.args.words.now in
    let us = c.take_at.new.words in
    let cursor = c.args.cursor.now in
    let cs = g.C.Cells.cells c.args.cells.now in
    let rs = g.C.Cells.released c.args.cells.now in
    let s = store_of cs rs in
    let ds = c.as_slice-fields.result.now in
    let taken = c.in-Take.taken in
    let row = subst (Row (body_at v cursor) cursor.at (IsSafe (body_at v cursor))) c.in-Take.is c.next_of.ensures.row in
    let below : AreBelow cursor.registers ds = subst (λ (rs : List ℕ). AreBelow cursor.registers rs) (sym c.as_slice-fields.ensures.same) row.1 in
    let mid = state_of v b lent s us c.go_on.new.cursor in
    let first = take_gone v b kinds lent ws cursor c.requires.placed c.next_of.result.now c.next_of.ensures.is cs rs us mid taken c.args.register c.args.place ds small (c.in-Take.is ∙ ap (λ (fs : List ℕ). I.Take taken fs) (sym c.as_slice-fields.ensures.same)) c.if-taken-register.true row.0 below c.requires.names c.requires.there c.take_at.auto.words c.take_at.ensures.keeps c.take_at.ensures.fields (c.go_on.ensures.state lent s) in
    both_gone kinds (plain v.code) (state_of v b lent s ws cursor) mid (state_of v b lent (store_of (g.C.Cells.cells c.put_sized.new.cells) (g.C.Cells.released c.put_sized.new.cells)) us c.put_sized.new.cursor) first (c.put_sized.ensures.gone kinds small lent)

-- the cell has as many fields as are taken
pub has_size-requires-clause-sure : goal.has_size-requires-clause-sure
has_size-requires-clause-sure g c sure some =
    let known = c.requires.sure sure in
    let v = c.args.verified.now in
    let b = c.args.bounds in
    let ws = c.args.words.now in
    let cursor = c.args.cursor.now in
    let room = c.requires.placed.room in
    let cs = g.C.Cells.cells c.args.cells.now in
    let s = store_of cs (g.C.Cells.released c.args.cells.now) in
    let ds = c.as_slice-fields.result.now in
    let taken = c.in-Take.taken in
    let row = subst (Row (body_at v cursor) cursor.at (IsSafe (body_at v cursor))) c.in-Take.is c.next_of.ensures.row in
    let names : Names cs (words_of ws cursor) taken c.args.place = subst (λ q. Names cs (words_of ws cursor) q c.args.place) (sym c.if-taken-register.true) c.requires.names in
    let w = named_word cs ws cursor taken c.args.place names row.0 room in
    let at = c.next_of.ensures.is ∙ ap Some (c.in-Take.is ∙ ap (λ (fs : List ℕ). I.Take taken fs) (sym c.as_slice-fields.ensures.same)) in
    let acts = can_act v b (length ws) known.kinds known.lent s ws cursor (I.Take taken ds) c.requires.placed at known.goes in
    let cell = taken_cell v b (known.kinds cursor.function cursor.at) known.lent s ws cursor taken ds (λ none. let n = ap length none in absurd (omega (arith, n, some))) row.0 room acts.known in
    let found : cell_at cs (get_or ws (cursor.base + taken) 0 / 2) ≡ Some cell.0 = same_cell cs (get_or ws (cursor.base + taken) 0 / 2) ∙ cell.1 in
    let place : c.args.place ≡ get_or ws (cursor.base + taken) 0 / 2 = names.place known.small (is_there (cell_at cs (names.word / 2)) cell.0 (ap (λ i. cell_at cs (i / 2)) w ∙ found)) ∙ ap (λ i. i / 2) w in
    ap (λ p. size_in (cell_at cs p)) place ∙ ap size_in found ∙ cell.2
