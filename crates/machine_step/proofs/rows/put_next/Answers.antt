-- The cell gets the words of registers.
use Rattle.std.proofs.Common.{◌∙◌, List, ℕ, ap, subst, sym}
use Rattle.cell_code.specs.Runnable.{AreBelow, Row, IsSafe}
use Rattle.cell_code.specs.declared.code.Instr.TheVariants as I
use Rattle.machine_cells.specs.Small.{store_of}
use Rattle.machine_step.specs.Placed.{body_at}
use Rattle.machine_step.specs.View.{state_of}
use Rattle.machine_step.proofs.Turns.{put_gone}
use Rattle.machine_step.proofs.rows.put_next.Goals as goal

pub returns-then-fields-size-clause-gone : goal.returns-then-fields-size-clause-gone
returns-then-fields-size-clause-gone g c kinds small lent =
    let v = c.args.verified.now in
    let b = c.args.bounds in
    let ws = c.args.words.now in
    let cursor = c.args.cursor.now in
    let cs = g.C.Cells.cells c.args.cells.now in
    let rs = g.C.Cells.released c.args.cells.now in
    let ds = g.C.Cells.cells c.put.new.cells in
    let es = g.C.Cells.released c.put.new.cells in
    let ss = c.as_slice-fields.result.now in
    let credit = c.in-Put.credit in
    let row = subst (Row (body_at v cursor) cursor.at (IsSafe (body_at v cursor))) c.in-Put.is c.next_of.ensures.row in
    let below : AreBelow cursor.registers ss = subst (λ (rs : List ℕ). AreBelow cursor.registers rs) (sym c.as_slice-fields.ensures.same) row.1 in
    put_gone v b kinds lent ws cursor c.requires.placed c.next_of.result.now c.next_of.ensures.is cs ds rs es (state_of v b lent (store_of ds es) ws c.go_on.new.cursor) credit c.args.register c.args.place c.in-Put.ty c.in-Put.constructor ss small (c.in-Put.is ∙ ap (λ (fs : List ℕ). I.Put credit c.in-Put.ty c.in-Put.constructor fs) (sym c.as_slice-fields.ensures.same)) c.if-credit-register.true row.0 below c.requires.names c.put.ensures.cells c.put.ensures.released (c.go_on.ensures.state lent (store_of ds es))
