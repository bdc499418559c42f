-- The cell is tested once more.
use Rattle.std.proofs.Common.{refl, subst, nat_eq}
use Rattle.cell_code.specs.Runnable.{Row, IsSafe}
use Rattle.machine_cells.specs.Small.{store_of}
use Rattle.machine_step.specs.Placed.{body_at}
use Rattle.machine_step.specs.View.{state_of}
use Rattle.machine_step.proofs.Turns.{test_gone}
use Rattle.machine_step.proofs.rows.test_again.Goals as goal

pub returns-then-tested-register-clause-gone : goal.returns-then-tested-register-clause-gone
returns-then-tested-register-clause-gone g c kinds small lent =
    let v = c.args.verified.now in
    let b = c.args.bounds in
    let ws = c.args.words.now in
    let cursor = c.args.cursor.now in
    let cs = g.C.Cells.cells c.args.cells.now in
    let rs = g.C.Cells.released c.args.cells.now in
    let row = subst (Row (body_at v cursor) cursor.at (IsSafe (body_at v cursor))) c.in-Test.is c.next_of.ensures.row in
    test_gone v b kinds lent ws cursor c.requires.placed c.next_of.result.now c.next_of.ensures.is cs rs (state_of v b lent (store_of cs rs) ws c.branch-verified.new.cursor) c.in-Test.tested c.args.register c.in-Test.constructor c.in-Test.target c.args.place c.cell_tag.result (nat_eq c.cell_tag.result c.in-Test.constructor) small c.in-Test.is c.if-tested-register.true row.0 c.requires.names c.cell_tag.ensures refl (c.branch-verified.ensures.state lent (store_of cs rs))
