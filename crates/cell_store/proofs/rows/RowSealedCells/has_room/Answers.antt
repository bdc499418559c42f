use Rattle.std.proofs.Common.{arith}
use Rattle.std.proofs.lemmas.Bool.Decides.{nat_tests}
use Rattle.cell_store.proofs.Rowed.{row_number}
use Rattle.cell_store.proofs.rows.RowSealedCells.has_room.Goals as goal

pub returns : goal.returns
returns c =
    let n = row_number c.self.inside.rows.items in
    let a = c.self.inside.rows.ok.0 in
    let b = c.self.inside.pushed.ok.0 in
    let d = c.len.ensures in
    let e = c.len-2.ensures in
    rw (← c.self.view_is) (grind (arith, nat_tests, n, a, b, d, e))
