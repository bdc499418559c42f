use Rattle.std.proofs.Common.{◌<◌, arith}
use Rattle.std.proofs.lemmas.Bool.Decides.{nat_tests}
use Rattle.cell_store.proofs.Rowed.{row_there, row_within}
use Rattle.cell_store.proofs.rows.RowSealedCells.begins.Goals as goal

pub returns : goal.returns
returns c =
    let cs = c.self.inside.rows.items in
    let ok = c.self.inside.rows.ok.0 in
    let len = c.len.ensures in
    rw (← c.self.view_is) (
      (λ t. row_there cs c.args.p (let h : c.args.p < c.len.result = grind (arith, nat_tests) in omega (arith, h, ok, len))),
      (λ h. let l = row_within cs c.args.p h in let m : c.args.p < c.len.result = omega (arith, l, ok, len) in grind (arith, nat_tests)),
    )
