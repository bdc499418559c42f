use Rattle.std.proofs.Common.{sym, arith}
use Rattle.cell_store.proofs.Rowed.{row_past}
use Rattle.cell_store.proofs.rows.RowSealedCells.count.Goals as goal

pub returns-else-k-lt-SIZES : goal.returns-else-k-lt-SIZES
returns-else-k-lt-SIZES c =
    rw (← c.self.view_is) (sym (row_past c.args.k c.self.inside.rows.items c.self.inside.released.items c.self.invariant.small (omega (arith, c.if-k-lt-SIZES.false))))
