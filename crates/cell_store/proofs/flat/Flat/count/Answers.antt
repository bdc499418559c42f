use Rattle.std.proofs.Common.{arith, sym}
use Rattle.cell_store.proofs.Parsed.{count_past}
use Rattle.cell_store.specs.Flat.{flags}
use Rattle.cell_store.proofs.flat.Flat.count.Goals as goal

pub returns-else-k-lt-SIZES : goal.returns-else-k-lt-SIZES
returns-else-k-lt-SIZES c =
    rw (← c.self.view_is) (sym (count_past c.args.k 0 c.self.inside.words.items (flags 0 c.self.inside.words.items) c.self.invariant.laid (omega (arith, c.if-k-lt-SIZES.false))))
