use Rattle.std.proofs.Common.{◌∙◌, Some, ap, sym, arith}
use Rattle.std.specs.Prelude.{option_map}
use Rattle.cell_store.specs.Cells.{size_of}
use Rattle.cell_store.proofs.Rowed.{row_within, row_is}
use Rattle.cell_store.proofs.rows.RowSealedCells.cell_size.Goals as goal

pub index-requires : goal.index-requires
index-requires c =
    let l = row_within c.self.inside.rows.items c.args.p (rw (← c.self.view_is) at c.requires) in
    let ok = c.self.inside.rows.ok.0 in
    omega (arith, l, ok)

pub returns-clause-size : goal.returns-clause-size
returns-clause-size c =
    let is = row_is c.self.inside.rows.items c.args.p c.index.result.now (row_within c.self.inside.rows.items c.args.p (rw (← c.self.view_is) at c.requires)) c.index.ensures in
    rw (← c.self.view_is) (ap (option_map size_of) is ∙ ap (λ n. Some n) (sym c.size.ensures))

pub returns-clause-few : goal.returns-clause-few
returns-clause-few c =
    let l = row_within c.self.inside.rows.items c.args.p (rw (← c.self.view_is) at c.requires) in
    let bound = c.self.invariant.small c.args.p c.index.result.now l in
    let read = ap size_of c.index.ensures in
    let size = c.size.ensures in
    omega (arith, bound, read, size)
