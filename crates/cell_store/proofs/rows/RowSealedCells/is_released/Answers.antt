use Rattle.std.proofs.Common.{arith, refl, ◌<◌, length}
use Rattle.std.proofs.lemmas.Option.{slice_get_read}
use Rattle.cell_store.proofs.Rowed.{row_within}
use Rattle.cell_store.proofs.rows.RowSealedCells.is_released.Goals as goal

pub index-requires : goal.index-requires
index-requires c =
    let l = row_within c.self.inside.rows.items c.args.p (rw (← c.self.view_is) at c.requires) in
    let f = c.self.invariant.flags in
    let ok = c.self.inside.released.ok.0 in
    omega (arith, l, f, ok)

pub returns : goal.returns
returns c =
    let l = row_within c.self.inside.rows.items c.args.p (rw (← c.self.view_is) at c.requires) in
    let f = c.self.invariant.flags in
    let there : c.args.p < length c.self.inside.released.items = omega (arith, l, f) in
    rw (← c.self.view_is) (slice_get_read c.self.inside.released.items (length c.self.inside.released.items) c.args.p c.index.result.now refl there c.index.ensures)
