use Rattle.std.proofs.Common.{◌<◌, ◌∙◌, ap, subst, arith, slice_get}
use Rattle.std.specs.Prelude.{option_and_then}
use Rattle.fip_language.specs.Store.{Cell}
use Rattle.cell_store.specs.Cells.{size_in}
use Rattle.cell_store.proofs.Rowed.{row_is, row_field}
use Rattle.cell_store.proofs.rows.RowSealedCells.field.Goals as goal

pub index-requires : goal.index-requires
index-requires c =
    let l = row_field c.self.inside.rows.items c.args.p c.args.i (rw (← c.self.view_is) at c.requires) in
    let ok = c.self.inside.rows.ok.0 in
    omega (arith, l, ok)

pub field-requires : goal.field-requires
field-requires c =
    let h = (rw (← c.self.view_is) at c.requires) in
    let is = row_is c.self.inside.rows.items c.args.p c.index.result.now (row_field c.self.inside.rows.items c.args.p c.args.i h) c.index.ensures in
    subst (λ o. c.args.i < size_in o) is h

pub returns : goal.returns
returns c =
    let is = row_is c.self.inside.rows.items c.args.p c.index.result.now (row_field c.self.inside.rows.items c.args.p c.args.i (rw (← c.self.view_is) at c.requires)) c.index.ensures in
    rw (← c.self.view_is) (ap (option_and_then (λ (d : Cell). slice_get d.fields c.args.i)) is ∙ c.field.ensures)
