use Rattle.std.proofs.Common.{◌∙◌, Some, ap, sym, arith}
use Rattle.std.specs.Prelude.{option_map}
use Rattle.fip_language.specs.Store.{Cell}
use Rattle.cell_store.proofs.Rowed.{row_within, row_is}
use Rattle.cell_store.proofs.rows.RowSealedCells.cell_tag.Goals as goal

pub index-requires : goal.index-requires
index-requires c =
    let l = row_within c.self.inside.rows.items c.args.p (rw (← c.self.view_is) at c.requires) in
    let ok = c.self.inside.rows.ok.0 in
    omega (arith, l, ok)

pub returns : goal.returns
returns c =
    let is = row_is c.self.inside.rows.items c.args.p c.index.result.now (row_within c.self.inside.rows.items c.args.p (rw (← c.self.view_is) at c.requires)) c.index.ensures in
    rw (← c.self.view_is) (ap (option_map (λ (c : Cell). c.tag)) is ∙ ap (λ n. Some n) (sym c.tag.ensures))
