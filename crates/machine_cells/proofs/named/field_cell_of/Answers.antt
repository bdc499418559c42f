use Rattle.std.proofs.Common.{◌<◌, ◌/◌, Some, sym, ap, subst}
use Rattle.cell_store.specs.Cells.{cell_at, size_in}
use Rattle.machine_cells.proofs.Names.{place_is, size_there, is_set}
use Rattle.machine_cells.proofs.named.field_cell_of.Goals as goal

pub returns-then-this-ne0-clause-field : goal.returns-then-this-ne0-clause-field
returns-then-this-ne0-clause-field g c =
    let q = c.requires.sure (is_set _ c.if-this-ne0.true) in
    let cs = g.C.Cells.cells c.args.cells.now in
    let there = size_there (cell_at cs (c.args.word / 2)) c.args.field q.1 in
    subst (λ p. c.args.field < size_in (cell_at cs p)) (sym (place_is cs c.args.word c.place_of.result q.0 there c.place_of.ensures)) q.1

pub returns-then-this-ne0-clause-found : goal.returns-then-this-ne0-clause-found
returns-then-this-ne0-clause-found g c small within =
    let cs = g.C.Cells.cells c.args.cells.now in
    let there = size_there (cell_at cs (c.args.word / 2)) c.args.field within in
    ap Some (place_is cs c.args.word c.place_of.result small there c.place_of.ensures)
