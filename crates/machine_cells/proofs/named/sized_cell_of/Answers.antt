use Rattle.std.proofs.Common.{◌≡◌, ◌≢◌, None, Some, sym, ap, subst}
use Rattle.cell_store.specs.Cells.{cell_at, size_in}
use Rattle.machine_cells.proofs.Names.{place_is, is_set}
use Rattle.machine_cells.proofs.named.sized_cell_of.Goals as goal

pub returns-then-this-ne0-clause-there : goal.returns-then-this-ne0-clause-there
returns-then-this-ne0-clause-there g c =
    let q = c.requires.sure (is_set _ c.if-this-ne0.true) in
    let cs = g.C.Cells.cells c.args.cells.now in
    subst (λ p. cell_at cs p ≢ None) (sym (place_is cs c.args.word c.place_of.result q.0 q.1 c.place_of.ensures)) q.1

pub returns-then-this-ne0-clause-size : goal.returns-then-this-ne0-clause-size
returns-then-this-ne0-clause-size g c =
    let q = c.requires.sure (is_set _ c.if-this-ne0.true) in
    let cs = g.C.Cells.cells c.args.cells.now in
    subst (λ p. size_in (cell_at cs p) ≡ c.args.size) (sym (place_is cs c.args.word c.place_of.result q.0 q.1 c.place_of.ensures)) q.2

pub returns-then-this-ne0-clause-found : goal.returns-then-this-ne0-clause-found
returns-then-this-ne0-clause-found g c small there size = ap Some (place_is (g.C.Cells.cells c.args.cells.now) c.args.word c.place_of.result small there c.place_of.ensures)
