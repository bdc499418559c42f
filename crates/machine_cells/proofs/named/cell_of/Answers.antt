use Rattle.std.proofs.Common.{◌≢◌, ◌/◌, None, Some, sym, ap, subst, arith}
use Rattle.cell_store.specs.Cells.{cell_at}
use Rattle.machine_cells.proofs.Pendings.{place_within}
use Rattle.machine_cells.proofs.Names.{place_is, is_set}
use Rattle.machine_cells.proofs.named.cell_of.Goals as goal

pub returns-then-begins-clause-found : goal.returns-then-begins-clause-found
returns-then-begins-clause-found g c small there =
    let within = place_within (g.C.Cells.cells c.args.cells.now) (c.args.word / 2) there in
    ap Some (c.place_of-place.ensures (omega (arith, within, small)))

pub returns-else-begins-clause-found : goal.returns-else-begins-clause-found
returns-else-begins-clause-found g c small there =
    let within = place_within (g.C.Cells.cells c.args.cells.now) (c.args.word / 2) there in
    let same = c.place_of-place.ensures (omega (arith, within, small)) in
    let is = c.begins.ensures.1 (subst (λ p. cell_at (g.C.Cells.cells c.args.cells.now) p ≢ None) (sym same) there) in
    let not = c.if-begins.false in
    absurd cc

pub returns-then-this-ne0-clause-there : goal.returns-then-this-ne0-clause-there
returns-then-this-ne0-clause-there g c =
    let q = c.requires.sure (is_set _ c.if-this-ne0.true) in
    let cs = g.C.Cells.cells c.args.cells.now in
    subst (λ p. cell_at cs p ≢ None) (sym (place_is cs c.args.word c.place_of-place.result q.0 q.1 c.place_of-place.ensures)) q.1

pub returns-then-this-ne0-clause-found : goal.returns-then-this-ne0-clause-found
returns-then-this-ne0-clause-found g c small there = ap Some (place_is (g.C.Cells.cells c.args.cells.now) c.args.word c.place_of-place.result small there c.place_of-place.ensures)
