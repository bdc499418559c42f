use Rattle.std.proofs.Common.{◌+◌, ◌/◌, ◌∙◌, sym, ap, get_or}
use Rattle.std.proofs.lemmas.Option.{none-some}
use Rattle.cell_store.specs.Cells.{cell_at, size_in}
use Rattle.machine_cells.proofs.Pendings.{is_there}
use Rattle.machine_step.proofs.Helps.{same_place}
use Rattle.machine_step.proofs.rows.take_fields.Goals as goal

pub returns-in-Some-clause-fields : goal.returns-in-Some-clause-fields
returns-in-Some-clause-fields g c small some u at size =
    let cs = g.C.Cells.cells c.args.cells.now in
    let word = get_or c.args.words.now (c.args.base + c.args.register) 0 in
    let place = same_place c.sized_cell_of.result c.in-Some.place (word / 2) c.in-Some.is (c.sized_cell_of.ensures.found small (is_there (cell_at cs (word / 2)) u at) (ap size_in at ∙ size)) in
    c.take_at.ensures.fields u (ap (cell_at cs) place ∙ at)

pub returns-in-None-clause-fields : goal.returns-in-None-clause-fields
returns-in-None-clause-fields g c small some u at size =
    let cs = g.C.Cells.cells c.args.cells.now in
    let word = get_or c.args.words.now (c.args.base + c.args.register) 0 in
    absurd (none-some (word / 2) (sym c.in-None.is ∙ c.sized_cell_of.ensures.found small (is_there (cell_at cs (word / 2)) u at) (ap size_in at ∙ size)))
