use Rattle.plain_rows.proofs.Loaded.{on_both, end_loads}
use Rattle.plain_rows.proofs.load.end.Goals as goal

pub returns-clause-loads : goal.returns-clause-loads
returns-clause-loads c = on_both c.fold.result (λ more folds tb types ts whole e. end_loads tb c.args.cells.now.cells types c.args.place c.cell_tag-tag.result c.cell_size-size.result ts c.args.rows.now (record { store = c.fold.new.self; values = c.fold.new.values }) whole e c.cell_tag-tag.ensures c.cell_size-size.ensures.size more folds) c.fold.ensures.kept c.fold.ensures.folds
