use Rattle.plain_rows.specs.Loading.{last_first}
use Rattle.plain_rows.proofs.Loaded.{on_ok, leaf_result, even_is, far_is, cell_begins}
use Rattle.plain_rows.proofs.load.whole.Goals as goal

pub returns-then-word-eq0-clause-loads : goal.returns-then-word-eq0-clause-loads
returns-then-word-eq0-clause-loads c = λ few.
    let a = c.args in
    leaf_result a.table.now a.cells.now.cells a.ty a.word (last_first a.tasks.now.items) a.rows.now c.add.new.rows _ c.add.result c.add.ensures.store c.add.ensures.values (even_is a.table.now a.cells.now.cells a.ty a.word a.rows.now.store c.requires c.if-word-eq0.true)

pub returns-then-word-clause-loads : goal.returns-then-word-clause-loads
returns-then-word-clause-loads c = λ few.
    let a = c.args in
    leaf_result a.table.now a.cells.now.cells a.ty a.word (last_first a.tasks.now.items) a.rows.now c.add-then-word.new.rows _ c.add-then-word.result c.add-then-word.ensures.store c.add-then-word.ensures.values (far_is a.table.now a.cells.now.cells a.ty a.word a.rows.now.store _ c.requires c.if-word-eq0.false few c.if-word.true)

pub returns-in-Some-clause-loads : goal.returns-in-Some-clause-loads
returns-in-Some-clause-loads c = λ few.
    let a = c.args in
    on_ok c.fields-in-Some.result (λ f whole h. f a.table.now whole (cell_begins a.table.now a.cells.now.cells a.ty a.word c.cell_tag.result c.in-Some.constructor.now c.fields.result (last_first a.tasks.now.items) a.rows.now whole c.requires c.if-word-eq0.false c.cell_tag.ensures c.in-Some.ensures.some c.fields.ensures.same h)) c.fields-in-Some.ensures.loads
