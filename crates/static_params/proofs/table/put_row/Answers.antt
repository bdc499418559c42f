use Rattle.std.proofs.Common.{◌∙◌, ◌++◌, ap, sym, append-nil, Some}
use Rattle.fip_language.specs.Table.{Shape}
use Rattle.std.proofs.Common.{List}
use Rattle.static_params.specs.FlatView.{numbers_at}
use Rattle.reached_instances.specs.closed_types.SharedTrees.{tree_at, trees}
use Rattle.reached_instances.specs.SourceView.{source}
use Rattle.reached_instances.proofs.closed_types.Growing.{grows_same}
use Rattle.static_params.proofs.Tabling.{rows_of_type, rows_of_function, rows_of_int}
use Rattle.static_params.proofs.table.put_row.Goals as goal

pub returns-in_ok-put_row_of-in-Some-Type-clause-row : goal.returns-in_ok-put_row_of-in-Some-Type-clause-row
returns-in_ok-put_row_of-in-Some-Type-clause-row c = λ a.
    let ts = trees c.args.shared.now.branches in
    let ns = numbers_at ts c.args.numbers.now in
    let t = tree_at ts c.args.place in
    c.in_ok-put_row_of-in-Some-Type.ensures.row a
    ∙ ap (λ (l : List (List Shape)). c.args.table.now ++ l) (rows_of_type (source c.args.source.now) ns t c.in-Some-Type.number (sym c.head_at.ensures ∙ c.in-Some-Type.is ∙ ap Some c.in-Some-Type.field-0-is))

pub returns-in-Some-Function-clause-grows : goal.returns-in-Some-Function-clause-grows
returns-in-Some-Function-clause-grows c = λ a. grows_same c.args.shared.now.branches

pub returns-in-Some-Function-clause-row : goal.returns-in-Some-Function-clause-row
returns-in-Some-Function-clause-row c = λ a.
    let ts = trees c.args.shared.now.branches in
    sym (append-nil c.args.table.now) ∙ ap (λ (l : List (List Shape)). c.args.table.now ++ l) (rows_of_function (source c.args.source.now) (numbers_at ts c.args.numbers.now) (tree_at ts c.args.place) c.in-Some-Function.field-0-0 (sym c.head_at.ensures ∙ c.in-Some-Function.is ∙ ap Some c.in-Some-Function.field-0-is))

pub returns-in-None-clause-grows : goal.returns-in-None-clause-grows
returns-in-None-clause-grows c = λ a. grows_same c.args.shared.now.branches

pub returns-in-None-clause-row : goal.returns-in-None-clause-row
returns-in-None-clause-row c = λ a.
    let ts = trees c.args.shared.now.branches in
    sym (append-nil c.args.table.now) ∙ ap (λ (l : List (List Shape)). c.args.table.now ++ l) (rows_of_int (source c.args.source.now) (numbers_at ts c.args.numbers.now) (tree_at ts c.args.place) (sym c.head_at.ensures ∙ c.in-None.is))
