use Rattle.std.proofs.Common.{◌∙◌, ◌++◌, ℕ, List, ap, sym, append-nil, Some}
use Rattle.reached_instances.specs.closed_types.SharedTrees.{tree_at, trees}
use Rattle.reached_instances.specs.SourceView.{source}
use Rattle.static_params.proofs.Tabling.{declaring_of_type, declaring_of_function, declaring_of_int}
use Rattle.static_params.proofs.table.put_declaring.Goals as goal

pub returns-in_ok-put_number-in-Some-Type : goal.returns-in_ok-put_number-in-Some-Type
returns-in_ok-put_number-in-Some-Type c =
    let t = tree_at (trees c.args.shared.now.branches) c.args.place in
    let n = c.in-Some-Type.number in
    c.in_ok-put_number-in-Some-Type.ensures
    ∙ ap (λ (l : List ℕ). c.args.declaring.now.items ++ l) (declaring_of_type (source c.args.source.now) t n (sym c.head_at.ensures ∙ c.in-Some-Type.is ∙ ap Some c.in-Some-Type.field-0-is))

pub returns-in-Some-Function : goal.returns-in-Some-Function
returns-in-Some-Function c =
    sym (append-nil c.args.declaring.now.items) ∙ ap (λ (l : List ℕ). c.args.declaring.now.items ++ l) (declaring_of_function (source c.args.source.now) (tree_at (trees c.args.shared.now.branches) c.args.place) c.in-Some-Function.field-0-0 (sym c.head_at.ensures ∙ c.in-Some-Function.is ∙ ap Some c.in-Some-Function.field-0-is))

pub returns-in-None : goal.returns-in-None
returns-in-None c =
    sym (append-nil c.args.declaring.now.items) ∙ ap (λ (l : List ℕ). c.args.declaring.now.items ++ l) (declaring_of_int (source c.args.source.now) (tree_at (trees c.args.shared.now.branches) c.args.place) (sym c.head_at.ensures ∙ c.in-None.is))
