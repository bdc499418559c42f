use Rattle.std.proofs.Common.{◌∙◌, ◌++◌, ℕ, List, get_or, ap, sym}
use Rattle.fip_language.specs.Mentions.{all_of}
use Rattle.static_params.specs.FlatProgram.{declaring_of}
use Rattle.reached_instances.specs.closed_types.SharedTrees.{tree_at, trees}
use Rattle.reached_instances.specs.SourceView.{source}
use Rattle.reached_instances.proofs.Putting.{all_of_map, all_of_next, item_is, take_past}
use Rattle.static_params.proofs.table.declaring_of.Goals as goal

pub loop-place-preserved : goal.loop-place-preserved
loop-place-preserved c =
    let xs = c.as_slice-place-items.result.now in
    let i = c.loop-place.place-index in
    let x = get_or xs i 0 in
    let f = λ (j : ℕ). declaring_of (source c.args.source.now) (tree_at (trees c.args.shared.now.branches) j) in
    c.in_ok-put_declaring.ensures
    ∙ ap (λ (l : List ℕ). l ++ f x) c.loop-place.invariant
    ∙ sym (all_of_next f xs i x c.loop-place-test.true (item_is xs i 0 c.loop-place-test.true))

pub returns : goal.returns
returns c =
    let xs = c.as_slice-place-items.result.now in
    let ns = c.args.numbers.now in
    let f = λ (j : ℕ). declaring_of (source c.args.source.now) (tree_at (trees c.args.shared.now.branches) j) in
    c.loop-place.invariant
    ∙ ap (all_of f) (take_past xs c.loop-place.place-index c.loop-place-test.false ∙ c.as_slice-place-items.ensures.same)
    ∙ sym (all_of_map (declaring_of (source c.args.source.now)) (λ (j : ℕ). tree_at (trees c.args.shared.now.branches) j) ns.types)
