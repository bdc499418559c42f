use Rattle.std.proofs.Common.{◌≡◌, ◌<◌, ◌^◌, ◌∙◌, refl, sym, ap, map, Some, arith}
use Rattle.std.specs.Prelude.{slice_get, option_map}
use Rattle.std.proofs.lemmas.Option.{slice_get-get_or, slice_get-map}
use Rattle.derivation_trees.specs.Trees.{head, heads}
use Rattle.derivation_trees.specs.Building.{with_part}
use Rattle.derivation_trees.proofs.Altering.{alter_past, alter_set}
use Rattle.derivation_trees.proofs.parts.add_part_at.Goals as goal

pub overflow_add-node : goal.overflow_add-node
overflow_add-node c =
    let n = c.in-Some.node.now in
    let ns = c.args.nodes.now.items in
    let i = c.args.place in
    let g : slice_get (heads ns) i ≡ Some (head n) =
    slice_get-map head ns i ∙ ap (option_map head) (slice_get-get_or ns i n (c.in-Some.ensures.item.3.0) ∙ ap Some (sym c.in-Some.ensures.value)) in
    let f : n.parts < 2 ^ 63 = c.requires.few i (head n) g in
    omega (arith, f)

pub returns-in-Some-clause-added : goal.returns-in-Some-clause-added
returns-in-Some-clause-added c =
    let n = c.in-Some.node.now in
    alter_set with_part c.args.nodes.now.items c.args.place n _ (c.in-Some.ensures.item.3.0) c.in-Some.ensures.value refl

pub returns-in_default-clause-added : goal.returns-in_default-clause-added
returns-in_default-clause-added c = alter_past with_part c.args.nodes.now.items c.args.place c.in_default.ensures.item.3
