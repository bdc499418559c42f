use Rattle.std.proofs.Common.{◌∙◌, ℕ, List, map, nat_eq, ap}
use Rattle.std.specs.List.{position}
use Rattle.fip_trees.specs.declared.decls.FieldType.{FieldType}
use Rattle.static_params.specs.FlatProgram.{from_one}
use Rattle.reached_instances.specs.closed_types.SharedTrees.{trees, trees_at}
use Rattle.reached_instances.specs.closed_types.DeclaredView.{ty}
use Rattle.reached_instances.specs.closed_types.TypeInstances.{field_type}
use Rattle.static_params.proofs.Tabling.{field_numbers}
use Rattle.static_params.proofs.table.closed_constructor.Goals as goal

pub returns-clause-grows : goal.returns-clause-grows
returns-clause-grows c = λ a w. (c.in_ok-places.ensures w).grows

pub returns-clause-fits : goal.returns-clause-fits
returns-clause-fits c = λ a w. (c.in_ok-places.ensures w).fits

pub returns-clause-made : goal.returns-clause-made
returns-clause-made c = λ a w.
    let ns = c.args.numbers.now in
    let old = c.args.shared.now in
    let new = c.field_places.new.shared in
    let cs = trees_at (trees old.branches) c.args.given.now in
    let p = c.in_ok-places.ensures w in
    let tys = map ty c.args.declared.now.fields.items in
    let numbers =
    c.in_ok-fields.ensures a.few_types
    ∙ ap (map (λ (i : ℕ). from_one (position (nat_eq i) ns.types))) c.deref-2.ensures.value
    ∙ field_numbers ns old new c.in_ok-places.places.items cs tys c.hold.ensures.shared p.grows a p.within (p.trees ∙ ap (λ (ts : List FieldType). map (field_type cs) (map ty ts)) c.deref.ensures.value) in
    let name = c.new-constructor.ensures.name ∙ c.in_ok-name.ensures in
    let fields = c.new-constructor.ensures.fields ∙ numbers in
    λ i. record { name = name i; fields = fields i }
