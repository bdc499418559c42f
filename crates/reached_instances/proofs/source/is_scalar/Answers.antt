use Rattle.std.proofs.Common.{◌≡◌, ◌+◌, Bool, true, false, not, ◌&&◌, List, refl, sym, ap, map, drop, ◌∙◌}
use Rattle.fip_trees.specs.declared.decls.DeclaredConstructor.{DeclaredConstructor}
use Rattle.closed_types.specs.Source.{all_none, none_of}
use Rattle.closed_types.specs.DeclaredView.{constructor}
use Rattle.closed_types.proofs.Lists.{drop_item}
use Rattle.reached_instances.proofs.source.is_scalar.Goals as goal

fails : (b r : Bool) → not b ≡ true → false ≡ (b && r)
fails true r e = cc
fails false r e = refl

pub returns-then-has_fields : goal.returns-then-has_fields
returns-then-has_fields c =
    let xs = c.deref-constructor-items.result.now in
    let i = c.loop-constructor.constructor-index in
    let x = c.constructor-item.result in
    fails (none_of (constructor x).fields) (all_none (map constructor (drop (i + 1) xs))) (sym c.has_fields.ensures ∙ c.if-has_fields.true)
    ∙ ap (λ (ys : List DeclaredConstructor). all_none (map constructor ys)) (sym (drop_item xs i x c.loop-constructor-test.true c.constructor-item.is))
    ∙ c.loop-constructor.invariant
