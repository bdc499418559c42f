use Rattle.std.proofs.Common.{ap, sym}
use Rattle.fip_trees.specs.declared.decls.DeclaredConstructor.{DeclaredConstructor}
use Rattle.closed_types.specs.Closed.{Closeds}
use Rattle.closed_types.specs.SharedTrees.{trees, trees_at}
use Rattle.reached_instances.specs.SourceView as S
use Rattle.closed_types.specs.TypeInstances.{types_of_fields}
use Rattle.closed_types.proofs.Growing.{trees_kept, within_more}
use Rattle.reached_instances.proofs.Putting.{all_of_map, put_as, put_ends, put_starts, put_step}
use Rattle.reached_instances.proofs.type_instances.put_constructors.Goals as goal

pub loop-constructor-init : goal.loop-constructor-init
loop-constructor-init c = λ v w. put_starts (λ (k : DeclaredConstructor). types_of_fields (trees_at (trees c.args.shared.now.branches) c.args.given.now) (S.constructor k)) c.args.constructors.now c.args.shared.now c.args.places.now.items w

pub loop-constructor-preserved : goal.loop-constructor-preserved
loop-constructor-preserved c = λ v w.
    let old = c.args.shared.now in
    let mid = c.loop-constructor.shared in
    let new = c.put_constructor.new.shared in
    let x = c.constructor-item.result in
    let p = c.loop-constructor.invariant v w in
    put_step (λ (k : DeclaredConstructor). types_of_fields (trees_at (trees old.branches) c.args.given.now) (S.constructor k)) c.args.constructors.now c.loop-constructor.constructor-index x old mid new c.args.places.now.items c.loop-constructor.places.items c.put_constructor.new.places.items c.loop-constructor-test.true c.constructor-item.is p
    (put_as mid new c.loop-constructor.places.items c.put_constructor.new.places.items _ _ (ap (λ (cs : Closeds). types_of_fields cs (S.constructor x)) (trees_kept old.branches mid.branches c.args.given.now p.grows v))
    (c.in_ok-put_constructor.ensures (within_more old.branches mid.branches c.args.given.now p.grows v) p.within))

pub returns : goal.returns
returns c = λ v w.
    let old = c.args.shared.now in
    let cs = trees_at (trees old.branches) c.args.given.now in
    put_as old c.loop-constructor.shared c.args.places.now.items c.loop-constructor.places.items _ _ (sym (all_of_map (types_of_fields cs) S.constructor c.args.constructors.now))
    (put_ends (λ (k : DeclaredConstructor). types_of_fields cs (S.constructor k)) c.args.constructors.now c.loop-constructor.constructor-index old c.loop-constructor.shared c.args.places.now.items c.loop-constructor.places.items c.loop-constructor-test.false (c.loop-constructor.invariant v w))
