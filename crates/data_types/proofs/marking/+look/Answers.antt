use Rattle.std.proofs.Common.{drop, subst, sym, ap, refl, ◌∙◌, ◌+◌, ◌-◌, List}
use Rattle.data_types.specs.View as v
use Rattle.data_types.specs.Steps.{AreLooked, IsApplied, IsLooked}
use Rattle.fip_trees.specs.declared.decls.FieldType.{FieldType}
use Rattle.data_types.proofs.Looks.{tys_read, ty_applied, ty_int, drop_all}
use Rattle.data_types.proofs.Extending.{Looking, looking_next, looking_last, looked_applied, looked_given}
use Rattle.data_types.proofs.marking.+look.Goals as goal

pub look-returns-in_ok-applied-in-Applied : goal.look-returns-in_ok-applied-in-Applied
look-returns-in_ok-applied-in-Applied n c =
    let looked = subst (λ (ts : List FieldType). AreLooked c.args.claims.now c.look_all.new.claims c.args.bits.now (v.tys ts) c.in_ok-found-in-Applied.found.items) c.deref.ensures.value c.in_ok-found-in-Applied.ensures in
    let applied = subst (λ k. IsApplied c.look_all.new.claims c.look_applied.new.claims k c.in_ok-found-in-Applied.found.items c.in_ok-applied-in-Applied.applied) c.saturating_sub-ty.ensures (subst (λ fs. IsApplied c.look_all.new.claims c.look_applied.new.claims c.saturating_sub-ty.result fs c.in_ok-applied-in-Applied.applied) c.deref-in-Applied.ensures.value c.in_ok-applied-in-Applied.ensures) in
    subst (λ t. IsLooked c.args.claims.now c.look_applied.new.claims c.args.bits.now t c.in_ok-applied-in-Applied.applied) (sym (ap v.ty c.in-Applied.is ∙ ty_applied c.in-Applied.number c.in-Applied.arguments))
    (looked_applied c.args.claims.now c.look_all.new.claims c.look_applied.new.claims c.args.bits.now (c.in-Applied.number - 1) (v.tys c.in-Applied.arguments.items) c.in_ok-found-in-Applied.found.items c.in_ok-applied-in-Applied.applied looked applied)

pub look-returns-in-Int : goal.look-returns-in-Int
look-returns-in-Int n c = subst (λ t. IsLooked c.args.claims.now c.args.claims.now c.args.bits.now t c.always.result) (sym (ap v.ty c.in-Int.is ∙ ty_int)) (looked_given c.args.claims.now c.args.bits.now c.always.result c.always.ensures)

pub look_all-returns : goal.look_all-returns
look_all-returns n c =
    looking_last c.args.claims.now c.loop-ty.claims c.args.bits.now (v.tys c.args.types.now) c.loop-ty.all.items
    (subst (λ (ts : List FieldType). Looking c.args.claims.now c.loop-ty.claims c.args.bits.now (v.tys c.args.types.now) (v.tys ts) c.loop-ty.all.items) (drop_all c.args.types.now c.loop-ty.ty-index c.loop-ty-test.false) c.loop-ty.invariant)

pub look_all-loop-ty-preserved : goal.look_all-loop-ty-preserved
look_all-loop-ty-preserved n c =
    let item = tys_read c.args.types.now c.loop-ty.ty-index c.ty-item.result c.loop-ty-test.true c.ty-item.is in
    let rest = v.tys (drop (c.loop-ty.ty-index + 1) c.args.types.now) in
    subst (Looking c.args.claims.now c.look.new.claims c.args.bits.now (v.tys c.args.types.now) rest) (sym c.in_ok-push.ensures.items)
    (looking_next c.args.claims.now c.loop-ty.claims c.look.new.claims c.args.bits.now (v.tys c.args.types.now) (v.ty c.ty-item.result) rest c.loop-ty.all.items c.in_ok-found.found (subst (λ ts. Looking c.args.claims.now c.loop-ty.claims c.args.bits.now (v.tys c.args.types.now) ts c.loop-ty.all.items) item c.loop-ty.invariant) c.in_ok-found.ensures)
