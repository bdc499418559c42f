use Rattle.std.proofs.Common.{drop, subst, sym, ap, refl, ◌∙◌, ◌+◌, ◌++◌, List}
use Rattle.data_types.specs.View as v
use Rattle.fip_trees.specs.declared.decls.FieldType.{FieldType}
use Rattle.data_types.proofs.Looks.{tys_read, drop_all}
use Rattle.data_types.proofs.Extending.{Trying, trying_next, trying_last}
use Rattle.data_types.proofs.marking.try_fields.Goals as goal

pub loop-ty-preserved : goal.loop-ty-preserved
loop-ty-preserved c =
    let all = v.tys c.args.fields.now in
    let bits = c.args.bits.now in
    let item = tys_read c.args.fields.now c.loop-ty.ty-index c.ty-item.result c.loop-ty-test.true c.ty-item.is in
    let rest = v.tys (drop (c.loop-ty.ty-index + 1) c.args.fields.now) in
    let needs = c.in_ok-extend_from_slice.ensures.items ∙ ap (λ ks. c.loop-ty.needs.items ++ ks) c.deref.ensures.value in
    subst (Trying c.args.claims.now c.look.new.claims bits all rest) (sym needs)
    (trying_next c.args.claims.now c.loop-ty.claims c.look.new.claims bits all (v.ty c.ty-item.result) rest c.loop-ty.needs.items c.in_ok-found.found (subst (λ ts. Trying c.args.claims.now c.loop-ty.claims bits all ts c.loop-ty.needs.items) item c.loop-ty.invariant) c.in_ok-found.ensures c.if-not-found.false)

pub returns : goal.returns
returns c =
    let all = v.tys c.args.fields.now in
    trying_last c.args.claims.now c.loop-ty.claims c.args.bits.now all c.loop-ty.needs.items _
    (subst (λ (ts : List FieldType). Trying c.args.claims.now c.loop-ty.claims c.args.bits.now all (v.tys ts) c.loop-ty.needs.items) (drop_all c.args.fields.now c.loop-ty.ty-index c.loop-ty-test.false) c.loop-ty.invariant) refl refl
