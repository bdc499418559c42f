use Rattle.std.proofs.Common.{subst}
use Rattle.data_types.specs.View as v
use Rattle.data_types.specs.Marks.{HasAll, asked}
use Rattle.data_types.specs.Steps.{AreTried}
use Rattle.data_types.proofs.Values.{claim_holds}
use Rattle.data_types.proofs.Extending.{sound_before}
use Rattle.data_types.proofs.Stepping.{goes_extends, goes_step, step_listed, done_blocked, claim_there}
use Rattle.data_types.proofs.marking.visit.Goals as goal

pub settle-requires : goal.settle-requires
settle-requires c =
    let here = claim_there c.args.claims.now c.args.waiter.place c.in_ok-claim.field-0 c.in-Some.claim c.in_ok-claim.ensures c.in-Some.is in
    record { asked = (c.in-Some.claim.arguments.items, c.in_ok-found.ensures.extends.kept c.args.waiter.place (asked c.in-Some.claim.ty c.in-Some.claim.arguments.items) here) }

pub returns-then-found-clause-step : goal.returns-then-found-clause-step
returns-then-found-clause-step c =
    let ds = v.declarations c.args.declared.now in
    let a = c.args.claims.now in
    let b = c.try_fields.new.claims in
    let tried = c.in_ok-found.ensures in
    let all = subst (HasAll c.in_ok-arguments.arguments.items) c.deref.ensures.value c.in_ok-arguments.ensures in
    goes_step ds a b c.settle.new.self (goes_extends ds a b tried.extends)
    (c.in_ok-settle.ensures ds (λ sound. claim_holds ds c.in-Some.claim.ty c.args.waiter.number (v.tys c.in-Some-fields_of.fields.now) c.in_ok-found.found.needs.items c.in_ok-arguments.arguments.items c.in-Some-fields_of.ensures (tried.suffice c.if-found.true ds (sound_before ds a b tried.extends sound)) all))

pub returns-clause-step : goal.returns-clause-step
returns-clause-step c =
    step_listed (v.declarations c.args.declared.now) c.args.claims.now c.try_fields.new.claims c.differ-listed.result c.count.result c.count-before.result c.in_ok-found.ensures.extends c.count.ensures.count c.count-before.ensures.count c.differ-listed.ensures.same c.differ-listed.ensures.not_same

pub returns-clause-done : goal.returns-clause-done
returns-clause-done c = λ e.
    (let here = claim_there c.args.claims.now c.args.waiter.place c.in_ok-claim.field-0 c.in-Some.claim c.in_ok-claim.ensures c.in-Some.is in
    let tried = subst (λ bs. AreTried c.args.claims.now c.try_fields.new.claims bs (v.tys c.in-Some-fields_of.fields.now) c.in_ok-found.found) c.as_slice.ensures.value c.in_ok-found.ensures in
    done_blocked (v.declarations c.args.declared.now) c.try_fields.new.claims c.args.waiter.place c.args.waiter.number c.in-Some.claim.ty c.in-Some.claim.arguments.items (v.tys c.in-Some-fields_of.fields.now) (tried.extends.kept c.args.waiter.place (asked c.in-Some.claim.ty c.in-Some.claim.arguments.items) here) c.in-Some-fields_of.ensures (tried.blocked c.if-found.false))
