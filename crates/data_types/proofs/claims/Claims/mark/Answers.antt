use Rattle.std.proofs.Common.{◌∙◌, ap, slice_set, true}
use Rattle.data_types.specs.ClaimView.{claims}
use Rattle.data_types.specs.Marks.{State, known, with_mark}
use Rattle.data_types.proofs.Sets.{state, claims_set}
use Rattle.data_types.proofs.claims.Claims.mark.Goals as goal

pub returns : goal.returns
returns c =
    let set = slice_set (claims c.self.inside.claims.items) c.args.place (known c.args.ty c.args.arguments.items) in
    ap (λ cs. state cs c.push.new.self.items) (claims_set c.self.inside.claims.items c.args.place (record { ty = c.args.ty; arguments = c.args.arguments; is_marked = true }))
    ∙ ap (state set) c.in_ok-push.ensures.items
    ∙ ap (λ (s : State). with_mark s c.args.place c.args.ty c.args.arguments.items) c.self.view_is
