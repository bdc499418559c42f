use Rattle.std.proofs.Common.{None, ◌≡◌, ◌∙◌, sym, ap}
use Rattle.fip_trees.specs.Least.{after}
use Rattle.match_cover.specs.Shapes.{shape_faults}
use Rattle.match_cover.proofs.CoverSteps.{shapes_accepted, shapes_refused}
use Rattle.match_cover.proofs.coverage.check_shapes.Goals as goal

pub returns-in-None-clause-accepts : goal.returns-in-None-clause-accepts
returns-in-None-clause-accepts c =
    let noted : c.note_all_shapes.new.out ≡ after None (shape_faults 0 c.args.typed.now.program.instances.items) =
    c.in-Ok.ensures ∙ ap (λ o. after o (shape_faults 0 c.deref.result.now)) c.new-out.ensures.none ∙ ap (λ z. after None (shape_faults 0 z)) c.deref.ensures.value in
    shapes_accepted c.args.typed.now.program.instances.items c.note_all_shapes.new.out noted (sym c.into_refusal.ensures.least ∙ c.in-None.is)

pub returns-in-Some-clause-least : goal.returns-in-Some-clause-least
returns-in-Some-clause-least c =
    let noted : c.note_all_shapes.new.out ≡ after None (shape_faults 0 c.args.typed.now.program.instances.items) =
    c.in-Ok.ensures ∙ ap (λ o. after o (shape_faults 0 c.deref.result.now)) c.new-out.ensures.none ∙ ap (λ z. after None (shape_faults 0 z)) c.deref.ensures.value in
    shapes_refused c.args.typed.now.program.instances.items c.note_all_shapes.new.out c.in-Some.refusal noted (sym c.into_refusal.ensures.least ∙ c.in-Some.is)
