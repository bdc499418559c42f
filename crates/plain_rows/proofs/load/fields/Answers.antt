use Rattle.std.proofs.Common.{ap, ◌∙◌, List, ◌∷◌}
use Rattle.plain_rows.specs.declared.load.Task.{Task}
use Rattle.plain_rows.specs.declared.load.Task.TheVariants as T
use Rattle.plain_rows.specs.Loading.{last_first}
use Rattle.plain_rows.proofs.Loaded.{last_push, on_ok, no_field, fields_go_on}
use Rattle.plain_rows.proofs.load.fields.Goals as goal

pub returns-in-None-clause-loads : goal.returns-in-None-clause-loads
returns-in-None-clause-loads c = on_ok c.end.result (λ f tb whole. f tb c.args.types (last_first c.args.tasks.now.items) whole c.in-None.ensures.none) c.end.ensures.loads

pub returns-in-None-field_from_end-clause-loads : goal.returns-in-None-field_from_end-clause-loads
returns-in-None-field_from_end-clause-loads c = on_ok c.add.result (λ f tb whole h. absurd (no_field tb c.args.cells.now.cells c.args.types c.in-Some.ty c.in-Some.rest.now c.args.place (last_first c.args.tasks.now.items) c.args.rows.now whole c.in-Some.ensures.some c.in-None-field_from_end.ensures h)) c.add.ensures.values

pub returns-in_ok-push-in-Some-field_from_end-2-clause-loads : goal.returns-in_ok-push-in-Some-field_from_end-2-clause-loads
returns-in_ok-push-in-Some-field_from_end-2-clause-loads c = λ tb whole h.
    let w = c.in-Some-field_from_end.word in
    let ty = c.in-Some.ty in
    fields_go_on tb c.args.cells.now.cells c.args.types ty c.in-Some.rest c.args.place w (last_first c.args.tasks.now.items) _ c.args.rows.now whole c.in-Some.ensures.some c.in-Some-field_from_end.ensures
    (ap last_first c.in_ok-push-in-Some-field_from_end-2.ensures.items ∙ last_push _ _ ∙ ap (λ (ts : List Task). T.Whole ty w ∷ ts) (ap last_first c.in_ok-push-in-Some-field_from_end.ensures.items ∙ last_push _ _)) h
