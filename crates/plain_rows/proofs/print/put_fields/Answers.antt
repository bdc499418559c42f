use Rattle.std.proofs.Common.{ap, ◌∙◌, List, ◌∷◌}
use Rattle.plain_rows.specs.declared.print.Task.{Task}
use Rattle.plain_rows.specs.declared.print.Task.TheVariants as T
use Rattle.plain_rows.specs.Printing.{last_first}
use Rattle.plain_rows.proofs.Printed.{last_push, tail_prints}
use Rattle.plain_rows.proofs.print.put_fields.Goals as goal

pub returns-in_ok-push-in-Some-Some-2-clause-prints : goal.returns-in_ok-push-in-Some-Some-2-clause-prints
returns-in_ok-push-in-Some-Some-2-clause-prints c = λ tb s following vs rest l h a p.
    let m = c.in-Some-Some in
    tail_prints tb s following c.args.types.now c.args.values.now _ m.types _ m.values vs rest (last_first c.args.tasks.now.items) _ m.ensures.some m.ensures'.some (ap last_first c.in_ok-push-in-Some-Some-2.ensures.items ∙ last_push _ _ ∙ ap (λ (ts : List Task). T.Whole m.ty m.value ∷ ts) (ap last_first c.in_ok-push-in-Some-Some.ensures.items ∙ last_push _ _)) h a p
