use Rattle.std.proofs.Common.{sym, ap, ◌∙◌, ◌∷◌, List}
use Rattle.value_text.specs.declared.print.Row.{Row}
use Rattle.value_text.specs.Printing.{Task, fields_of}
use Rattle.value_text.proofs.Printing.{set_first}
use Rattle.value_text.proofs.print.add.Goals as goal

pub returns-in-Some-clause-added : goal.returns-in-Some-clause-added
returns-in-Some-clause-added c =
    let next : Row = record { types = c.args.types; place = c.args.place; following = c.in-Some.following } in
    set_first c.args.rows.now.items c.in-Some.top next c.in-Some.ensures.0 ∙ ap (λ (ts : List Task). fields_of c.args.types.now c.args.place ∷ ts) (sym c.in-Some.ensures.1)
