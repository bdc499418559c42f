use Rattle.std.proofs.Common.{◌∷◌, ◌∙◌, List, Option, take, sym, ap, subst}
use Rattle.value_text.specs.declared.print.Field.{Field}
use Rattle.value_text.specs.declared.print.Row.{Row}
use Rattle.value_text.specs.Printing.{Task, Whole, closes, last_first, then_field, Printing}
use Rattle.value_text.proofs.Printing.{set_first, top_first, same_row, no_fields, printing_row, printing_close}
use Rattle.value_text.proofs.Printed.{some_of, none_of}
use Rattle.value_text.proofs.print.print_row.Goals as goal

pub print_field-requires : goal.print_field-requires
print_field-requires g c = some_of c.args.last.now c.is_empty.result c.is_empty.ensures c.if-is_empty.false

pub print_close-requires-clause-tasks : goal.print_close-requires-clause-tasks
print_close-requires-clause-tasks g c =
    let ts = closes c.args.following (last_first (take c.args.top c.args.rows.now.items)) in
    c.requires.tasks ∙ ap (λ (t : Task). t ∷ ts) (no_fields c.args.last.now c.args.place (none_of c.args.last.now c.is_empty.result c.is_empty.ensures c.if-is_empty.true))

pub returns-then-is_empty-clause-prints : goal.returns-then-is_empty-clause-prints
returns-then-is_empty-clause-prints g c = λ tb whole p.
    let cs = g.C.Cells.cells c.args.cells.now in
    let out = c.args.out.now.items in
    let out' = c.print_close.new.out.items in
    let ts = closes c.args.following (last_first (take c.args.top c.args.rows.now.items)) in
    subst (λ (ts : List Task). Printing tb cs ts out' whole) (sym c.in_ok-print_close.ensures.tasks)
    (printing_close tb cs c.args.last.now c.args.place ts out out' whole (none_of c.args.last.now c.is_empty.result c.is_empty.ensures c.if-is_empty.true) c.in_ok-print_close.ensures.text
    (subst (λ (ts : List Task). Printing tb cs ts out whole) c.requires.tasks p))

pub returns-in-Some-clause-prints : goal.returns-in-Some-clause-prints
returns-in-Some-clause-prints g c = λ tb whole p.
    let cs = g.C.Cells.cells c.args.cells.now in
    let rows = c.args.rows.now.items in
    let out = c.args.out.now.items in
    let out' = c.print_field.new.out.items in
    let ts = closes c.args.following (last_first (take c.args.top rows)) in
    let row = c.index_mut.result.now in
    let next : Row = record row { types = c.in-Some.field.rest } in
    let above = last_first (take c.args.top rows) in
    let some = some_of c.args.last.now c.is_empty.result c.is_empty.ensures c.if-is_empty.false in
    subst (λ (ts : List Task). Printing tb cs (Whole c.in-Some.field.ty c.in-Some.field.word ∷ ts) out' whole) (sym (set_first rows c.args.top next c.requires.top ∙ same_row c.args.last.now row.types.now c.in-Some.field.rest.now c.args.place row.place (closes c.args.following above) (closes row.following above) some (sym c.requires.tasks ∙ top_first rows c.args.top row c.requires.top c.index_mut.ensures.value)))
    (subst (λ (o : Option Field). Printing tb cs (then_field o c.args.place ts) out' whole) c.in-Some.is
    (printing_row tb cs c.args.last.now c.args.place ts (then_field c.in_ok-field.field-0 c.args.place ts) out out' whole some
    (subst (λ (ts : List Task). Printing tb cs ts out whole) c.requires.tasks p)
    (λ tb x xs h rest pr. c.in_ok-field.ensures.prints tb x xs h rest ts pr)))

pub returns-in-None-clause-prints : goal.returns-in-None-clause-prints
returns-in-None-clause-prints g c = λ tb whole p.
    let cs = g.C.Cells.cells c.args.cells.now in
    let rows = c.args.rows.now.items in
    let out = c.args.out.now.items in
    let out' = c.print_field.new.out.items in
    let ts = closes c.args.following (last_first (take c.args.top rows)) in
    let some = some_of c.args.last.now c.is_empty.result c.is_empty.ensures c.if-is_empty.false in
    subst (λ (ts : List Task). Printing tb cs ts out' whole) (sym c.close.ensures.tasks)
    (subst (λ (o : Option Field). Printing tb cs (then_field o c.args.place ts) out' whole) c.in-None.is
    (printing_row tb cs c.args.last.now c.args.place ts (then_field c.in_ok-field.field-0 c.args.place ts) out out' whole some
    (subst (λ (ts : List Task). Printing tb cs ts out whole) c.requires.tasks p)
    (λ tb x xs h rest pr. c.in_ok-field.ensures.prints tb x xs h rest ts pr)))
