use Rattle.std.proofs.Common.{Option, List, ap, sym, subst, ◌∙◌, [], ◌∷◌, ◌++◌}
use Rattle.fip_language.specs.Store.{values_of}
use Rattle.value_text.specs.declared.print.Field.{Field}
use Rattle.value_text.specs.Printing.{Task, Whole, last_first, then_field, printed_tail, Prints}
use Rattle.value_text.proofs.Fields.{tag_is}
use Rattle.value_text.proofs.Printed.{some_of, none_of, bare_goes, node_goes}
use Rattle.value_text.proofs.print.print_cell.Goals as goal

pub returns-then-is_empty-clause-prints : goal.returns-then-is_empty-clause-prints
returns-then-is_empty-clause-prints g c =
    let cs = g.C.Cells.cells c.args.cells.now in
    bare_goes c.args.table.now cs c.args.ty c.args.place c.cell_tag-tag.result c.in-Some.constructor.now c.fields-types.result.now (last_first c.args.rows.now.items) c.args.out.now.items c.put_name.new.out.items (λ x e. tag_is cs c.args.place c.cell_tag-tag.result x e c.cell_tag-tag.ensures) c.in-Some.ensures.some c.fields-types.ensures.same (none_of c.fields-types.result.now c.is_empty.result c.is_empty.ensures c.if-is_empty.true) (c.in_ok-put_name.ensures.items ∙ ap (λ x. c.args.out.now.items ++ x) c.name.ensures.same)

pub returns-in-None-clause-prints : goal.returns-in-None-clause-prints
returns-in-None-clause-prints g c =
    let cs = g.C.Cells.cells c.args.cells.now in
    let ts = last_first c.args.rows.now.items in
    let types = c.fields-types.result.now in
    node_goes c.args.table.now cs c.args.ty c.args.place c.cell_tag-tag.result c.in-Some.constructor.now types ts ts c.args.out.now.items c.push.new.items.items (λ x e. tag_is cs c.args.place c.cell_tag-tag.result x e c.cell_tag-tag.ensures) c.in-Some.ensures.some c.fields-types.ensures.same (some_of types c.is_empty.result c.is_empty.ensures c.if-is_empty.false) (c.in_ok-push.ensures.items ∙ ap (λ x. x ++ 40 ∷ []) (c.in_ok-put_name.ensures.items ∙ ap (λ x. c.args.out.now.items ++ x) c.name.ensures.same))
    (λ tb x xs l h rest pr. subst (λ (o : Option Field). Prints tb cs (then_field o c.args.place ts) (printed_tail tb types (values_of xs) rest)) c.in-None.is (c.first_field.ensures tb x xs l h rest ts pr))

pub returns-in_ok-add-in-Some-first_field-clause-prints : goal.returns-in_ok-add-in-Some-first_field-clause-prints
returns-in_ok-add-in-Some-first_field-clause-prints g c =
    let cs = g.C.Cells.cells c.args.cells.now in
    let ts = last_first c.args.rows.now.items in
    let types = c.fields-types.result.now in
    let f = c.in-Some-first_field.field in
    node_goes c.args.table.now cs c.args.ty c.args.place c.cell_tag-tag.result c.in-Some.constructor.now types ts (Whole f.ty f.word ∷ last_first c.add.new.rows.items) c.args.out.now.items c.push.new.items.items (λ x e. tag_is cs c.args.place c.cell_tag-tag.result x e c.cell_tag-tag.ensures) c.in-Some.ensures.some c.fields-types.ensures.same (some_of types c.is_empty.result c.is_empty.ensures c.if-is_empty.false) (c.in_ok-push.ensures.items ∙ ap (λ x. x ++ 40 ∷ []) (c.in_ok-put_name.ensures.items ∙ ap (λ x. c.args.out.now.items ++ x) c.name.ensures.same))
    (λ tb x xs l h rest pr. subst (λ (us : List Task). Prints tb cs (Whole f.ty f.word ∷ us) (printed_tail tb types (values_of xs) rest)) (sym c.in_ok-add-in-Some-first_field.ensures.added)
    (subst (λ (o : Option Field). Prints tb cs (then_field o c.args.place ts) (printed_tail tb types (values_of xs) rest)) c.in-Some-first_field.is (c.first_field.ensures tb x xs l h rest ts pr)))
