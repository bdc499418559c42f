use Rattle.std.proofs.Common.{ap, ◌∙◌, ◌++◌}
use Rattle.plain_rows.specs.Printing.{last_first}
use Rattle.plain_rows.proofs.Printed.{row_prints, no_row, no_shape}
use Rattle.plain_rows.proofs.print.print_row.Goals as goal

pub returns-in_default-clause-prints : goal.returns-in_default-clause-prints
returns-in_default-clause-prints c = λ following v rest t a p. absurd (no_row c.args.store.now c.args.row v c.in_default.ensures.tag a)

pub returns-in_default-constructor_at-clause-prints : goal.returns-in_default-constructor_at-clause-prints
returns-in_default-constructor_at-clause-prints c = λ following v rest t a p. absurd (no_shape c.args.table.now c.args.store.now c.args.ty c.args.row c.in-Some.tag v c.in-Some.ensures.tag c.in_default-constructor_at.ensures.none t a)

pub returns-clause-prints : goal.returns-clause-prints
returns-clause-prints c = row_prints c.args.table.now c.args.store.now c.args.ty c.args.row (last_first c.args.tasks.now.items) (last_first c.put_fields.new.tasks.items) c.in-Some.tag c.in-Some-constructor_at.constructor.now c.fields.result.now c.fields-2.result.now c.args.out.now.items c.extend_from_slice.new.self.items c.push.new.self.items c.put_fields.result c.in-Some.ensures.tag c.in-Some-constructor_at.ensures.some c.fields.ensures.same c.fields-2.ensures.fields (c.in_ok-extend_from_slice.ensures.items ∙ ap (λ x. c.args.out.now.items ++ x) c.name.ensures.same) c.in_ok-push.ensures.items c.put_fields.ensures.prints
