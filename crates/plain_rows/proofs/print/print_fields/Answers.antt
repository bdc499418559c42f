use Rattle.plain_rows.specs.Printing.{last_first}
use Rattle.plain_rows.proofs.Printed.{more_prints}
use Rattle.plain_rows.proofs.print.print_fields.Goals as goal

pub returns-clause-prints : goal.returns-clause-prints
returns-clause-prints c = more_prints c.args.types.now c.args.values.now c.is_empty.result (last_first c.args.tasks.now.items) (last_first c.put_fields.new.tasks.items) c.args.out.now.items c.push-2.new.self.items c.push-3.new.self.items c.put_fields.result c.is_empty.ensures c.if-is_empty.false c.in_ok-push-2.ensures.items c.in_ok-push-3.ensures.items c.put_fields.ensures.prints
