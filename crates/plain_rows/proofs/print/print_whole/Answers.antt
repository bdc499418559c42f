use Rattle.plain_rows.specs.Printing.{last_first}
use Rattle.plain_rows.proofs.Printed.{bare_result}
use Rattle.plain_rows.proofs.print.print_whole.Goals as goal

pub returns-in-Bare-clause-prints : goal.returns-in-Bare-clause-prints
returns-in-Bare-clause-prints c = bare_result c.args.table.now c.args.store.now c.args.ty c.in-Bare.tag c.args.value (last_first c.args.tasks.now.items) c.args.out.now.items c.print_bare.new.out.items c.print_bare.result c.in-Bare.is c.print_bare.ensures.text
