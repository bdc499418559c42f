use Rattle.value_text.specs.Printing.{then_field}
use Rattle.value_text.proofs.Printing.{more_prints}
use Rattle.value_text.proofs.print.print_field.Goals as goal

pub returns-clause-prints : goal.returns-clause-prints
returns-clause-prints g c = λ tb x xs h rest ts pr.
    more_prints tb (g.C.Cells.cells c.args.cells.now) c.args.types.now c.args.place x xs (then_field c.first_field.result c.args.place ts) c.args.out.now.items c.put.new.out.items rest c.requires h (c.first_field.ensures tb x xs c.requires h rest ts pr) c.in_ok-put.ensures.items
