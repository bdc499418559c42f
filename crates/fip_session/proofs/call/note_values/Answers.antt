use Rattle.std.proofs.Common.{arith}
use Rattle.fip_machine.specs.machine_cells.Small.{store_of}
use Rattle.fip_session.proofs.Noting.{notes_start, notes_at, notes_over}
use Rattle.fip_session.proofs.call.note_values.Goals as goal

pub loop-value-preserved : goal.loop-value-preserved
loop-value-preserved c = λ small xs standing apart.
    let cells = c.args.cells.now in
    notes_at c.args.book.now.table.now cells.cells xs c.args.trees.now.list.items c.loop-value.trees.list.items c.add.new.self.list.items c.args.values.now c.loop-value.value-index _ (store_of cells.cells cells.released) c.in_ok-add.field-0 c.loop-value-test.true small apart (c.loop-value.invariant small xs standing apart) (c.in_ok-add.ensures.all (omega (arith, small))) (c.in_ok-add.ensures.many (omega (arith, small)))

pub returns : goal.returns
returns c = record {
  noted = λ small xs standing apart q.
      let ge = c.loop-value-test.false in
      notes_over c.args.book.now.table.now c.args.cells.now.cells xs c.args.trees.now.list.items c.loop-value.trees.list.items c.args.values.now c.loop-value.value-index q (omega (arith, ge)) (c.loop-value.invariant small xs standing apart);
}
