use Rattle.std.proofs.Common.{◌∙◌, refl, arith}
use Rattle.fip_machine.specs.machine_cells.Small.{store_of}
use Rattle.fip_session.proofs.GivingUp.{releasing_starts, releasing_at, releasing_over}
use Rattle.fip_session.proofs.call.release_lent.Goals as goal

pub loop-value-init : goal.loop-value-init
loop-value-init c = record {
  cells = refl;
  up = λ small st xs standing apart. releasing_starts c.args.book.now.table.now c.args.values.now xs (store_of c.args.cells.now.cells c.args.cells.now.released) standing;
}

pub loop-value-preserved : goal.loop-value-preserved
loop-value-preserved c = record {
  cells = c.in_ok-release_value.ensures.cells ∙ c.loop-value.invariant.cells;
  up = λ small st xs standing apart.
      releasing_at c.args.book.now.table.now c.args.values.now xs (store_of c.args.cells.now.cells c.args.cells.now.released) (store_of c.loop-value.cells.cells c.loop-value.cells.released) (store_of c.release_value.new.cells.cells c.release_value.new.cells.released) c.loop-value.value-index _ c.loop-value-test.true small st apart (c.loop-value.invariant.up small st xs standing apart) c.in_ok-release_value.ensures.gone;
}

pub returns-clause-gone : goal.returns-clause-gone
returns-clause-gone c = λ small st xs standing apart.
    let ge = c.loop-value-test.false in
    releasing_over c.args.book.now.table.now c.args.values.now xs (store_of c.args.cells.now.cells c.args.cells.now.released) (store_of c.loop-value.cells.cells c.loop-value.cells.released) c.loop-value.value-index (omega (arith, ge)) (c.loop-value.invariant.up small st xs standing apart)
