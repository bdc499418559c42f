use Rattle.fip_language.specs.PrintedText.{printed_lines}
use Rattle.fip_language.specs.Values.{Values}
use Rattle.fip_machine.specs.machine_cells.Small.{IsSmall}
use Rattle.command_eval.specs.machine_correctness.Meant.{ArePrintable}
use Rattle.command_run.proofs.Lines.{IsPrinting}
use Rattle.command_run.proofs.printing.values_text.Given as goal

abbrev pub invariant-loop-ty : goal.invariant-loop-ty
invariant-loop-ty l = (vs : Values) → IsSmall l.cells.cells → ArePrintable l.table l.cells.cells l.types l.words vs → IsPrinting l.table l.cells.cells l.ty-iterator.a.rest.now l.ty-iterator.b.rest.now l.text.items (printed_lines l.table l.types vs)
