use Rattle.fip_language.specs.PrintedText.{printed_lines}
use Rattle.fip_language.specs.Store.{Parts, values_of, words_of}
use Rattle.fip_machine.specs.machine_cells.Small.{IsSmall}
use Rattle.std.proofs.Common.{◌≡◌}
use Rattle.value_text.specs.Standing.{StandAll}
use Rattle.fip_host.proofs.Lines.{IsPrinting}
use Rattle.fip_host.proofs.hosted.values.lines_text.Given as goal

abbrev pub invariant-loop-ty : goal.invariant-loop-ty
invariant-loop-ty l = (xs : Parts) → IsSmall l.cells.cells → StandAll l.table l.cells.cells l.types xs → l.words ≡ words_of xs → IsPrinting l.table l.cells.cells l.ty-iterator.a.rest.now l.ty-iterator.b.rest.now l.text.items (printed_lines l.table l.types (values_of xs))
