use Rattle.std.proofs.Common.{◌≡◌, drop}
use Rattle.cell_code.specs.Plain.{plain_function}
use Rattle.code_rows.specs.Numbering.{are_good_labels}
use Rattle.code_rows.proofs.form.are_labels.Given as goal

abbrev pub invariant-loop-label : goal.invariant-loop-label
invariant-loop-label l = are_good_labels l.table (plain_function l.function) l.low (drop l.label-index l.function.labels.items) ≡ are_good_labels l.table (plain_function l.function) 0 l.function.labels.items
