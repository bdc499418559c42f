use Rattle.std.proofs.Common.{◌≡◌, ◌<◌, ℕ, length, map, get_or, None}
use Rattle.cell_code.specs.Plain.{plain_label}
use Rattle.code_rows.specs.Numbering.{IsNumberFrom}
use Rattle.code_rows.proofs.labels.numbers_of.Given as goal

abbrev pub invariant-loop-number : goal.invariant-loop-number
invariant-loop-number l = record {
  long : length l.numbers.items ≡ l.count;
  are : (i : ℕ) → i < length l.numbers.items → IsNumberFrom (map plain_label l.labels) l.number i (get_or l.numbers.items i None);
}
