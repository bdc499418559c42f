use Rattle.std.proofs.Common.{◌≡◌, ◌≤◌}
use Rattle.fip_language.specs.Table.{Table}
use Rattle.fip_language.specs.ValueText.{bound}
use Rattle.value_text.specs.Machine.{Around, Number}
use Rattle.value_text.specs.Scan.{runs}
use Rattle.value_text.proofs.scan.last_digits.Given as goal

abbrev pub invariant-loop-i : goal.invariant-loop-i
invariant-loop-i l = record {
  range : l.n ≤ bound l.negative;
  reads : (tb : Table) (around : Around) → runs tb l.bytes (Number l.negative l.initial.n around) l.at ≡ runs tb l.bytes (Number l.negative l.n around) l.i;
}
