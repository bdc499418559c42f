use Rattle.std.proofs.Common.{◌≡◌, ◌-◌, ◌^◌, ◌<◌}
use Rattle.fip_language.specs.Table.{Table}
use Rattle.value_text.specs.Machine.{Around, Number}
use Rattle.value_text.specs.Scan.{runs, before_digits}
use Rattle.value_text.proofs.scan.digits.Given as goal

abbrev pub invariant-loop-i : goal.invariant-loop-i
invariant-loop-i l = record {
  small : l.n < 10 ^ (l.i - l.at);
  reads : (tb : Table) (around : Around) → runs tb l.bytes (before_digits l.negative around) l.at ≡ runs tb l.bytes (Number l.negative l.n around) l.i;
}
