use Rattle.std.proofs.Common.{◌≡◌}
use Rattle.fip_language.specs.Values.{Values}
use Rattle.fip_language.specs.Table.{Table}
use Rattle.value_text.specs.Machine.{Over}
use Rattle.value_text.specs.Scan.{runs}
use Rattle.value_text.proofs.scan.end_of_text.Given as goal

abbrev pub invariant-loop-i : goal.invariant-loop-i
invariant-loop-i l = (tb : Table) (vs : Values) → runs tb l.bytes (Over vs) l.at ≡ runs tb l.bytes (Over vs) l.i
