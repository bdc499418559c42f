use Rattle.std.proofs.Common.{◌≡◌, Some}
use Rattle.fip_language.specs.Table.{Table}
use Rattle.fip_language.specs.Character.{Blank}
use Rattle.value_text.specs.Machine.{State, act}
use Rattle.value_text.specs.Scan.{runs}
use Rattle.value_text.proofs.scan.skip_all_blanks.Given as goal

abbrev pub invariant-loop-i : goal.invariant-loop-i
invariant-loop-i l = (tb : Table) (s : State) → act tb s Blank ≡ Some s → runs tb l.bytes s l.at ≡ runs tb l.bytes s l.i
