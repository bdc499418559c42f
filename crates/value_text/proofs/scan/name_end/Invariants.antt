use Rattle.std.proofs.Common.{◌≡◌, ◌-◌, take, drop, true}
use Rattle.fip_language.specs.Character.{are_name_bytes}
use Rattle.value_text.proofs.scan.name_end.Given as goal

abbrev pub invariant-loop-i : goal.invariant-loop-i
invariant-loop-i l = are_name_bytes (take (l.i - l.at) (drop l.at l.bytes)) ≡ true
