use Rattle.std.proofs.Common.{◌≡◌, take, true}
use Rattle.value_text.specs.Scan.{begins_bytes}
use Rattle.value_text.proofs.scan.common.Given as goal

abbrev pub invariant-loop-i : goal.invariant-loop-i
invariant-loop-i l = begins_bytes (take l.i l.text) l.other ≡ true
