use Rattle.std.proofs.Common.{◌≡◌, take}
use Rattle.value_text.proofs.scan.all_alike.Given as goal

abbrev pub invariant-loop-i : goal.invariant-loop-i
invariant-loop-i l = take l.i l.text ≡ take l.i l.other
