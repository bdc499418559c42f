use Rattle.std.proofs.Common.{◌≡◌, take}
use Rattle.code_rows.proofs.alike.are_all_alike.Given as goal

abbrev pub invariant-loop-i : goal.invariant-loop-i
invariant-loop-i l = take l.i l.kinds ≡ take l.i l.others
