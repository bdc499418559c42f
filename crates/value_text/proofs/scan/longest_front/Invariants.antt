use Rattle.std.proofs.Common.{take}
use Rattle.value_text.specs.Scan.{IsLongest}
use Rattle.value_text.proofs.scan.longest_front.Given as goal

abbrev pub invariant-loop-c : goal.invariant-loop-c
invariant-loop-c l = IsLongest l.text (take l.c-index l.constructors) l.longest
