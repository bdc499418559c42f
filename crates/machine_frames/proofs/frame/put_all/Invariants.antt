-- The words so far were read.
use Rattle.std.proofs.Common.{◌≡◌, ℕ, ◌+◌, ◌<◌, get_or, length}
use Rattle.fip_language.specs.declared.limits.TheConstants.{MOST_FIELDS}
use Rattle.machine_frames.proofs.frame.put_all.Given as goal

abbrev pub invariant-loop-i : goal.invariant-loop-i
invariant-loop-i g l = record {
  long : length l.fields ≡ MOST_FIELDS;
  read : (j : ℕ) → j < l.i → get_or l.fields j 0 ≡ get_or l.words (l.base + get_or l.registers j 0) 0;
}
