use Rattle.std.proofs.Common.{◌≤◌, ◌+◌}
use Rattle.derivation_check.proofs.Owning.{NumberedAt}
use Rattle.derivation_check.proofs.binders.+numbered.Given as goal

abbrev pub invariant-all_numbered-loop-pattern : goal.invariant-all_numbered-loop-pattern
invariant-all_numbered-loop-pattern l = record {
  room : l.next + l.count ≤ 4294967296;
  numbered : NumberedAt l.core l.next l.count l.patterns l.pattern-index;
}
