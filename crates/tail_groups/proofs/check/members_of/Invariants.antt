use Rattle.std.proofs.Common.{◌≡◌, ◌++◌, drop}
use Rattle.tail_groups.specs.Found.{members_from}
use Rattle.tail_groups.proofs.check.members_of.Given as goal

abbrev pub invariant-loop-count : goal.invariant-loop-count
invariant-loop-count l = record {
  number : l.number ≡ l.count-index;
  rest : l.members.items ++ members_from l.partition l.stacks l.number (drop l.count-index l.counts) ≡ members_from l.partition l.stacks 0 l.counts;
}
