use Rattle.std.proofs.Common.{◌<◌, ◌≤◌, ◌-◌, ◌^◌, length, All}
use Rattle.session_lines.specs.Named.{AreEntries}
use Rattle.session_values.specs.Readable.{IsReadable}
use Rattle.task_lines.proofs.Listing.{IsListed}
use Rattle.task_lines.proofs.list.tasks_of.Given as goal

-- the lines so far are calls, no more than may be
abbrev pub invariant-loop-at : goal.invariant-loop-at
invariant-loop-at l = record {
  there : All (λ t. t.entry < length l.code.functions.items) l.lines.items;
  few : length l.lines.items ≤ 1000;
  listed : IsReadable l.code → AreEntries l.code.functions.items l.entries.numbers → length l.input ≤ 2 ^ 63 → IsListed l.code l.input l.at l.lines.items l.counts;
}

abbrev pub decreases-loop-at : goal.decreases-loop-at
decreases-loop-at l = length l.input - l.at
