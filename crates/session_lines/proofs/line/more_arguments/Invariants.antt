use Rattle.std.proofs.Common.{◌≡◌, ◌-◌, length}
use Rattle.session_lines.specs.Scanned.{left}
use Rattle.session_lines.proofs.Reading.{Giving}
use Rattle.session_lines.proofs.line.more_arguments.Given as goal

-- the arguments so far were read
abbrev pub invariant-loop-scanner : goal.invariant-loop-scanner
invariant-loop-scanner l = record {
  bytes : l.scanner.bytes.now ≡ l.fn.scanner.bytes.now;
  read : Giving l.fn.scanner.bytes.now (left l.fn.scanner) (left l.scanner) l.fn.list.items l.list.items;
}

abbrev pub decreases-loop-scanner : goal.decreases-loop-scanner
decreases-loop-scanner l = length l.scanner.bytes.now - l.scanner.at
