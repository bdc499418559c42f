use Rattle.std.proofs.Common.{◌≡◌, ◌-◌, length}
use Rattle.session_lines.specs.Scanned.{left}
use Rattle.session_lines.specs.Said.{names_of}
use Rattle.session_lines.proofs.Reading.{Naming}
use Rattle.session_lines.proofs.line.more_results.Given as goal

-- the names so far were read
abbrev pub invariant-loop-scanner : goal.invariant-loop-scanner
invariant-loop-scanner l = record {
  bytes : l.scanner.bytes.now ≡ l.fn.scanner.bytes.now;
  read : Naming (left l.fn.scanner) (left l.scanner) (names_of l.fn.names.items) (names_of l.names.items);
}

abbrev pub decreases-loop-scanner : goal.decreases-loop-scanner
decreases-loop-scanner l = length l.scanner.bytes.now - l.scanner.at
