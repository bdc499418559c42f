use Rattle.std.proofs.Common.{◌≡◌, ◌+◌, ◌++◌, ℕ, List}
use Rattle.command_run.specs.GaugeText.{size_lines}
use Rattle.command_run.specs.Starting.{high_of, low_of}
use Rattle.command_run.proofs.printing.put_gauge.Given as goal

abbrev pub invariant-loop-smaller : goal.invariant-loop-smaller
invariant-loop-smaller l = (n : ℕ) (rest : List ℕ) → l.smaller + n ≡ 16 → l.text.items ++ size_lines (low_of l.gauge) (high_of l.gauge) n rest ≡ l.fn.text.items ++ size_lines (low_of l.gauge) (high_of l.gauge) 16 rest
