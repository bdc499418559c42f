-- The greatest so far and the greatest of those left give the greatest.
use Rattle.std.proofs.Common.{◌≡◌, ◌≤◌, drop}
use Rattle.std.specs.Prelude.{max}
use Rattle.fip_host.specs.Needing.{largest_frame}
use Rattle.fip_host.proofs.hosted.runs.largest_frame.Given as goal

abbrev pub invariant-loop-function : goal.invariant-loop-function
invariant-loop-function l = record {
  most : max l.largest (largest_frame (drop l.function-index l.functions)) ≡ largest_frame l.functions;
  low : 2 ≤ l.largest;
}
