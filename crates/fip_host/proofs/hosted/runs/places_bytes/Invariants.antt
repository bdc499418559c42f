-- The lists of the sizes so far are counted.
use Rattle.std.proofs.Common.{◌≡◌}
use Rattle.fip_host.specs.Needing.{capped, places_bytes}
use Rattle.fip_host.proofs.hosted.runs.places_bytes.Given as goal

abbrev pub invariant-loop-size : goal.invariant-loop-size
invariant-loop-size l = l.bytes ≡ capped (places_bytes l.size l.words)
