use Rattle.std.proofs.Common.{◌≡◌, ◌++◌, map, drop}
use Rattle.tail_groups.specs.Found.{frame_by}
use Rattle.tail_groups.proofs.check.frames_of.Given as goal

abbrev pub invariant-loop-count : goal.invariant-loop-count
invariant-loop-count l =
    l.frames.items ++ map frame_by (drop l.count-index l.counts) ≡ map frame_by l.counts
