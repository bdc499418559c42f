use Rattle.std.proofs.Common.{◌≡◌, drop, ◌++◌}
use Rattle.lower_frame.specs.Frames.{kinds_reported}
use Rattle.lower_frame.proofs.frame.kinds_of.Given as goal

abbrev pub invariant-loop-held : goal.invariant-loop-held
invariant-loop-held l = l.kinds.items ++ kinds_reported l.types (drop l.held-index l.helds) ≡ kinds_reported l.types l.helds
