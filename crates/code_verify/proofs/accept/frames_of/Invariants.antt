use Rattle.std.proofs.Common.{◌≡◌, ◌++◌, drop, map}
use Rattle.code_verify.specs.Surveying.{frame_of}
use Rattle.code_verify.proofs.accept.frames_of.Given as goal

abbrev pub invariant-loop-function : goal.invariant-loop-function
invariant-loop-function l = l.frames.items ++ map frame_of (drop l.function-index l.code.functions.items) ≡ map frame_of l.code.functions.items
