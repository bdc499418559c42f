-- The words so far are 0.
use Rattle.machine_frames.specs.Keeping.{Clears}
use Rattle.machine_frames.proofs.frame.clear_all.Given as goal

abbrev pub invariant-loop-i : goal.invariant-loop-i
invariant-loop-i l = Clears l.from l.i l.initial.words l.words
