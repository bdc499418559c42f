-- What is left to write gives the words at the end.
use Rattle.std.proofs.Common.{◌≡◌, ◌+◌, drop}
use Rattle.machine_frames.specs.Keeping.{Keeps}
use Rattle.machine_frames.specs.Words.{words_from, laid_at}
use Rattle.machine_frames.proofs.frame.pass_all.Given as goal

abbrev pub invariant-loop-i : goal.invariant-loop-i
invariant-loop-i l = record {
  keeps : Keeps l.above l.initial.words l.words;
  given : laid_at (l.above + l.i) l.words (words_from l.base l.initial.words (drop l.i l.arguments)) ≡ laid_at l.above l.initial.words (words_from l.base l.initial.words l.arguments);
}
