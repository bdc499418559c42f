-- The words are read first; then what is left to write gives the words at the end.
use Rattle.std.proofs.Common.{◌≡◌, ℕ, ◌+◌, ◌<◌, drop, get_or}
use Rattle.machine_frames.specs.Keeping.{Keeps}
use Rattle.machine_frames.specs.Words.{words_from, laid_at}
use Rattle.machine_frames.proofs.frame.replace_all.Given as goal

abbrev pub invariant-loop-i : goal.invariant-loop-i
invariant-loop-i l = (j : ℕ) → j < l.i → get_or l.spare j 0 ≡ get_or l.words (l.base + get_or l.arguments j 0) 0

abbrev pub invariant-loop-i-2 : goal.invariant-loop-i-2
invariant-loop-i-2 l = record {
  keeps : Keeps l.base l.initial.words l.words;
  given : laid_at (l.base + l.i) l.words (words_from l.base l.initial.words (drop l.i l.arguments)) ≡ laid_at l.base l.initial.words (words_from l.base l.initial.words l.arguments);
}
