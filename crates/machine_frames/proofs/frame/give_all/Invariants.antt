-- The words are read first; then what is left to write gives the words at the end.
use Rattle.std.proofs.Common.{◌≡◌, ℕ, ◌+◌, ◌<◌, drop, get_or, length}
use Rattle.fip_language.specs.declared.limits.TheConstants.{MOST_RESULTS}
use Rattle.machine_frames.specs.Keeping.{Keeps}
use Rattle.machine_frames.specs.Words.{words_from, put_words}
use Rattle.machine_frames.proofs.frame.give_all.Given as goal

abbrev pub invariant-loop-i : goal.invariant-loop-i
invariant-loop-i l = record {
  long : length l.given ≡ MOST_RESULTS;
  read : (j : ℕ) → j < l.i → get_or l.given j 0 ≡ get_or l.words (l.from + get_or l.results j 0) 0;
}

abbrev pub invariant-loop-i-2 : goal.invariant-loop-i-2
invariant-loop-i-2 l = record {
  keeps : Keeps l.to l.initial.words l.words;
  given : length l.destinations ≡ length l.results →
      put_words l.to l.words (drop l.i l.destinations) (drop l.i (words_from l.from l.initial.words l.results)) ≡ put_words l.to l.initial.words l.destinations (words_from l.from l.initial.words l.results);
}
