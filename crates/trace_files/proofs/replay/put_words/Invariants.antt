use Rattle.std.proofs.Common.{◌≡◌, ◌++◌, drop}
use Rattle.trace_files.specs.Lines.{words_line}
use Rattle.trace_files.proofs.replay.put_words.Given as goal

abbrev pub invariant-loop-word : goal.invariant-loop-word
invariant-loop-word l = l.text.items ++ words_line (drop l.word-index l.words) ≡ l.fn.text.items ++ words_line l.words
