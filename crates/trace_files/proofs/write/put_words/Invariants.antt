-- With what is left to write the text is that of the end.
use Rattle.std.proofs.Common.{◌≡◌, ◌++◌, drop}
use Rattle.run_loading.specs.TraceText.{words_text}
use Rattle.trace_files.proofs.write.put_words.Given as goal

abbrev pub invariant-loop-i : goal.invariant-loop-i
invariant-loop-i l = l.text.items ++ words_text (drop l.i l.words) ≡ l.initial.text.items ++ words_text l.words
