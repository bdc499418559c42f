-- The words of the arguments so far stand after the others.
use Rattle.std.proofs.Common.{◌≡◌, ◌++◌, map, take}
use Rattle.fip_host.specs.Telling.{argument_word}
use Rattle.fip_host.proofs.hosted.values.add_words.Given as goal

abbrev pub invariant-loop-i : goal.invariant-loop-i
invariant-loop-i l = l.words.items ≡ l.initial.words.items ++ map (argument_word l.kept) (take l.i l.arguments)
