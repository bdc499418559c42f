use Rattle.std.proofs.Common.{◌≡◌, ◌+◌, ◌++◌, take, vec_len}
use Rattle.std.specs.Vec.{vec_capacity}
use Rattle.cell_store.proofs.flat.put_within.Given as goal

abbrev pub invariant-loop-word : goal.invariant-loop-word
invariant-loop-word l = record {
  items : l.words.items ≡ l.initial.words.items ++ take l.word-index l.new;
  more : vec_len l.words ≡ vec_len l.initial.words + l.word-index;
  room : vec_capacity l.words ≡ vec_capacity l.initial.words;
}
