use Rattle.std.proofs.Common.{◌≡◌, ◌+◌, ◌++◌, take, vec_len}
use Rattle.std.specs.Vec.{vec_capacity}
use Rattle.value_text.proofs.room.put_within.Given as goal

abbrev pub invariant-loop-b : goal.invariant-loop-b
invariant-loop-b l = record {
  items : l.out.items ≡ l.initial.out.items ++ take l.b-index l.bytes;
  more : vec_len l.out ≡ vec_len l.initial.out + l.b-index;
  room : vec_capacity l.out ≡ vec_capacity l.initial.out;
}
