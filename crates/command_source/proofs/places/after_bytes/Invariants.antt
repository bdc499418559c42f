use Rattle.std.proofs.Common.{◌≡◌, ◌≤◌, ◌+◌, drop}
use Rattle.machine_correctness.specs.compiler_correctness.fip_grammar.Cut.{first_place}
use Rattle.command_source.specs.Places as P
use Rattle.command_source.proofs.places.after_bytes.Given as goal

abbrev pub invariant-loop-byte : goal.invariant-loop-byte
invariant-loop-byte l = record {
  at : l.place.at ≡ l.byte-index;
  line : l.place.line ≤ l.byte-index + 1;
  col : l.place.col ≤ l.byte-index + 1;
  rest : P.after_bytes l.place (drop l.byte-index l.bytes) ≡ P.after_bytes first_place l.bytes;
}
