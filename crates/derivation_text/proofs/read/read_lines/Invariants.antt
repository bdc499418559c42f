use Rattle.std.proofs.Common.{◌≡◌, drop}
use Rattle.derivation_text.specs.Machine.{flats, start}
use Rattle.derivation_text.specs.Reading.{runs}
use Rattle.derivation_text.proofs.read.read_lines.Given as goal

abbrev pub invariant-loop-at : goal.invariant-loop-at
invariant-loop-at l = runs l.reader (drop l.at l.bytes) l.at ≡ runs (start flats) l.bytes 0
