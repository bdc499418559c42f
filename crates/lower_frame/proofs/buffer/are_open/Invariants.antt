use Rattle.std.proofs.Common.{◌≡◌, drop}
use Rattle.lowering_relation.specs.Standing.{are_open}
use Rattle.lower_frame.proofs.buffer.are_open.Given as goal

abbrev pub invariant-loop-kind : goal.invariant-loop-kind
invariant-loop-kind l = are_open (drop l.kind-index l.kinds) ≡ are_open l.kinds
