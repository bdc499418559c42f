use Rattle.std.proofs.Common.{◌≡◌, length}
use Rattle.plain_eval.specs.Moving.{ClosedFrom, MovedBelow}
use Rattle.plain_eval.proofs.collect.moved.Given as goal

abbrev pub invariant-loop-row : goal.invariant-loop-row
invariant-loop-row l = record {
  places : length l.places.items ≡ l.row;
  moves : ClosedFrom 0 l.store l.reached → MovedBelow l.row l.store l.reached l.kept l.places.items;
}
