use Rattle.std.proofs.Common.{◌≡◌, ◌≤◌, ◌+◌, drop}
use Rattle.derivation_check.specs.Scopes.{AreNumbered}
use Rattle.derivation_check.proofs.numbering.are_numbered.Given as goal

abbrev pub invariant-loop-binder : goal.invariant-loop-binder
invariant-loop-binder l = record {
  core : l.core + l.initial.next ≡ l.initial.core + l.next;
  next : l.next ≤ 4294967296;
  up : AreNumbered l.core l.next (drop l.binder-index l.binders) → AreNumbered l.initial.core l.initial.next l.binders;
  down : AreNumbered l.initial.core l.initial.next l.binders → AreNumbered l.core l.next (drop l.binder-index l.binders);
}
