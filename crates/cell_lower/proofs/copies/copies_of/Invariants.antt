use Rattle.std.proofs.Common.{◌≡◌, drop, ◌++◌}
use Rattle.cell_lower.proofs.copies.copies_of.Given as goal

abbrev pub invariant-loop-constructor : goal.invariant-loop-constructor
invariant-loop-constructor l = l.copies.items ++ drop l.constructor-index l.constructors ≡ l.constructors
