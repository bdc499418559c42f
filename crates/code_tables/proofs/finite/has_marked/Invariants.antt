use Rattle.std.proofs.Common.{◌≡◌, drop}
use Rattle.code_tables.specs.Marks.{has_marked}
use Rattle.code_tables.proofs.finite.has_marked.Given as goal

abbrev pub invariant-loop-constructor : goal.invariant-loop-constructor
invariant-loop-constructor l = has_marked l.marks (drop l.constructor-index l.constructors) ≡ has_marked l.marks l.constructors
