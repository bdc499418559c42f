use Rattle.std.proofs.Common.{◌≡◌, drop}
use Rattle.code_tables.specs.Rows.{are_narrow}
use Rattle.code_tables.proofs.tables.are_narrow.Given as goal

abbrev pub invariant-loop-constructor : goal.invariant-loop-constructor
invariant-loop-constructor l = are_narrow l.types (drop l.constructor-index l.constructors) ≡ are_narrow l.types l.constructors
