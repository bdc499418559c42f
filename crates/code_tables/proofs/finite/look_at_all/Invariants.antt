use Rattle.code_tables.specs.Marks.{AreMarks}
use Rattle.code_tables.proofs.finite.look_at_all.Given as goal

abbrev pub invariant-loop-constructor : goal.invariant-loop-constructor
invariant-loop-constructor l = AreMarks l.types l.marks.items
