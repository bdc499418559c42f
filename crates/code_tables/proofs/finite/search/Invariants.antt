use Rattle.code_tables.specs.Marks.{AreMarks}
use Rattle.code_tables.proofs.finite.search.Given as goal

abbrev pub invariant-loop-place : goal.invariant-loop-place
invariant-loop-place l = AreMarks l.types l.marks.items

abbrev pub invariant-loop : goal.invariant-loop
invariant-loop l = AreMarks l.types l.marks.items
