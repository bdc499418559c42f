use Rattle.code_tables.specs.Marks.{AreMarks, unmarked}
use Rattle.code_tables.proofs.finite.complete.Given as goal

abbrev pub invariant-loop : goal.invariant-loop
invariant-loop l = AreMarks l.types l.marks.items

abbrev pub decreases-loop : goal.decreases-loop
decreases-loop l = unmarked l.marks.items
