use Rattle.std.proofs.Common.{◌≡◌, ◌<◌, ◌≤◌, ℕ, true, false}
use Rattle.code_tables.specs.Marks.{AreMarks, IsClosedAt, unmarked}
use Rattle.code_tables.proofs.finite.mark_more.Given as goal

abbrev pub invariant-loop-place : goal.invariant-loop-place
invariant-loop-place l = record {
  marks : AreMarks l.types l.marks.items;
  same : l.found ≡ false → l.marks.items ≡ l.initial.marks.items;
  closed : l.found ≡ false → (t : ℕ) → 0 < t → t ≤ l.place → IsClosedAt l.types l.marks.items t;
  fewer : l.found ≡ true → unmarked l.marks.items < unmarked l.initial.marks.items;
}
