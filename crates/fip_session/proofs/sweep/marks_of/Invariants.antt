use Rattle.std.proofs.Common.{drop}
use Rattle.fip_session.proofs.Marking.{Marking}
use Rattle.fip_session.proofs.sweep.marks_of.Given as goal

-- the places of the first roots are marked
abbrev pub invariant-loop-tree : goal.invariant-loop-tree
invariant-loop-tree l = Marking l.kept.list.items (drop l.tree-index l.tree-items) l.marks.items
