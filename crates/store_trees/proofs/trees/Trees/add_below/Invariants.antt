use Rattle.std.proofs.Common.{◌≤◌, List, length}
use Rattle.std.specs.Prelude.{◌^◌}
use Rattle.store_trees.specs.declared.trees.Tree.{Tree}
use Rattle.store_trees.specs.Walked.{Ahead, AreAhead}
use Rattle.store_trees.proofs.Walking.{Walking}
use Rattle.store_trees.proofs.trees.Trees.add_below.Given as goal

-- the trees up to here were gone into
abbrev pub invariant-loop-next : goal.invariant-loop-next
invariant-loop-next g l = length (g.C.Cells.cells l.cells) ≤ 2 ^ 32 → (front : List Tree) (ahead : List Ahead) → AreAhead l.table (g.C.Cells.cells l.cells) front ahead l.start l.fn.self.list.items → Walking l.table (g.C.Cells.cells l.cells) front ahead l.next l.self.list.items
