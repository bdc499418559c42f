use Rattle.std.proofs.Common.{◌≡◌, ◌≤◌, ◌++◌, length, take}
use Rattle.std.specs.Prelude.{◌^◌}
use Rattle.store_trees.specs.Walked.{Ahead, IsAhead, root, roots_of}
use Rattle.store_trees.proofs.trees.Trees.add_fields.Given as goal

-- the trees of the first fields were added
abbrev pub invariant-loop-i : goal.invariant-loop-i
invariant-loop-i g l = length (g.C.Cells.cells l.cells) ≤ 2 ^ 32 → (a : Ahead) → IsAhead l.table (g.C.Cells.cells l.cells) a → root a ≡ l.tree → l.self.list.items ≡ l.fn.self.list.items ++ roots_of (take l.i a.fields) a.parts
