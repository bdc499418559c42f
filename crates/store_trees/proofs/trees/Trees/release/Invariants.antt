use Rattle.std.proofs.Common.{◌≡◌, map, drop}
use Rattle.store_trees.specs.GivenUp.{all_given_up}
use Rattle.store_trees.proofs.trees.Trees.release.Given as goal

abbrev pub invariant-loop-tree : goal.invariant-loop-tree
invariant-loop-tree l =
    (l.cells.cells ≡ l.fn.cells.cells) × (l.cells.pushed ≡ l.fn.cells.pushed)
    × (all_given_up l.cells.cells (map (λ t. t.place) (drop l.tree-index l.tree-items)) l.cells.released
    ≡ all_given_up l.fn.cells.cells (map (λ t. t.place) l.fn.self.list.items) l.fn.cells.released)
