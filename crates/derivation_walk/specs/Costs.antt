-- It serves the proof of what `line_of` says of a text that is too long: how many bytes the text of some nodes has at
-- least. Each node has one, and each of its variables.
use Rattle.std.specs.Prelude.{ℕ, ◌+◌, List, [], ◌∷◌, length}
use Rattle.derivation_trees.specs.Trees.{Tree, Trees, Head, flat, flat_all}
use Rattle.derivation_trees.specs.Building.{built}
use Rattle.derivation_walk.specs.declared.make.Walk.{Walk}

abbrev pub cost_of : List Head → ℕ
cost_of [] = 0
cost_of (h ∷ hs) = length h.variables + 1 + cost_of hs

abbrev pub cost : Tree → ℕ
cost t = cost_of (flat t)

abbrev pub cost_all : Trees → ℕ
cost_all ts = cost_of (flat_all ts)

-- the room that there is, and what the nodes so far took of it
abbrev pub total : Walk → ℕ
total w = w.room + cost_of (built w.nodes).nodes
