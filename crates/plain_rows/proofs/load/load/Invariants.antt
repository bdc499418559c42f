use Rattle.std.proofs.Common.{◌≡◌, ◌+◌, ◌-◌, ◌^◌, ◌≤◌, ◌∷◌, ◌++◌, List, [], length, vec_len}
use Rattle.fip_base.specs.fip_language.Values.{Value as Tree}
use Rattle.fip_base.specs.fip_language.Store.{Placed, value_of, word_of}
use Rattle.value_text.specs.Standing.{Stands as CellStands}
use Rattle.plain_rows.specs.Loading.{Loads, last_first, made_so_far}
use Rattle.plain_rows.proofs.load.load.Given as goal

abbrev pub invariant-loading : goal.invariant-loading
invariant-loading l = length l.cells.cells ≤ 2 ^ 32 → (whole : List Tree) (x : Placed) → CellStands l.table l.cells.cells l.fn.ty x → word_of x ≡ l.fn.word → Loads l.table l.cells.cells [] l.fn.rows whole → Loads l.table l.cells.cells (last_first l.tasks.items) l.rows (whole ++ value_of x ∷ [])

-- what is made grows with each task, and memory has an end
abbrev pub decreases-loading : goal.decreases-loading
decreases-loading l = 2 ^ 68 - (vec_len l.tasks + made_so_far l.rows)
