-- How much is left to release.
use Rattle.std.specs.Prelude.{ℕ, suc, ◌+◌, ◌*◌, Bool, true, false, List, [], ◌∷◌, Some, None, length}
use Rattle.cell_store.specs.Cells.{Cells}

-- how many cells are not released
abbrev pub number_live : Cells → List Bool → ℕ
number_live [] rs = 0
number_live (o ∷ os) [] = 0
number_live (None ∷ os) (r ∷ rs) = number_live os rs
number_live (Some c ∷ os) (true ∷ rs) = number_live os rs
number_live (Some c ∷ os) (false ∷ rs) = suc (number_live os rs)

-- Each cell that is released puts at most 16 words on the stack.
abbrev pub work : Cells → List Bool → List ℕ → ℕ
work cells released pushed = 17 * number_live cells released + length pushed
