-- A store as callers see it: the cells by place, and what lies beside them.
use Rattle.std.specs.Prelude.{ℕ, Bool, List, Option}
use Rattle.fip_language.specs.Store.{Cell}

-- what begins at each number: a cell, or none
abbrev pub Cells : Type 0
Cells = List (Option Cell)

-- a sealed store: the cells, whether each is released, the stack of words beside them, its top last, and the words that
-- are left for when it is opened again
pub record Stored : Type 0 where
  pub cells : Cells
  pub released : List Bool
  pub pushed : List ℕ
  pub left : ℕ
