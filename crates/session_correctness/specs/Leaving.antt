-- What a run leaves of a store that holds other cells than its own: the kept cells and those of its borrowed arguments
-- are as they were, no cell is made or gets another size, and each of these is there once and isn't released.
--
-- Where a holds Cons(2, Nil) in the cell at 3 and rev(Cons(1, Nil), Nil) runs with its cell at 0, the cell at 3 is
-- kept: after the run, however it ended, Cons(2, Nil) still is there.
use Rattle.std.specs.Prelude.{◌≡◌, ℕ, ◌+◌, ◌<◌, ◌≤◌, ◌&&◌, not, List, ◌∷◌, if◌then◌else◌}
use Rattle.tree_refinement.specs.fip_base.declared.plain.Param.{Param}
use Rattle.tree_refinement.specs.fip_language.Store.{Parts, MoreParts, words_of, count, uses, uses_of_all}
use Rattle.tree_refinement.specs.fip_language.Table.{Table, is_scalar}
use Rattle.tree_refinement.specs.machine_semantics.Cells.{Store, IsStore, cell_at, there, released_at}
use Rattle.tree_refinement.specs.machine_semantics.Kept.{Keeps}
use Rattle.tree_refinement.specs.machine_semantics.Trees.{StandAll}

-- how often the arguments that are borrowed use a cell
abbrev pub lent_uses : Table → List Param → Parts → ℕ → ℕ
lent_uses tb (p ∷ ps) (MoreParts x xs) q =
    (if p.lent && not (is_scalar tb p.ty) then uses q x else 0) + lent_uses tb ps xs q
lent_uses tb ps xs q = 0

-- from the first store to a later one, with these arguments and these kept cells
pub record Leaves (tb : Table) (ps : List Param) (xs : Parts) (kept : List ℕ) (first last : Store) : Type 0 where
  pub store : IsStore last
  pub keeps : Keeps first last
  pub begins : (q : ℕ) → there last q ≡ there first q
  pub cells : (q : ℕ) → 0 < lent_uses tb ps xs q + count q kept → cell_at last q ≡ cell_at first q
  pub once : (q : ℕ) → lent_uses tb ps xs q + (count q kept + released_at last q) ≤ there last q

-- The words stand for results in the last store, which with the borrowed arguments, the kept and the released cells are
-- all cells.
pub record Gives (tb : Table) (ps : List Param) (xs : Parts) (kept types ws : List ℕ) (last : Store) : Type 0 where
  pub results : Parts
  pub words : ws ≡ words_of results
  pub stand : StandAll tb last types results
  pub once : (q : ℕ) → uses_of_all q results + (lent_uses tb ps xs q + (count q kept + released_at last q))
      ≡ there last q
