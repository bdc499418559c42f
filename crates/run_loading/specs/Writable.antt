-- For the theorem that what a run did can be written down: what is required of the types of the code, and of the cells
-- before the first step.
--
-- A trace has four bytes for a place and for a constructor, and eight for a word. So there are fewer places than 2 to
-- the 32, and no type has more constructors; each word of a cell has 64 bits, and no cell is released yet.
--
-- Of Cons(1, Nil) in the store of the examples this holds: three places, the constructor 1 and the words 1 and 0.
use Rattle.std.specs.Prelude.{◌≡◌, ℕ, ◌<◌, ◌≤◌, ◌^◌, Some, length}
use Rattle.tree_refinement.specs.fip_language.Every.{Every}
use Rattle.tree_refinement.specs.fip_language.Table.{Table, constructors}
use Rattle.tree_refinement.specs.fip_language.Store.{Cell}
use Rattle.tree_refinement.specs.machine_semantics.Cells.{Store, cell_at, released_at}
use Rattle.run_loading.specs.TraceText.{IsWord}

abbrev pub HaveFewConstructors : Table → Type 0
HaveFewConstructors types = (t : ℕ) → length (constructors types t) ≤ 2 ^ 32

pub record IsWritable (s : Store) : Type 0 where
  pub places : length s.cells < 2 ^ 32
  pub tags : (p : ℕ) (c : Cell) → cell_at s p ≡ Some c → c.tag < 2 ^ 32
  pub words : (p : ℕ) (c : Cell) → cell_at s p ≡ Some c → Every IsWord c.fields
  pub unreleased : (p : ℕ) → released_at s p ≡ 0
