-- What it means that values were loaded from a text into a store, with the cells of credits after them.
-- The store is seen before and after. Released cells of the store serve new cells of their size first, so that
-- Cons(1, Cons(2, Nil)) needs 6 words of an empty store, 3 where one cell of 2 fields is released, and none where two
-- are.
use Rattle.std.specs.Prelude.{◌≡◌, ℕ, zero, suc, ◌+◌, ◌-◌, ◌*◌, ◌^◌, ◌<◌, ◌≤◌, Bool, true, false, List, []}
use Rattle.std.specs.Prelude.{◌∷◌, ◌++◌, Option, Some, None, length, replicate, slice_get}
use Rattle.fip_language.specs.Values.{Values, cells_of_all}
use Rattle.fip_language.specs.Table.{Table}
use Rattle.fip_language.specs.declared.limits.TheConstants.{MOST_CREDITS, MOST_FIELDS}
use Rattle.fip_language.specs.SoundTable.{AreTypes, IsSoundTable}
use Rattle.fip_language.specs.Store.{Cell, Parts, values_of, words_of, count, uses_of_all}
use Rattle.fip_language.specs.ValueText.{SpellsValues}
use Rattle.cell_store.specs.Cells.{cell_at, count_free}
use Rattle.cell_store.specs.StoredCells.{Cells}
use Rattle.cell_store.specs.Made.{Loading}
use Rattle.value_text.specs.Standing.{StandAll}
pub use Rattle.value_text.specs.ParameterTypes.{types_of}

-- the sizes of credits: 1 to 16 each
abbrev pub AreSizes : List ℕ → Type 0
AreSizes [] = Unit {0}
AreSizes (k ∷ ks) = (0 < k) × (k ≤ MOST_FIELDS) × AreSizes ks

-- at most 16 of them
pub record AreCredits (credits : List ℕ) : Type 0 where
  pub few : length credits ≤ MOST_CREDITS
  pub sizes : AreSizes credits

-- What is asked of what is given: a sound table, parameters of its types, credits that are sizes of cells, and a text
-- that memory can hold.
pub record IsGiven (tb : Table) (types credits bytes : List ℕ) : Type 0 where
  pub sound : IsSoundTable tb
  pub known : AreTypes tb types
  pub allowed : AreCredits credits
  pub short : length bytes ≤ 2 ^ 63

-- 1 where a cell that is not released begins
abbrev pub live_in : Option Cell → Option Bool → ℕ
live_in None r = 0
live_in (Some c) None = 0
live_in (Some c) (Some true) = 0
live_in (Some c) (Some false) = 1

abbrev pub live : Loading → ℕ → ℕ
live l p = live_in (cell_at l.cells p) (slice_get l.released p)

-- how many cells of size k the values and the credits need
abbrev pub wanted : List ℕ → Values → ℕ → ℕ
wanted credits vs k = cells_of_all k vs + count k credits

-- The words of the cells of sizes up to n that no released cell serves, where so many of each size are wanted and so
-- many are free. A cell of size k takes k + 1 words.
unfoldable pub words_up_to : ℕ → (ℕ → ℕ) → (ℕ → ℕ) → ℕ
words_up_to zero want free = 0
words_up_to (suc k) want free = words_up_to k want free + (suc k + 1) * (want (suc k) - free (suc k))

abbrev pub free_in : Loading → ℕ → ℕ
free_in l k = count_free k l.cells l.released

-- No cell is released.
abbrev pub HasNoFree : Loading → Type 0
HasNoFree l = (k : ℕ) → free_in l k ≡ 0

-- the words that the values' and the credits' cells need of a store
abbrev pub needed : Loading → List ℕ → Values → ℕ
needed l credits vs = words_up_to MOST_FIELDS (wanted credits vs) (free_in l)

-- These places have cells of these sizes, tag and fields 0.
abbrev pub AreZero : Cells → List ℕ → List ℕ → Type 0
AreZero cs [] [] = Unit {0}
AreZero cs [] (k ∷ ks) = ⊥
AreZero cs (p ∷ ps) [] = ⊥
AreZero cs (p ∷ ps) (k ∷ ks) = (cell_at cs p ≡ Some (record { tag = 0; fields = replicate k 0 })) × AreZero cs ps ks

-- the words that name the cells at places
abbrev pub cell_words : List ℕ → List ℕ
cell_words [] = []
cell_words (p ∷ ps) = (2 * p + 1) ∷ cell_words ps

-- The words stand for the values that the text spells, and then name the credits' cells.
pub record IsLoaded (tb : Table) (types credits bytes : List ℕ) (old new : Loading) (words : List ℕ) : Type 0 where
  -- the values' trees, and the places of the credits' cells
  pub trees : Parts
  pub places : List ℕ
  pub spelled : SpellsValues tb types bytes (values_of trees)
  pub stand : StandAll tb new.cells types trees
  pub zero : AreZero new.cells places credits
  pub named : words ≡ words_of trees ++ cell_words places
  -- The cells of trees and credits are just those that the call made or took, each stands there once,
  pub once : (p : ℕ) → live old p + (uses_of_all p trees + count p places) ≡ live new p
  -- and the cells that were live before stay as they were.
  pub kept : (p : ℕ) → live old p ≡ 1 → cell_at new.cells p ≡ cell_at old.cells p
  -- The call takes just the words that it needs.
  pub left : new.left + needed old credits (values_of trees) ≡ old.left
