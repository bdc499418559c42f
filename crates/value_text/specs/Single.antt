-- What it means that a value of a type stands at a place of a text, whatever stands after it, and that its cells were
-- made; and that the cells of credits were.
-- In the text `f(Cons(1, Nil), 7)` a list of ints stands at place 2 and ends at 14, where the comma is; at place 15 the
-- int 7 stands after a blank, and ends at 17.
use Rattle.std.specs.Prelude.{◌≡◌, ℕ, ◌+◌, ◌-◌, ◌^◌, ◌≤◌, List, [], length, drop, slice_index_or}
use Rattle.fip_language.specs.Character.{Character, characters}
use Rattle.fip_language.specs.Values.{Value, End, More, cells}
use Rattle.fip_language.specs.Table.{Table}
use Rattle.fip_language.specs.declared.limits.TheConstants.{MOST_FIELDS}
use Rattle.fip_language.specs.SoundTable.{IsSoundTable}
use Rattle.fip_language.specs.Store.{Placed, value_of, word_of, uses, count}
use Rattle.fip_language.specs.ValueText.{ValueText}
use Rattle.cell_store.specs.Cells.{cell_at}
use Rattle.cell_store.specs.Made.{Loading}
use Rattle.value_text.specs.Loaded.{live, needed, free_in, AreZero, cell_words}
use Rattle.value_text.specs.Standing.{Stands}
use Rattle.value_text.specs.declared.counts.Counts.{Counts}

-- The text begins with this value of a type.
abbrev pub BeginsWith : Table → ℕ → List ℕ → Value → Type 0
BeginsWith tb k bytes v = (rest : List Character) × ValueText tb k (characters bytes) v rest

-- The value stands at a place and ends at another.
pub record IsValueAt (tb : Table) (k : ℕ) (bytes : List ℕ) (at : ℕ) (v : Value) (end : ℕ) : Type 0 where
  pub forward : at ≤ end
  pub within : end ≤ length bytes
  pub text : ValueText tb k (characters (drop at bytes)) v (characters (drop end bytes))

-- What is asked of what is given: a sound table, a type of it, a place of the text, and a text that memory can hold.
pub record IsPlaced (tb : Table) (k : ℕ) (bytes : List ℕ) (at : ℕ) : Type 0 where
  pub sound : IsSoundTable tb
  pub known : k ≤ length tb
  pub within : at ≤ length bytes
  pub short : length bytes ≤ 2 ^ 63

-- the counts of cells by size are those of the value
abbrev pub AreCellsOf : Counts → Value → Type 0
AreCellsOf counts v = (k : ℕ) → k ≤ MOST_FIELDS → slice_index_or counts.numbers k 0 ≡ cells k v

-- the words that the cells of a value need of a store
abbrev pub needed_by : Loading → Value → ℕ
needed_by l v = needed l [] (More v End)

-- The word stands for the value with which the text begins.
pub record IsValueMade (tb : Table) (k : ℕ) (bytes : List ℕ) (old new : Loading) (word : ℕ) : Type 0 where
  -- the value's tree
  pub tree : Placed
  pub spelled : BeginsWith tb k bytes (value_of tree)
  pub stands : Stands tb new.cells k tree
  pub named : word ≡ word_of tree
  -- The cells of the tree are just those that the call made or took, each stands there once,
  pub once : (p : ℕ) → live old p + uses p tree ≡ live new p
  -- and the cells that were live before stay as they were.
  pub kept : (p : ℕ) → live old p ≡ 1 → cell_at new.cells p ≡ cell_at old.cells p
  -- The call takes just the words that it needs.
  pub left : new.left + needed_by old (value_of tree) ≡ old.left
  -- Released cells serve first.
  pub free : (k : ℕ) → k ≤ MOST_FIELDS → free_in new k ≡ free_in old k - cells k (value_of tree)

-- The words name cells of these sizes, whose constructor and fields are 0.
-- Two credits of size 2, of a store in which one cell of 2 fields is released, take this one and a new one.
pub record AreCreditsMade (credits : List ℕ) (old new : Loading) (words : List ℕ) : Type 0 where
  pub places : List ℕ
  pub zero : AreZero new.cells places credits
  pub named : words ≡ cell_words places
  -- The cells at these places are just those that the call made or took, each stands there once,
  pub once : (p : ℕ) → live old p + count p places ≡ live new p
  -- and the cells that were live before stay as they were.
  pub kept : (p : ℕ) → live old p ≡ 1 → cell_at new.cells p ≡ cell_at old.cells p
  -- The call takes just the words that it needs.
  pub left : new.left + needed old credits End ≡ old.left
  -- Released cells serve first.
  pub free : (k : ℕ) → k ≤ MOST_FIELDS → free_in new k ≡ free_in old k - count k credits
