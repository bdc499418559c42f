-- Starting a run on the text of its arguments or on their words, and why none starts.
--
-- In a new store rev begins on the lines `Cons(1, Nil)` and `Nil` with one cell, at place 0, and the words 1 and 0. The
-- line `Cons(1` is refused with status 5 and the offset 6, and in a store of 2 words both lines with status 6, since
-- they need 3.
use Rattle.std.specs.Prelude.{◌≡◌, ◌≢◌, ◌<◌, ◌+◌, ◌⊎◌, ℕ, List, [], None, Some, length, slice_get, take}
use Rattle.fip_language.specs.declared.limits.TheConstants.{MOST_FIELDS}
use Rattle.fip_language.specs.Prefix.{IsPlace}
use Rattle.fip_language.specs.Values.{Values}
use Rattle.fip_language.specs.ValueText.{SpellsValues}
use Rattle.fip_machine.specs.cell_code.declared.code.Function.{Function}
use Rattle.cell_store.specs.Made.{Loading}
use Rattle.value_text.specs.FirstStore.{IsInOrder}
use Rattle.value_text.specs.Loaded.{types_of, needed, HasNoFree, IsLoaded}
use Rattle.fip_host.specs.declared.answer.Refusal.{Refusal}
use Rattle.fip_host.specs.declared.answer.Refusal.TheVariants as R
use Rattle.fip_host.specs.Hosting.{Seen, IsAtStart, loading_of}
use Rattle.fip_host.specs.Making.{HasMade}

-- A run of function f is at its start on the values that the text spells. Their cells, and those of the function's
-- credits, were made in the store and are just the ones that are new, and the run has their words; where no cell was
-- released, the cells stand after all others, in the order of the ) in the text.
pub record IsTextStarted (f : ℕ) (text : List ℕ) (given : ℕ) (old new : Seen) : Type 0 where
  pub function : Function
  pub is : slice_get old.code.code.functions.items f ≡ Some function
  pub words : List ℕ
  pub loaded : IsLoaded old.code.code.types (types_of function.params) function.credits.items text (loading_of old)
      (loading_of new) words
  pub order : HasNoFree (loading_of old) → IsInOrder old.code.code.types (types_of function.params)
      function.credits.items text (loading_of old) (loading_of new) words
  pub start : IsAtStart f words given new

-- The text spells no values of the types of function f's parameters: this is the least offset with which none goes on.
pub record IsBadText (f : ℕ) (text : List ℕ) (m : Seen) (at : ℕ) : Type 0 where
  pub function : Function
  pub is : slice_get m.code.code.functions.items f ≡ Some function
  pub place : IsPlace (SpellsValues m.code.code.types (types_of function.params)) text at

-- It spells values whose cells, and those of the credits, need so many words, more than the store has left.
pub record IsTooLarge (f : ℕ) (text : List ℕ) (m : Seen) (n given : ℕ) : Type 0 where
  pub function : Function
  pub is : slice_get m.code.code.functions.items f ≡ Some function
  pub values : Values
  pub spelled : SpellsValues m.code.code.types (types_of function.params) text values
  pub words : n ≡ needed (loading_of m) function.credits.items values
  pub left : given ≡ m.left
  pub more : given < n

-- The store has no cell and no word.
pub record IsLost (m : Seen) : Type 0 where
  pub cells : m.store.cells ≡ []
  pub released : m.store.released ≡ []
  pub left : m.left ≡ 0

-- Why no run starts: the store is as it was, but where memory ran out.
abbrev pub KeepsFromText : ℕ → List ℕ → Seen → Seen → Refusal → Type 0
KeepsFromText f text old new (R.BadInput at) = IsBadText f text old at × (loading_of new ≡ loading_of old)
KeepsFromText f text old new (R.TooSmall needed given) =
    IsTooLarge f text old needed given × (loading_of new ≡ loading_of old)
KeepsFromText f text old new R.NoMemory = IsLost new
KeepsFromText f text old new R.OutOfRange =
    (slice_get old.code.code.functions.items f ≡ None) × (loading_of new ≡ loading_of old)
KeepsFromText f text old new R.NotReady = ⊥
KeepsFromText f text old new R.WrongValue = ⊥

-- No function has the number, or it takes another number of arguments.
abbrev pub TakesOthers : ℕ → ℕ → Seen → Type 0
TakesOthers f n m = (slice_get m.code.code.functions.items f ≡ None)
    ⊎ ((g : Function) × (slice_get m.code.code.functions.items f ≡ Some g) × (n ≢ length g.params))

-- Of cells of these sizes so many can be made, after these words; and the next one needs more words than are left then.
-- Of a pair of sizes 2 and 2 in a store with 5 words left one can be made, and the second lacks a word.
pub record LacksRoom (sizes words : List ℕ) (old : Loading) : Type 0 where
  pub count : ℕ
  pub size : ℕ
  pub next : slice_get sizes count ≡ Some size
  pub with_made : List ℕ
  pub now : Loading
  pub made : HasMade (take count sizes) words with_made old now
  pub more : now.left < size + 1

-- The store lacks room for the cells of function f's credits.
pub record LacksCredits (f : ℕ) (words : List ℕ) (m : Seen) : Type 0 where
  pub function : Function
  pub is : slice_get m.code.code.functions.items f ≡ Some function
  pub room : LacksRoom function.credits.items words (loading_of m)

-- Why a cell of these fields isn't made.
abbrev pub IsUnmade : List ℕ → Loading → Refusal → Type 0
IsUnmade fields l (R.BadInput at) = ⊥
IsUnmade fields l (R.TooSmall needed given) = l.left < length fields + 1
IsUnmade fields l R.NoMemory = Unit {0}
IsUnmade fields l R.OutOfRange = (length fields ≡ 0) ⊎ (MOST_FIELDS < length fields)
IsUnmade fields l R.NotReady = ⊥
IsUnmade fields l R.WrongValue = ⊥

-- Why cells of these sizes aren't made.
abbrev pub AreUnmade : List ℕ → List ℕ → Loading → Refusal → Type 0
AreUnmade sizes words l (R.BadInput at) = ⊥
AreUnmade sizes words l (R.TooSmall needed given) = LacksRoom sizes words l
AreUnmade sizes words l R.NoMemory = Unit {0}
AreUnmade sizes words l R.OutOfRange = ⊥
AreUnmade sizes words l R.NotReady = ⊥
AreUnmade sizes words l R.WrongValue = ⊥

-- Why no run of function f starts on these words: where the function isn't there or takes another number of them, the
-- machine is as it was.
abbrev pub IsUnstarted : ℕ → List ℕ → Seen → Seen → Refusal → Type 0
IsUnstarted f words old new (R.BadInput at) = ⊥
IsUnstarted f words old new (R.TooSmall needed given) = LacksCredits f words old
IsUnstarted f words old new R.NoMemory = Unit {0}
IsUnstarted f words old new R.OutOfRange = TakesOthers f (length words) old × (new ≡ old)
IsUnstarted f words old new R.NotReady = ⊥
IsUnstarted f words old new R.WrongValue = ⊥
