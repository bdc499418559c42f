-- Which function of a code a line of a list of tasks calls, on which values.
--
-- The line `rev(Cons(1, Nil), Nil)` calls the function rev of the code, where it has one, on the list Cons(1, Nil) and
-- the empty list.
use Rattle.std.specs.Prelude.{◌≡◌, ◌<◌, ◌≤◌, ◌+◌, ◌⊎◌, ℕ, suc, List, [], ◌∷◌, length, Some, slice_get}
use Rattle.cell_code.specs.declared.code.Code.{Code}
use Rattle.cell_code.specs.declared.code.Function.{Function}
use Rattle.fip_language.specs.Core.{Name}
use Rattle.fip_language.specs.SoundTable.{IsSoundTable, AreTypes}
use Rattle.fip_language.specs.Values.{Values}
use Rattle.value_text.specs.Loaded.{types_of, AreCredits, wanted}
use Rattle.session_lines.specs.Named.{HasName}
use Rattle.session_lines.specs.session_semantics.Lines.{Parts, SpellsTask}
use Rattle.session_lines.specs.session_semantics.Typed.{AreValues}
use Rattle.session_lines.specs.session_semantics.Turns.{most_tasks}

-- a call of a function of a code, by its number
pub record Called : Type 0 where
  pub entry : ℕ
  pub function : Function
  pub values : Values

-- the line is this call
pub record IsCall (code : Code) (line : List ℕ) (c : Called) : Type 0 where
  pub name : Name
  pub parts : Parts
  pub spelt : SpellsTask line name parts
  pub there : slice_get code.functions.items c.entry ≡ Some c.function
  pub named : c.function.name ≡ name
  pub some : 0 < length name
  pub typed : AreValues code.types (types_of c.function.params) parts c.values

abbrev pub AreCalls : Code → List (List ℕ) → List Called → Type 0
AreCalls code [] [] = Unit {0}
AreCalls code (line ∷ lines) (c ∷ cs) = IsCall code line c × AreCalls code lines cs
AreCalls code lines cs = ⊥

-- Line k, from 1, is the first that is no call, or is one more than may be; n lines stand before these.
abbrev pub IsFirstBad : Code → ℕ → List (List ℕ) → ℕ → Type 0
IsFirstBad code n [] k = ⊥
IsFirstBad code n (line ∷ lines) k =
    ((k ≡ suc n) × ((most_tasks ≤ n) ⊎ ((c : Called) → IsCall code line c → ⊥)))
    ⊎ ((n < most_tasks) × ((c : Called) × IsCall code line c) × IsFirstBad code (suc n) lines k)

-- how many cells of size k the values and credits of calls need
abbrev pub needed_by_all : List Called → ℕ → ℕ
needed_by_all [] k = 0
needed_by_all (c ∷ cs) k = wanted c.function.credits.items c.values k + needed_by_all cs k
