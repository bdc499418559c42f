-- For private contracts alone: which cells a loader has made since, and the words that name them.
use Rattle.std.specs.Prelude.{◌≡◌, ◌+◌, ℕ, List, ◌++◌}
use Rattle.cell_code.specs.declared.code.Code.{Code}
use Rattle.fip_language.specs.Store.{Parts, values_of, words_of, uses_of_all, count}
use Rattle.fip_language.specs.Table.{Table}
use Rattle.fip_language.specs.Values.{Values}
use Rattle.cell_store.specs.Cells.{cell_at}
use Rattle.cell_store.specs.Made.{Loading}
use Rattle.value_text.specs.Loaded.{live, types_of, AreZero, cell_words}
use Rattle.value_text.specs.Standing.{StandAll}
use Rattle.cell_code.specs.Plain.{plain}
use Rattle.fip_tasks.specs.declared.task.Start.{Start}
use Rattle.session_lines.specs.Named.{HasFrames}
use Rattle.session_values.specs.Made.{AreMade}
use Rattle.task_lines.specs.Called.{Called}
use Rattle.fip_room.specs.declared.room.Room.{Room}

-- Values with these trees were made, and have these words.
pub record AreValued (tb : Table) (types : List ℕ) (first now : Loading) (vs : Values) (trees : Parts)
    (words : List ℕ) : Type 0 where
  pub stand : StandAll tb now.cells types trees
  pub values : values_of trees ≡ vs
  pub named : words ≡ words_of trees
  pub made : AreMade first now (λ p. uses_of_all p trees)

-- The cells of credits were made, and named after other words.
pub record AreCredited (credits : List ℕ) (first now : Loading) (before words : List ℕ) : Type 0 where
  pub places : List ℕ
  pub zero : AreZero now.cells places credits
  pub named : words ≡ before ++ cell_words places
  pub made : AreMade first now (λ p. count p places)

-- The cells of a call's values and credits were made, and have these words.
pub record IsMadeOf (tb : Table) (c : Called) (first now : Loading) (trees : Parts) (spares words : List ℕ) :
    Type 0 where
  pub stand : StandAll tb now.cells (types_of c.function.params) trees
  pub values : values_of trees ≡ c.values
  pub zero : AreZero now.cells spares c.function.credits.items
  pub named : words ≡ words_of trees ++ cell_words spares
  pub made : AreMade first now (λ p. uses_of_all p trees + count p spares)

-- A call's cells were made, and its task is started so.
pub record IsStartMade (code : Code) (room : Room) (c : Called) (first now : Loading) (trees : Parts)
    (spares : List ℕ) (b : Start) : Type 0 where
  pub cells : IsMadeOf code.types c first now trees spares b.words
  pub entry : b.entry ≡ c.entry
  pub calls : b.calls ≡ room.calls
  pub frames : HasFrames (plain code) c.entry room.frames b.frames
