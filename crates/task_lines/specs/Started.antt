-- How the cells of calls lie in a loader, and how their tasks are started.
--
-- In a new loader the call rev(Cons(1, Nil), Nil) has its cell at place 0 and starts with the words 1 and 0; a second
-- one, rev(Cons(2, Nil), Nil), has its cell at place 3 and starts with the words 7 and 0.
use Rattle.std.specs.Prelude.{◌≡◌, List, [], ◌∷◌}
use Rattle.cell_code.specs.declared.code.Code.{Code}
use Rattle.cell_store.specs.Made.{Loading}
use Rattle.cell_code.specs.Plain.{plain_function, plain}
use Rattle.fip_tasks.specs.machine_cells.Small.{store_of}
use Rattle.fip_tasks.specs.task_semantics.Lying.{Lying, LieApart, call_words}
use Rattle.fip_tasks.specs.declared.task.Start.{Start}
use Rattle.session_lines.specs.Named.{HasFrames}
use Rattle.task_lines.specs.Called.{Called}
use Rattle.fip_room.specs.declared.room.Room.{Room}

-- The call lies so and is started so.
pub record IsStarted (code : Code) (room : Room) (c : Called) (l : Lying) (b : Start) : Type 0 where
  pub task : l.task ≡ record {
    function = c.entry;
    header = plain_function c.function;
    arguments = c.values;
    calls = room.calls;
    frames = b.frames;
  }
  pub entry : b.entry ≡ c.entry
  pub words : b.words ≡ call_words l
  pub calls : b.calls ≡ room.calls
  pub frames : HasFrames (plain code) c.entry room.frames b.frames

abbrev pub AreStarted : Code → Room → List Called → List Lying → List Start → Type 0
AreStarted code room [] [] [] = Unit {0}
AreStarted code room (c ∷ cs) (l ∷ ls) (b ∷ bs) = IsStarted code room c l b × AreStarted code room cs ls bs
AreStarted code room cs ls bs = ⊥

-- The calls have their cells in the loader, apart from one another, and are started so.
pub record AreReady (code : Code) (room : Room) (cs : List Called) (l : Loading) (starts : List Start) :
    Type 0 where
  pub lying : List Lying
  pub apart : LieApart (plain code) (store_of l.cells l.released) lying
  pub started : AreStarted code room cs lying starts
