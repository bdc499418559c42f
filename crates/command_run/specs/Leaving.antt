-- What a run leaves to a host: the code that ran, and the cells of the last state of its run from where the input is
-- loaded, place by place.
--
-- After the reversal of Cons(1, Nil) and Nil there is one cell, at 0, as it was loaded: its run wrote the same into it.
-- After that of Cons(1, Cons(2, Nil)) and Nil the cell at 0 holds 2 and the word of the one at 3, which holds 1 and Nil.
-- As loaded it held 2 and Nil, so loaded cells are not those that a run leaves.
use Rattle.std.specs.Prelude.{◌≡◌, ℕ, List}
use Rattle.cell_store.specs.StoredCells.{Stored}
use Rattle.command_words.specs.Words.{Room}
use Rattle.fip_machine.specs.machine_cells.Small.{store_of}
use Rattle.code_verify.specs.cell_code.Plain.{plain}
use Rattle.command_eval.specs.command_source.Entries.{Chosen}
use Rattle.command_run.specs.LoadedRun.{InputRun}
use Rattle.command_run.specs.declared.running.Left.{Left}

-- The store is that of the last state of the run of just this code and function on the input.
abbrev pub IsLastStore : Chosen → List ℕ → Room → Stored → Type 0
IsLastStore r input room s =
    (run : InputRun (plain r.checked.code) r.entry input room) × (store_of s.cells s.released ≡ run.run.last.store)

-- It is left by the run of just this code and function on the input.
pub record IsLeftBy (r : Chosen) (input : List ℕ) (room : Room) (l : Left) : Type 0 where
  pub code : l.verified ≡ r.checked
  pub cells : IsLastStore r input room l.cells

-- It is left by the run of such a code and function on the input.
abbrev pub LeavesOf : (Chosen → Type 0) → List ℕ → Room → Left → Type 0
LeavesOf IsSuch input room l = (r : Chosen) × IsSuch r × IsLeftBy r input room l
