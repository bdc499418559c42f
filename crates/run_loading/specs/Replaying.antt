-- What `replay` shows of a trace, and which trace a run has: a line for each cell of a trace in order of place, as it
-- is after so many steps, or after the last where the run took fewer.
--
-- For the trace of one step that writes Cons(2, Nil) over Cons(1, Nil) in cell 0 the line is `cell 0: tag 1 fields 1 0`
-- after no step, and `cell 0: tag 1 fields 2 0` after one or a million. After a step that releases it, it is `free 0`.
use Rattle.std.specs.Prelude.{ℕ, suc, ◌-◌, Bool, true, false, List, [], ◌∷◌, ◌++◌, replicate, codes}
use Rattle.std.specs.Prelude.{Option, Some, None}
use Rattle.std.specs.Fmt.{decimal}
use Rattle.tree_refinement.specs.fip_language.Store.{Cell}
use Rattle.tree_refinement.specs.machine_semantics.Cells.{Store}
use Rattle.tree_refinement.specs.cell_code.Plain.{PlainCode}
use Rattle.tree_refinement.specs.machine_semantics.States.{State}
use Rattle.tree_refinement.specs.machine_semantics.Steps.{Kinds}
use Rattle.tree_refinement.specs.machine_semantics.Runs.{begun}
use Rattle.tree_refinement.specs.machine_semantics.Traces.{events, replay}
use Rattle.run_loading.specs.Loading.{unreleased}
use Rattle.run_loading.specs.TraceFile.{Loaded, Trace}

-- ---- the lines of a store

abbrev pub fields_text : List ℕ → List ℕ
fields_text [] = 10 ∷ []
fields_text (w ∷ ws) = codes " " ++ (decimal w ++ fields_text ws)

abbrev pub live_line : ℕ → Cell → List ℕ
live_line p c = codes "cell " ++ (decimal p ++ (codes ": tag " ++ (decimal c.tag ++ (codes " fields"
    ++ fields_text c.fields))))

abbrev pub free_line : ℕ → List ℕ
free_line p = codes "free " ++ (decimal p ++ codes "\n")

abbrev pub place_line : ℕ → Option Cell → Bool → List ℕ
place_line p None released = []
place_line p (Some c) false = live_line p c
place_line p (Some c) true = free_line p

-- the lines of the places from p on
abbrev pub lines_from : ℕ → List (Option Cell) → List Bool → List ℕ
lines_from p [] rs = []
lines_from p (o ∷ os) [] = []
lines_from p (o ∷ os) (r ∷ rs) = place_line p o r ++ lines_from (suc p) os rs

abbrev pub store_text : Store → List ℕ
store_text s = lines_from 0 s.cells s.released

-- ---- the store of a trace, and the trace of a store

-- the places from p on, where these cells are, whose places rise
abbrev pub places_from : ℕ → List Loaded → List (Option Cell)
places_from p [] = []
places_from p (c ∷ cs) = replicate (c.place - p) None
    ++ Some (record { tag = c.tag; fields = c.fields }) ∷ places_from (suc c.place) cs

-- the store before the first step
abbrev pub store_of : Trace → Store
store_of t = unreleased (places_from 0 t.cells)

-- what is printed after so many steps
abbrev pub replayed : Trace → ℕ → List ℕ
replayed t step = store_text (replay (store_of t) t.events step)

abbrev pub loaded_from : ℕ → List (Option Cell) → List Loaded
loaded_from p [] = []
loaded_from p (None ∷ os) = loaded_from (suc p) os
loaded_from p (Some c ∷ os) = record { place = p; tag = c.tag; fields = c.fields } ∷ loaded_from (suc p) os

-- the trace of the first steps of a run with so many calls from this state
abbrev pub trace_of : Kinds → PlainCode → State → ℕ → ℕ → Trace
trace_of kinds code s calls steps = record {
  cells = loaded_from 0 s.store.cells;
  events = events kinds code steps (begun s calls);
  steps = steps;
}
