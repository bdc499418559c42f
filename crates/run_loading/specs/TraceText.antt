-- For the theorem that a trace is read as it was written: which traces have a file.
use Rattle.std.specs.Prelude.{◌≡◌, ◌≢◌, ℕ, suc, ◌^◌, ◌<◌, ◌≤◌, List, [], ◌∷◌, length, Some, None}
use Rattle.tree_refinement.specs.fip_language.declared.limits.TheConstants.{MOST_FIELDS}
use Rattle.tree_refinement.specs.fip_language.Every.{Every}
use Rattle.tree_refinement.specs.machine_semantics.Cells.{Change, Write, Release}
use Rattle.tree_refinement.specs.machine_semantics.Traces.{Event}
pub use Rattle.run_loading.specs.TraceFile.{Loaded, Trace, words_text, cell_text, cells_text, change_text, events_text}
pub use Rattle.run_loading.specs.TraceFile.{trace_text, size_at, without, left_by}
unfoldable pub use Rattle.run_loading.specs.TraceFile.{big_endian}

-- ---- what can be written so

abbrev pub IsWord : ℕ → Type 0
IsWord w = w < 2 ^ 64

-- a cell at this place or after it
pub record IsCell (least : ℕ) (c : Loaded) : Type 0 where
  pub above : least ≤ c.place
  pub place : c.place < 2 ^ 32
  pub tag : c.tag < 2 ^ 32
  pub some : 1 ≤ length c.fields
  pub few : length c.fields ≤ MOST_FIELDS
  pub words : Every IsWord c.fields

-- Cells whose places rise, from this one on.
abbrev pub AreCells : ℕ → List Loaded → Type 0
AreCells least [] = Unit {0}
AreCells least (c ∷ cs) = IsCell least c × AreCells (suc c.place) cs

-- a change of a cell that isn't released
abbrev pub IsChange : List Loaded → Change → Type 0
IsChange live (Write place tag fields) =
    (place < 2 ^ 32) × (size_at place live ≡ Some (length fields)) × (tag < 2 ^ 32) × Every IsWord fields
IsChange live (Release place) = (place < 2 ^ 32) × (size_at place live ≢ None)

-- Events whose steps never fall, from this one on, and reach the last at most.
abbrev pub AreEvents : List Loaded → ℕ → ℕ → List Event → Type 0
AreEvents live least last [] = Unit {0}
AreEvents live least last (e ∷ es) =
    (least ≤ e.step) × (e.step ≤ last) × IsChange live e.change × AreEvents (left_by e.change live) e.step last es

pub record IsTrace (t : Trace) : Type 0 where
  pub cells : AreCells 0 t.cells
  pub cell_count : length t.cells < 2 ^ 32
  pub events : AreEvents t.cells 1 t.steps t.events
  pub event_count : length t.events < 2 ^ 32
  pub steps : t.steps < 2 ^ 64

-- The bytes are the file of this trace.
pub record IsTraceText (bytes : List ℕ) (t : Trace) : Type 0 where
  pub trace : IsTrace t
  pub is : bytes ≡ trace_text t
