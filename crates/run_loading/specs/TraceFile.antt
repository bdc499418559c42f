-- The file of a trace, which reports the cells that a run begins with, by place, what its steps did to them, and how
-- many steps it took.
--
-- All numbers are big-endian. The file is "FP2T", the version 0001, the cells after their number, the events after
-- theirs, and the number of steps in eight bytes. A cell is its place, its constructor, its size in one byte, and its
-- fields. An event is its step, a byte, and its place: after the byte 0 and the place are the constructor and the
-- fields that the cell gets; the byte 1 releases the cell. Places, constructors and numbers have four bytes, steps and
-- fields eight.
--
-- The trace of a run of one step, which writes Cons(2, Nil) over Cons(1, Nil) in cell 0, has 6 + 4 + 25 + 4 + 33 + 8 =
-- 80 bytes.
use Rattle.std.specs.Prelude.{ℕ, zero, suc, ◌/◌, ◌%◌, List, [], ◌∷◌, ◌++◌, length, codes, Option, Some, None, ◌==◌}
use Rattle.std.specs.Prelude.{if◌then◌else◌}
use Rattle.tree_refinement.specs.machine_semantics.Cells.{Change, Write, Release}
use Rattle.tree_refinement.specs.machine_semantics.Traces.{Event}

-- a cell that is there before the first step
pub record Loaded : Type 0 where
  pub place : ℕ
  pub tag : ℕ
  pub fields : List ℕ

pub record Trace : Type 0 where
  pub cells : List Loaded
  pub events : List Event
  pub steps : ℕ

-- a number in so many bytes
unfoldable pub big_endian : ℕ → ℕ → List ℕ
big_endian zero n = []
big_endian (suc w) n = big_endian w (n / 256) ++ (n % 256) ∷ []

abbrev pub words_text : List ℕ → List ℕ
words_text [] = []
words_text (w ∷ ws) = big_endian 8 w ++ words_text ws

abbrev pub cell_text : Loaded → List ℕ
cell_text c = big_endian 4 c.place ++ (big_endian 4 c.tag ++ (big_endian 1 (length c.fields) ++ words_text c.fields))

abbrev pub cells_text : List Loaded → List ℕ
cells_text [] = []
cells_text (c ∷ cs) = cell_text c ++ cells_text cs

abbrev pub change_text : Change → List ℕ
change_text (Write place tag fields) = 0 ∷ big_endian 4 place ++ (big_endian 4 tag ++ words_text fields)
change_text (Release place) = 1 ∷ big_endian 4 place

abbrev pub events_text : List Event → List ℕ
events_text [] = []
events_text (e ∷ es) = (big_endian 8 e.step ++ change_text e.change) ++ events_text es

abbrev pub trace_text : Trace → List ℕ
trace_text t = codes "FP2T" ++ (0 ∷ 1 ∷ big_endian 4 (length t.cells) ++ (cells_text t.cells
    ++ (big_endian 4 (length t.events) ++ (events_text t.events ++ big_endian 8 t.steps))))

-- the size of the cell at a place, where there is one
abbrev pub size_at : ℕ → List Loaded → Option ℕ
size_at p [] = None
size_at p (c ∷ cs) = if c.place == p then Some (length c.fields) else size_at p cs

abbrev pub without : ℕ → List Loaded → List Loaded
without p [] = []
without p (c ∷ cs) = if c.place == p then without p cs else c ∷ without p cs

-- the cells that aren't released after a change
abbrev pub left_by : Change → List Loaded → List Loaded
left_by (Write place tag fields) cells = cells
left_by (Release place) cells = without place cells
