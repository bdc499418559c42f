-- The trace of the examples: one step, which writes Cons(2, Nil) over Cons(1, Nil) in cell 0, as that of
-- fbip fun inc(xs: ints): ints { match! xs { Nil -> Nil; Cons(x, t) -> Cons(x + 1, inc(t)) } }
-- has its one event at a later step. After it a trace whose cell is released.
use Rattle.std.specs.Prelude.{ℕ, List, [], ◌∷◌, ◌++◌, codes, pos}
use Rattle.tree_refinement.specs.fip_language.Values.{Value, Int, Node, Values, End, More}
use Rattle.tree_refinement.specs.fip_language.Store.{Cell}
use Rattle.tree_refinement.specs.machine_semantics.Cells.{Write, Release}
use Rattle.run_loading.specs.TraceText.{Loaded, Trace}

-- Cons(1, Nil) at place 0
abbrev pub a_cell : Loaded
a_cell = record { place = 0; tag = 1; fields = 1 ∷ 0 ∷ [] }

abbrev pub rewriting : Trace
rewriting = record {
  cells = a_cell ∷ [];
  events = record { step = 1; change = Write 0 1 (2 ∷ 0 ∷ []) } ∷ [];
  steps = 1;
}

-- Cons(item, ..) with the word of the other items
abbrev pub cell : ℕ → ℕ → Cell
cell item rest = record { tag = 1; fields = item ∷ rest ∷ [] }

-- its file, up to its event's byte, and after it
abbrev pub file_front : List ℕ
file_front = codes "FP2T" ++ (0 ∷ 1 ∷ 0 ∷ 0 ∷ 0 ∷ 1
    ∷ 0 ∷ 0 ∷ 0 ∷ 0 ∷ 0 ∷ 0 ∷ 0 ∷ 1 ∷ 2 ∷ 0 ∷ 0 ∷ 0 ∷ 0 ∷ 0 ∷ 0 ∷ 0 ∷ 1 ∷ 0 ∷ 0 ∷ 0 ∷ 0 ∷ 0 ∷ 0 ∷ 0 ∷ 0
    ∷ 0 ∷ 0 ∷ 0 ∷ 1 ∷ 0 ∷ 0 ∷ 0 ∷ 0 ∷ 0 ∷ 0 ∷ 0 ∷ 1 ∷ [])

abbrev pub file_back : List ℕ
file_back = 0 ∷ 0 ∷ 0 ∷ 0 ∷ 0 ∷ 0 ∷ 0 ∷ 1 ∷ 0 ∷ 0 ∷ 0 ∷ 0 ∷ 0 ∷ 0 ∷ 0 ∷ 2 ∷ 0 ∷ 0 ∷ 0 ∷ 0 ∷ 0 ∷ 0 ∷ 0 ∷ 0
    ∷ 0 ∷ 0 ∷ 0 ∷ 0 ∷ 0 ∷ 0 ∷ 0 ∷ 1 ∷ []

-- with this byte for the event's
abbrev pub file_with : ℕ → List ℕ
file_with op = file_front ++ op ∷ file_back

abbrev pub releasing : Trace
releasing = record {
  cells = a_cell ∷ [];
  events = record { step = 2; change = Release 0 } ∷ [];
  steps = 4;
}

-- Cons(1, Cons(2, Nil)), and Nil
abbrev pub nil : Value
nil = Node 0 End

abbrev pub cons : ℕ → Value → Value
cons n v = Node 1 (More (Int (pos n)) (More v End))

abbrev pub arguments : Values
arguments = More (cons 1 (cons 2 nil)) (More nil End)
