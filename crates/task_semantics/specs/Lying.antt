-- For the theorem on schedules: tasks whose cells lie in one store at any places, where no cell is one of two tasks.
--
-- Alone, such a task has a store with the same places, at which only its own cells begin. So the places of its cells in
-- the shared store are those that they have alone.
--
-- rev(Cons(1, Nil), Cons(3, Nil)) and rev(Cons(2, Nil), Cons(4, Nil)) may lie with their cells at 0 and 6, and at 3 and
-- 9; the first is then given the words 1 and 13, the second 7 and 19.
use Rattle.std.specs.Prelude.{◌≡◌, ℕ, zero, suc, ◌+◌, ◌≤◌, false, List, [], ◌∷◌, ◌++◌, Option, Some, None, length, map}
use Rattle.std.specs.Prelude.{replicate, slice_get}
use Rattle.run_loading.specs.fip_language.Every.{Every}
use Rattle.run_loading.specs.fip_language.Store.{Cell, Parts, values_of, words_of, count, uses_of_all}
use Rattle.run_loading.specs.machine_semantics.Apart.{AreSpare}
use Rattle.run_loading.specs.machine_semantics.Cells.{Store, IsStore, there, released_at}
use Rattle.run_loading.specs.machine_semantics.Runs.{Run, loaded, begun}
use Rattle.run_loading.specs.machine_semantics.States.{State}
use Rattle.run_loading.specs.machine_semantics.Trees.{StandAll}
use Rattle.run_loading.specs.machine_semantics.Words.{place_word}
use Rattle.run_loading.specs.cell_code.Plain.{PlainCode, function_at}
use Rattle.task_semantics.specs.Laid.{Task}
use Rattle.task_semantics.specs.Projected.{Begun}
use Rattle.task_semantics.specs.Schedules.{Shared}

-- a call, the trees of its arguments, and the places of the cells of its credits
pub record Lying : Type 0 where
  pub task : Task
  pub trees : Parts
  pub spares : List ℕ

-- The code has this function, the trees stand in the store for the arguments, and there is a cell for each credit.
pub record LiesIn (c : PlainCode) (s : Store) (l : Lying) : Type 0 where
  pub there : function_at c l.task.function ≡ Some l.task.header
  pub values : values_of l.trees ≡ l.task.arguments
  pub stand : StandAll c.types s (map (λ p. p.ty) l.task.header.params) l.trees
  pub credits : AreSpare s l.task.header.credits l.spares

-- how often a call uses a cell, and how often all of them do
abbrev pub uses_by : Lying → ℕ → ℕ
uses_by l p = uses_of_all p l.trees + count p l.spares

abbrev pub uses_by_all : List Lying → ℕ → ℕ
uses_by_all [] p = 0
uses_by_all (l ∷ ls) p = uses_by l p + uses_by_all ls p

-- Calls lie apart in the store: no cell is used twice, and none that is used is released.
pub record LieApart (c : PlainCode) (s : Store) (ls : List Lying) : Type 0 where
  pub store : IsStore s
  pub calls : Every (LiesIn c s) ls
  pub once : (p : ℕ) → uses_by_all ls p + released_at s p ≤ there s p

-- the words that a call is given
abbrev pub call_words : Lying → List ℕ
call_words l = words_of l.trees ++ map (λ p. place_word p) l.spares

-- the cells that are used
abbrev pub cell_if : ℕ → Option Cell → Option Cell
cell_if zero o = None
cell_if (suc n) o = o

abbrev pub cells_used : (ℕ → ℕ) → List (Option Cell) → List (Option Cell)
cells_used u [] = []
cells_used u (o ∷ os) = cell_if (u 0) o ∷ cells_used (λ p. u (suc p)) os

-- the store of a call's own cells
abbrev pub own_store : Store → Lying → Store
own_store s l = record { cells = cells_used (uses_by l) s.cells; released = replicate (length s.cells) false }

-- The call begins alone over its own cells, and in the shared store with the same words.
pub record IsBegun (c : PlainCode) (s : Store) (l : Lying) (b : Begun) (r : Run) : Type 0 where
  pub own : State
  pub first : loaded c l.task.function (own_store s l) (call_words l) l.task.frames ≡ Some own
  pub among : State
  pub further : loaded c l.task.function s (call_words l) l.task.frames ≡ Some among
  pub alone : b ≡ record { function = l.task.function; state = own; calls = l.task.calls; places = λ p. p }
  pub run : r ≡ begun among l.task.calls

-- Calls that lie apart begin so.
pub record AreApart (c : PlainCode) (ls : List Lying) (alone : List Begun) (first : Shared) : Type 0 where
  pub apart : LieApart c first.store ls
  pub number_alone : length alone ≡ length ls
  pub number : length first.runs ≡ length ls
  pub begun : (k : ℕ) (l : Lying) (b : Begun) (r : Run) → slice_get ls k ≡ Some l → slice_get alone k ≡ Some b →
      slice_get first.runs k ≡ Some r → IsBegun c first.store l b r
