-- For the theorem on schedules: how tasks lie in one store where their arguments are loaded one after another.
--
-- The first task's cells lie as in a new store. Those of each further task lie after the cells of the tasks before it,
-- in the same order, and the words that it is given name them there. Alone it begins in a new store of its own; so the
-- places of its cells in the shared store are those that they have alone, moved by the number of places before them.
--
-- rev(Cons(1, Nil), Cons(3, Nil)) and rev(Cons(2, Nil), Cons(4, Nil)) have two cells each, which take six places: the
-- first task's are at 0 and 3, the second's at 6 and 9. The first is given the words 1 and 7, the second 13 and 19, and
-- alone 1 and 7 too.
use Rattle.std.specs.Prelude.{◌≡◌, ℕ, ◌+◌, List, [], ◌∷◌, ◌++◌, Option, Some, length, map}
use Rattle.run_loading.specs.fip_language.Store.{Cell}
use Rattle.run_loading.specs.fip_language.Table.{HaveTypes}
use Rattle.run_loading.specs.fip_language.Values.{Values}
use Rattle.run_loading.specs.machine_semantics.Cells.{Store}
use Rattle.run_loading.specs.machine_semantics.Runs.{Run, loaded, begun}
use Rattle.run_loading.specs.machine_semantics.States.{State}
use Rattle.run_loading.specs.cell_code.Plain.{PlainFunction, PlainCode, function_at}
use Rattle.run_loading.specs.Loading.{all_places, all_words, credit_places, credit_words, unreleased}
use Rattle.run_loading.specs.Loading.{first_store, first_words}
use Rattle.task_semantics.specs.Projected.{Begun}
use Rattle.task_semantics.specs.Schedules.{Shared}

-- a call of a function of the code: its header, its arguments, and the calls and frames of its run
pub record Task : Type 0 where
  pub function : ℕ
  pub header : PlainFunction
  pub arguments : Values
  pub calls : ℕ
  pub frames : ℕ

-- The code has this function, and the arguments have the types of its parameters.
pub record IsTask (c : PlainCode) (t : Task) : Type 0 where
  pub there : function_at c t.function ≡ Some t.header
  pub typed : HaveTypes c.types (map (λ p. p.ty) t.header.params) t.arguments

-- the places of a task's cells, and the words that it is given, where n places are before them
abbrev pub task_places : ℕ → Task → List (Option Cell)
task_places n t = all_places n t.arguments ++ credit_places t.header.credits

abbrev pub task_words : ℕ → Task → List ℕ
task_words n t =
    all_words n t.arguments ++ credit_words (n + length (all_places n t.arguments)) t.header.credits

-- the places of the cells of all tasks
abbrev pub laid : ℕ → List Task → List (Option Cell)
laid n [] = []
laid n (t ∷ ts) = task_places n t ++ laid (n + length (task_places n t)) ts

abbrev pub shared_store : List Task → Store
shared_store ts = unreleased (laid 0 ts)

-- The task, whose cells have n places before them in the shared store, begins alone in a new store, and there with its
-- words.
pub record IsBegun (c : PlainCode) (shared : Store) (n : ℕ) (t : Task) (b : Begun) (r : Run) : Type 0 where
  pub task : IsTask c t
  pub own : State
  pub first : loaded c t.function (first_store t.arguments t.header.credits)
      (first_words t.arguments t.header.credits) t.frames ≡ Some own
  pub among : State
  pub further : loaded c t.function shared (task_words n t) t.frames ≡ Some among
  pub alone : b ≡ record { function = t.function; state = own; calls = t.calls; places = λ p. n + p }
  pub run : r ≡ begun among t.calls

abbrev pub AreBegun : PlainCode → Store → ℕ → List Task → List Begun → List Run → Type 0
AreBegun c shared n [] [] [] = Unit {0}
AreBegun c shared n (t ∷ ts) (b ∷ bs) (r ∷ rs) =
    IsBegun c shared n t b r × AreBegun c shared (n + length (task_places n t)) ts bs rs
AreBegun c shared n ts bs rs = ⊥

-- The tasks are loaded one after another, and each begins so, alone and in the shared store.
pub record AreLaid (c : PlainCode) (tasks : List Task) (alone : List Begun) (first : Shared) : Type 0 where
  pub store : first.store ≡ shared_store tasks
  pub begun : AreBegun c (shared_store tasks) 0 tasks alone first.runs
