-- What words stand for, and how the end of a run on cells is that of a run on trees.
-- With Cons(1, Nil) in cell 0 the words 1 and 0 stand for Cons(1, Nil) and Nil. The reversal of Cons(1, Nil) in cell 0
-- and of Nil is over with the word 1; on trees it is over with Cons(1, Nil), for which the word stands.
use Rattle.std.specs.Prelude.{◌≡◌, ℕ, List}
use Rattle.tree_semantics.specs.fip_language.Values.{Values}
use Rattle.tree_semantics.specs.fip_language.Table.{Table}
use Rattle.tree_semantics.specs.fip_language.Store.{Parts, values_of, words_of}
use Rattle.tree_semantics.specs.machine_semantics.Cells.{Store}
use Rattle.tree_semantics.specs.machine_semantics.Trees.{StandAll}
use Rattle.tree_semantics.specs.fip_language.Meaning as M
use Rattle.tree_semantics.specs.machine_semantics.States.{State}
use Rattle.tree_semantics.specs.machine_semantics.Runs.{End, Value, Trap, Out, Deep}

-- The words of these types stand for the values.
abbrev pub AreWordsOf : Table → Store → List ℕ → List ℕ → Values → Type 0
AreWordsOf tb s ts ws vs = (xs : Parts) × (ws ≡ words_of xs) × StandAll tb s ts xs × (values_of xs ≡ vs)

-- The end of a run on cells, in this last state, with so many calls left, is the answer of a run on trees, where the
-- entry gives results of these types.
abbrev pub IsSameEnd : Table → List ℕ → State → ℕ → End → M.Answer → Type 0
IsSameEnd tb types s left (Value ws) (M.Gives vs l) = AreWordsOf tb s.store types ws vs × (left ≡ l)
IsSameEnd tb types s left (Trap k line col) (M.Trap l row at) = (k ≡ l) × (line ≡ row) × (col ≡ at)
IsSameEnd tb types s left Out M.Out = Unit {0}
IsSameEnd tb types s left Deep M.Deep = Unit {0}
IsSameEnd tb types s left e a = ⊥
