-- When two runs end alike, wherever their cells lie: the words that they give stand for the same values, each in its
-- own last state; or both end in the same trap, or both are out of calls or of frames.
--
-- Where Cons(1, Nil) lies in cell 0 of one store and in cell 5 of another, a run that ends with the word 1 in the first
-- and one that ends with the word 11 in the other end alike.
use Rattle.std.specs.Prelude.{◌≡◌, ℕ, List}
use Rattle.tree_semantics.specs.fip_language.Table.{Table}
use Rattle.tree_semantics.specs.fip_language.Values.{Values}
use Rattle.tree_semantics.specs.machine_semantics.Cells.{Store}
use Rattle.tree_semantics.specs.machine_semantics.Runs.{End, Value, Trap, Out, Deep}
use Rattle.tree_refinement.specs.Agreement.{AreWordsOf}

-- the ends in these stores, where results have these types
abbrev pub IsAlike : Table → List ℕ → Store → End → Store → End → Type 0
IsAlike tb types s (Value ws) u (Value vs) =
    (values : Values) × AreWordsOf tb s types ws values × AreWordsOf tb u types vs values
IsAlike tb types s (Trap k line col) u (Trap l row at) = (k ≡ l) × (line ≡ row) × (col ≡ at)
IsAlike tb types s Out u Out = Unit {0}
IsAlike tb types s Deep u Deep = Unit {0}
IsAlike tb types s e u d = ⊥
