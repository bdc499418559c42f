-- What putting the values of arguments after others does, where they have some. It serves the proof that an evaluation
-- gives what its program means.
use Rattle.std.specs.Prelude.{◌≡◌, List, [], ◌∷◌, ◌++◌, Option, Some, None}
use Rattle.fip_trees.specs.fip_language.Values.{Value as Tree, Values}
use Rattle.plain_rows.specs.declared.store.Value.{Value}
use Rattle.plain_rows.specs.declared.store.Store.{Store}
use Rattle.plain_rows.specs.Rows.{Stands, StandAll}

abbrev pub GivesOne : Option Tree → List Value → Store → List Value → Type 0
GivesOne None old s new = Unit {0}
GivesOne (Some v) old s new = (w : Value) × (new ≡ old ++ w ∷ []) × Stands s w v

abbrev pub GivesAll : Option Values → List Value → Store → List Value → Type 0
GivesAll None old s new = Unit {0}
GivesAll (Some vs) old s new = (ws : List Value) × (new ≡ old ++ ws) × StandAll s ws vs
