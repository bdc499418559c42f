-- The values that no row of patterns matches, and those that are matched by one row and by none before it.
use Rattle.std.specs.Prelude.{◌≡◌, ℕ, true, false, List, []}
use Rattle.fip_base.specs.fip_language.Values.{Value}
use Rattle.fip_base.specs.fip_language.Table.{Table, HasType}
use Rattle.match_knowledge.specs.Patterns.{Pattern, Any, Test, Patterns, NoPatterns, MorePatterns, fits, some_fits}
use Rattle.match_knowledge.specs.Known.{Known, Open, Is, Knowns, NoKnowns, MoreKnowns, agrees}

-- some value of the type agrees with what is known, and no row matches it
abbrev pub Left : Table → ℕ → List Pattern → Known → Type 0
Left tb t rows k = (v : Value) × HasType tb t v × (agrees k v ≡ true) × (some_fits rows v ≡ false)

-- Some value of the type is matched by no row.
abbrev pub Missed : Table → ℕ → List Pattern → Type 0
Missed tb t rows = (v : Value) × HasType tb t v × (some_fits rows v ≡ false)

-- Some value of the type is matched by the pattern and by none of the rows before it.
abbrev pub Reached : Table → ℕ → List Pattern → Pattern → Type 0
Reached tb t before p = (v : Value) × HasType tb t v × (fits p v ≡ true) × (some_fits before v ≡ false)

-- what the pattern asks, as what is known
abbrev mutual
  pub known_of : Pattern → Known
  known_of Any = Open []
  known_of (Test t h ps) = Is h (all_known ps)

  pub all_known : Patterns → Knowns
  all_known NoPatterns = NoKnowns
  all_known (MorePatterns p ps) = MoreKnowns (known_of p) (all_known ps)
