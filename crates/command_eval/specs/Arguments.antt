-- What keeps an evaluation from its arguments: the input is no text of them, by its place; or memory runs out.
use Rattle.std.specs.Prelude.{ℕ, List}
use Rattle.fip_language.specs.Prefix.{IsPlace}
use Rattle.fip_language.specs.Table.{Table}
use Rattle.fip_language.specs.ValueText.{SpellsValues}
use Rattle.command_outcome.specs.declared.failure.Failure.{Failure}
use Rattle.command_outcome.specs.declared.failure.Failure.TheVariants as F

abbrev pub IsNoText : Table → List ℕ → List ℕ → Failure → Type 0
IsNoText types params input (F.BadInput at) = IsPlace (SpellsValues types params) input at
IsNoText types params input F.NoMemory = Unit {0}
IsNoText types params input failure = ⊥
