-- What an operator gives, as a value of the evaluation.
use Rattle.std.specs.Prelude.{◌≡◌, ℤ, Option, Some, None, Result, Ok, Err, FitsSigned}
use Rattle.std.specs.Int.{w64}
use Rattle.fip_trees.specs.fip_language.Values.{Value as Tree, Int, Node, End, More}
use Rattle.fip_trees.specs.fip_language.declared.TrapKind.{TrapKind}
use Rattle.fip_trees.specs.fip_language.Arithmetic.{Operated, Is, Fails}
use Rattle.plain_rows.specs.declared.store.Value.{Value}
use Rattle.plain_rows.specs.declared.store.Value.TheVariants as V

-- the value of an int or of a constructor without fields
abbrev pub IsPlain : Tree → Value → Type 0
IsPlain (Int i) w = w ≡ V.Int i
IsPlain (Node c End) w = w ≡ V.Bare c
IsPlain (Node c (More v vs)) w = ⊥

abbrev pub IsOutcome : Operated → Result Value TrapKind → Type 0
IsOutcome (Is v) (Ok w) = IsPlain v w
IsOutcome (Is v) (Err k) = ⊥
IsOutcome (Fails kind) (Ok w) = ⊥
IsOutcome (Fails kind) (Err k) = k ≡ kind

-- this int where it has 64 bits, and else none
abbrev pub IsExact : Option ℤ → ℤ → Type 0
IsExact (Some j) i = (j ≡ i) × FitsSigned w64 j
IsExact None i = FitsSigned w64 i → ⊥
