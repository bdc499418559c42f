-- It serves the proofs on lowered code: how many registers a function has, and which of them hold something.
use Rattle.std.specs.Prelude.{◌≡◌, ◌≤◌, ℕ, max, List, Option, Some, None, length, slice_get}
use Rattle.lowering_relation.specs.declared.held.Held.{Held}
use Rattle.lowering_relation.specs.declared.held.Held.TheVariants as H
use Rattle.lowering_relation.specs.declared.held.Credit.{Credit}
use Rattle.lowering_relation.specs.Known.{Known}

abbrev pub registers : Known → ℕ
registers k = length k.held

abbrev pub holds : Held → ℕ
holds H.Nothing = 0
holds (H.Scalar t) = 1
holds (H.Owned t b) = 1
holds (H.Lent t root) = 1
holds (H.Credit n) = 1
holds (H.Bare t c) = 1

abbrev pub IsFull : Option Held → Type 0
IsFull None = ⊥
IsFull (Some h) = holds h ≡ 1

-- the register of a credit holds something
abbrev pub IsHeld : List Held → Option Credit → Type 0
IsHeld hs None = ⊥
IsHeld hs (Some c) = IsFull (slice_get hs c.register)

-- where registers were taken into use, the function has them
abbrev pub HasRoom : Known → Known → Type 0
HasRoom k l = l.next ≤ max k.next (registers k)
