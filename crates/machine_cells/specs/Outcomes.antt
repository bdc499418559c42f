-- What an outcome reports: the word of the value that the operator gives, or why it gives none.
-- 3 + 4 is reported by the word 7, 3 < 4 by True, whose word is 2, and 3 / 0 by a trap.
use Rattle.std.specs.Prelude.{◌≡◌, ℕ, Bool, if◌then◌else◌}
use Rattle.fip_language.specs.Arithmetic.{Operated, Is, Fails}
use Rattle.machine_semantics.specs.Words.{scalar_word}
use Rattle.machine_cells.specs.declared.arithmetic.Outcome.{Outcome}
use Rattle.machine_cells.specs.declared.arithmetic.Outcome.TheVariants as O

-- False is constructor 0 of bool, True is constructor 1
abbrev pub truth_word : Bool → ℕ
truth_word b = if b then 2 else 0

abbrev pub Reports : Operated → Outcome → Type 0
Reports (Is v) (O.Int w) = scalar_word v ≡ w
Reports (Is v) (O.Flag b) = scalar_word v ≡ truth_word b
Reports (Is v) (O.Trap k) = ⊥
Reports (Fails k) (O.Int w) = ⊥
Reports (Fails k) (O.Flag b) = ⊥
Reports (Fails k) (O.Trap j) = j ≡ k
