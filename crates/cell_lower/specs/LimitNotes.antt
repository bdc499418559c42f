-- For the proofs alone: what one walk over the instances notes of rule E60, and the registers of those that keep it.
use Rattle.std.specs.Prelude.{◌≡◌, ◌≤◌, ℕ, suc, Bool, true, false, List, [], ◌∷◌, ◌++◌, Some, slice_get}
use Rattle.fip_language.specs.declared.limits.TheConstants.{MOST_REGISTERS}
use Rattle.fip_language.specs.declared.rule.Rule.TheVariants.{E60}
use Rattle.fip_language.specs.Table.{Table}
use Rattle.fip_trees.specs.declared.groups.Member.{Member}
use Rattle.fip_trees.specs.declared.least.Violation.{Violation}
use Rattle.fip_trees.specs.Least.{violation}
use Rattle.fip_trees.specs.Tree.{Instance}
use Rattle.cell_lower.specs.Limits.{exceeds, is_ruled, registers}

abbrev pub when : Bool → Violation → List Violation
when true v = v ∷ []
when false v = []

-- what is noted of an instance of number i with n registers
abbrev pub instance_notes : Table → ℕ → ℕ → Instance → List Violation
instance_notes tb n i d = when (exceeds tb n d) (violation E60 d.place i 0 d.name)

abbrev pub notes_from : Table → List Member → ℕ → List Instance → List Violation
notes_from tb ms i [] = []
notes_from tb ms i (d ∷ ds) = instance_notes tb (registers ms i) i d ++ notes_from tb ms (suc i) ds

-- each instance that isn't plain has few registers
abbrev pub HaveFewRegisters : List Member → List Instance → Type 0
HaveFewRegisters ms ds = (i : ℕ) (d : Instance) → slice_get ds i ≡ Some d → is_ruled d.kind ≡ true →
    registers ms i ≤ MOST_REGISTERS
