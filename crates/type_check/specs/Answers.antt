-- What a refusal says: the least violation, by its place, rule, instance and detail.
use Rattle.std.specs.Prelude.{◌≡◌}
use Rattle.fip_base.specs.declared.refusal.PhaseError.{PhaseError}
use Rattle.fip_base.specs.declared.refusal.PhaseError.TheVariants.{Refused, NoMemory}
use Rattle.fip_trees.specs.declared.least.Violation.{Violation}
use Rattle.fip_trees.specs.Tree.{Program}
use Rattle.fip_trees.specs.Least.{IsLeast, refusal}
use Rattle.type_check.specs.Faults.{type_faults}

abbrev pub Says : Program → PhaseError → Type 0
Says p (Refused r) = (v : Violation) × IsLeast (type_faults p) v × (r ≡ refusal v)
Says p NoMemory = Unit {0}
