-- For the proofs alone: the list of what the walk notes in a program.
use Rattle.std.specs.Prelude.{ℕ, suc, Bool, List, [], ◌∷◌, ◌++◌, not, if◌then◌else◌}
use Rattle.fip_trees.specs.fip_language.declared.FunKind.{FunKind}
use Rattle.fip_trees.specs.fip_language.Table.{is_scalar}
use Rattle.fip_base.specs.declared.plain.Param.{Param}
use Rattle.fip_trees.specs.declared.program.Binder.{Binder}
use Rattle.fip_trees.specs.Tree.{Instance, Program}
use Rattle.fip_rules.specs.Marks.{Breach}
use Rattle.fip_rules.specs.Notes.{nothing, notes}
use Rattle.fip_rules.specs.World.{World, ownership, is_fip, is_ruled}
use Rattle.fip_rules.specs.Shapes.{Bind, body}

abbrev pub instance_notes : World → ℕ → Instance → List Breach
instance_notes w i d = if is_ruled w.kind then notes i (is_fip w.kind) nothing (body w d) else []

abbrev pub world_with : (ℕ → Bool) → List Instance → FunKind → World
world_with s all k = record { scalar = s; instances = all; kind = k }

abbrev pub all_notes : (ℕ → Bool) → List Instance → ℕ → List Instance → List Breach
all_notes s all i [] = []
all_notes s all i (d ∷ ds) = instance_notes (world_with s all d.kind) i d ++ all_notes s all (suc i) ds

abbrev pub program_notes : Program → List Breach
program_notes p = all_notes (is_scalar p.types) p.instances 0 p.instances

-- the binder of the first parameter, if there is one
abbrev pub first_parameter : World → List Param → Binder → List Bind
first_parameter w [] b = []
first_parameter w (p ∷ ps) b = record { ownership = ownership w (not p.lent) p.ty; binder = b } ∷ []
