-- What breaks the rules on ownership in a program, and what a refusal says.
use Rattle.std.specs.Prelude.{◌≡◌, ℕ, suc, true, List, [], ◌∷◌, ◌⊎◌}
use Rattle.fip_base.specs.declared.refusal.PhaseError.{PhaseError}
use Rattle.fip_base.specs.declared.refusal.PhaseError.TheVariants.{Refused, NoMemory}
use Rattle.fip_trees.specs.declared.least.Violation.{Violation}
use Rattle.fip_trees.specs.Least.{IsLeastOf, refusal}
use Rattle.fip_trees.specs.Tree.{Instance, Program}
use Rattle.fip_rules.specs.Marks.{Breach, reported}
use Rattle.fip_rules.specs.Rules.{Breaks}
use Rattle.fip_rules.specs.World.{world, is_fip, is_ruled}
use Rattle.fip_rules.specs.Shapes.{body}

-- what breaks a rule in the instance of number i
abbrev pub BreaksInstance : Program → ℕ → Instance → Breach → Type 0
BreaksInstance p i d b = (is_ruled d.kind ≡ true) × Breaks i (is_fip d.kind) (body (world p d.kind) d) b

-- what breaks a rule in some instances, numbered from i on
abbrev pub BreaksOne : Program → ℕ → List Instance → Breach → Type 0
BreaksOne p i [] b = ⊥
BreaksOne p i (d ∷ ds) b = BreaksInstance p i d b ⊎ BreaksOne p (suc i) ds b

-- the violations of a program
abbrev pub Violates : Program → Violation → Type 0
Violates p v = (b : Breach) × BreaksOne p 0 p.instances b × (v ≡ reported b)

-- a refusal names the least violation
abbrev pub Says : Program → PhaseError → Type 0
Says p (Refused r) = (v : Violation) × IsLeastOf (Violates p) v × (r ≡ refusal v)
Says p NoMemory = Unit {0}
