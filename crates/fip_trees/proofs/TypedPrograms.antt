-- What a typed program keeps to by its type.
use Rattle.std.proofs.Common.{◌≡◌, ◌≤◌, ℕ, length, Some, slice_get}
use Rattle.std.proofs.Math.Logic.{∥∥₁_elim}
use Rattle.std.specs.Coded.{le_prop}
use Rattle.fip_base.specs.fip_language.declared.limits.TheConstants.{MOST_CREDITS, MOST_FIELDS, MOST_INSTANCES}
use Rattle.fip_trees.specs.SoundProgram.{IsSoundProgram}
use Rattle.fip_trees.specs.Tree.{Instance, Program}

pub few_instances : (p : Program) → ∥ IsSoundProgram p ∥₁ → length p.instances ≤ MOST_INSTANCES
few_instances p h = ∥∥₁_elim h le_prop (λ x. x.few)

pub few_types : (p : Program) → ∥ IsSoundProgram p ∥₁ → length p.types ≤ MOST_INSTANCES
few_types p h = ∥∥₁_elim h le_prop (λ x. x.few_types)

pub few_credits : (p : Program) → ∥ IsSoundProgram p ∥₁ → (g : ℕ) (d : Instance) → slice_get p.instances g ≡ Some d → length d.credits ≤ MOST_CREDITS
few_credits p h g d a = ∥∥₁_elim h le_prop (λ x. (x.credits g d a).few)

pub credits_sized : (p : Program) → ∥ IsSoundProgram p ∥₁ → (g : ℕ) (d : Instance) → slice_get p.instances g ≡ Some d → (i n : ℕ) → slice_get d.credits i ≡ Some n → (1 ≤ n) × (n ≤ MOST_FIELDS)
credits_sized p h g d a i n e = (∥∥₁_elim h le_prop (λ x. ((x.credits g d a).sized i n e).0), ∥∥₁_elim h le_prop (λ x. ((x.credits g d a).sized i n e).1))
