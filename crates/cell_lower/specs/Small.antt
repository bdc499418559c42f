-- For the proofs on the size of code alone: the functions of instances, one after another.
use Rattle.std.specs.Prelude.{ℕ, Bool, List}
use Rattle.fip_trees.specs.declared.groups.Member.{Member}
use Rattle.fip_trees.specs.Tree.{Instance}
use Rattle.cell_code.specs.declared.code.Function.{Function}
use Rattle.lower_parts.specs.lowering_relation.Values.{Setting}
use Rattle.lower_parts.specs.lowering_relation.WellMatched.{WellMatchedBlock}
use Rattle.cell_lower.specs.Instances.{HaveEach, AddsEach}
use Rattle.cell_lower.specs.Limits.{registers}
use Rattle.cell_lower.specs.Sizes.{IsSmall}

-- where its patterns are typed, this function of an instance with n registers is small
pub record IsSmallOf (s : Setting) (n : ℕ) (d : Instance) (f : Function) : Type 0 where
  pub by : WellMatchedBlock s.types d.body → IsSmall s.types n d f

abbrev pub small_at : Setting → List Member → ℕ → Instance → Function → Type 0
small_at s ms i d f = IsSmallOf s (registers ms i) d f

-- instances from number i on have functions from number n on
abbrev pub HaveSmall : Setting → List Member → List Instance → ℕ → ℕ → List Function → Type 0
HaveSmall s ms ds i n fs = HaveEach (small_at s ms) ds i n fs

-- what instance i adds: nothing where it is plain
abbrev pub AddsSmall : Setting → List Member → ℕ → Bool → Instance → List Function → List Function → Type 0
AddsSmall s ms i b d fs gs = AddsEach (small_at s ms) i b d fs gs
