-- What the rules look up: which types are scalar, the instances, and the kind of the instance in which they are
-- checked.
use Rattle.std.specs.Prelude.{ℕ, Bool, true, false, not, ◌&&◌, List, Option, Some, None, slice_get, if◌then◌else◌}
use Rattle.fip_trees.specs.fip_language.declared.FunKind.{FunKind}
use Rattle.fip_trees.specs.fip_language.declared.FunKind.TheVariants.{Fip, Fbip, Fun}
use Rattle.fip_trees.specs.fip_language.Table.{is_scalar}
use Rattle.fip_base.specs.declared.plain.Param.{Param}
use Rattle.fip_trees.specs.Tree.{Instance, Program}
use Rattle.fip_rules.specs.declared.scope.Ownership.{Ownership}
use Rattle.fip_rules.specs.declared.scope.Ownership.TheVariants.{Scalar, Borrowed, Owned}
pub use Rattle.fip_trees.specs.fip_language.Kinds.{is_fip, is_ruled}

pub record World : Type 0 where
  pub scalar : ℕ → Bool
  pub instances : List Instance
  pub kind : FunKind

abbrev pub world : Program → FunKind → World
world p k = record { scalar = is_scalar p.types; instances = p.instances; kind = k }

abbrev pub lends_parameter : World → Option Param → Bool
lends_parameter w None = false
lends_parameter w (Some p) = p.lent && not (w.scalar p.ty)

abbrev pub lends_to : World → Option Instance → ℕ → Bool
lends_to w None j = false
lends_to w (Some d) j = lends_parameter w (slice_get d.params j)

-- Whether the argument of a call at place j, from 0, is in a borrowed position: the parameter is borrowed, and of a
-- type that isn't scalar.
abbrev pub lends : World → ℕ → ℕ → Bool
lends w g j = lends_to w (slice_get w.instances g) j

-- Whether a callee's kind is weaker. The strongest is fip, then come fbip and plain.
abbrev pub is_weaker : FunKind → FunKind → Bool
is_weaker Fip Fip = false
is_weaker Fip Fbip = true
is_weaker Fip Fun = true
is_weaker Fbip Fip = false
is_weaker Fbip Fbip = false
is_weaker Fbip Fun = true
is_weaker Fun k = false

abbrev pub weaker_than : FunKind → Option Instance → Bool
weaker_than k None = false
weaker_than k (Some d) = is_weaker k d.kind

abbrev pub weaker : World → ℕ → Bool
weaker w g = weaker_than w.kind (slice_get w.instances g)

-- how a variable of a type is bound where its value is taken, or only borrowed
abbrev pub ownership : World → Bool → ℕ → Ownership
ownership w taken t = if w.scalar t then Scalar else (if taken then Owned else Borrowed)
