-- The rule on calls within a group, and what a refusal says.
use Rattle.std.specs.Prelude.{◌≡◌, ℕ, Bool, true, false, Some, slice_get}
use Rattle.fip_language.specs.declared.FunKind.{FunKind}
use Rattle.fip_language.specs.declared.FunKind.TheVariants.{Fip, Fbip, Fun}
use Rattle.fip_language.specs.declared.rule.Rule.TheVariants.{E59}
use Rattle.fip_base.specs.declared.refusal.PhaseError.{PhaseError}
use Rattle.fip_base.specs.declared.refusal.PhaseError.TheVariants.{Refused, NoMemory}
use Rattle.fip_trees.specs.declared.least.Violation.{Violation}
use Rattle.fip_trees.specs.Least.{violation, IsLeastOf, refusal}
use Rattle.fip_trees.specs.Tree.{Instance, Program}
use Rattle.call_groups.specs.Groups.{In, SameGroup}
use Rattle.tail_groups.specs.Sites.{Site, instance_sites, call_rows}
pub use Rattle.fip_language.specs.Kinds.{is_fip}

-- Instance d, of number i, is fip, and calls one of its own group at s, outside tail position. Two instances are of one
-- group where each reaches the other by calls, or they are one.
pub record WaitsForItsGroup (p : Program) (i : ℕ) (d : Instance) (s : Site) : Type 0 where
  pub instance : slice_get p.instances i ≡ Some d
  pub fip : is_fip d.kind ≡ true
  pub call : In s (instance_sites d)
  pub waits : s.is_tail ≡ false
  pub together : SameGroup (call_rows p.instances) i s.callee

-- the violation that it is: at the call, naming what is called
abbrev pub reported : ℕ → Site → Violation
reported i s = violation E59 s.place i 0 s.name

abbrev pub Violates : Program → Violation → Type 0
Violates p v = (i : ℕ) × (d : Instance) × (s : Site) × WaitsForItsGroup p i d s × (v ≡ reported i s)

-- a refusal names the least violation
abbrev pub Says : Program → PhaseError → Type 0
Says p (Refused r) = (v : Violation) × IsLeastOf (Violates p) v × (r ≡ refusal v)
Says p NoMemory = Unit {0}
