-- The same said of sources: an instance means what its function means, and filling in types keeps the meaning.
use Rattle.std.proofs.Common.{◌≡◌, ◌≤◌, ℕ, List, Some, slice_get, ◌∙◌, subst}
use Rattle.tail_groups.specs.fip_language.declared.FunKind.TheVariants.{Fip}
use Rattle.tail_groups.specs.fip_language.Core.{Name, Core}
use Rattle.tail_groups.specs.fip_language.Meaning.{meaning}
use Rattle.tail_groups.specs.fip_language.Statics.{Closed, Closeds, ClosedName}
use Rattle.tail_groups.specs.fip_language.Table.{HaveTypes}
use Rattle.tail_groups.specs.fip_language.Values.{Values}
use Rattle.tail_groups.specs.fip_base.declared.plain.Stack.{Stack}
use Rattle.tail_groups.specs.fip_trees.declared.groups.Member.{Member}
use Rattle.tail_groups.specs.fip_trees.Tree.{Instance, Program}
use Rattle.type_safety.specs.type_check.Faults.{filled}
use Rattle.type_safety.specs.instance_semantics.Specialised.{IsSpecialised}
use Rattle.type_safety.proofs.instance_semantics.Means.{means}
use Rattle.type_safety.specs.Soundness.{parameter_types}
use Rattle.type_safety.proofs.FilledSlots.{filled_means}
use Rattle.in_place_safety.specs.InPlace.{RunsInPlace, IsChecked}
use Rattle.in_place_safety.proofs.Checked.{runs_in_place}

pub source_in_place : (core : Core) (p : Program) (numbered : List Closed) (ms : List Member) (i : ℕ) (name : Name) (given : Closeds) (f : Instance) (m : Member) (s : Stack) (vs : Values) (n d : ℕ) → IsSpecialised core p numbered → slice_get numbered i ≡ Some (ClosedName name given) → IsChecked (filled p) ms → slice_get (filled p).instances i ≡ Some f → f.kind ≡ Fip → slice_get ms i ≡ Some m → m.stack ≡ Some s → HaveTypes p.types (parameter_types f) vs → s.frames ≤ d → RunsInPlace p.types f vs s d (meaning core name given vs n d)
source_in_place core p numbered ms i name given f m s vs n d made there checked e fip member has typed l =
    subst (RunsInPlace p.types f vs s d) (filled_means p i vs n d ∙ means core p numbered i name given vs n d made there)
    (runs_in_place (filled p) ms i f m s vs n d checked e fip member has typed l)
