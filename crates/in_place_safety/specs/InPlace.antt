-- What a run of a fip instance ends with in a program that passes all checks: values of its results' types, with as
-- many cells of each size as its owned arguments and its header's credits together, or a trap, or no call was left. It
-- is never stuck, and never too deep where it has as many free frames as its stack number says.
-- For example `rev` of three items, with enough calls and no free frame, gives a list of three items.
use Rattle.std.specs.Prelude.{◌≡◌, ℕ, List}
use Rattle.tail_groups.specs.fip_language.Values.{Values, cells_of_all}
use Rattle.tail_groups.specs.fip_language.Table.{Table, HaveTypes}
use Rattle.tail_groups.specs.fip_language.Meaning.{Answer, Gives, Trap, Out, Deep, Stuck, Run}
use Rattle.tail_groups.specs.fip_base.declared.plain.Stack.{Stack}
use Rattle.tail_groups.specs.fip_trees.declared.groups.Member.{Member}
use Rattle.tail_groups.specs.fip_trees.Tree.{Instance, Program}
use Rattle.tail_groups.specs.Members.{AreMembers}
use Rattle.type_safety.specs.Soundness.{IsWellTyped}
use Rattle.ownership_agreement.specs.Agreement.{AreSized, IsAccepted}
use Rattle.in_place_safety.specs.Conservation.{cells_given}
use Rattle.in_place_safety.specs.Bounds.{IsWithin}

-- on these arguments, where the table has the types
abbrev pub EndsInPlace : Table → Instance → Values → Answer → Type 0
EndsInPlace tb f vs (Gives results left) =
    HaveTypes tb f.results results × ((k : ℕ) → cells_of_all k results ≡ cells_given k f vs)
EndsInPlace tb f vs (Trap kind line col) = Unit {0}
EndsInPlace tb f vs Out = Unit {0}
EndsInPlace tb f vs Deep = ⊥
EndsInPlace tb f vs Stuck = ⊥

pub record RunsInPlace (tb : Table) (f : Instance) (vs : Values) (s : Stack) (free : ℕ) (r : Run) : Type 0 where
  pub ends : EndsInPlace tb f vs r.answer
  pub stack : IsWithin s free r

-- A program that passes the checks of types, coverage, ownership and credits, with what is found of its calls.
pub record IsChecked (p : Program) (ms : List Member) : Type 0 where
  pub typed : IsWellTyped p
  pub sized : AreSized p p.instances
  pub owned : IsAccepted p
  pub members : AreMembers p.instances ms
