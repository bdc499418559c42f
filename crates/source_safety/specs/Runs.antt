-- A function of a source, in the source's typed program: it is an instance of its name that has a stack number; and on
-- arguments of its parameters' types, with as many free frames as that number says, what the source means by it is a
-- run in place, and the same with any more of them.
-- For example `fip fun rev(xs: list): list { .. }`, which calls only itself in tail position: with one free frame it
-- turns the cells of its list into those of its result.
use Rattle.std.specs.Prelude.{◌≡◌, ◌≤◌, ℕ, List, Some, slice_get}
use Rattle.in_place_safety.specs.fip_base.declared.plain.Stack.{Stack}
use Rattle.in_place_safety.specs.fip_language.Core.{Function, Core}
use Rattle.in_place_safety.specs.fip_language.Meaning.{meaning}
use Rattle.in_place_safety.specs.fip_language.Statics.{Closeds, NoClosed}
use Rattle.in_place_safety.specs.fip_language.Table.{HaveTypes}
use Rattle.in_place_safety.specs.fip_language.Values.{Values}
use Rattle.in_place_safety.specs.fip_trees.declared.groups.Member.{Member}
use Rattle.in_place_safety.specs.fip_trees.Tree.{Instance, Program}
use Rattle.in_place_safety.specs.type_safety.Soundness.{parameter_types}
use Rattle.in_place_safety.specs.InPlace.{RunsInPlace}

pub record RunsAsMeant (core : Core) (p : Program) (ms : List Member) (f : Function) : Type 0 where
  pub number : ℕ
  pub instance : Instance
  pub there : slice_get p.instances number ≡ Some instance
  pub name : instance.name ≡ f.name
  pub member : Member
  pub found : slice_get ms number ≡ Some member
  pub stack : Stack
  pub known : member.stack ≡ Some stack
  pub runs : (arguments : Values) (calls frames : ℕ) → HaveTypes p.types (parameter_types instance) arguments →
      stack.frames ≤ frames →
      RunsInPlace p.types instance arguments stack frames (meaning core f.name NoClosed arguments calls frames)
  pub same : (arguments : Values) (calls frames : ℕ) → HaveTypes p.types (parameter_types instance) arguments →
      stack.frames ≤ frames →
      meaning core f.name NoClosed arguments calls frames ≡ meaning core f.name NoClosed arguments calls stack.frames

-- The same of an instance, which may have static parameters: it stands for its function with what is given for them.
-- For example `map[int, int, next]`, where `next` is given for the function parameter of `map`.
pub record InstanceRunsAsMeant (core : Core) (p : Program) (ms : List Member) (number : ℕ) (instance : Instance) :
    Type 0 where
  pub given : Closeds
  pub member : Member
  pub found : slice_get ms number ≡ Some member
  pub stack : Stack
  pub known : member.stack ≡ Some stack
  pub runs : (arguments : Values) (calls frames : ℕ) → HaveTypes p.types (parameter_types instance) arguments →
      stack.frames ≤ frames →
      RunsInPlace p.types instance arguments stack frames (meaning core instance.name given arguments calls frames)
  pub same : (arguments : Values) (calls frames : ℕ) → HaveTypes p.types (parameter_types instance) arguments →
      stack.frames ≤ frames →
      meaning core instance.name given arguments calls frames
      ≡ meaning core instance.name given arguments calls stack.frames
