-- A function of the source in a program without static parameters: an instance of its name that means what it means,
-- for all arguments, calls left and frames: the same answer, with the same calls left, and the same peak of the stack.
-- In the program of `fun g(): int { f[int](0) }` and f, g is the instance 0, which gives what g gives in the source.
use Rattle.std.specs.Prelude.{◌≡◌, ℕ, true, Some, slice_get}
use Rattle.source_report.specs.fip_language.Core.{Function, Core}
use Rattle.source_report.specs.fip_language.Meaning.{meaning}
use Rattle.source_report.specs.fip_language.Statics.{NoClosed}
use Rattle.source_report.specs.fip_language.Values.{Values}
use Rattle.source_report.specs.fip_trees.Tree.{Instance, Program}
use Rattle.source_report.specs.instance_semantics.Meaning.{flat_meaning}

pub record IsRun (core : Core) (program : Program) (f : Function) : Type 0 where
  pub number : ℕ
  pub instance : Instance
  pub there : slice_get program.instances number ≡ Some instance
  pub name : instance.name ≡ f.name
  pub root : instance.root ≡ true
  pub means : (arguments : Values) (calls frames : ℕ) → flat_meaning program number arguments calls frames ≡
      meaning core f.name NoClosed arguments calls frames
