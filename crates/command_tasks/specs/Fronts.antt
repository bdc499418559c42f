-- What is required of a front before its tasks are run: that it is that of a source.
use Rattle.std.specs.Prelude.{ℕ, List}
use Rattle.cell_code.specs.Plain.{plain}
use Rattle.command_session.specs.command_run.fip_trees.TreeView as V
use Rattle.command_session.specs.command_run.code_rules.Breaks.{IsSound}
use Rattle.command_session.specs.command_run.command_source.ProgramCode.{IsLoweredFrom}
use Rattle.command_session.specs.command_run.command_source.declared.known.Front.{Front}
use Rattle.command_session.specs.command_run.source_report.Report.{IsAccepted}
use Rattle.command_session.specs.command_run.tail_groups.Members.{AreMembers}

-- The source breaks no rule; the front has its program, its groups, and its code, which is sound.
pub record IsFrontOf (source : List ℕ) (f : Front) : Type 0 where
  pub accepted : IsAccepted source (V.program f.typed.program)
  pub found : AreMembers (V.program f.typed.program).instances f.groups
  pub sound : IsSound (plain f.verified.code)
  pub code : IsLoweredFrom (V.program f.typed.program) (plain f.verified.code)
