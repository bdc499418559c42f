-- The code of a source is made of the source.
use Rattle.std.specs.Prelude.{ℕ, List}
use Rattle.command_run.specs.cell_lower.fip_language.Core.{Core}
use Rattle.command_run.specs.cell_lower.cell_code.Plain.{PlainCode}
use Rattle.command_run.specs.source_report.Report.{IsParsed}
use Rattle.command_run.specs.command_source.ProgramCode.{IsCodeOfSource}
use Rattle.command_run.proofs.machine_correctness.Made.{IsMadeOf}

abbrev pub made : (source : List ℕ) (core : Core) (code : PlainCode) → IsParsed source core → IsCodeOfSource source code → IsMadeOf source core code
made source core code parsed h = record {
  program = h.program;
  members = h.lowered.members;
  parsed = parsed;
  accepted = h.accepted;
  types = h.lowered.types;
  functions = h.lowered.functions;
  lowered = h.lowered.lowered;
}
