-- The code of an accepted source, wherever it is: in memory, or in a file.
use Rattle.std.proofs.Common.{◌≡◌, List, ℕ, map, ◌∙◌}
use Rattle.fip_machine.specs.fip_language.Core.{Core}
use Rattle.compiler_correctness.specs.fip_trees.declared.groups.Member.{Member}
use Rattle.compiler_correctness.specs.fip_trees.Tree.{Program}
use Rattle.fip_machine.specs.cell_code.declared.code.Code.{Code}
use Rattle.fip_machine.specs.cell_code.Plain.{PlainCode, plain, all_instrs}
use Rattle.compiler_correctness.specs.lowering_relation.LoweredFunctions.{AreLowered}
use Rattle.compiler_correctness.specs.cell_lower.Shape.{headers}
use Rattle.compiler_correctness.specs.source_report.Report.{IsParsed, IsAccepted}
use Rattle.machine_correctness.specs.Starts.{IsCodeOf}
use Rattle.machine_correctness.proofs.Entries.{plain_header, headers_of}

-- The source has this core form and breaks no rule; the code has the types of its program, and for each instance that
-- isn't plain a function with its header, whose instructions are lowered from it.
pub record IsMadeOf (source : List ℕ) (core : Core) (c : PlainCode) : Type 0 where
  pub program : Program
  pub members : List Member
  pub parsed : IsParsed source core
  pub accepted : IsAccepted source program
  pub types : c.types ≡ program.types
  pub functions : map plain_header c.functions ≡ headers members program.instances
  pub lowered : AreLowered program (all_instrs c)

-- code in memory is such a code
abbrev pub made_of : (source : List ℕ) (core : Core) (code : Code) → IsCodeOf source core code → IsMadeOf source core (plain code)
made_of source core code h = record {
  program = h.program;
  members = h.members;
  parsed = h.parsed;
  accepted = h.accepted;
  types = h.types;
  functions = headers_of code.functions.items ∙ h.functions;
  lowered = h.lowered;
}
