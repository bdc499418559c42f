-- The file of a code of a program is no longer than the program allows, whatever made the code.
use Rattle.std.proofs.Common.{◌<◌, ◌≤◌, ℕ, List, length, subst, arith}
use Rattle.command_answers.specs.command_library.fip_language.declared.limits.TheConstants.{MOST_FILE_BYTES}
use Rattle.worked_examples.specs.fip_trees.Tree.{Program}
use Rattle.worked_examples.specs.code_file.CodeText.{CodeText}
use Rattle.worked_examples.specs.cell_code.Plain.{PlainCode}
use Rattle.worked_examples.specs.code_file.declared.tags.Version.TheVariants.{Second}
use Rattle.worked_examples.specs.source_report.Report.{IsAccepted}
use Rattle.command_answers.proofs.command_tasks.source_report.Once.{accepted_once}
use Rattle.compile_correctness.specs.code_bytes.Bytes.{most_bytes}
use Rattle.command_answers.specs.CodeOf.{IsCodeOf, HasLongCode}
use Rattle.compile_correctness.proofs.Bytes.{IsSized, sized_short}

sized : (p : Program) (code : PlainCode) → IsCodeOf p code → IsSized p code
sized p code h = record {
  types = h.types;
  members = h.members;
  found = h.found;
  functions = h.functions;
  within = h.within;
  narrow = h.narrow;
  sound = h.sound;
}

pub code_within : (p : Program) (code : PlainCode) (file : List ℕ) → IsCodeOf p code → CodeText file Second code → length file ≤ most_bytes p
code_within p code file h spelt = sized_short p file code (sized p code h) spelt

pub long_allowed : (source : List ℕ) (p : Program) → HasLongCode source → IsAccepted source p → MOST_FILE_BYTES < most_bytes p
long_allowed source p (code, of', unspelt) accepted =
    let file = of'.is.spelt in
    let few = code_within of'.program code file.0 of'.is file.1 in
    let long = unspelt file.0 file.1 in
    subst (λ (q : Program). MOST_FILE_BYTES < most_bytes q) (accepted_once source of'.program p of'.accepted accepted) (omega (arith, few, long))
