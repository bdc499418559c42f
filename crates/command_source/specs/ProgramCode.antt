-- It serves the proofs on `compile`, `exec` and `trace`: the code that is made of a source, as far as it is said. It is sound,
-- and its types are those of the source's program. It has a function for each fip and fbip instance, in the order of their
-- numbers, headed as the instance is, and as large as its places and its width allow (`CodeShape`). Its instructions are such as
-- the instance is lowered to, so each of its runs ends as the source means. It has a file of the second version, which
-- `compile` stores where it isn't too long; E61 is reported only where some code of which all this is so has a file that is too
-- long, as none of a small source has.
--
-- Of the source
--     fip fun rev(xs: list, acc: list): list { .. }
--     fun dup(^xs: list): pair { .. }
-- it has one function, which is fip, named rev, and has two parameters and one result; and
-- `compile list.fip3 list.code` stores the second version's file of this code.
use Rattle.std.specs.Prelude.{◌≡◌, ◌⊎◌, ◌≤◌, ◌<◌, ℕ, List, map, length, Option, Some, None}
use Rattle.fip_language.specs.declared.limits.TheConstants.{MOST_FILE_BYTES}
use Rattle.fip_language.specs.declared.rule.Rule.TheVariants.{E61}
use Rattle.fip_base.specs.declared.refusal.Refusal.{Refusal}
use Rattle.fip_trees.specs.declared.groups.Member.{Member}
use Rattle.fip_trees.specs.Tree.{Program}
use Rattle.program_front.specs.tail_groups.Members.{AreMembers}
use Rattle.program_front.specs.cell_lower.Shape.{headers, plain_header}
use Rattle.code_file.specs.CodeText.{CodeText}
use Rattle.cell_code.specs.Plain.{PlainFunction, PlainCode, plain, all_instrs}
use Rattle.code_file.specs.declared.tags.Version.TheVariants.{Second}
use Rattle.machine_correctness.specs.compiler_correctness.lowering_relation.LoweredFunctions.{AreLowered}
use Rattle.code_verify.specs.Checked.{Checked}
use Rattle.code_verify.specs.code_rules.Breaks.{IsSound}
use Rattle.program_front.specs.source_report.Report.{bare, IsAccepted}
use Rattle.command_source.specs.Codes.{IsUnspelt}
pub use Rattle.command_source.specs.CodeShape.{AreWithin, AreNarrow, HaveStacks, HasFile}
use Rattle.command_source.specs.Entries.{Chosen, IsNamed}
use Rattle.command_source.specs.Wanted.{Lawful, IsRefusedBy, KeepsFrom, Refuses}
use Rattle.command_outcome.specs.declared.failure.Failure.{Failure}

-- The code's types are the program's; its functions are headed as the program's instances say, and hold of the stack
-- what is reported of these; their instructions are lowered from these, and no more than their places allow, nor wider than
-- these are.
pub record IsLoweredFrom (p : Program) (code : PlainCode) : Type 0 where
  pub types : code.types ≡ p.types
  pub members : List Member
  pub found : AreMembers p.instances members
  pub functions : map plain_header code.functions ≡ headers members p.instances
  pub lowered : AreLowered p (all_instrs code)
  pub bounded : AreWithin p code.functions
  pub narrow : AreNarrow p code.functions
  pub stacks : HaveStacks p code

-- a code that is made of this source, which breaks no rule
pub record IsCodeOfSource (source : List ℕ) (code : PlainCode) : Type 0 where
  pub program : Program
  pub accepted : IsAccepted source program
  pub lowered : IsLoweredFrom program code
  pub sound : IsSound code
  pub filed : HasFile code

-- What is run by this name: such a code, and its function of this name, which isn't empty.
pub record IsEntryOf (source name : List ℕ) (r : Chosen) : Type 0 where
  pub code : IsCodeOfSource source (plain r.checked.code)
  pub named : IsNamed name r.checked.code.functions.items r.entry

-- The file is that of the second version of such a code.
pub record IsCompiledFile (source file : List ℕ) : Type 0 where
  pub code : PlainCode
  pub of' : IsCodeOfSource source code
  pub spelt : CodeText file Second code
  pub short : length file ≤ MOST_FILE_BYTES

-- Some such code, though it is no larger than its places allow, has a file of the second version that is too long.
abbrev pub IsUncompiled : List ℕ → Type 0
IsUncompiled source = (code : PlainCode) × IsCodeOfSource source code × (file : List ℕ) × CodeText file Second code
    × (MOST_FILE_BYTES < length file)

-- What is said in place of such a file, or that memory ran out.
abbrev pub KeepsFromCompile : List ℕ → Failure → Type 0
KeepsFromCompile source failure = KeepsFrom source Lawful failure
    ⊎ (IsUncompiled source × IsRefusedBy (λ r. r ≡ bare E61) failure)

-- ---- by the code that was made in a call

-- The file is that of just this code, and isn't too long.
abbrev pub IsFileOfMade : Option Checked → List ℕ → Type 0
IsFileOfMade None file = ⊥
IsFileOfMade (Some v) file = CodeText file Second (plain v.code) × (length file ≤ MOST_FILE_BYTES)

-- Why none is stored: just this code has no file that isn't too long; or none was made, since the source is refused.
abbrev pub KeepsFromFile : List ℕ → Option Checked → Refusal → Type 0
KeepsFromFile source None r = Refuses source Lawful r
KeepsFromFile source (Some v) r = IsUnspelt (plain v.code)
