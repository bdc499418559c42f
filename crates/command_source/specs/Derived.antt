-- What `derive` stores of a source that breaks no rule: the text of the derivation that is made for its program. It is
-- read again as that derivation; it derives the program, so that `audit` accepts the file; and it leaves out no more
-- than it must. Where the text has too many bytes it is refused by E74.
--
-- For the reversal of a list the file is
--     0 MATCH![0 1|](VAR[1|],CALL[1 3|2:1](VAR[3|],REUSE[1|2:1](SCALAR[|],VAR[1|])))
-- and after it a line feed.
use Rattle.std.specs.Prelude.{◌≡◌, ◌⊎◌, ◌<◌, ◌≤◌, ℕ, List, length}
use Rattle.fip_language.specs.declared.limits.TheConstants.{MOST_FILE_BYTES}
use Rattle.fip_language.specs.declared.rule.Rule.TheVariants.{E74}
use Rattle.fip_trees.specs.Tree.{Program}
use Rattle.fip_proof.specs.derivation_making.Made.{made_entries}
use Rattle.fip_proof.specs.derivation_making.Weakening.{AllLean}
use Rattle.fip_proof.specs.derivation_trees.Trees.{Entry}
use Rattle.fip_proof.specs.derivation_check.Accepted.{IsDerivation}
use Rattle.fip_proof.specs.derivation_text.ProofText.{IsProofText, lines_text}
use Rattle.program_front.specs.source_report.Report.{bare, IsAccepted}
use Rattle.command_source.specs.Wanted.{Lawful, IsRefusedBy, KeepsFrom}
use Rattle.command_outcome.specs.declared.failure.Failure.{Failure}

-- the derivation that is made for a program
abbrev pub made : Program → List Entry
made p = made_entries p 0 p.instances

-- The file is the text of the derivation that is made for the source.
pub record IsDerivedFile (source file : List ℕ) : Type 0 where
  pub program : Program
  pub accepted : IsAccepted source program
  pub text : IsProofText file (made program)
  pub derives : IsDerivation program (made program)
  pub lean : AllLean (made program)
  pub short : length file ≤ MOST_FILE_BYTES

-- That text has too many bytes.
pub record IsUnderived (source : List ℕ) : Type 0 where
  pub program : Program
  pub accepted : IsAccepted source program
  pub long : MOST_FILE_BYTES < length (lines_text (made program))

-- What is said in place of such a file, or that memory ran out.
abbrev pub KeepsFromDerive : List ℕ → Failure → Type 0
KeepsFromDerive source failure = KeepsFrom source Lawful failure
    ⊎ (IsUnderived source × IsRefusedBy (λ r. r ≡ bare E74) failure)
