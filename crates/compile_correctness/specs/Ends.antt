-- What `exec` ends with on the bytes of a source, and `run` on those of a code file, once they are fetched: a refusal
-- of the source or of the code; then one of the entry; then an input of too many bytes; else what the run ends in.
--
-- On a source with `fip fun rev(..)` and `fun dup(..)` and on the file that is compiled of it both end with the same
-- text for the entry rev, and both with E70 for the entry pop; for the entry dup `exec` ends with E71 and `run` with
-- E70.
use Rattle.std.specs.Prelude.{◌≡◌, ◌⊎◌, ◌<◌, ◌≤◌, ℕ, Bool, false, List, length, Result, Err}
use Rattle.command_run.specs.cell_lower.fip_language.declared.limits.TheConstants.{MOST_FILE_BYTES}
use Rattle.command_run.specs.cell_lower.fip_language.declared.rule.Rule.TheVariants.{E70, E71}
use Rattle.command_run.specs.cell_lower.fip_base.declared.refusal.Refusal.{Refusal}
use Rattle.command_words.specs.Words.{Room}
use Rattle.command_run.specs.session_semantics.command_outcome.declared.failure.Failure.{Failure}
use Rattle.command_run.specs.session_semantics.command_outcome.declared.failure.Failure.TheVariants as F
use Rattle.command_run.specs.cell_lower.cell_code.Plain.{PlainCode}
use Rattle.command_run.specs.command_source.Codes.{IsSoundFile, RefusesCode, HasFunction, names_one}
use Rattle.command_run.specs.command_source.Wanted.{Compiled, Refuses, IsReady, of_entry}
use Rattle.command_run.specs.CodeRun.{RunsCode}
use Rattle.command_run.specs.ExecAnswer.{Execs}

pub data ExecEnds (source name input : List ℕ) (room : Room) (gauge : Bool) : Result (List ℕ) Failure → Type 0 where
  RefusedSource : (r : Refusal) → Refuses source (Compiled name) r →
      ExecEnds source name input room gauge (Err (F.Refused r))
  LongForExec : IsReady source (Compiled name) → MOST_FILE_BYTES < length input →
      ExecEnds source name input room gauge (Err (F.BadInput MOST_FILE_BYTES))
  Executed : (e : Result (List ℕ) Failure) → IsReady source (Compiled name) → length input ≤ MOST_FILE_BYTES →
      Execs source name input room gauge e → ExecEnds source name input room gauge e

pub data RunEnds (bytes name input : List ℕ) (room : Room) (gauge : Bool) : Result (List ℕ) Failure → Type 0 where
  RefusedCode : (failure : Failure) → RefusesCode bytes failure → RunEnds bytes name input room gauge (Err failure)
  NoFunction : (code : PlainCode) → IsSoundFile bytes code → names_one name code.functions ≡ false →
      RunEnds bytes name input room gauge (Err (F.Refused (of_entry E70 name)))
  LongForRun : HasFunction bytes name → MOST_FILE_BYTES < length input →
      RunEnds bytes name input room gauge (Err (F.BadInput MOST_FILE_BYTES))
  Ran : (e : Result (List ℕ) Failure) → length input ≤ MOST_FILE_BYTES → RunsCode bytes name input room gauge e →
      RunEnds bytes name input room gauge e

-- Both end alike: the same, or with E71 of the entry on the source and E70 of it on the file.
abbrev pub AreAlike : List ℕ → Result (List ℕ) Failure → Result (List ℕ) Failure → Type 0
AreAlike name d e =
    (d ≡ e) ⊎ ((d ≡ Err (F.Refused (of_entry E71 name))) × (e ≡ Err (F.Refused (of_entry E70 name))))
