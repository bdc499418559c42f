-- `run` on a compiled file ends as `exec` on its source.
-- Idea: the file's code has a function of a name just where the source has a root of it that isn't plain.
use Rattle.std.proofs.Common.{◌≡◌, ◌∙◌, ◌<◌, ◌≤◌, ℕ, true, false, Bool, List, [], length, Option, Some, None, true≢false, inl, inr, refl, sym, ap, subst, arith}
use Rattle.std.specs.Prelude.{Result, Err}
use Rattle.command_run.specs.cell_lower.fip_language.declared.rule.Rule.TheVariants.{E70}
use Rattle.command_run.specs.cell_lower.fip_base.declared.refusal.Refusal.{Refusal}
use Rattle.command_run.specs.fip_trees.Tree.{Instance, Program}
use Rattle.command_words.specs.Words.{Room}
use Rattle.command_run.specs.session_semantics.command_outcome.declared.failure.Failure.{Failure}
use Rattle.command_run.specs.session_semantics.command_outcome.declared.failure.Failure.TheVariants as F
use Rattle.command_run.specs.cell_lower.cell_code.Plain.{PlainCode}
use Rattle.command_run.specs.source_report.Report.{IsAccepted}
use Rattle.command_run.proofs.source_report.Once.{accepted_not, accepted_once}
use Rattle.command_run.specs.command_source.Codes.{IsSoundFile, HasFunction, names_one}
use Rattle.command_run.specs.command_source.ProgramCode.{IsCompiledFile}
use Rattle.command_run.specs.command_source.Roots.{root_named}
use Rattle.command_run.specs.command_source.Wanted.{Compiled, IsCompiled, IsReady, MissesCode, Refuses, of_entry}
use Rattle.command_run.specs.CodeRun.{RunsCode}
use Rattle.command_run.proofs.CodeOnce.{code_run_there}
use Rattle.compile_correctness.specs.Ends.{ExecEnds, RefusedSource, LongForExec, Executed, RunEnds, RefusedCode, NoFunction, LongForRun, Ran, AreAlike}
use Rattle.compile_correctness.proofs.Files.{code_same, refused_not_sound, compiled_sound, compiled_code}
use Rattle.compile_correctness.proofs.Joined.{runs_as_its_source}
use Rattle.compile_correctness.proofs.Rooted.{names_there, names_found, not_missed, root_has_function}

-- the file that is run has a function of the entry's name
pub ran_function : (bytes name input : List ℕ) (room : Room) (gauge : Bool) (e : Result (List ℕ) Failure) → RunsCode bytes name input room gauge e → HasFunction bytes name
ran_function bytes name input room gauge e h =
    let x = code_run_there bytes name input room gauge e h in
    ((x.0).code, (x.1).file, names_there name (x.0).code.functions (x.0).number (x.0).function (x.1).some (x.1).there (x.1).named)

-- no function has the name, or one has
pub none_or_one : (bytes name : List ℕ) (code : PlainCode) → IsSoundFile bytes code → names_one name code.functions ≡ false → HasFunction bytes name → ⊥
none_or_one bytes name code h none (d, k, one) =
    let same = code_same bytes d code k h in
    true≢false (sym (subst (λ c. names_one name c.functions ≡ true) same one) ∙ none)

module _ (source file name : List ℕ) (h : IsCompiledFile source file) where
  -- where a source has the entry, its file has it
  entry_there : IsReady source (Compiled name) → HasFunction file name
  entry_there ready =
      let p = accepted_once source ready.program (h.of').program ready.accepted (h.of').accepted in
      (h.code, compiled_sound source file h, by (root_named name (h.of').program.instances) refl (subst (λ (q : Program). IsCompiled (root_named name q.instances)) p ready.has))
    where
      by : (o : Option Instance) → root_named name (h.of').program.instances ≡ o → IsCompiled o → names_one name h.code.functions ≡ true
      by None e k = absurd k
      by (Some d) e k = root_has_function source name h.code h.of' d e k

  -- where it hasn't, its file hasn't
  entry_missing : (p : Program) (r : Refusal) → IsAccepted source p → MissesCode (root_named name p.instances) name r → HasFunction file name → ⊥
  entry_missing p r accepted misses (code, sound, one) =
      let x = names_found name code.functions one in
      not_missed source name code (compiled_code source file code h sound) (x.0).number (x.0).function (x.0).there (x.0).called x.1 p accepted r misses

-- what a source is refused for that has a compiled file
refused_entry : (source file name : List ℕ) (r : Refusal) → IsCompiledFile source file → Refuses source (Compiled name) r → (p : Program) × IsAccepted source p × MissesCode (root_named name p.instances) name r
refused_entry source file name r h (inl k) = absurd (accepted_not source (h.of').program k.0 (h.of').accepted k.1)
refused_entry source file name r h (inr k) = k

-- E70 of the entry, or E71 in its place
entry_alike : (name : List ℕ) (o : Option Instance) (r : Refusal) → MissesCode o name r → AreAlike name (Err (F.Refused r)) (Err (F.Refused (of_entry E70 name)))
entry_alike name None r h = inl (ap (λ r. Err (F.Refused r)) h)
entry_alike name (Some d) r h = inr (ap (λ r. Err (F.Refused r)) h.1, refl)

pub ends_alike : (source file name input : List ℕ) (room : Room) (gauge : Bool) (d e : Result (List ℕ) Failure) → IsCompiledFile source file → ExecEnds source name input room gauge d → RunEnds file name input room gauge e → AreAlike name d e
ends_alike source file name input room gauge d e h x (RefusedCode f k) = absurd (refused_not_sound file f h.code k (compiled_sound source file h))
ends_alike source file name input room gauge d e h (RefusedSource r x) (NoFunction code sound none) =
    let m = refused_entry source file name r h x in entry_alike name (root_named name (m.0).instances) r m.2
ends_alike source file name input room gauge d e h (RefusedSource r x) (LongForRun has more) =
    let m = refused_entry source file name r h x in absurd (entry_missing source file name h m.0 r m.1 m.2 has)
ends_alike source file name input room gauge d e h (RefusedSource r x) (Ran f le runs) =
    let m = refused_entry source file name r h x in absurd (entry_missing source file name h m.0 r m.1 m.2 (ran_function file name input room gauge f runs))
ends_alike source file name input room gauge d e h (LongForExec ready more) (NoFunction code sound none) = absurd (none_or_one file name code sound none (entry_there source file name h ready))
ends_alike source file name input room gauge d e h (LongForExec ready more) (LongForRun has also) = inl refl
ends_alike source file name input room gauge d e h (LongForExec ready more) (Ran f le runs) = absurd (omega (arith, more, le))
ends_alike source file name input room gauge d e h (Executed g ready few x) (NoFunction code sound none) = absurd (none_or_one file name code sound none (entry_there source file name h ready))
ends_alike source file name input room gauge d e h (Executed g ready few x) (LongForRun has more) = absurd (omega (arith, few, more))
ends_alike source file name input room gauge d e h (Executed g ready few x) (Ran f le runs) = inl (runs_as_its_source source file name input room gauge g f h x runs)
