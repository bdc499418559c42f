-- What a command ends in: by the constructors of what it does, after the file that it fetches.
use Rattle.std.proofs.Common.{◌≡◌, ◌<◌, ℕ, List, Some, None, refl, sym, subst, inl, length}
use Rattle.std.specs.Prelude.{Option, Err}
use Rattle.command_answers.specs.command_library.fip_language.declared.limits.TheConstants.{MOST_SOURCE_BYTES}
use Rattle.command_answers.specs.command_library.fip_language.declared.rule.Rule.TheVariants.{E05}
use Rattle.command_answers.specs.fip_outside.Files.{File, file_of}
use Rattle.command_answers.specs.command_library.command_words.Words.{Command, Check, Compile, Verify, Upgrade, Exec, Run, Eval, Trace, Session, Tasks, Derive, Audit, Replay, Library, Gen}
use Rattle.command_answers.specs.command_library.command_outcome.declared.failure.Failure.TheVariants as F
use Rattle.command_answers.specs.command_library.command_outcome.declared.failure.Object.TheVariants as O
use Rattle.worked_examples.specs.source_report.Report.{bare}
use Rattle.worked_examples.specs.source_report.Report as Report
use Rattle.command_answers.specs.command_library.command_source.Wanted.{Wanted}
use Rattle.command_answers.specs.Answer.{ComesTo, OnNamed, OnFound, OnFile, OnWanted}
use Rattle.command_answers.specs.Asks.{fetched_name, wanted}
use Rattle.command_answers.specs.Ends as A
use Rattle.command_answers.specs.Ends.{Audits, OnSource}
use Rattle.command_answers.specs.Exec.{End}

pub fetched : (files : List File) (input name : List ℕ) (c : Command) (f : Option (List ℕ)) (o : End) → fetched_name c ≡ Some name → file_of name files ≡ f → OnFound files input c f o → ComesTo files input c o
fetched files input name c f o e k h =
    subst (λ x. OnNamed files input c x o) (sym e) (subst (λ x. OnFound files input c x o) (sym k) h)

pub missing : (files : List File) (input : List ℕ) (c : Command) (name : List ℕ) → fetched_name c ≡ Some name → file_of name files ≡ None → ComesTo files input c (Err (F.Fault O.Folder))
missing files input c name e k = fetched files input name c None _ e k refl

-- a source of which all rules are checked
on_source : (files : List File) (bytes input : List ℕ) (c : Command) (w : Wanted) (o : End) → wanted c ≡ Some w → OnSource bytes input c w o → OnFile files bytes input c o
on_source files bytes input (Check file) w o e h = subst (λ x. OnWanted bytes input (Check file) x o) (sym e) h
on_source files bytes input (Compile file out) w o e h = subst (λ x. OnWanted bytes input (Compile file out) x o) (sym e) h
on_source files bytes input (Verify file) w o e h = absurd cc
on_source files bytes input (Upgrade file out) w o e h = absurd cc
on_source files bytes input (Exec r) w o e h = subst (λ x. OnWanted bytes input (Exec r) x o) (sym e) h
on_source files bytes input (Run r) w o e h = absurd cc
on_source files bytes input (Eval file entry calls frames) w o e h = subst (λ x. OnWanted bytes input (Eval file entry calls frames) x o) (sym e) h
on_source files bytes input (Trace file entry out room) w o e h = subst (λ x. OnWanted bytes input (Trace file entry out room) x o) (sym e) h
on_source files bytes input (Session file room) w o e h = subst (λ x. OnWanted bytes input (Session file room) x o) (sym e) h
on_source files bytes input (Tasks file seed turns room) w o e h = subst (λ x. OnWanted bytes input (Tasks file seed turns room) x o) (sym e) h
on_source files bytes input (Derive file out) w o e h = subst (λ x. OnWanted bytes input (Derive file out) x o) (sym e) h
on_source files bytes input (Audit file proof) w o e h = absurd cc
on_source files bytes input (Replay trace step) w o e h = absurd cc
on_source files bytes input (Library name) w o e h = absurd cc
on_source files bytes input (Gen seed count) w o e h = absurd cc

pub of_source : (files : List File) (bytes input name : List ℕ) (c : Command) (w : Wanted) (o : End) → fetched_name c ≡ Some name → wanted c ≡ Some w → file_of name files ≡ Some bytes → OnSource bytes input c w o → ComesTo files input c o
of_source files bytes input name c w o e k f h = fetched files input name c (Some bytes) o e f (on_source files bytes input c w o k h)

pub too_long : (files : List File) (bytes input name : List ℕ) → file_of name files ≡ Some bytes → MOST_SOURCE_BYTES < length bytes → ComesTo files input (Check name) (Err (F.Refused (bare E05)))
too_long files bytes input name f h =
    of_source files bytes input name (Check name) _ _ refl refl f (A.Refused (bare E05) (inl (bare E05, Report.TooLong h, refl)))

-- a source and the file of its derivation
pub of_audit : (files : List File) (source input name proof : List ℕ) (f : Option (List ℕ)) (o : End) → file_of name files ≡ Some source → file_of proof files ≡ f → Audits source f o → ComesTo files input (Audit name proof) o
of_audit files source input name proof f o e k h =
    fetched files input name (Audit name proof) (Some source) o refl e (subst (λ x. Audits source x o) (sym k) h)
