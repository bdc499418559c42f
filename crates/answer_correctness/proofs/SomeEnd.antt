-- A command on a source that is there has an end, where the source is refused or has what the command requires.
use Rattle.std.proofs.Common.{◌≡◌, ◌∙◌, ◌≤◌, ◌<◌, inl, inr, ℕ, List, Some, length, refl, sym, subst}
use Rattle.std.specs.Prelude.{◌⊎◌, Ok, Err}
use Rattle.std.proofs.lemmas.Option.{same_Some}
use Rattle.command_answers.proofs.command_library.fip_language.Search.{le_or_less}
use Rattle.command_answers.specs.fip_outside.Files.{File, file_of}
use Rattle.command_answers.specs.command_library.fip_language.declared.limits.TheConstants.{MOST_FILE_BYTES}
use Rattle.command_answers.specs.command_library.fip_language.declared.rule.Rule.TheVariants.{E61, E74}
use Rattle.command_answers.specs.command_library.fip_base.declared.refusal.Refusal.{Refusal as a_refusal}
use Rattle.worked_examples.specs.cell_code.Plain.{PlainCode}
use Rattle.worked_examples.specs.fip_trees.Tree.{Program}
use Rattle.worked_examples.specs.source_report.Report.{bare, IsMatched}
use Rattle.command_answers.specs.command_library.command_words.Words.{Command, Check, Compile, Verify, Upgrade, Exec, Run, Eval, Trace, Session, Tasks, Derive, Audit, Replay, Library, Gen}
use Rattle.command_answers.specs.command_library.command_words.Words.{Room, IsTextName}
use Rattle.command_answers.specs.command_library.command_outcome.Successes.{derived_text}
use Rattle.command_answers.specs.command_library.command_outcome.declared.failure.Failure.TheVariants as F
use Rattle.command_answers.specs.command_library.command_source.Derived.{IsDerivedFile, IsUnderived}
use Rattle.command_answers.specs.command_library.command_source.Judged.{IsEarlyReport}
use Rattle.command_answers.specs.command_library.command_source.Wanted.{Wanted, Lawful, Root, Compiled, Refuses, IsReady}
use Rattle.command_answers.specs.Answer.{ComesTo, OnFound}
use Rattle.command_answers.specs.Asks.{ReadsInput, fetched_name, wanted}
use Rattle.command_answers.specs.CodeOf.{IsSourceCode, IsSourceFile}
use Rattle.command_answers.proofs.SourceCode.{coded_ready}
use Rattle.command_answers.specs.Ends as A
use Rattle.command_answers.specs.Ends.{Does, OnSource, Derives}
use Rattle.command_answers.specs.Exec.{End}
use Rattle.answer_correctness.specs.Certain.{IsCertain}
use Rattle.answer_correctness.proofs.Coming.{of_source}
use Rattle.answer_correctness.proofs.SomeTalk.{some_replies}
use Rattle.answer_correctness.proofs.SomeTurns.{some_turns}
use Rattle.answer_correctness.proofs.SomeVerdict.{some_audit}
use Rattle.answer_correctness.proofs.SomeSource.{evaluated, executed, listed, derivable, named_text, generated}

-- ---- on a source that has what is required

listing_end : (source : List ℕ) → IsReady source Lawful → (e : End) × A.ListsRoots source e
listing_end source h = let l = listed source h in (Ok l.0, l.1)

deriving_end : (source : List ℕ) → IsReady source Lawful → (e : End) × Derives source e
deriving_end source h = by (derivable source h)
  where
    by : ((file : List ℕ) × IsDerivedFile source file) ⊎ IsUnderived source → (e : End) × Derives source e
    by (inl made) = (Ok derived_text, (made, refl))
    by (inr long) = (Err (F.Refused (bare E74)), (long, refl))

wants : (a w : Wanted) → Some a ≡ Some w → (source : List ℕ) → IsReady source w → IsReady source a
wants a w e source h = subst (λ v. IsReady source v) (same_Some w a (sym e)) h

some_doing : (source input : List ℕ) (c : Command) (w : Wanted) → wanted c ≡ Some w → IsCertain c → IsReady source w → (e : End) × Does source input c e
some_doing source input (Check file) w e is h = listing_end source (wants Lawful w e source h)
some_doing source input (Exec r) w e is h = executed source r.entry input r.room r.gauge (wants (Compiled r.entry) w e source h)
some_doing source input (Eval file entry calls frames) w e is h = evaluated source entry input calls frames (wants (Root entry) w e source h)
some_doing source input (Derive file out) w e is h = deriving_end source (wants Lawful w e source h)
some_doing source input c w e is h = absurd is

-- ---- the input is read, or isn't

reads_or_not : (c : Command) → ReadsInput c ⊎ (ReadsInput c → ⊥)
reads_or_not (Check file) = inr (λ r. r)
reads_or_not (Compile file out) = inr (λ r. r)
reads_or_not (Verify file) = inr (λ r. r)
reads_or_not (Upgrade file out) = inr (λ r. r)
reads_or_not (Exec r) = inl tt
reads_or_not (Run r) = inl tt
reads_or_not (Eval file entry calls frames) = inl tt
reads_or_not (Trace file entry out room) = inl tt
reads_or_not (Session file room) = inl tt
reads_or_not (Tasks file seed turns room) = inl tt
reads_or_not (Derive file out) = inr (λ r. r)
reads_or_not (Audit file proof) = inr (λ r. r)
reads_or_not (Replay trace step) = inr (λ r. r)
reads_or_not (Library name) = inr (λ r. r)
reads_or_not (Gen seed count) = inr (λ r. r)

ready_end : (source input : List ℕ) (c : Command) (w : Wanted) → wanted c ≡ Some w → IsCertain c → IsReady source w → (e : End) × OnSource source input c w e
ready_end source input c w asks is h = by (le_or_less (length input) MOST_FILE_BYTES) (reads_or_not c)
  where
    done : (e : End) × Does source input c e
    done = some_doing source input c w asks is h

    by : (length input ≤ MOST_FILE_BYTES) ⊎ (MOST_FILE_BYTES < length input) → ReadsInput c ⊎ (ReadsInput c → ⊥) → (e : End) × OnSource source input c w e
    by (inl short) r = (done.0, A.Ready done.0 h (λ reads. short) done.1)
    by (inr long) (inl reads) = (Err (F.BadInput MOST_FILE_BYTES), A.LongInput h reads long)
    by (inr long) (inr never) = (done.0, A.Ready done.0 h (λ reads. absurd (never reads)) done.1)

pub some_end : (files : List File) (source input name : List ℕ) (c : Command) (w : Wanted) → fetched_name c ≡ Some name → wanted c ≡ Some w → file_of name files ≡ Some source → IsCertain c → ((r : a_refusal) × Refuses source w r) ⊎ IsReady source w → (e : End) × ComesTo files input c e
some_end files source input name c w names asks there is (inl (r, h)) = (Err (F.Refused r), of_source files source input name c w (Err (F.Refused r)) names asks there (A.Refused r h))
some_end files source input name c w names asks there is (inr h) = let o = ready_end source input c w asks is h in (o.0, of_source files source input name c w o.0 names asks there o.1)

-- ---- without a file

pub some_text : (files : List File) (input name : List ℕ) → IsTextName name → (e : End) × ComesTo files input (Library name) e
some_text files input name h = let t = named_text name h in (Ok t.0, t.1)

pub some_tree : (files : List File) (input : List ℕ) (seed count : ℕ) → (e : End) × ComesTo files input (Gen seed count) e
some_tree files input seed count = generated seed count

-- ---- where no end is shown, but that there is one

pub never_without : (files : List File) (source input name : List ℕ) (c : Command) → fetched_name c ≡ Some name → wanted c ≡ Some Lawful → file_of name files ≡ Some source → ReadsInput c → ((r : a_refusal) × Refuses source Lawful r) ⊎ IsReady source Lawful → (IsReady source Lawful → ((e : End) → Does source input c e → ⊥) → ⊥) → ((e : End) → ComesTo files input c e → ⊥) → ⊥
never_without files source input name c names asks there reads (inl (r, h)) some none = none (Err (F.Refused r)) (of_source files source input name c Lawful (Err (F.Refused r)) names asks there (A.Refused r h))
never_without files source input name c names asks there reads (inr h) some none = elim (le_or_less (length input) MOST_FILE_BYTES) as (λ v. ⊥) [
  | inl short ↦ some h (λ e d. none e (of_source files source input name c Lawful e names asks there (A.Ready e h (λ r. short) d)))
  | inr long ↦ none (Err (F.BadInput MOST_FILE_BYTES)) (of_source files source input name c Lawful (Err (F.BadInput MOST_FILE_BYTES)) names asks there (A.LongInput h reads long))
]

pub session_ends : (files : List File) (source input file : List ℕ) (room : Room) → file_of file files ≡ Some source → ((r : a_refusal) × Refuses source Lawful r) ⊎ IsReady source Lawful → ((e : End) → ComesTo files input (Session file room) e → ⊥) → ⊥
session_ends files source input file room there is = never_without files source input file (Session file room) refl refl there tt is (λ ready none. some_replies source input room ready none)

pub tasks_end : (files : List File) (source input file : List ℕ) (seed turns : ℕ) (room : Room) → file_of file files ≡ Some source → ((r : a_refusal) × Refuses source Lawful r) ⊎ IsReady source Lawful → ((e : End) → ComesTo files input (Tasks file seed turns room) e → ⊥) → ⊥
tasks_end files source input file seed turns room there is = never_without files source input file (Tasks file seed turns room) refl refl there tt is (λ ready none. some_turns source input room ready none)

pub audit_ends : (files : List File) (source input file proof : List ℕ) → file_of file files ≡ Some source → ((p : Program) × IsMatched source p) ⊎ ((r : a_refusal) × IsEarlyReport source r) → ((e : End) → ComesTo files input (Audit file proof) e → ⊥) → ⊥
audit_ends files source input file proof there is none = some_audit source (file_of proof files) is (λ e h. none e (subst (λ o. OnFound files input (Audit file proof) o e) (sym there) h))

-- ---- `compile`, where there is a code

pub compile_ends : (source : List ℕ) (code : PlainCode) → IsSourceCode source code → ((text file : List ℕ) × A.Compiles source (Ok text) × IsSourceFile source file) ⊎ A.Compiles source (Err (F.Refused (bare E61)))
compile_ends source code h = elim (le_or_less (length file) MOST_FILE_BYTES) [
  | inl short ↦ let l = listed source (coded_ready source code h) in inl (l.0, file, l.1, record { code = code; of' = h; spelt = h.is.spelt.1; short = short })
  | inr long ↦ inr ((code, h, λ other text. subst (λ (xs : List ℕ). MOST_FILE_BYTES < length xs) (same_Some file other (sym h.is.spelt.1 ∙ text)) long), refl)
]
  where
    file : List ℕ
    file = h.is.spelt.0
