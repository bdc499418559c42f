-- Each source is refused or has what a command requires, and so each command is never without an end.
-- The idea: a source that has no report is accepted; and of an accepted one its roots are searched for the entry.
use Rattle.std.proofs.Common.{◌≡◌, ◌≤◌, ◌<◌, inl, inr, ℕ, List, Option, Some, None, length, refl, sym, ◌∙◌}
use Rattle.std.specs.Prelude.{◌⊎◌, Ok, Err}
use Rattle.command_answers.proofs.command_library.fip_language.Search.{le_or_less}
use Rattle.command_answers.specs.fip_outside.Files.{File, file_of}
use Rattle.command_answers.specs.command_library.fip_language.declared.FunKind.{FunKind}
use Rattle.command_answers.specs.command_library.fip_language.declared.FunKind.TheVariants.{Fip, Fbip, Fun}
use Rattle.command_answers.specs.command_library.fip_language.declared.limits.TheConstants.{MOST_FILE_BYTES}
use Rattle.command_answers.specs.command_library.fip_language.declared.rule.Rule.TheVariants.{E61, E70, E71}
use Rattle.command_answers.specs.command_library.fip_base.declared.refusal.Refusal.{Refusal}
use Rattle.worked_examples.specs.fip_trees.Tree.{Instance, Program}
use Rattle.worked_examples.specs.source_report.Report.{bare, IsMatched, IsAccepted}
use Rattle.report_completeness.proofs.Complete.{some_accepted}
use Rattle.report_completeness.proofs.LeastOrNone.{Can, either}
use Rattle.command_answers.specs.command_library.command_words.Words.{Command, Check, Compile, Verify, Upgrade, Exec, Run, Eval, Trace, Session, Tasks, Derive, Audit, Replay, Library, Gen}
use Rattle.command_answers.specs.command_library.command_words.Words.{Room, IsCommand}
use Rattle.command_answers.specs.command_library.command_outcome.declared.failure.Failure.TheVariants as F
use Rattle.command_answers.specs.command_library.command_outcome.declared.failure.Object.TheVariants as O
use Rattle.command_answers.specs.command_library.command_source.Judged.{IsEarlyReport}
use Rattle.command_answers.specs.command_library.command_source.Places.{placed}
use Rattle.command_answers.specs.command_library.command_source.Roots.{root_named}
use Rattle.command_answers.specs.command_library.command_source.Wanted.{Wanted, Lawful, Root, Compiled, of_entry, MissesRoot, MissesCode, Misses, Refuses, IsRoot, IsCompiled, Has, IsReady}
use Rattle.command_answers.specs.Answer.{ComesTo}
use Rattle.command_answers.specs.Asks.{fetched_name, wanted}
use Rattle.command_answers.specs.Ends as A
use Rattle.command_answers.specs.Exec.{End}
use Rattle.answer_correctness.specs.Certain.{IsCertain, HasCode, IsCoded}
use Rattle.answer_correctness.proofs.Coming.{missing, of_source}
use Rattle.answer_correctness.proofs.SomeAnswer.{some_answer, some_verify, some_upgrade, some_replay}
use Rattle.answer_correctness.proofs.SomeEnd.{some_end, some_text, some_tree, session_ends, tasks_end, audit_ends, compile_ends}
use Rattle.answer_correctness.proofs.TracedRuns.{traced}

-- ---- a source

-- one of both
abbrev IsAnswered : List ℕ → Wanted → Type 0
IsAnswered source w = ((r : Refusal) × Refuses source w r) ⊎ IsReady source w

-- an accepted program has what is required, or misses it
misses_or_has : (w : Wanted) (p : Program) → ((r : Refusal) × Misses w p r) ⊎ Has w p
misses_or_has Lawful p = inr tt
misses_or_has (Root name) p = by (root_named name p.instances)
  where
    by : (o : Option Instance) → ((r : Refusal) × MissesRoot o name r) ⊎ IsRoot o
    by None = inl (of_entry E70 name, refl)
    by (Some d) = inr tt
misses_or_has (Compiled name) p = by (root_named name p.instances)
  where
    by_kind : (d : Instance) (k : FunKind) → d.kind ≡ k → ((r : Refusal) × MissesCode (Some d) name r) ⊎ IsCompiled (Some d)
    by_kind d Fun e = inl (of_entry E71 name, (e, refl))
    by_kind d Fip e = inr (λ f. let g : Fip ≡ Fun = sym e ∙ f in absurd (cc))
    by_kind d Fbip e = inr (λ f. let g : Fbip ≡ Fun = sym e ∙ f in absurd (cc))

    by : (o : Option Instance) → ((r : Refusal) × MissesCode o name r) ⊎ IsCompiled o
    by None = inl (of_entry E70 name, refl)
    by (Some d) = by_kind d d.kind refl

accepted_answered : (source : List ℕ) (w : Wanted) (p : Program) → IsAccepted source p → IsAnswered source w
accepted_answered source w p h = elim (misses_or_has w p) as (λ _. IsAnswered source w) [
  | inl m ↦ inl (m.0, inr (p, h, m.1))
  | inr k ↦ inr (record { program = p; accepted = h; has = k })
]

answered : (source : List ℕ) (w : Wanted) → Can (IsAnswered source w)
answered source w none = some_accepted source (λ q h. none (inl (placed source q, inl (q, h, refl)))) (λ a. none (accepted_answered source w a.0 a.1))

pub source_answered : (source : List ℕ) (w : Wanted) → ((r : Refusal) → Refuses source w r → ⊥) → (IsReady source w → ⊥) → ⊥
source_answered source w unrefused unready = answered source w (λ h. elim h as (λ _. ⊥) [ inl r ↦ unrefused r.0 r.1 | inr k ↦ unready k ])

-- a source whose types and matches aren't right has an early report
matched_or_early : (source : List ℕ) → Can (((p : Program) × IsMatched source p) ⊎ ((r : Refusal) × IsEarlyReport source r))
matched_or_early source none =
    either ((p : Program) × IsMatched source p) (λ e. elim e as (λ _. ⊥) [
      | inl m ↦ none (inl m)
      | inr never ↦ some_accepted source (λ q h. none (inr (placed source q, ((q, h, refl), λ p m. never (p, m))))) (λ a. never (a.0, a.1.tailed.credited.owned.matched))
    ])

-- ---- a command on a source

-- what is said of the file, where it is there and where it isn't
on_file : (files : List File) (input name : List ℕ) (c : Command) → fetched_name c ≡ Some name → ((source : List ℕ) → file_of name files ≡ Some source → Can ((e : End) × ComesTo files input c e)) → Can ((e : End) × ComesTo files input c e)
on_file files input name c names there = by (file_of name files) refl
  where
    by : (f : Option (List ℕ)) → file_of name files ≡ f → Can ((e : End) × ComesTo files input c e)
    by None e none = none (Err (F.Fault O.Folder), missing files input c name names e)
    by (Some source) e none = there source e none

certain : (files : List File) (input name : List ℕ) (c : Command) (w : Wanted) → fetched_name c ≡ Some name → wanted c ≡ Some w → IsCertain c → Can ((e : End) × ComesTo files input c e)
certain files input name c w names asks is =
    on_file files input name c names (λ source there none. answered source w (λ h. none (some_end files source input name c w names asks there is h)))

compiled : (files : List File) (input file out : List ℕ) → HasCode files file → Can ((e : End) × ComesTo files input (Compile file out) e)
compiled files input file out coded = on_file files input file (Compile file out) refl (λ source there none. answered source Lawful (λ h. none (by source there h)))
  where
    to : (source : List ℕ) → file_of file files ≡ Some source → (e : End) → IsReady source Lawful → A.Compiles source e → ComesTo files input (Compile file out) e
    to source there e ready h = of_source files source input file (Compile file out) Lawful e refl refl there (A.Ready e ready (λ reads. absurd reads) h)

    by : (source : List ℕ) → file_of file files ≡ Some source → IsAnswered source Lawful → (e : End) × ComesTo files input (Compile file out) e
    by source there (inl (r, h)) = (Err (F.Refused r), of_source files source input file (Compile file out) Lawful (Err (F.Refused r)) refl refl there (A.Refused r h))
    by source there (inr ready) = let code = coded source there ready in elim (compile_ends source code.0 code.1) as (λ _. (e : End) × ComesTo files input (Compile file out) e) [
      | inl made ↦ (Ok made.0, to source there (Ok made.0) ready made.2)
      | inr long ↦ (Err (F.Refused (bare E61)), to source there (Err (F.Refused (bare E61))) ready long)
    ]

module _ (files : List File) (input file entry out : List ℕ) (room : Room) (coded : HasCode files file) where
  abbrev tracing : Command
  tracing = Trace file entry out room

  ready_traced : (source : List ℕ) → file_of file files ≡ Some source → IsReady source (Compiled entry) → (length input ≤ MOST_FILE_BYTES) ⊎ (MOST_FILE_BYTES < length input) → (e : End) × ComesTo files input tracing e
  ready_traced source there ready (inr long) =
      (Err (F.BadInput MOST_FILE_BYTES), of_source files source input file tracing (Compiled entry) (Err (F.BadInput MOST_FILE_BYTES)) refl refl there (A.LongInput ready tt long))
  ready_traced source there ready (inl short) =
      let code = coded source there (record { program = ready.program; accepted = ready.accepted; has = tt }) in
      let end = traced source entry input room code.0 ready code.1 in
      (end.0, of_source files source input file tracing (Compiled entry) end.0 refl refl there (A.Ready end.0 ready (λ reads. short) end.1))

  trace_answered : Can ((e : End) × ComesTo files input tracing e)
  trace_answered = on_file files input file tracing refl (λ source there none. answered source (Compiled entry) (λ h. none (by source there h)))
    where
      by : (source : List ℕ) → file_of file files ≡ Some source → IsAnswered source (Compiled entry) → (e : End) × ComesTo files input tracing e
      by source there (inl (r, h)) = (Err (F.Refused r), of_source files source input file tracing (Compiled entry) (Err (F.Refused r)) refl refl there (A.Refused r h))
      by source there (inr ready) = ready_traced source there ready (le_or_less (length input) MOST_FILE_BYTES)

-- one by one
each : (files : List File) (input : List ℕ) (c : Command) (end : Can ((e : End) × ComesTo files input c e)) → ((e : End) → ComesTo files input c e → ⊥) → ⊥
each files input c end none = end (λ h. none h.0 h.1)

pub command_answered : (words : List (List ℕ)) (files : List File) (input : List ℕ) (c : Command) → IsCommand words c → IsCoded files c → ((e : End) → ComesTo files input c e → ⊥) → ⊥
command_answered words files input (Check file) asked coded = each files input (Check file) (certain files input file (Check file) Lawful refl refl tt)
command_answered words files input (Compile file out) asked coded = each files input (Compile file out) (compiled files input file out coded)
command_answered words files input (Verify file) asked coded = some_verify files input file
command_answered words files input (Upgrade file out) asked coded = some_upgrade files input file out
command_answered words files input (Exec r) asked coded = each files input (Exec r) (certain files input r.file (Exec r) (Compiled r.entry) refl refl tt)
command_answered words files input (Run r) asked coded = some_answer files input r
command_answered words files input (Eval file entry calls frames) asked coded =
    each files input (Eval file entry calls frames) (certain files input file (Eval file entry calls frames) (Root entry) refl refl tt)
command_answered words files input (Trace file entry out room) asked coded = each files input (Trace file entry out room) (trace_answered files input file entry out room coded)
command_answered words files input (Session file room) asked coded =
    each files input (Session file room) (on_file files input file (Session file room) refl (λ source there none. answered source Lawful (λ h. session_ends files source input file room there h (λ e k. none (e, k)))))
command_answered words files input (Tasks file seed turns room) asked coded =
    each files input (Tasks file seed turns room) (on_file files input file (Tasks file seed turns room) refl (λ source there none. answered source Lawful (λ h. tasks_end files source input file seed turns room there h (λ e k. none (e, k)))))
command_answered words files input (Derive file out) asked coded = each files input (Derive file out) (certain files input file (Derive file out) Lawful refl refl tt)
command_answered words files input (Audit file proof) asked coded =
    each files input (Audit file proof) (on_file files input file (Audit file proof) refl (λ source there none. matched_or_early source (λ h. audit_ends files source input file proof there h (λ e k. none (e, k)))))
command_answered words files input (Replay trace step) asked coded = each files input (Replay trace step) (λ none. none (some_replay files input trace step))
command_answered words files input (Library name) asked coded = each files input (Library name) (λ none. none (some_text files input name asked.asks.known))
command_answered words files input (Gen seed count) asked coded = each files input (Gen seed count) (λ none. none (some_tree files input seed count))
