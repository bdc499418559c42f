-- What is said of an entry by the runs of a code is what is said of it by trees.
-- The idea: the code holds of the stack what the groups report of the entry, so that both have the same frames and mean
-- the same; and the gauge of a run is reported by the evaluation.
use Rattle.std.proofs.Common.{◌≡◌, ◌∙◌, ◌+◌, ℕ, Bool, false, List, [], ◌∷◌, ◌++◌, ap, ap₂, subst, refl, arith}
use Rattle.std.specs.Prelude.{Result, Ok, Err}
use Rattle.command_library.specs.fip_language.declared.limits.TheConstants.{MOST_FIELDS}
use Rattle.command_library.specs.fip_language.Gauge.{Seen, lowest, highest}
use Rattle.command_library.specs.fip_language.Meaning.{Answer, Peak, Gives, Trap, Out, Deep, Stuck}
use Rattle.command_library.specs.fip_language.PrintedText.{printed_lines}
use Rattle.command_library.specs.fip_language.Store.{count, one_at}
use Rattle.command_library.specs.fip_language.Values.{Values, cells_of_all}
use Rattle.command_library.specs.fip_base.declared.plain.Stack.{Stack}
use Rattle.command_library.specs.command_run.fip_trees.Tree.{Program}
use Rattle.command_library.specs.command_run.tail_groups.Members.{AreMembers}
use Rattle.command_library.specs.command_words.Words.{Room}
use Rattle.command_library.specs.command_outcome.declared.failure.Failure.{Failure}
use Rattle.command_library.specs.session_semantics.Talk.{credits_of}
use Rattle.command_library.specs.machine_correctness.Gauges.{IsMeasured}
use Rattle.command_library.specs.command_eval.EvalAnswer.{Entry}
use Rattle.command_library.specs.command_run.CodeRun.{all_seen}
use Rattle.command_library.specs.command_run.ExecAnswer as R
use Rattle.command_library.specs.command_run.ExecAnswer.{RunsOn}
use Rattle.command_library.specs.command_run.GaugeText.{stack_lines}
use Rattle.command_library.proofs.command_run.ExecOnce.{sizes_alike}
use Rattle.command_library.proofs.command_run.source_report.Once.{accepted_once}
use Rattle.command_trace.specs.TraceAnswer as C
use Rattle.command_trace.specs.TraceAnswer.{Kept, Traces}
use Rattle.command_answers.specs.Ends.{TracesTo, Ended, Traced, TooLong}
use Rattle.command_answers.specs.Exec as X
use Rattle.command_answers.specs.Exec.{End, Start, Running, gauge_by_trees, stack_of_peak}
use Rattle.command_answers.specs.GaugeText.{gauge_text, gauge_by_states, if_asked, highest_of, lowest_of}
use Rattle.command_answers.proofs.SourceCode.{source_trace}

-- ---- the gauge

credits_counted : (k : ℕ) (credits : List ℕ) → count k credits ≡ credits_of k credits
credits_counted k [] = refl
credits_counted k (c ∷ cs) = ap (λ n. one_at k c + n) (credits_counted k cs)

-- the lines of the states of a run that is measured so are those by trees
pub gauge_is : (r : Running) (vs us : Values) (peak : Peak) (ss : List Seen) → IsMeasured vs us (r.instance).params (r.instance).credits peak ss → gauge_by_states ss r.bound ≡ gauge_by_trees r vs us peak
gauge_is r vs us peak ss h =
    let ps = (r.instance).params in
    let ks = (r.instance).credits in
    ap (λ (s : Stack). gauge_text (λ k. lowest k ss) (λ k. highest k ss) s r.bound) (ap₂ (λ f w. record { frames = f; words = w }) h.frames h.words)
    ∙ sizes_alike (λ k. lowest k ss) (lowest_of ps vs us) (λ k. highest k ss) (highest_of ks vs) h.lowest (λ k one. h.highest k one ∙ ap (λ n. cells_of_all k vs + n) (credits_counted k ks)) MOST_FIELDS (omega arith) (stack_lines (stack_of_peak peak) r.bound)

-- ---- what is reported

reports_by_trees : (r : Running) (vs : Values) (calls frames : ℕ) (gauge : Bool) (peak : Peak) (following : Values → List ℕ) (a : Answer) (e : End) → ((us : Values) (left : ℕ) → a ≡ Gives us left → following us ≡ if_asked gauge (gauge_by_trees r vs us peak)) → R.ReportsRun r.types (r.instance).results calls frames following a e → X.ReportsRun r vs calls frames gauge peak a e
reports_by_trees r vs calls frames gauge peak following (Gives us left) e same h = h ∙ ap (λ text. Ok (printed_lines r.types (r.instance).results us ++ text)) (same us left refl)
reports_by_trees r vs calls frames gauge peak following (Trap kind line col) e same h = h
reports_by_trees r vs calls frames gauge peak following Out e same h = h
reports_by_trees r vs calls frames gauge peak following Deep e same h = h
reports_by_trees r vs calls frames gauge peak following Stuck e same h = absurd h

module _ (source name : List ℕ) (y : Entry source name) (vs : Values) (room : Room) (gauge : Bool) (e : End) (k : RunsOn y vs room gauge e) where
  -- the entry, and what its code holds of the stack
  abbrev pub started : Start source name
  started =
      let of = (k.code).of' in
      record {
        entry = y;
        members = of.lowered.members;
        found = subst (λ (p : Program). AreMembers p.instances of.lowered.members) (accepted_once source of.program y.program of.accepted y.accepted) of.lowered.found;
        bound = (k.code).held;
        reported = k.bound;
      }

  pub reported_by_trees : X.ReportsAll (X.running started) vs room.calls (X.frames_for started room) gauge (X.run_of started vs room) e
  reported_by_trees =
      let frames : ℕ = R.frames_for k.code room in
      reports_by_trees (X.running started) vs room.calls frames gauge (R.peak_of y vs room.calls frames) (λ us. if_asked gauge (gauge_by_states (all_seen k.run) (k.code).held)) (R.answer_of y vs room.calls frames) e
      (λ us left gives. ap (if_asked gauge) (gauge_is (X.running started) vs us (R.peak_of y vs room.calls frames) (all_seen k.run) (k.measured us left gives)))
      k.reported

pub exec_by_trees : (source name input : List ℕ) (room : Room) (gauge : Bool) (e : End) → R.Execs source name input room gauge e → X.Execs source name input room gauge e
exec_by_trees source name input room gauge _ (R.Misspelt y at h) = X.Misspelt y at h
exec_by_trees source name input room gauge _ (R.Small y vs h less) = X.Small y vs h less
exec_by_trees source name input room gauge e (R.Ran y vs _ h fits runs) =
    X.Ran (started source name y vs room gauge e runs) vs e h fits (reported_by_trees source name y vs room gauge e runs)

-- ---- trace

abbrev pub text_end : Result Kept Failure → End
text_end (Ok kept) = Ok kept.text
text_end (Err failure) = Err failure

pub trace_by_trees : (source name input : List ℕ) (room : Room) (e : Result Kept Failure) → Traces source name input room e → TracesTo source name input room (text_end e)
trace_by_trees source name input room _ (C.Ended f h) = Ended f (exec_by_trees source name input room false (Err f) h)
trace_by_trees source name input room _ (C.Stored text t h of' short) = Traced text t (exec_by_trees source name input room false (Ok text) h) (source_trace source name input room t of') short
trace_by_trees source name input room _ (C.TooLong t of' long) = TooLong t (source_trace source name input room t of') long
