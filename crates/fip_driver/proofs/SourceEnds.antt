-- From what a part answered to what a command ends with: on an input, on a source, on the file, and for the words.
use Rattle.std.proofs.Common.{◌≡◌, ◌∙◌, ◌<◌, ◌≤◌, ℕ, List, [], length, sym, ap, subst, refl, inl, inr, arith}
use Rattle.std.specs.Prelude.{◌⊎◌, Option, Some, None, Result, Ok, Err, IfOk, IfErr, OnOk, IsSomeAnd}
use Rattle.std.specs.Io.KnownBytes.{Consumes, IsAtEnd}
use Rattle.std.specs.declared.vec.Vec.{Vec}
use Rattle.std.specs.declared.alloc.Global.{Global}
use Rattle.fip_language.specs.declared.rule.Rule.TheVariants.{E05, E61, E72, E74}
use Rattle.std.specs.Fmt.{decimal}
use Rattle.fip_base.specs.declared.refusal.Refusal.{Refusal}
use Rattle.fip_outside.specs.Faults.{Rose}
use Rattle.fip_outside.specs.Files.{File, file_of, HoldsFile, HoldsLonger, IsMissing}
use Rattle.fip_trees.specs.Tree.{Program}
use Rattle.command_answers.specs.command_tasks.run_loading.TraceText.{trace_text}
use Rattle.command_answers.specs.command_tasks.TasksAnswer.{TakesTurns}
use Rattle.command_answers.specs.command_trace.TraceAnswer.{Kept, Traces, Ended, Stored, TooLong as LongTrace, KeptOrNoMemory}
use Rattle.command_answers.specs.Stored.{IsReported, IsTraceFile}
use Rattle.std.proofs.lemmas.Option.{none-some}
use Rattle.command_words.specs.Words.{Room, Request, Command, Check, Compile, Verify, Upgrade, Exec, Run, Trace, Tasks, Derive, Audit, Eval, Replay, Library, Gen, IsTextName}
use Rattle.command_answers.specs.command_library.GenAnswer.{Generates}
use Rattle.command_answers.specs.command_trace.Replayed.{IsReplayed, KeepsFromReplay}
use Rattle.command_answers.specs.command_library.library_sources.Texts.{IsText}
use Rattle.command_outcome.specs.Successes.{derived_text}
use Rattle.command_outcome.specs.declared.failure.Failure.{Failure}
use Rattle.command_outcome.specs.declared.failure.Failure.TheVariants as F
use Rattle.command_outcome.specs.declared.failure.Object.TheVariants as O
use Rattle.command_answers.specs.command_tasks.source_report.Report.{bare, IsMatched, TooLong}
use Rattle.command_answers.specs.command_library.command_eval.EvalAnswer.{Evaluates, OrNoMemory}
use Rattle.command_answers.specs.command_library.command_run.ExecAnswer.{Execs}
use Rattle.command_answers.specs.command_library.command_source.Judged.{IsEarlyReport, IsBadProof, IsProofOf, IsRejectedOf}
use Rattle.command_answers.specs.command_library.command_source.Derived.{IsDerivedFile, KeepsFromDerive}
use Rattle.command_answers.specs.command_library.command_source.ProgramCode.{KeepsFromCompile}
use Rattle.command_answers.specs.command_library.command_source.Roots.{IsListing}
use Rattle.command_answers.specs.command_library.command_source.Wanted.{Wanted, Lawful, Root, Compiled, IsReady, IsRefusedBy, KeepsFrom, of_entry}
use Rattle.command_answers.proofs.command_library.command_source.Once.{listing_ready}
use Rattle.command_answers.proofs.command_library.command_source.Compiling.{uncompiled_ready}
use Rattle.command_answers.proofs.command_library.command_source.Deriving.{derived_ready, underived_ready}
use Rattle.command_answers.specs.command_library.command_source.declared.files.Compiled.{Compiled as compiled_file}
use Rattle.command_answers.specs.Answer.{OnWanted, OnFile, OnFound, OnNamed, ComesTo}
use Rattle.command_answers.specs.Asks.{ReadsInput, CallsNoFolder, fetched_name, wanted, IsReadyFor, HasWanted, HoldsWanted, ComesToInput}
use Rattle.command_answers.specs.Ends.{OnSource, Refused, LongInput, Ready, Does, TracesTo, IsTaken, Judges, Audits, Reported, NoProof, Judged}
use Rattle.command_answers.specs.Exec.{End}
use Rattle.command_answers.proofs.ByTrees.{exec_by_trees, trace_by_trees}
use Rattle.command_answers.proofs.Generated.{gen_by_trees}
use Rattle.command_answers.proofs.SourceCode.{long_code, source_trace}
use Rattle.fip_driver.specs.Fetched.{FetchFails, FileFails, StoreFails, JudgeFails, ReadFails}
use Rattle.fip_driver.specs.Turns.{end_of, IsFault, Closes}
use Rattle.fip_driver.specs.Outcome.{compiled_end, IsInputFault, ReadOutcome, SourceOutcome, FileOutcome, AuditOutcome, CommandOutcome}
use Rattle.fip_driver.proofs.Telling.{any_reported, held, bytes_of, longer, reported_fetch, reported_input, whole_of, more_left}

-- ---- faults

pub fault_up : (c : Command) (came more fr ir more_fr more_ir : Type 0) (e : End) → (came → more) → (fr → more_fr) → (ir → more_ir) → IsFault c came fr ir e → IsFault c more more_fr more_ir e
fault_up c came more fr ir mf mi (Ok text) k f i h = h
fault_up c came more fr ir mf mi (Err F.NoMemory) k f i h = tt
fault_up c came more fr ir mf mi (Err (F.Fault O.Folder)) k f i h = (f h.0, h.1)
fault_up c came more fr ir mf mi (Err (F.Fault O.Input)) k f i h = (i h.0, h.1, k h.2)
fault_up c came more fr ir mf mi (Err (F.Fault O.Out)) k f i h = h
fault_up c came more fr ir mf mi (Err (F.Fault O.Err)) k f i h = h
fault_up c came more fr ir mf mi (Err failure) k f i h = h

pub input_fault_up : (c : Command) (came fr ir : Type 0) (e : End) → ReadsInput c → came → IsInputFault ir e → IsFault c came fr ir e
input_fault_up c came fr ir (Ok text) r k h = h
input_fault_up c came fr ir (Err F.NoMemory) r k h = tt
input_fault_up c came fr ir (Err (F.Fault O.Folder)) r k h = absurd h
input_fault_up c came fr ir (Err (F.Fault O.Input)) r k h = (h, r, k)
input_fault_up c came fr ir (Err (F.Fault O.Out)) r k h = h
input_fault_up c came fr ir (Err (F.Fault O.Err)) r k h = h
input_fault_up c came fr ir (Err failure) r k h = h

-- what is required of a source, by the command
has_wanted : (c : Command) (w : Wanted) (source : List ℕ) → wanted c ≡ Some w → IsReady source w → HasWanted c source
has_wanted (Run r) w source wants ready = absurd (none-some w wants)
has_wanted c w source wants ready = subst (IsReadyFor source) (sym wants) ready

-- a command reaches its input, where its file is there and has what is required
come_ready : (c : Command) (w : Wanted) (name : List ℕ) (files : List File) (source : List ℕ) → fetched_name c ≡ Some name → wanted c ≡ Some w → file_of name files ≡ Some source → IsReady source w → ComesToInput c (Some files)
come_ready c w name files source names wants there ready = subst (HoldsWanted c (Some files)) (sym names) (source, there, has_wanted c w source wants ready)

-- a count that rose later rose
pub rose_later : (before mid now : ℕ) → before ≤ mid → Rose mid now → Rose before now
rose_later before mid now le h = grind arith

-- ---- the input

-- an input that wasn't read
pub unread_says : (Is : List ℕ → End → Type 0) (before left : Option (List ℕ)) (old new : ℕ) (f : Failure) → ReadFails before left old new f → ReadOutcome Is before (Rose old new) (Err f)
unread_says Is before left old new f h = let t = reported_input before left old new f h in (t.0, t.1, by f t.0 t.2.0 t.2.1)
  where
    by : (f : Failure) (input : List ℕ) (rest : Option (List ℕ)) → ReadFails (Some input) rest old new f → IsInputFault (Rose old new) (Err f) ⊎ (((16777216 < length input) × ◌≡◌ {A = End} (Err f) (Err (F.BadInput 16777216))) ⊎ ((length input ≤ 16777216) × Is input (Err f)))
    by (F.BadInput at) input rest h = inr (inl (more_left input rest h.1, ap (λ n. Err (F.BadInput n)) h.0))
    by (F.Fault O.Folder) input rest h = absurd (let same = h.0 in cc)
    by (F.Fault O.Input) input rest h = inl h.1
    by (F.Fault O.Out) input rest h = absurd (let same = h.0 in cc)
    by (F.Fault O.Err) input rest h = absurd (let same = h.0 in cc)
    by F.NoMemory input rest h = inl tt
    by failure input rest h = absurd h

-- an input that was read to its end, and what is said of it
pub read_says : (Is : List ℕ → End → Type 0) (before left : Option (List ℕ)) (rose : Type 0) (read : List ℕ) (o : Result (Vec ℕ Global) Failure) → Consumes before left read → IsAtEnd left → length read ≤ 16777216 → OrNoMemory (Is read) o → ReadOutcome Is before rose (end_of o)
read_says Is before left rose read o c end le h = (read, whole_of before left read c end, by o h)
  where
    by : (o : Result (Vec ℕ Global) Failure) → OrNoMemory (Is read) o → IsInputFault rose (end_of o) ⊎ (((16777216 < length read) × (end_of o ≡ Err (F.BadInput 16777216))) ⊎ ((length read ≤ 16777216) × Is read (end_of o)))
    by (Ok text) h = inr (inr (le, h))
    by (Err F.NoMemory) h = inl tt
    by (Err failure) h = inr (inr (le, h))

-- an input that was read to its end
pub read_ends : (Is : List ℕ → End → Type 0) (before left : Option (List ℕ)) (rose : Type 0) (read : List ℕ) (e : End) → Consumes before left read → IsAtEnd left → length read ≤ 16777216 → Is read e → ReadOutcome Is before rose e
read_ends Is before left rose read e c end le m = (read, whole_of before left read c end, inr (inr (le, m)))

-- an input that was read to its end, and what a traced run ends in on it
pub read_traces : (source name : List ℕ) (room : Room) (before left : Option (List ℕ)) (rose : Type 0) (read : List ℕ) (o : Result compiled_file Failure) → Consumes before left read → IsAtEnd left → length read ≤ 16777216 → KeptOrNoMemory (Traces source name read room) o → ReadOutcome (λ input. TracesTo source name input room) before rose (compiled_end o)
read_traces source name room before left rose read o c end le h = (read, whole_of before left read c end, by o h)
  where
    by : (o : Result compiled_file Failure) → KeptOrNoMemory (Traces source name read room) o → IsInputFault rose (compiled_end o) ⊎ (((16777216 < length read) × (compiled_end o ≡ Err (F.BadInput 16777216))) ⊎ ((length read ≤ 16777216) × TracesTo source name read room (compiled_end o)))
    by (Ok compiled) h = inr (inr (le, trace_by_trees source name read room (Ok (record { file = compiled.file.items; text = compiled.text.items })) h))
    by (Err F.NoMemory) h = inl tt
    by (Err failure) h = inr (inr (le, trace_by_trees source name read room (Err failure) h))

-- the file that is stored
is_trace_file : (source name input : List ℕ) (left : Option (List ℕ)) (room : Room) (k : Kept) (e : Result Kept Failure) → IsReported left input → Traces source name input room e → e ≡ Ok k → IsTraceFile source name room left k.file
is_trace_file source name input left room k e reported (Ended failure h) is = absurd cc
is_trace_file source name input left room k e reported (Stored text t h of' short) is = let same : trace_text t ≡ k.file = cc in (input, reported, t, source_trace source name input room t of', short, sym same)
is_trace_file source name input left room k e reported (LongTrace t of' long) is = absurd cc

pub trace_made : (source name : List ℕ) (room : Room) (before left : Option (List ℕ)) (read : List ℕ) (o : Result compiled_file Failure) → Consumes before left read → IsAtEnd left → KeptOrNoMemory (Traces source name read room) o → IfOk o (λ c. IsTraceFile source name room before c.file.items)
trace_made source name room before left read (Ok c) all end h = is_trace_file source name read before room (record { file = c.file.items; text = c.text.items }) (Ok (record { file = c.file.items; text = c.text.items })) (whole_of before left read all end) h refl
trace_made source name room before left read (Err f) all end h = tt

-- ---- the source

no_input : (c : Command) (input : List ℕ) → (ReadsInput c → ⊥) → IsTaken c input
no_input c input never reads = absurd (never reads)

pub kept_ends : (c : Command) (w : Wanted) (source : List ℕ) (left : Option (List ℕ)) (fr ir : Type 0) (f : Failure) → KeepsFrom source w f → SourceOutcome c w source left fr ir (Err f)
kept_ends c w source left fr ir f h = let i = any_reported left [] in (i.0, i.1, by f i.0 h)
  where
    by : (f : Failure) (input : List ℕ) → KeepsFrom source w f → IsFault c (IsReady source w) fr ir (Err f) ⊎ OnSource source input c w (Err f)
    by (F.Refused r) input h = inr (Refused r h)
    by F.NoMemory input h = inl tt
    by failure input h = absurd h

-- `check`
pub check_ends : (file source : List ℕ) (left : Option (List ℕ)) (fr ir : Type 0) (o : Result (Vec ℕ Global) Failure) → IfOk o (λ v. IsListing source v.items) → IfErr o (KeepsFrom source Lawful) → SourceOutcome (Check file) Lawful source left fr ir (end_of o)
check_ends file source left fr ir (Ok v) h k = let i = any_reported left [] in (i.0, i.1, inr (Ready (Ok v.items) (listing_ready source v.items h) (no_input (Check file) i.0 (λ r. r)) h))
check_ends file source left fr ir (Err f) h k = kept_ends (Check file) Lawful source left fr ir f k

-- what was made of a source is stored, and its text is reported
stored_ends : (c : Command) (source : List ℕ) (left : Option (List ℕ)) (ir : Type 0) (before mid now : ℕ) (o : Result (Vec ℕ Global) Failure) → (CallsNoFolder c → ⊥) → (ReadsInput c → ⊥) → before ≤ mid → IsReady source Lawful → ((input : List ℕ) → IfOk o (λ v. Does source input c (Ok v.items))) → IfErr o (StoreFails mid now) → SourceOutcome c Lawful source left (Rose before now) ir (end_of o)
stored_ends c source left ir before mid now o calls never le ready ok err = let i = any_reported left [] in (i.0, i.1, by o i.0 (ok i.0) err)
  where
    by : (o : Result (Vec ℕ Global) Failure) (input : List ℕ) → IfOk o (λ v. Does source input c (Ok v.items)) → IfErr o (StoreFails mid now) → IsFault c (IsReady source Lawful) (Rose before now) ir (end_of o) ⊎ OnSource source input c Lawful (end_of o)
    by (Ok v) input ok err = inr (Ready (Ok v.items) ready (no_input c input never) ok)
    by (Err (F.Fault O.Folder)) input ok err = inl (rose_later before mid now le err.1, calls)
    by (Err (F.Fault O.Input)) input ok err = absurd (let same = err.0 in cc)
    by (Err (F.Fault O.Out)) input ok err = absurd (let same = err.0 in cc)
    by (Err (F.Fault O.Err)) input ok err = absurd (let same = err.0 in cc)
    by (Err F.NoMemory) input ok err = inl tt
    by (Err failure) input ok err = absurd err

-- `compile`
pub compile_refused : (file out source : List ℕ) (left : Option (List ℕ)) (fr ir : Type 0) (f : Failure) → KeepsFromCompile source f → SourceOutcome (Compile file out) Lawful source left fr ir (Err f)
compile_refused file out source left fr ir f (inl h) = kept_ends (Compile file out) Lawful source left fr ir f h
compile_refused file out source left fr ir f (inr h) = let i = any_reported left [] in (i.0, i.1, by f i.0 h.1)
  where
    ready : IsReady source Lawful
    ready = uncompiled_ready source h.0

    by : (f : Failure) (input : List ℕ) → IsRefusedBy (λ r. r ≡ bare E61) f → IsFault (Compile file out) (IsReady source Lawful) fr ir (Err f) ⊎ OnSource source input (Compile file out) Lawful (Err f)
    by (F.Refused r) input e = inr (Ready (Err (F.Refused r)) ready (no_input (Compile file out) input (λ r. r)) (long_code source h.0, ap F.Refused e))
    by F.NoMemory input e = inl tt
    by failure input e = absurd e

pub compile_ends : (file out source text : List ℕ) (left : Option (List ℕ)) (ir : Type 0) (before mid now : ℕ) (o : Result (Vec ℕ Global) Failure) → before ≤ mid → IsListing source text → IfOk o (λ v. v.items ≡ text) → IfErr o (StoreFails mid now) → SourceOutcome (Compile file out) Lawful source left (Rose before now) ir (end_of o)
compile_ends file out source text left ir before mid now o le listing ok err =
    stored_ends (Compile file out) source left ir before mid now o (λ r. r) (λ r. r) le (listing_ready source text listing) (λ input. by o ok) err
  where
    by : (o : Result (Vec ℕ Global) Failure) → IfOk o (λ v. v.items ≡ text) → IfOk o (λ v. IsListing source v.items)
    by (Ok v) e = subst (IsListing source) (sym e) listing
    by (Err f) e = tt

-- `derive`
pub derive_refused : (file out source : List ℕ) (left : Option (List ℕ)) (fr ir : Type 0) (f : Failure) → KeepsFromDerive source f → SourceOutcome (Derive file out) Lawful source left fr ir (Err f)
derive_refused file out source left fr ir f (inl h) = kept_ends (Derive file out) Lawful source left fr ir f h
derive_refused file out source left fr ir f (inr h) = let i = any_reported left [] in (i.0, i.1, by f i.0 h.1)
  where
    by : (f : Failure) (input : List ℕ) → IsRefusedBy (λ r. r ≡ bare E74) f → IsFault (Derive file out) (IsReady source Lawful) fr ir (Err f) ⊎ OnSource source input (Derive file out) Lawful (Err f)
    by (F.Refused r) input e = inr (Ready (Err (F.Refused r)) (underived_ready source h.0) (no_input (Derive file out) input (λ r. r)) (h.0, ap F.Refused e))
    by F.NoMemory input e = inl tt
    by failure input e = absurd e

pub derive_ends : (file out source text bytes : List ℕ) (left : Option (List ℕ)) (ir : Type 0) (before mid now : ℕ) (o : Result (Vec ℕ Global) Failure) → before ≤ mid → IsDerivedFile source bytes → text ≡ derived_text → IfOk o (λ v. v.items ≡ text) → IfErr o (StoreFails mid now) → SourceOutcome (Derive file out) Lawful source left (Rose before now) ir (end_of o)
derive_ends file out source text bytes left ir before mid now o le made derived ok err =
    stored_ends (Derive file out) source left ir before mid now o (λ r. r) (λ r. r) le (derived_ready source bytes made) (λ input. by input o ok) err
  where
    by : (input : List ℕ) (o : Result (Vec ℕ Global) Failure) → IfOk o (λ v. v.items ≡ text) → IfOk o (λ v. Does source input (Derive file out) (Ok v.items))
    by input (Ok v) e = ((bytes, made), e ∙ derived)
    by input (Err f) e = tt

-- what comes of an input, of a source that has what is required
pub input_ends : (c : Command) (w : Wanted) (source : List ℕ) (left : Option (List ℕ)) (fr rose : Type 0) (Is : List ℕ → End → Type 0) (e : End) → IsReady source w → ReadsInput c → ((input : List ℕ) (d : End) → Is input d → Does source input c d) → ReadOutcome Is left rose e → SourceOutcome c w source left fr rose e
input_ends c w source left fr rose Is e ready reads up (input, reported, h) = (input, reported, by h)
  where
    long : (d : End) → 16777216 < length input → d ≡ Err (F.BadInput 16777216) → OnSource source input c w d
    long d more same = subst (OnSource source input c w) (sym same) (LongInput ready reads more)

    by : IsInputFault rose e ⊎ (((16777216 < length input) × (e ≡ Err (F.BadInput 16777216))) ⊎ ((length input ≤ 16777216) × Is input e)) → IsFault c (IsReady source w) fr rose e ⊎ OnSource source input c w e
    by (inl f) = inl (input_fault_up c (IsReady source w) fr rose e reads ready f)
    by (inr (inl (more, same))) = inr (long e more same)
    by (inr (inr (le, m))) = inr (Ready e ready (λ r. le) (up input e m))

-- what `exec` reports
pub executed_ends : (r : Request) (source : List ℕ) (left : Option (List ℕ)) (fr rose : Type 0) (e : End) → IsReady source (Compiled r.entry) → ReadOutcome (λ bytes. Execs source r.entry bytes r.room r.gauge) left rose e → SourceOutcome (Exec r) (Compiled r.entry) source left fr rose e
executed_ends r source left fr rose e ready h =
    input_ends (Exec r) (Compiled r.entry) source left fr rose (λ bytes. Execs source r.entry bytes r.room r.gauge) e ready tt (λ input d m. exec_by_trees source r.entry input r.room r.gauge d m) h

-- what `eval` reports
pub evaluated_ends : (file entry source : List ℕ) (calls frames : ℕ) (left : Option (List ℕ)) (fr rose : Type 0) (e : End) → IsReady source (Root entry) → ReadOutcome (λ bytes. Evaluates source entry bytes calls frames) left rose e → SourceOutcome (Eval file entry calls frames) (Root entry) source left fr rose e
evaluated_ends file entry source calls frames left fr rose e ready h =
    input_ends (Eval file entry calls frames) (Root entry) source left fr rose (λ bytes. Evaluates source entry bytes calls frames) e ready tt (λ input d m. m) h

-- what `tasks` reports
pub turns_ends : (file source : List ℕ) (seed turns : ℕ) (room : Room) (left : Option (List ℕ)) (fr rose : Type 0) (e : End) → IsReady source Lawful → ReadOutcome (λ bytes. TakesTurns source bytes room) left rose e → SourceOutcome (Tasks file seed turns room) Lawful source left fr rose e
turns_ends file source seed turns room left fr rose e ready h =
    input_ends (Tasks file seed turns room) Lawful source left fr rose (λ bytes. TakesTurns source bytes room) e ready tt (λ input d m. m) h

-- a trace that was made is stored
pub trace_stored : (left : Option (List ℕ)) (rose : Type 0) (file entry out source text : List ℕ) (room : Room) (before mid now : ℕ) (w : Wanted) (o : Result (Vec ℕ Global) Failure) → before ≤ mid → IsReady source w → ReadOutcome (λ input. TracesTo source entry input room) left rose (Ok text) → IfOk o (λ v. v.items ≡ text) → IfErr o (StoreFails mid now) → SourceOutcome (Trace file entry out room) w source left (Rose before now) rose (end_of o)
trace_stored left rose file entry out source text room before mid now w o le ready (input, reported, h) ok err = (input, reported, by o ok err)
  where
    short : IsInputFault rose (Ok text) ⊎ (((16777216 < length input) × ◌≡◌ {A = End} (Ok text) (Err (F.BadInput 16777216))) ⊎ ((length input ≤ 16777216) × TracesTo source entry input room (Ok text))) → length input ≤ 16777216
    short (inl f) = absurd f
    short (inr (inl (more, same))) = absurd cc
    short (inr (inr (le, m))) = le

    may : IsInputFault rose (Ok text) ⊎ (((16777216 < length input) × ◌≡◌ {A = End} (Ok text) (Err (F.BadInput 16777216))) ⊎ ((length input ≤ 16777216) × TracesTo source entry input room (Ok text))) → TracesTo source entry input room (Ok text)
    may (inl f) = absurd f
    may (inr (inl (more, same))) = absurd cc
    may (inr (inr (le, m))) = m

    by : (o : Result (Vec ℕ Global) Failure) → IfOk o (λ v. v.items ≡ text) → IfErr o (StoreFails mid now) → IsFault (Trace file entry out room) (IsReady source w) (Rose before now) rose (end_of o) ⊎ OnSource source input (Trace file entry out room) w (end_of o)
    by (Ok v) ok err = inr (Ready (Ok v.items) ready (λ r. short h) (subst (λ t. TracesTo source entry input room (Ok t)) (sym ok) (may h)))
    by (Err (F.Fault O.Folder)) ok err = inl (rose_later before mid now le err.1, λ r. r)
    by (Err (F.Fault O.Input)) ok err = absurd (let same = err.0 in cc)
    by (Err (F.Fault O.Out)) ok err = absurd (let same = err.0 in cc)
    by (Err (F.Fault O.Err)) ok err = absurd (let same = err.0 in cc)
    by (Err F.NoMemory) ok err = inl tt
    by (Err failure) ok err = absurd err

-- ---- the file

-- what comes of the file that is fetched first
pub comes_found : (files : List File) (input : List ℕ) (c : Command) (name : List ℕ) (o : Option (List ℕ)) (e : End) → fetched_name c ≡ Some name → file_of name files ≡ o → OnFound files input c o e → ComesTo files input c e
comes_found files input c name o e names is h =
    subst (λ n. OnNamed files input c n e) (sym names) (subst (λ p. OnFound files input c p e) (sym is) h)

pub comes_missing : (files : List File) (input : List ℕ) (c : Command) (name : List ℕ) → fetched_name c ≡ Some name → file_of name files ≡ None → ComesTo files input c (Err (F.Fault O.Folder))
comes_missing files input c name names gone = comes_found files input c name None (Err (F.Fault O.Folder)) names gone refl

-- of a source of which all rules are checked
on_file : (files : List File) (source input : List ℕ) (c : Command) (w : Wanted) (e : End) → wanted c ≡ Some w → OnSource source input c w e → OnFile files source input c e
on_file files source input (Verify file) w e wants h = absurd (none-some w wants)
on_file files source input (Upgrade file out) w e wants h = absurd (none-some w wants)
on_file files source input (Run r) w e wants h = absurd (none-some w wants)
on_file files source input (Audit file proof) w e wants h = absurd (none-some w wants)
on_file files source input (Replay trace step) w e wants h = absurd (none-some w wants)
on_file files source input c w e wants h = subst (λ o. OnWanted source input c o e) (sym wants) h

comes_of_source : (files : List File) (source input : List ℕ) (c : Command) (w : Wanted) (name : List ℕ) (e : End) → fetched_name c ≡ Some name → wanted c ≡ Some w → file_of name files ≡ Some source → OnSource source input c w e → ComesTo files input c e
comes_of_source files source input c w name e names wants there h =
    comes_found files input c name (Some source) e names there (on_file files source input c w e wants h)

-- what comes of the source of a file
pub source_ends : (c : Command) (w : Wanted) (name : List ℕ) (files : Option (List File)) (left : Option (List ℕ)) (fr ir more_fr more_ir : Type 0) (source text : List ℕ) (e : End) → (fr → more_fr) → (ir → more_ir) → HoldsFile files name source → fetched_name c ≡ Some name → wanted c ≡ Some w → text ≡ source → SourceOutcome c w text left fr ir e → FileOutcome c files left more_fr more_ir e
source_ends c w name files left fr ir mf mi source text e f i holds names wants same k =
    let h = subst (λ s. SourceOutcome c w s left fr ir e) same k in
    let t = held files name source holds in
    (t.0, h.0, t.1, h.1, by t.0 h.0 t.2 h.2)
  where
    by : (all : List File) (input : List ℕ) → file_of name all ≡ Some source → IsFault c (IsReady source w) fr ir e ⊎ OnSource source input c w e → Closes all input c mf mi e
    by all input there (inl h) = inl (fault_up c (IsReady source w) (ComesToInput c (Some all)) fr ir mf mi e (come_ready c w name all source names wants there) f i h)
    by all input there (inr s) = inr (comes_of_source all source input c w name e names wants there s)

-- what keeps a source from being fetched
too_long_said : (c : Command) (w : Wanted) (name : List ℕ) (files : List File) (input : List ℕ) (r : Refusal) (o : Option (List ℕ)) → file_of name files ≡ o → fetched_name c ≡ Some name → wanted c ≡ Some w → r ≡ bare E05 → IsSomeAnd o (λ bytes. 1048576 < length bytes) → ComesTo files input c (Err (F.Refused r))
too_long_said c w name files input r None e names wants same h = absurd h
too_long_said c w name files input r (Some source) e names wants same h =
    subst (λ r. ComesTo files input c (Err (F.Refused r))) (sym same) (comes_of_source files source input c w name (Err (F.Refused (bare E05))) names wants e (Refused (bare E05) (inl (bare E05, TooLong h, refl))))

pub fetch_ends : (c : Command) (w : Wanted) (name : List ℕ) (files : Option (List File)) (left : Option (List ℕ)) (before now : ℕ) (ir : Type 0) (f : Failure) → fetched_name c ≡ Some name → wanted c ≡ Some w → (CallsNoFolder c → ⊥) → FetchFails files name before now f → FileOutcome c files left (Rose before now) ir (Err f)
fetch_ends c w name files left before now ir f names wants calls h =
    let t = reported_fetch files name before now f h in
    let i = any_reported left [] in
    (t.0, i.0, t.1, i.1, by f t.0 i.0 t.2)
  where
    by : (f : Failure) (all : List File) (input : List ℕ) → FetchFails (Some all) name before now f → Closes all input c (Rose before now) ir (Err f)
    by (F.Refused r) all input h = inr (too_long_said c w name all input r (file_of name all) refl names wants h.0 h.1)
    by (F.Fault O.Folder) all input h = elim h.1 [ inl up ↦ inl (up, calls) | inr gone ↦ inr (comes_missing all input c name names gone) ]
    by (F.Fault O.Input) all input h = absurd (let same = h.0 in cc)
    by (F.Fault O.Out) all input h = absurd (let same = h.0 in cc)
    by (F.Fault O.Err) all input h = absurd (let same = h.0 in cc)
    by F.NoMemory all input h = inl tt
    by failure all input h = absurd h

-- ---- `library` and `gen`, which fetch none

pub library_ends : (name : List ℕ) (files : Option (List File)) (left : Option (List ℕ)) (fr ir : Type 0) (o : Result (Vec ℕ Global) Failure) → IsTextName name → IfOk o (λ v. IsText name v.items) → IfErr o (λ f. (f ≡ F.NoMemory) ⊎ ((f ≡ F.NotUnderstood) × (IsTextName name → ⊥))) → FileOutcome (Library name) files left fr ir (end_of o)
library_ends name files left fr ir o known ok err =
    let t = any_reported files [] in
    let i = any_reported left [] in
    (t.0, i.0, t.1, i.1, by o ok err)
  where
    by : (o : Result (Vec ℕ Global) Failure) → IfOk o (λ v. IsText name v.items) → IfErr o (λ f. (f ≡ F.NoMemory) ⊎ ((f ≡ F.NotUnderstood) × (IsTextName name → ⊥))) → Closes (any_reported files []).0 (any_reported left []).0 (Library name) fr ir (end_of o)
    by (Ok v) ok err = inr ok
    by (Err f) ok (inl same) = inl (subst (λ x. IsFault (Library name) (ComesToInput (Library name) (Some (any_reported files []).0)) fr ir (Err x)) (sym same) tt)
    by (Err f) ok (inr none) = absurd (none.1 known)

pub gen_ends : (seed count : ℕ) (files : Option (List File)) (left : Option (List ℕ)) (fr ir : Type 0) (o : Result (Vec ℕ Global) Failure) → OrNoMemory (Generates seed count) o → FileOutcome (Gen seed count) files left fr ir (end_of o)
gen_ends seed count files left fr ir o generates =
    let t = any_reported files [] in
    let i = any_reported left [] in
    (t.0, i.0, t.1, i.1, by o generates)
  where
    by : (o : Result (Vec ℕ Global) Failure) → OrNoMemory (Generates seed count) o → Closes (any_reported files []).0 (any_reported left []).0 (Gen seed count) fr ir (end_of o)
    by (Ok v) h = inr (gen_by_trees seed count (Ok v.items) h)
    by (Err F.NoMemory) h = inl tt
    by (Err f) h = inr (gen_by_trees seed count (Err f) h)

-- ---- other files

-- the same cause, of files that are reported
pub reported_file : (IsLong : Failure → Type 0) (files : Option (List File)) (name : List ℕ) (before now : ℕ) (f : Failure) → FileFails IsLong files name before now f → (all : List File) × IsReported files all × FileFails IsLong (Some all) name before now f
reported_file IsLong (Some all) name before now f h = (all, refl, h)
reported_file IsLong None name before now (F.Fault object) h = ([], tt, (h.0, elim h.1 [ inl up ↦ inl up | inr gone ↦ absurd gone ]))
reported_file IsLong None name before now F.NoMemory h = ([], tt, tt)
reported_file IsLong None name before now failure h = let l = longer name 16777216 in (l.0, tt, (h.0, l.1))

-- what keeps a file from being fetched; or it is too long
pub missed_ends : (c : Command) (IsLong : Failure → Type 0) (name : List ℕ) (files : Option (List File)) (left : Option (List ℕ)) (before now : ℕ) (ir : Type 0) (f : Failure) → fetched_name c ≡ Some name → (CallsNoFolder c → ⊥) → ((all : List File) (input bytes : List ℕ) (e : Failure) → IsLong e → 16777216 < length bytes → OnFile all bytes input c (Err e)) → FileFails IsLong files name before now f → FileOutcome c files left (Rose before now) ir (Err f)
missed_ends c IsLong name files left before now ir f names calls long h =
    let t = reported_file IsLong files name before now f h in
    let i = any_reported left [] in
    (t.0, i.0, t.1, i.1, by f t.0 i.0 t.2)
  where
    too_long : (f : Failure) (all : List File) (input : List ℕ) (o : Option (List ℕ)) → IsLong f → file_of name all ≡ o → IsSomeAnd o (λ bytes. 16777216 < length bytes) → Closes all input c (Rose before now) ir (Err f)
    too_long f all input None is e h = absurd h
    too_long f all input (Some bytes) is e h = inr (comes_found all input c name (Some bytes) (Err f) names e (long all input bytes f is h))

    by : (f : Failure) (all : List File) (input : List ℕ) → FileFails IsLong (Some all) name before now f → Closes all input c (Rose before now) ir (Err f)
    by (F.Fault O.Folder) all input h = elim h.1 [ inl up ↦ inl (up, calls) | inr gone ↦ inr (comes_missing all input c name names gone) ]
    by (F.Fault O.Input) all input h = absurd (let same = h.0 in cc)
    by (F.Fault O.Out) all input h = absurd (let same = h.0 in cc)
    by (F.Fault O.Err) all input h = absurd (let same = h.0 in cc)
    by F.NoMemory all input h = inl tt
    by failure all input h = too_long failure all input (file_of name all) h.0 refl h.1

-- ---- `replay`

pub long_trace : (trace : List ℕ) (step : ℕ) (all : List File) (input bytes : List ℕ) (e : Failure) → e ≡ F.BadTrace 16777216 → 16777216 < length bytes → OnFile all bytes input (Replay trace step) (Err e)
long_trace trace step all input bytes e same more =
    subst (λ f. OnFile all bytes input (Replay trace step) (Err f)) (sym same) (inl (more, refl))

pub replay_ends : (trace : List ℕ) (step : ℕ) (files : Option (List File)) (left : Option (List ℕ)) (fr ir : Type 0) (bytes text : List ℕ) (o : Result (Vec ℕ Global) Failure) → HoldsFile files trace bytes → text ≡ bytes → IfOk o (λ v. IsReplayed text step v.items) → IfErr o (KeepsFromReplay text) → FileOutcome (Replay trace step) files left fr ir (end_of o)
replay_ends trace step files left fr ir bytes text o holds same shown bad =
    let t = held files trace bytes holds in
    let i = any_reported left [] in
    (t.0, i.0, t.1, i.1, by o t.0 t.2 i.0 (subst (λ xs. IfOk o (λ v. IsReplayed xs step v.items)) same shown) (subst (λ xs. IfErr o (KeepsFromReplay xs)) same bad))
  where
    found : (e : End) (all : List File) (input : List ℕ) → file_of trace all ≡ Some bytes → OnFile all bytes input (Replay trace step) e → ComesTo all input (Replay trace step) e
    found e all input there h = comes_found all input (Replay trace step) trace (Some bytes) e refl there h

    by : (o : Result (Vec ℕ Global) Failure) (all : List File) → file_of trace all ≡ Some bytes → (input : List ℕ) → IfOk o (λ v. IsReplayed bytes step v.items) → IfErr o (KeepsFromReplay bytes) → Closes all input (Replay trace step) fr ir (end_of o)
    by (Ok v) all there input shown bad = inr (found (Ok v.items) all input there shown)
    by (Err (F.BadTrace at)) all there input shown bad = inr (found (Err (F.BadTrace at)) all input there bad)
    by (Err F.NoMemory) all there input shown bad = inl tt
    by (Err f) all there input shown bad = absurd bad

-- ---- `audit`

-- what a proof file that is too long is reported by
pub long_judged : (files : Option (List File)) (name : List ℕ) (before now : ℕ) (f : Failure) → HoldsLonger files name 16777216 → IsRefusedBy (λ r. r ≡ of_entry E72 (decimal 16777216)) f → JudgeFails IsBadProof files name before now f
long_judged files name before now (F.Refused r) h e = by files h
  where
    reported : (bytes : List ℕ) → 16777216 < length bytes → IsBadProof bytes r
    reported bytes more = (16777216, inl (more, refl), e)

    under : (o : Option (List ℕ)) (all : List File) → file_of name all ≡ o → IsSomeAnd o (λ bytes. 16777216 < length bytes) → (bytes : List ℕ) × (file_of name all ≡ Some bytes) × IsBadProof bytes r
    under None all same h = absurd h
    under (Some bytes) all same h = (bytes, same, reported bytes h)

    by : (files : Option (List File)) → HoldsLonger files name 16777216 → (bytes : List ℕ) × HoldsFile files name bytes × IsBadProof bytes r
    by (Some all) h = under (file_of name all) all refl h
    by None h = let b = bytes_of 16777217 in let n = b.1 in (b.0, tt, reported b.0 (omega (arith, n)))
long_judged files name before now F.NoMemory h e = tt
long_judged files name before now f h e = absurd e

-- a proof file, read and judged
module _ (p : Program) (files : Option (List File)) (name bytes text : List ℕ) (holds : HoldsFile files name bytes) (same : text ≡ bytes) where
  judged_bytes : (before now : ℕ) (f : Failure) → IsRefusedBy (IsRejectedOf bytes p) f → JudgeFails (λ xs. IsRejectedOf xs p) files name before now f
  judged_bytes before now (F.Refused r) k = (bytes, holds, k)
  judged_bytes before now F.NoMemory k = tt
  judged_bytes before now f k = absurd k

  pub judged_failed : (before now : ℕ) (o : Result (Vec ℕ Global) Failure) → IfErr o (IsRefusedBy (IsRejectedOf text p)) → IfErr o (JudgeFails (λ xs. IsRejectedOf xs p) files name before now)
  judged_failed before now (Ok v) k = tt
  judged_failed before now (Err f) k = judged_bytes before now f (subst (λ xs. IsRefusedBy (IsRejectedOf xs p) f) same k)

  pub judged_accepted : (o : Result (Vec ℕ Global) Failure) → OnOk o (IsProofOf text p) → OnOk o ((xs : List ℕ) × HoldsFile files name xs × IsProofOf xs p)
  judged_accepted (Ok v) k = (bytes, holds, subst (λ xs. IsProofOf xs p) same k)
  judged_accepted (Err f) k = tt

-- what is bad is rejected, whatever the program
module _ (p : Program) (files : Option (List File)) (name : List ℕ) (before now : ℕ) where
  pub bad_fails : (f : Failure) → JudgeFails IsBadProof files name before now f → JudgeFails (λ xs. IsRejectedOf xs p) files name before now f
  bad_fails (F.Refused r) h = (h.0, h.1, inl h.2)
  bad_fails (F.Fault object) h = h
  bad_fails F.NoMemory h = tt
  bad_fails f h = absurd h

-- the end of a file is that of `audit`
audit_says : (file proof : List ℕ) (files : List File) (left : Option (List ℕ)) (fr ir : Type 0) (source : List ℕ) (e : End) → file_of file files ≡ Some source → Audits source (file_of proof files) e → FileOutcome (Audit file proof) (Some files) left fr ir e
audit_says file proof files left fr ir source e there h = let i = any_reported left [] in (files, i.0, refl, i.1, inr (comes_found files i.0 (Audit file proof) file (Some source) e refl there h))

-- a proof file that was fetched and judged
verdict_says : (file proof : List ℕ) (files : Option (List File)) (left : Option (List ℕ)) (fr ir : Type 0) (source bytes : List ℕ) (p : Program) (e : End) → HoldsFile files file source → HoldsFile files proof bytes → IsMatched source p → Judges p bytes e → AuditOutcome (Audit file proof) files left fr ir e
verdict_says file proof (Some all) left fr ir source bytes p e holds there right h =
    inl (audit_says file proof all left fr ir source e holds (subst (λ o. Audits source o e) (sym there) (Judged p bytes e right h)))
verdict_says file proof None left fr ir source bytes p e holds there right h = inr (source, bytes, Judged p bytes e right h)

proof_missing : (file proof : List ℕ) (files : Option (List File)) (left : Option (List ℕ)) (fr ir : Type 0) (source : List ℕ) (p : Program) → HoldsFile files file source → IsMatched source p → IsMissing files proof → AuditOutcome (Audit file proof) files left fr ir (Err (F.Fault O.Folder))
proof_missing file proof None left fr ir source p holds right gone = absurd gone
proof_missing file proof (Some all) left fr ir source p holds right gone =
    inl (audit_says file proof all left fr ir source (Err (F.Fault O.Folder)) holds (subst (λ o. Audits source o (Err (F.Fault O.Folder))) (sym gone) (NoProof p right)))

-- a fault, or out of memory
audit_fault : (file proof : List ℕ) (files : Option (List File)) (left : Option (List ℕ)) (fr ir : Type 0) (e : End) → IsFault (Audit file proof) (ComesToInput (Audit file proof) (Some (any_reported files []).0)) fr ir e → AuditOutcome (Audit file proof) files left fr ir e
audit_fault file proof files left fr ir e h = let t = any_reported files [] in let i = any_reported left [] in inl (t.0, i.0, t.1, i.1, inl h)

-- a source whose types and matches are right
pub judged_ends : (file proof : List ℕ) (files later : Option (List File)) (left : Option (List ℕ)) (ir : Type 0) (source text : List ℕ) (p : Program) (before mid now : ℕ) (o : Result (Vec ℕ Global) Failure) → HoldsFile files file source → later ≡ files → before ≤ mid → text ≡ source → IsMatched text p → IfOk o (λ v. v.items ≡ derived_text) → OnOk o ((bytes : List ℕ) × HoldsFile later proof bytes × IsProofOf bytes p) → IfErr o (JudgeFails (λ xs. IsRejectedOf xs p) later proof mid now) → AuditOutcome (Audit file proof) files left (Rose before now) ir (end_of o)
judged_ends file proof files later left ir source text p before mid now o holds kept le same matched ok accepted err =
    by o ok (subst (λ x. OnOk o ((bytes : List ℕ) × HoldsFile x proof bytes × IsProofOf bytes p)) kept accepted) (subst (λ x. IfErr o (JudgeFails (λ xs. IsRejectedOf xs p) x proof mid now)) kept err)
  where
    right : IsMatched source p
    right = subst (λ s. IsMatched s p) same matched

    by : (o : Result (Vec ℕ Global) Failure) → IfOk o (λ v. v.items ≡ derived_text) → OnOk o ((bytes : List ℕ) × HoldsFile files proof bytes × IsProofOf bytes p) → IfErr o (JudgeFails (λ xs. IsRejectedOf xs p) files proof mid now) → AuditOutcome (Audit file proof) files left (Rose before now) ir (end_of o)
    by (Ok v) ok accepted err = verdict_says file proof files left (Rose before now) ir source accepted.0 p (Ok v.items) holds accepted.1 right (accepted.2, ok)
    by (Err (F.Refused r)) ok accepted err = verdict_says file proof files left (Rose before now) ir source err.0 p (Err (F.Refused r)) holds err.1 right err.2
    by (Err (F.Fault O.Folder)) ok accepted err = elim err.1 [
      | inl up ↦ audit_fault file proof files left (Rose before now) ir (Err (F.Fault O.Folder)) (rose_later before mid now le up, λ r. r)
      | inr gone ↦ proof_missing file proof files left (Rose before now) ir source p holds right gone
    ]
    by (Err (F.Fault O.Input)) ok accepted err = absurd (let same = err.0 in cc)
    by (Err (F.Fault O.Out)) ok accepted err = absurd (let same = err.0 in cc)
    by (Err (F.Fault O.Err)) ok accepted err = absurd (let same = err.0 in cc)
    by (Err F.NoMemory) ok accepted err = audit_fault file proof files left (Rose before now) ir (Err F.NoMemory) tt
    by (Err f) ok accepted err = absurd err

-- one whose report is among those that are checked
pub reported_ends : (file proof : List ℕ) (files : Option (List File)) (left : Option (List ℕ)) (fr ir : Type 0) (source text : List ℕ) (f : Failure) → HoldsFile files file source → text ≡ source → IsRefusedBy (IsEarlyReport text) f → AuditOutcome (Audit file proof) files left fr ir (Err f)
reported_ends file proof files left fr ir source text f holds same h =
    let t = held files file source holds in
    let i = any_reported left [] in
    inl (t.0, i.0, t.1, i.1, by f t.0 i.0 t.2 (subst (λ s. IsRefusedBy (IsEarlyReport s) f) same h))
  where
    by : (f : Failure) (all : List File) (input : List ℕ) → file_of file all ≡ Some source → IsRefusedBy (IsEarlyReport source) f → Closes all input (Audit file proof) fr ir (Err f)
    by (F.Refused r) all input there h = inr (comes_found all input (Audit file proof) file (Some source) (Err (F.Refused r)) refl there (Reported r (file_of proof all) h))
    by F.NoMemory all input there h = inl tt
    by failure all input there h = absurd h

-- a source that is too long isn't right
long_early : (source : List ℕ) → 1048576 < length source → IsEarlyReport source (bare E05)
long_early source more = ((bare E05, TooLong more, refl), too_many)
  where
    too_many : (p : Program) → IsMatched source p → ⊥
    too_many p m = let short : length source ≤ 1048576 = m.typed.flat.declared.parsed.short in omega (arith, short, more)

-- one that wasn't fetched
pub audit_unfetched : (file proof : List ℕ) (files : Option (List File)) (left : Option (List ℕ)) (before now : ℕ) (ir : Type 0) (f : Failure) → FetchFails files file before now f → AuditOutcome (Audit file proof) files left (Rose before now) ir (Err f)
audit_unfetched file proof files left before now ir f h =
    let t = reported_fetch files file before now f h in
    let i = any_reported left [] in
    inl (t.0, i.0, t.1, i.1, by f t.0 i.0 t.2)
  where
    long : (r : Refusal) (all : List File) (input : List ℕ) (o : Option (List ℕ)) → file_of file all ≡ o → r ≡ bare E05 → IsSomeAnd o (λ bytes. 1048576 < length bytes) → Closes all input (Audit file proof) (Rose before now) ir (Err (F.Refused r))
    long r all input None e same h = absurd h
    long r all input (Some source) e same h = inr (comes_found all input (Audit file proof) file (Some source) (Err (F.Refused r)) refl e (Reported r (file_of proof all) (subst (IsEarlyReport source) (sym same) (long_early source h))))

    by : (f : Failure) (all : List File) (input : List ℕ) → FetchFails (Some all) file before now f → Closes all input (Audit file proof) (Rose before now) ir (Err f)
    by (F.Refused r) all input h = long r all input (file_of file all) refl h.0 h.1
    by (F.Fault O.Folder) all input h = elim h.1 [ inl up ↦ inl (up, λ r. r) | inr gone ↦ inr (comes_missing all input (Audit file proof) file refl gone) ]
    by (F.Fault O.Input) all input h = absurd (let same = h.0 in cc)
    by (F.Fault O.Out) all input h = absurd (let same = h.0 in cc)
    by (F.Fault O.Err) all input h = absurd (let same = h.0 in cc)
    by F.NoMemory all input h = inl tt
    by failure all input h = absurd h

-- ---- the words

pub file_outcome : (c : Command) (files : Option (List File)) (left : Option (List ℕ)) (fr ir more_ir : Type 0) (o : Result (Vec ℕ Global) Failure) → (ir → more_ir) → FileOutcome c files left fr ir (end_of o) → CommandOutcome c files left fr more_ir o
file_outcome c files left fr ir mi o up h words asked = (h.0, h.1, h.2, h.3, inr (inl (c, asked, by h.4)))
  where
    by : Closes h.0 h.1 c fr ir (end_of o) → Closes h.0 h.1 c fr mi (end_of o)
    by (inl f) = inl (fault_up c (ComesToInput c (Some h.0)) (ComesToInput c (Some h.0)) fr ir fr mi (end_of o) (λ k. k) (λ r. r) up f)
    by (inr k) = inr k

pub audit_outcome : (c : Command) (files : Option (List File)) (left : Option (List ℕ)) (fr ir more_ir : Type 0) (o : Result (Vec ℕ Global) Failure) → (ir → more_ir) → AuditOutcome c files left fr ir (end_of o) → CommandOutcome c files left fr more_ir o
audit_outcome c files left fr ir mi o up (inl h) words asked = file_outcome c files left fr ir mi o up h words asked
audit_outcome c files left fr ir mi o up (inr h) words asked =
    let t = any_reported files [] in
    let i = any_reported left [] in
    (t.0, i.0, t.1, i.1, inr (inr (c, asked, h)))
