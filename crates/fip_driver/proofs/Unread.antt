-- An object is left alone where the command ended before its turn.
use Rattle.std.proofs.Common.{◌≡◌, ◌∙◌, ◌≤◌, ℕ, List, sym, subst, refl, arith, inl, inr}
use Rattle.std.specs.Prelude.{◌⊎◌, Option, Some, None, Ok, Err, IfErr, OnOk}
use Rattle.fip_language.specs.declared.rule.Rule.{Rule}
use Rattle.fip_language.specs.declared.rule.Rule.TheVariants.{E75}
use Rattle.fip_outside.specs.Files.{File}
use Rattle.command_words.specs.Words.{Command, Exec, Run, Eval, Trace, Session, Tasks, Library, Gen, IsCommand}
use Rattle.command_outcome.specs.Stages.{IsOfSource, IsOfRun, IsOfTasks, IsOfTrace}
use Rattle.command_outcome.specs.Failures.{failure_status, failure_text}
use Rattle.command_outcome.specs.Texts.{no_memory_text}
use Rattle.fip_driver.specs.Delivered.{Seen, Reported, ReportedFailure, Delivered, Outcome}
use Rattle.fip_driver.specs.Faults.{LeavesInput, IsEarly, MayHaveRead, HasRead, HasCalled, AreAfter}
use Rattle.fip_driver.specs.Turns.{IsBeforeInput, IsBeforeTrace, IsBeforeInputOf, HadInput}
use Rattle.fip_driver.specs.Outcome.{AreKept, IsBeforeSource, HadFolder, IsRefused}
use Rattle.command_answers.specs.Asks.{ReadsInput, CallsNoFolder, ComesToInput}
use Rattle.fip_driver.specs.Fetched.{FetchFails, StoreFails, ReadFails, IsEarlyFailure, IsLateFailure}
use Rattle.command_outcome.specs.declared.failure.Failure.{Failure}
use Rattle.command_outcome.specs.declared.failure.Failure.TheVariants as F
use Rattle.command_outcome.specs.declared.failure.Object.TheVariants as O

-- what keeps an input from being read isn't before it
pub read_fails_late : (left left' : Option (List ℕ)) (before now : ℕ) (f : Failure) → ReadFails left left' before now f → IsBeforeInput (Err f) → ⊥
read_fails_late left left' before now (F.BadInput at) h b = b
read_fails_late left left' before now (F.Fault O.Folder) h b = let same = h.0 in cc
read_fails_late left left' before now (F.Fault O.Input) h b = b
read_fails_late left left' before now (F.Fault O.Out) h b = b
read_fails_late left left' before now (F.Fault O.Err) h b = b
read_fails_late left left' before now F.NoMemory h b = b
read_fails_late left left' before now failure h b = h

-- what keeps a source or a code from running isn't the words
pub fetch_understood : (files : Option (List File)) (name : List ℕ) (before now : ℕ) (f : Failure) → FetchFails files name before now f → IsBeforeSource (Err f) → ⊥
fetch_understood files name before now F.NotUnderstood h b = h
fetch_understood files name before now failure h b = b

pub source_understood : (f : Failure) → IsOfSource f → IsBeforeSource (Err f) → ⊥
source_understood F.NotUnderstood h b = h
source_understood failure h b = b

pub early_understood : (f : Failure) → IsEarlyFailure f → IsBeforeSource (Err f) → ⊥
early_understood F.NotUnderstood h b = h
early_understood failure h b = b

-- what comes of a result, or of what is said of a source, isn't the words
pub sources_understood : (o : Outcome) → IfErr o IsOfSource → IsBeforeSource o → ⊥
sources_understood (Ok text) h b = b
sources_understood (Err f) h b = source_understood f h b

-- a run's failure isn't before its input
pub runs_late : (o : Outcome) → IfErr o IsOfRun → IsBeforeInput o → ⊥
runs_late (Ok text) h b = b
runs_late (Err F.NotUnderstood) h b = h
runs_late (Err (F.Refused r)) h b = h
runs_late (Err (F.BadCode at)) h b = h
runs_late (Err (F.Unsound function at rule)) h b = h
runs_late (Err (F.BadTrace at)) h b = h
runs_late (Err (F.Fault object)) h b = h
runs_late (Err failure) h b = b

-- nor is a failure of tasks
pub tasks_late : (o : Outcome) → IfErr o IsOfTasks → IsBeforeInput o → ⊥
tasks_late (Ok text) h b = b
tasks_late (Err F.NotUnderstood) h b = h
tasks_late (Err (F.Refused r)) h b = h
tasks_late (Err (F.BadCode at)) h b = h
tasks_late (Err (F.Unsound function at rule)) h b = h
tasks_late (Err (F.BadTrace at)) h b = h
tasks_late (Err (F.Fault object)) h b = h
tasks_late (Err failure) h b = b

-- what keeps a run from its trace comes late
pub trace_late : (f : Failure) → IsOfTrace f → IsLateFailure f
trace_late (F.Fault O.Input) h = tt
trace_late (F.Fault O.Folder) h = h
trace_late (F.Fault O.Out) h = h
trace_late (F.Fault O.Err) h = h
trace_late failure h = h

-- and so does what keeps its input from being read
pub read_fails_untraced : (left left' : Option (List ℕ)) (before now : ℕ) (f : Failure) → ReadFails left left' before now f → IsLateFailure f
read_fails_untraced left left' before now (F.BadInput at) h = tt
read_fails_untraced left left' before now (F.Fault O.Input) h = tt
read_fails_untraced left left' before now (F.Fault O.Folder) h = absurd (let same = h.0 in cc)
read_fails_untraced left left' before now (F.Fault O.Out) h = absurd (let same = h.0 in cc)
read_fails_untraced left left' before now (F.Fault O.Err) h = absurd (let same = h.0 in cc)
read_fails_untraced left left' before now F.NoMemory h = tt
read_fails_untraced left left' before now failure h = absurd h

-- what comes late isn't the words
pub late_understood : (f : Failure) → IsLateFailure f → IsBeforeSource (Err f) → ⊥
late_understood F.NotUnderstood h b = h
late_understood failure h b = b

-- of `trace`, what comes late isn't before its input
pub late_after_input : (f : Failure) → IsLateFailure f → IsBeforeTrace (Err f) → ⊥
late_after_input (F.Refused r) h b = b h
late_after_input (F.Fault O.Folder) h b = h
late_after_input (F.Fault O.Input) h b = b
late_after_input (F.Fault O.Out) h b = h
late_after_input (F.Fault O.Err) h b = h
late_after_input F.NotUnderstood h b = h
late_after_input (F.BadCode at) h b = h
late_after_input (F.Unsound function at rule) h b = h
late_after_input (F.BadTrace at) h b = h
late_after_input f h b = b

pub stored_after_input : (before now : ℕ) (o : Outcome) → IfErr o (StoreFails before now) → IsBeforeTrace o → ⊥
stored_after_input before now (Ok text) h b = b
stored_after_input before now (Err (F.Fault O.Folder)) h b = b
stored_after_input before now (Err (F.Fault O.Input)) h b = b
stored_after_input before now (Err (F.Fault O.Out)) h b = b
stored_after_input before now (Err (F.Fault O.Err)) h b = b
stored_after_input before now (Err F.NoMemory) h b = b
stored_after_input before now (Err f) h b = h

-- what waits for its input isn't before the source
pub late_late : (o : Outcome) → (IsBeforeInput o → ⊥) → IsBeforeSource o → ⊥
late_late (Ok text) h b = b
late_late (Err F.NotUnderstood) h b = h b
late_late (Err failure) h b = b

-- ---- commands

source_or_not : (o : Outcome) → IsBeforeSource o ⊎ (IsBeforeSource o → ⊥)
source_or_not (Ok text) = inr (λ b. b)
source_or_not (Err F.NotUnderstood) = inl tt
source_or_not (Err failure) = inr (λ b. b)

input_or_not : (o : Outcome) → IsBeforeInput o ⊎ (IsBeforeInput o → ⊥)
input_or_not (Ok text) = inr (λ b. b)
input_or_not (Err F.NotUnderstood) = inl tt
input_or_not (Err (F.Refused r)) = inl tt
input_or_not (Err (F.BadCode at)) = inl tt
input_or_not (Err (F.Unsound function at rule)) = inl tt
input_or_not (Err (F.BadTrace at)) = inl tt
input_or_not (Err (F.Fault O.Folder)) = inl tt
input_or_not (Err (F.Fault O.Input)) = inr (λ b. b)
input_or_not (Err (F.Fault O.Out)) = inr (λ b. b)
input_or_not (Err (F.Fault O.Err)) = inr (λ b. b)
input_or_not (Err failure) = inr (λ b. b)

abbrev IsOtherRule : Rule → Type 0
IsOtherRule E75 = ⊥
IsOtherRule r = Unit {0}

other_or_not : (r : Rule) → (r ≡ E75 → ⊥) ⊎ (r ≡ E75)
other_or_not E75 = inr refl
other_or_not r = inl (λ e. subst IsOtherRule e tt)

rule_or_not : (r : Rule) → (r ≡ E75 → ⊥) ⊎ ((r ≡ E75 → ⊥) → ⊥)
rule_or_not r = elim (other_or_not r) [ inl differs ↦ inl differs | inr same ↦ inr (λ differs. differs same) ]

trace_or_not : (o : Outcome) → IsBeforeTrace o ⊎ (IsBeforeTrace o → ⊥)
trace_or_not (Ok text) = inr (λ b. b)
trace_or_not (Err F.NotUnderstood) = inl tt
trace_or_not (Err (F.Refused r)) = rule_or_not r.rule
trace_or_not (Err (F.BadCode at)) = inl tt
trace_or_not (Err (F.Unsound function at rule)) = inl tt
trace_or_not (Err (F.BadTrace at)) = inl tt
trace_or_not (Err (F.Fault O.Folder)) = inr (λ b. b)
trace_or_not (Err (F.Fault O.Input)) = inr (λ b. b)
trace_or_not (Err (F.Fault O.Out)) = inr (λ b. b)
trace_or_not (Err (F.Fault O.Err)) = inr (λ b. b)
trace_or_not (Err failure) = inr (λ b. b)

before_or_not : (c : Command) (o : Outcome) → IsBeforeInputOf c o ⊎ (IsBeforeInputOf c o → ⊥)
before_or_not (Trace file entry out room) o = trace_or_not o
before_or_not c o = input_or_not o

reads_or_not : (c : Command) → ReadsInput c ⊎ (ReadsInput c → ⊥)
reads_or_not (Exec r) = inl tt
reads_or_not (Run r) = inl tt
reads_or_not (Eval file entry calls frames) = inl tt
reads_or_not (Trace file entry out room) = inl tt
reads_or_not (Session file room) = inl tt
reads_or_not (Tasks file seed turns room) = inl tt
reads_or_not c = inr (λ b. b)

calls_or_not : (c : Command) → CallsNoFolder c ⊎ (CallsNoFolder c → ⊥)
calls_or_not (Library name) = inl tt
calls_or_not (Gen seed count) = inl tt
calls_or_not c = inr (λ b. b)

module _ (words : List (List ℕ)) (c : Command) (asked : IsCommand words c) (o : Outcome) where
  pub input_turn : (same : Type 0) (files : Option (List File)) → ((ReadsInput c → ⊥) → same) → (IsBeforeInputOf c o → same) → same ⊎ ComesToInput c files → same ⊎ HadInput words files o
  input_turn same files unread before waits = elim (reads_or_not c) [
    | inl reads ↦ elim (before_or_not c o) [
      | inl b ↦ inl (before b)
      | inr late ↦ elim waits [ inl e ↦ inl e | inr came ↦ inr (c, asked, reads, late, came) ]
    ]
    | inr never ↦ inl (unread never)
  ]

  pub folder_turn : (same : Type 0) → (CallsNoFolder c → same) → (IsBeforeSource o → same) → same ⊎ HadFolder words o
  folder_turn same uncalled before = elim (calls_or_not c) [
    | inl never ↦ inl (uncalled never)
    | inr calls ↦ elim (source_or_not o) [ inl b ↦ inl (before b) | inr late ↦ inr (c, asked, calls, late) ]
  ]

  pub read_turn : (end : Type 0) → (ReadsInput c → end) → end ⊎ LeavesInput words
  read_turn end read = elim (reads_or_not c) [ inl reads ↦ inl (read reads) | inr never ↦ inr (c, asked, never) ]

pub on_ok : (o : Outcome) (A B : Type 0) → (A → B) → OnOk o A → OnOk o B
on_ok (Ok text) A B up h = up h
on_ok (Err failure) A B up h = tt

-- ---- statuses

-- the status of a text that was reported is its own, or 9
reported_status : (old new : Seen) (status : ℕ) (text : List ℕ) (s : ℕ) → Reported old new status text s → (s ≡ status) ⊎ (s ≡ 9)
reported_status old new status text s (inl t) = inl t.0
reported_status old new status text s (inr t) = inr t.0

-- that of a failure is its own, or 9, or 10
either_status : (old new : Seen) (status : ℕ) (text : List ℕ) (s : ℕ) → Reported old new status text s ⊎ Reported old new 10 no_memory_text s → (s ≡ status) ⊎ ((s ≡ 9) ⊎ (s ≡ 10))
either_status old new status text s (inl t) = elim (reported_status old new status text s t) [ inl a ↦ inl a | inr a ↦ inr (inl a) ]
either_status old new status text s (inr t) = elim (reported_status old new 10 no_memory_text s t) [ inl a ↦ inr (inr a) | inr a ↦ inr (inl a) ]

differs : (s status n : ℕ) → (s ≡ status) ⊎ ((s ≡ 9) ⊎ (s ≡ 10)) → (status ≡ n → ⊥) → n ≤ 8 → s ≡ n → ⊥
differs s status n (inl a) differ le e = differ (sym a ∙ e)
differs s status n (inr (inl a)) differ le e = omega (arith, a, e, le)
differs s status n (inr (inr a)) differ le e = omega (arith, a, e, le)

-- an early status
early_below : (s : ℕ) → IsEarly s → (s ≡ 0 → ⊥) × ((s ≡ 9 → ⊥) × (s ≡ 10 → ⊥))
early_below s (inl e) = (λ a. omega (arith, a, e), (λ a. omega (arith, a, e), λ a. omega (arith, a, e)))
early_below s (inr (inl e)) = (λ a. omega (arith, a, e), (λ a. omega (arith, a, e), λ a. omega (arith, a, e)))
early_below s (inr (inr e)) = (λ a. omega (arith, a, e), (λ a. omega (arith, a, e), λ a. omega (arith, a, e)))

not_early : (n : ℕ) → 3 ≤ n → n ≤ 7 → IsEarly n → ⊥
not_early n low high (inl e) = omega (arith, low, e)
not_early n low high (inr (inl e)) = omega (arith, low, e)
not_early n low high (inr (inr e)) = omega (arith, high, e)

late : (s status : ℕ) → (s ≡ status) ⊎ ((s ≡ 9) ⊎ (s ≡ 10)) → 3 ≤ status → status ≤ 7 → IsEarly s → ⊥
late s status (inl a) low high e = not_early status low high (subst IsEarly a e)
late s status (inr (inl a)) low high e = (early_below s e).1.0 a
late s status (inr (inr a)) low high e = (early_below s e).1.1 a

failure_early : (old new : Seen) (f : Failure) (s : ℕ) → ReportedFailure old new f s → IsEarly s → IsBeforeInput (Err f)
failure_early old new F.NotUnderstood s h e = tt
failure_early old new (F.Refused r) s h e = tt
failure_early old new (F.BadCode at) s h e = tt
failure_early old new (F.Unsound function at rule) s h e = tt
failure_early old new (F.BadTrace at) s h e = tt
failure_early old new (F.Fault object) s h e = absurd ((early_below s e).1.0 h.0)
failure_early old new F.NoMemory s h e = absurd (elim (either_status old new 10 no_memory_text s h) [ inl a ↦ (early_below s e).1.1 a | inr (inl a) ↦ (early_below s e).1.0 a | inr (inr a) ↦ (early_below s e).1.1 a ])
failure_early old new f s h e = absurd (late s (failure_status f) (either_status old new (failure_status f) (failure_text f) s h) (omega arith) (omega arith) e)

-- status 1, 2 or 8 comes before the input's turn
early_status : (out out' err err' : Seen) (o : Outcome) (s : ℕ) → Delivered out out' err err' o s → IsEarly s → IsBeforeInput o
early_status out out' err err' (Ok text) s (inl d) e = absurd ((early_below s e).0 d.0)
early_status out out' err err' (Ok text) s (inr d) e = absurd ((early_below s e).1.0 d.0)
early_status out out' err err' (Err f) s d e = failure_early err err' f s d.1 e

failure_first : (old new : Seen) (f : Failure) (s : ℕ) → ReportedFailure old new f s → s ≡ 2 → IsBeforeSource (Err f)
failure_first old new F.NotUnderstood s h e = tt
failure_first old new (F.Fault object) s h e = absurd (let nine = h.0 in omega (arith, nine, e))
failure_first old new f s h e = absurd (differs s (failure_status f) 2 (either_status old new (failure_status f) (failure_text f) s h) (λ a. omega (arith, a)) (omega arith) e)

-- status 2 comes before the source's turn
first_status : (out out' err err' : Seen) (o : Outcome) (s : ℕ) → Delivered out out' err err' o s → s ≡ 2 → IsBeforeSource o
first_status out out' err err' (Ok text) s (inl d) e = absurd (let zero = d.0 in omega (arith, zero, e))
first_status out out' err err' (Ok text) s (inr d) e = absurd (let nine = d.0 in omega (arith, nine, e))
first_status out out' err err' (Err f) s d e = failure_first err err' f s d.1 e

failure_last : (old new : Seen) (f : Failure) (s : ℕ) → ReportedFailure old new f s → s ≡ 0 → ⊥
failure_last old new (F.Fault object) s h e = let nine = h.0 in omega (arith, nine, e)
failure_last old new f s h e = differs s (failure_status f) 0 (either_status old new (failure_status f) (failure_text f) s h) (λ a. omega (arith, a)) (omega arith) e

-- status 0 comes with a result
pub last_status : (out out' err err' : Seen) (o : Outcome) (s : ℕ) (A : Type 0) → Delivered out out' err err' o s → OnOk o A → s ≡ 0 → A
last_status out out' err err' (Ok text) s A d h e = h
last_status out out' err err' (Err f) s A d h e = absurd (failure_last err err' f s d.1 e)

failure_refused : (old new : Seen) (f : Failure) (s : ℕ) → ReportedFailure old new f s → s ≡ 1 → IsRefused (Err f)
failure_refused old new (F.Refused r) s h e = tt
failure_refused old new (F.Fault object) s h e = absurd (let nine = h.0 in omega (arith, nine, e))
failure_refused old new f s h e = differs s (failure_status f) 1 (either_status old new (failure_status f) (failure_text f) s h) (λ a. omega (arith, a)) (omega arith) e

-- status 1 comes with a rule that is reported
pub refused_status : (out out' err err' : Seen) (o : Outcome) (s : ℕ) → Delivered out out' err err' o s → s ≡ 1 → IsRefused o
refused_status out out' err err' (Ok text) s (inl d) e = absurd (let zero = d.0 in omega (arith, zero, e))
refused_status out out' err err' (Ok text) s (inr d) e = absurd (let nine = d.0 in omega (arith, nine, e))
refused_status out out' err err' (Err f) s d e = failure_refused err err' f s d.1 e

-- the files after a command, by its status
pub files_after : (out out' err err' : Seen) (c : Command) (left stored : Option (List ℕ)) (rose : Type 0) (old new : Option (List File)) (o : Outcome) (s : ℕ) → Delivered out out' err err' o s → AreKept c left stored rose old new o → AreAfter c left stored rose out out' old new s
files_after out out' err err' c left None rose old new o s d h = h
files_after out out' err err' c left (Some name) rose old new (Ok text) s (inl d) h = inl (h, inl d.0)
files_after out out' err err' c left (Some name) rose old new (Ok text) s (inr d) h = inl (h, inr (d.0, d.1))
files_after out out' err err' c left (Some name) rose old new (Err (F.Fault O.Folder)) s d (inl same) = inr (d.0, inl (failure_last err err' (F.Fault O.Folder) s d.1, same))
files_after out out' err err' c left (Some name) rose old new (Err (F.Fault O.Folder)) s d (inr h) = inr (d.0, inr (d.1.0, h.0, h.1))
files_after out out' err err' c left (Some name) rose old new (Err (F.Fault O.Input)) s d h = inr (d.0, inl (failure_last err err' (F.Fault O.Input) s d.1, h))
files_after out out' err err' c left (Some name) rose old new (Err (F.Fault O.Out)) s d h = inr (d.0, inl (failure_last err err' (F.Fault O.Out) s d.1, h))
files_after out out' err err' c left (Some name) rose old new (Err (F.Fault O.Err)) s d h = inr (d.0, inl (failure_last err err' (F.Fault O.Err) s d.1, h))
files_after out out' err err' c left (Some name) rose old new (Err f) s d h = inr (d.0, inl (failure_last err err' f s d.1, h))

-- the words come before the input of `trace`
source_trace : (o : Outcome) → IsBeforeSource o → IsBeforeTrace o
source_trace (Ok text) b = absurd b
source_trace (Err F.NotUnderstood) b = tt
source_trace (Err f) b = absurd b

failure_eight : (old new : Seen) (f : Failure) (s : ℕ) → ReportedFailure old new f s → s ≡ 8 → IsBeforeTrace (Err f)
failure_eight old new (F.BadCode at) s h e = tt
failure_eight old new (F.Unsound function at rule) s h e = tt
failure_eight old new (F.BadTrace at) s h e = tt
failure_eight old new (F.Fault object) s h e = absurd (let nine = h.0 in omega (arith, nine, e))
failure_eight old new f s h e = absurd (differs s (failure_status f) 8 (either_status old new (failure_status f) (failure_text f) s h) (λ a. omega (arith, a)) (omega arith) e)

-- so does a code that isn't sound
eighth_status : (out out' err err' : Seen) (o : Outcome) (s : ℕ) → Delivered out out' err err' o s → s ≡ 8 → IsBeforeTrace o
eighth_status out out' err err' (Ok text) s (inl d) e = absurd (let zero = d.0 in omega (arith, zero, e))
eighth_status out out' err err' (Ok text) s (inr d) e = absurd (let nine = d.0 in omega (arith, nine, e))
eighth_status out out' err err' (Err f) s d e = failure_eight err err' f s d.1 e

-- ---- the whole

module _ (words : List (List ℕ)) (out out' err err' : Seen) (o : Outcome) (s : ℕ) (d : Delivered out out' err err' o s) where
  may_have_read : (c : Command) → (IsBeforeInputOf c o → ⊥) → MayHaveRead c s
  may_have_read (Trace file entry to room) late' = λ e. elim e [ inl two ↦ late' (source_trace o (first_status out out' err err' o s d two)) | inr eight ↦ late' (eighth_status out out' err err' o s d eight) ]
  may_have_read c late' = λ e. late' (early_status out out' err err' o s d e)

  pub input_read : (same : Type 0) (files : Option (List File)) → same ⊎ HadInput words files o → same ⊎ HasRead words files s
  input_read same files (inl e) = inl e
  input_read same files (inr h) = inr (h.0, h.1, h.2, may_have_read h.0 h.3, h.4)

  pub folder_called : (same : Type 0) → same ⊎ HadFolder words o → same ⊎ HasCalled words s
  folder_called same (inl e) = inl e
  folder_called same (inr h) = inr (h.0, h.1, h.2, λ e. h.3 (first_status out out' err err' o s d e))
