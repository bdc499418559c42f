-- Which code a call made: what is said of it by what the command ends in, and then by the status. Idea: a code that was
-- made is handed up as it is; where none was made the source isn't there, or is refused, and nothing is stored.
use Rattle.std.proofs.Common.{◌≡◌, ◌<◌, ◌≤◌, ℕ, List, [], Option, Some, None, length, refl, sym, subst, ◌∙◌, ◌⊎◌, inl, inr, Bool, true, false, arith}
use Rattle.std.specs.Prelude.{Result, Ok, Err, IfErr, IfSome, IsSomeAnd, OnOk}
use Rattle.std.specs.Io.KnownBytes.{Consumes, IsAtEnd}
use Rattle.fip_language.specs.declared.limits.TheConstants.{MOST_FILE_BYTES, MOST_SOURCE_BYTES}
use Rattle.fip_outside.specs.Files.{File, file_of, HoldsFile, HoldsLonger}
use Rattle.command_words.specs.Words.{Room, Command, Compile, Trace, Upgrade, Derive, Exec, Run, Gen}
use Rattle.command_outcome.specs.declared.failure.Failure.{Failure}
use Rattle.command_outcome.specs.declared.failure.Failure.TheVariants as F
use Rattle.code_verify.specs.cell_code.Plain.{PlainCode, plain}
use Rattle.command_answers.specs.command_tasks.code_file.CodeText.{CodeText}
use Rattle.command_answers.specs.command_tasks.code_file.declared.tags.Version.TheVariants.{Second}
use Rattle.code_verify.specs.Checked.{Checked}
use Rattle.command_answers.specs.command_library.command_source.Codes.{IsUnspelt, IsUpgraded}
use Rattle.command_answers.specs.command_library.command_source.Derived.{IsDerivedFile}
use Rattle.command_answers.specs.command_library.command_source.Entries.{Chosen}
use Rattle.command_answers.specs.command_library.command_source.ProgramCode.{IsCodeOfSource, IsEntryOf, IsFileOfMade, KeepsFromFile}
use Rattle.command_answers.specs.command_library.command_source.Wanted.{Wanted, Lawful, Refuses, IsReady, IsRefusedBy}
use Rattle.command_answers.specs.command_library.command_source.declared.files.Compiled.{Compiled as compiled_file}
use Rattle.command_answers.specs.command_library.run_loading.TraceText as T
use Rattle.command_answers.specs.command_library.run_loading.TraceText.{trace_text}
use Rattle.command_answers.specs.command_trace.TraceAnswer as A
use Rattle.command_answers.specs.command_library.command_run.declared.running.Left.{Left}
use Rattle.command_answers.specs.command_trace.TraceAnswer.{IsRunTrace, IsLong, code_of}
use Rattle.command_answers.specs.Asks.{HasWanted}
use Rattle.command_answers.specs.Stored.{IsReported}
use Rattle.command_answers.proofs.SourceCode.{source_code, source_entry}
use Rattle.command_answers.proofs.command_library.command_source.Once.{refused_not_ready}
use Rattle.fip_driver.specs.Delivered.{Outcome, Seen, Delivered}
use Rattle.fip_driver.specs.Fetched.{FetchFails, FileFails, StoreFails, StoreKeeps, ReadFails}
use Rattle.fip_driver.specs.Left.{LeftBy, LeavesFor, is_run_status}
use Rattle.fip_driver.specs.HandedOut.{HasCode, HandsOut}
use Rattle.fip_driver.specs.Made.{CompilesCode, TracesRun, StoresOf, IsUnmade, MadeBy}
use Rattle.fip_driver.specs.Outcome.{IsDone, IsRefused}
use Rattle.fip_driver.proofs.Telling.{any_reported, bytes_of, whole_of}
use Rattle.fip_driver.proofs.Unread.{last_status, refused_status}

-- ---- no code was made

-- a source that is too long isn't ready
long_unready : (source : List ℕ) (w : Wanted) → MOST_SOURCE_BYTES < length source → IsReady source w → ⊥
long_unready source w more ready =
    let short : length source ≤ 1048576 = ready.accepted.tailed.credited.owned.matched.typed.flat.declared.parsed.short in
    omega (arith, more, short)

long_source : (files : Option (List File)) (name : List ℕ) → HoldsLonger files name MOST_SOURCE_BYTES → (source : List ℕ) × HoldsFile files name source × (MOST_SOURCE_BYTES < length source)
long_source None name h = let b = bytes_of 1048577 in let n = b.1 in (b.0, tt, omega (arith, n))
long_source (Some files) name h = by (file_of name files) refl h
  where
    by : (o : Option (List ℕ)) → file_of name files ≡ o → IsSomeAnd o (λ bytes. MOST_SOURCE_BYTES < length bytes) → (source : List ℕ) × (file_of name files ≡ Some source) × (MOST_SOURCE_BYTES < length source)
    by None e h = absurd h
    by (Some source) e h = (source, e, h)

-- the source wasn't fetched
module _ (c : Command) (w : Wanted) (wants : (source : List ℕ) → HasWanted c source → IsReady source w) (file : List ℕ) (old new : Option (List File)) (same : new ≡ old) where
  pub unfetched : (before now : ℕ) (f : Failure) → FetchFails old file before now f → IsUnmade c file None old new (IsDone (Err f)) (IsRefused (Err f))
  unfetched before now f h = record { undone = λ d. d; kept = same; unready = by f h }
    where
      by : (f : Failure) → FetchFails old file before now f → IsRefused (Err f) → (source : List ℕ) × IsReported None source × HoldsFile old file source × (HasWanted c source → ⊥)
      by (F.Refused r) h k = let l = long_source old file h.1 in (l.0, tt, l.1, λ x. long_unready l.0 w l.2 (wants l.0 x))
      by f h k = absurd k

  -- it is refused
  pub refused : (source text : List ℕ) (f : Failure) → HoldsFile old file source → text ≡ source → IsRefusedBy (Refuses text w) f → IsUnmade c file (Some source) old new (IsDone (Err f)) (IsRefused (Err f))
  refused source text f holds is h = record { undone = λ d. d; kept = same; unready = by f (subst (λ xs. IsRefusedBy (Refuses xs w) f) is h) }
    where
      by : (f : Failure) → IsRefusedBy (Refuses source w) f → IsRefused (Err f) → (given : List ℕ) × IsReported (Some source) given × HoldsFile old file given × (HasWanted c given → ⊥)
      by (F.Refused r) h k = (source, refl, holds, λ x. refused_not_ready source w r h (wants source x))
      by f h k = absurd k

-- of no command's turn
unasked : (c : Command) (file : List ℕ) (files : Option (List File)) (f : Failure) → (IsRefused (Err f) → ⊥) → IsUnmade c file None files files (IsDone (Err f)) (IsRefused (Err f))
unasked c file files f never = record { undone = λ d. d; kept = refl; unready = λ d. absurd (never d) }

pub nothing_made : (c : Command) (files : Option (List File)) (reported : Option (List ℕ)) (f : Failure) → (IsRefused (Err f) → ⊥) → MadeBy c files files reported (IsDone (Err f)) (IsRefused (Err f)) None None
nothing_made (Compile file out) files reported f never = unasked (Compile file out) file files f never
nothing_made (Trace file entry out room) files reported f never = unasked (Trace file entry out room) file files f never
nothing_made (Upgrade file out) files reported f never = unasked (Upgrade file out) file files f never
nothing_made (Derive file out) files reported f never = unasked (Derive file out) file files f never
nothing_made c files reported f never = refl

-- ---- `upgrade` and `derive`

module _ (Made : List ℕ → List ℕ → Type 0) (file out : List ℕ) (old mid new : Option (List File)) (fetched text : List ℕ) (holds : HoldsFile old file fetched) (is : text ≡ fetched) where
  -- a file of what was fetched was to be stored
  pub stores_made : (bytes : List ℕ) (o : Outcome) → Made text bytes → StoreKeeps out bytes mid new o → StoresOf Made file fetched out old new (IsDone o)
  stores_made bytes o made keeps = record { holds = holds; stored = by o keeps }
    where
      by : (o : Outcome) → StoreKeeps out bytes mid new o → IsDone o → (b : List ℕ) × HoldsFile new out b × Made fetched b
      by (Ok v) k d = (bytes, k.1, subst (λ xs. Made xs bytes) is made)
      by (Err f) k d = absurd d

  -- none was
  pub stores_none : (f : Failure) → StoresOf Made file fetched out old new (IsDone (Err f))
  stores_none f = record { holds = holds; stored = λ d. absurd d }

-- the code wasn't fetched
pub code_unfetched : (c : Command) (file : List ℕ) (old new : Option (List File)) (before now most : ℕ) (f : Failure) → new ≡ old → FileFails (λ f. f ≡ F.BadCode most) old file before now f → IsUnmade c file None old new (IsDone (Err f)) (IsRefused (Err f))
code_unfetched c file old new before now most f same h = record { undone = λ d. d; kept = same; unready = by f h }
  where
    by : (f : Failure) → FileFails (λ f. f ≡ F.BadCode most) old file before now f → IsRefused (Err f) → (source : List ℕ) × IsReported None source × HoldsFile old file source × (HasWanted c source → ⊥)
    by (F.Refused r) h k = absurd (cc)
    by f h k = absurd k

-- ---- `compile`

module _ (file out : List ℕ) (old mid new : Option (List File)) (reported : Option (List ℕ)) (source text : List ℕ) (holds : HoldsFile old file source) (is : text ≡ source) (kept : mid ≡ old) where
  -- its file was to be stored
  pub compiled : (made : Option Checked) (bytes : List ℕ) (before now : ℕ) (o : Outcome) → IfSome made (λ v. IsCodeOfSource text (plain v.code)) → IsFileOfMade made bytes → IfErr o (StoreFails before now) → StoreKeeps out bytes mid new o → MadeBy (Compile file out) old new reported (IsDone o) (IsRefused o) (Some source) made
  compiled None bytes before now o code own fails keeps = absurd own
  compiled (Some v) bytes before now o code own fails keeps =
      (holds, source_code source (plain v.code) (subst (λ xs. IsCodeOfSource xs (plain v.code)) is code), record { stored = done o keeps; long = unrefused o fails })
    where
      done : (o : Outcome) → StoreKeeps out bytes mid new o → IsDone o → (b : List ℕ) × HoldsFile new out b × CodeText b Second (plain v.code) × (length b ≤ MOST_FILE_BYTES)
      done (Ok text) k d = (bytes, k.1, own.0, own.1)
      done (Err f) k d = absurd d

      unrefused : (o : Outcome) → IfErr o (StoreFails before now) → IsRefused o → IsUnspelt (plain v.code)
      unrefused (Err (F.Refused r)) k d = absurd k
      unrefused o k d = absurd d

  -- none was
  pub uncompiled : (made : Option Checked) (f : Failure) → IfSome made (λ v. IsCodeOfSource text (plain v.code)) → IsRefusedBy (KeepsFromFile text made) f → MadeBy (Compile file out) old mid reported (IsDone (Err f)) (IsRefused (Err f)) (Some source) made
  uncompiled None f code h = refused (Compile file out) Lawful (λ s k. k) file old mid kept source text f holds is h
  uncompiled (Some v) f code h =
      (holds, source_code source (plain v.code) (subst (λ xs. IsCodeOfSource xs (plain v.code)) is code), record { stored = λ d. absurd d; long = by f h })
    where
      by : (f : Failure) → IsRefusedBy (KeepsFromFile text (Some v)) f → IsRefused (Err f) → IsUnspelt (plain v.code)
      by (F.Refused r) h k = h
      by f h k = absurd k

-- ---- `trace`

module _ (file entry out : List ℕ) (room : Room) (old mid new : Option (List File)) (reported : Option (List ℕ)) (source text : List ℕ) (r : Chosen) (holds : HoldsFile old file source) (is : text ≡ source) (ran : IsEntryOf text entry r) (made : Option Checked) (own : made ≡ Some r.checked) where
  its : (done refused : Type 0) (input : List ℕ) → IsReported reported input → TracesRun r input room out new done refused → MadeBy (Trace file entry out room) old new reported done refused (Some source) made
  its done refused input reports runs =
      subst (λ m. MadeBy (Trace file entry out room) old new reported done refused (Some source) m) (sym own)
      (holds, input, reports, r, refl, source_entry source entry r (subst (λ xs. IsEntryOf xs entry r) is ran), runs)

  -- its file was to be stored
  pub traced : (compiled : compiled_file) (before now : ℕ) (o : Outcome) → (bytes : List ℕ) × IsReported reported bytes × A.TracesRun (plain r.checked.code) r.entry bytes room (Ok compiled) → IfErr o (StoreFails before now) → StoreKeeps out compiled.file.items mid new o → MadeBy (Trace file entry out room) old new reported (IsDone o) (IsRefused o) (Some source) made
  traced compiled before now o (input, reports, (t, run, short, same)) fails keeps = its (IsDone o) (IsRefused o) input reports (record { stored = done o keeps; long = unrefused o fails })
    where
      done : (o : Outcome) → StoreKeeps out compiled.file.items mid new o → IsDone o → (t : T.Trace) × IsRunTrace (plain r.checked.code) r.entry input room t × (IsLong t → ⊥) × HoldsFile new out (trace_text t)
      done (Ok v) k d = (t, run, short, subst (HoldsFile new out) same k.1)
      done (Err f) k d = absurd d

      unrefused : (o : Outcome) → IfErr o (StoreFails before now) → IsRefused o → (t : T.Trace) × IsRunTrace (plain r.checked.code) r.entry input room t × IsLong t
      unrefused (Err (F.Refused r)) k d = absurd k
      unrefused o k d = absurd d

  -- none was
  pub untraced : (f : Failure) → (bytes : List ℕ) × IsReported reported bytes × A.TracesRun (plain r.checked.code) r.entry bytes room (Err f) → MadeBy (Trace file entry out room) old new reported (IsDone (Err f)) (IsRefused (Err f)) (Some source) made
  untraced f (input, reports, h) = its (IsDone (Err f)) (IsRefused (Err f)) input reports (record { stored = λ d. absurd d; long = by f h })
    where
      by : (f : Failure) → A.TracesRun (plain r.checked.code) r.entry input room (Err f) → IsRefused (Err f) → (t : T.Trace) × IsRunTrace (plain r.checked.code) r.entry input room t × IsLong t
      by (F.Refused r) h k = h
      by f h k = absurd k

-- a run on an input that was read to its end, and one on an input that wasn't
pub read_runs : (r : Chosen) (room : Room) (before left : Option (List ℕ)) (read text : List ℕ) (o : Result compiled_file Failure) → Consumes before left read → IsAtEnd left → text ≡ read → A.TracesRun (plain r.checked.code) r.entry text room o → (bytes : List ℕ) × IsReported before bytes × A.TracesRun (plain r.checked.code) r.entry bytes room o
read_runs r room before left read text o all end is h = (read, whole_of before left read all end, subst (λ xs. A.TracesRun (plain r.checked.code) r.entry xs room o) is h)

pub unread_runs : (r : Chosen) (room : Room) (before left : Option (List ℕ)) (old new : ℕ) (f : Failure) → ReadFails before left old new f → (bytes : List ℕ) × IsReported before bytes × A.TracesRun (plain r.checked.code) r.entry bytes room (Err f)
unread_runs r room before left old new f h = let i = any_reported before [] in (i.0, i.1, by f h)
  where
    by : (f : Failure) → ReadFails before left old new f → A.TracesRun (plain r.checked.code) r.entry (any_reported before []).0 room (Err f)
    by (F.Refused r) h = absurd h
    by f h = tt

-- ---- by the status

-- what is said where it is done and where it is refused is said where more is known
compiles_when : (code : PlainCode) (out : List ℕ) (new : Option (List File)) (a b done refused : Type 0) → (done → a) → (refused → b) → CompilesCode code out new a b → CompilesCode code out new done refused
compiles_when code out new a b done refused f g h = record { stored = λ d. h.stored (f d); long = λ d. h.long (g d) }

traces_when : (r : Chosen) (input : List ℕ) (room : Room) (out : List ℕ) (new : Option (List File)) (a b done refused : Type 0) → (done → a) → (refused → b) → TracesRun r input room out new a b → TracesRun r input room out new done refused
traces_when r input room out new a b done refused f g h = record { stored = λ d. h.stored (f d); long = λ d. h.long (g d) }

unmade_when : (c : Command) (file : List ℕ) (fetched : Option (List ℕ)) (old new : Option (List File)) (a b done refused : Type 0) → (done → a) → (refused → b) → IsUnmade c file fetched old new a b → IsUnmade c file fetched old new done refused
unmade_when c file fetched old new a b done refused f g h = record { undone = λ d. h.undone (f d); kept = h.kept; unready = λ d. h.unready (g d) }

stores_when : (Made : List ℕ → List ℕ → Type 0) (file fetched out : List ℕ) (old new : Option (List File)) (a done : Type 0) → (done → a) → StoresOf Made file fetched out old new a → StoresOf Made file fetched out old new done
stores_when Made file fetched out old new a done f h = record { holds = h.holds; stored = λ d. h.stored (f d) }

made_when : (c : Command) (old new : Option (List File)) (reported : Option (List ℕ)) (a b done refused : Type 0) (fetched : Option (List ℕ)) (made : Option Checked) → (done → a) → (refused → b) → MadeBy c old new reported a b fetched made → MadeBy c old new reported done refused fetched made
made_when (Compile file out) old new reported a b done refused fetched None f g h = unmade_when (Compile file out) file fetched old new a b done refused f g h
made_when (Compile file out) old new reported a b done refused None (Some v) f g h = h
made_when (Compile file out) old new reported a b done refused (Some source) (Some v) f g (holds, code, h) = (holds, code, compiles_when (plain v.code) out new a b done refused f g h)
made_when (Trace file entry out room) old new reported a b done refused fetched None f g h = unmade_when (Trace file entry out room) file fetched old new a b done refused f g h
made_when (Trace file entry out room) old new reported a b done refused None (Some v) f g h = h
made_when (Trace file entry out room) old new reported a b done refused (Some source) (Some v) f g (holds, input, reports, r, is, such, h) = (holds, input, reports, r, is, such, traces_when r input room out new a b done refused f g h)
made_when (Upgrade file out) old new reported a b done refused None made f g h = unmade_when (Upgrade file out) file None old new a b done refused f g h
made_when (Upgrade file out) old new reported a b done refused (Some code) made f g h = stores_when IsUpgraded file code out old new a done f h
made_when (Derive file out) old new reported a b done refused None made f g h = unmade_when (Derive file out) file None old new a b done refused f g h
made_when (Derive file out) old new reported a b done refused (Some source) made f g h = stores_when IsDerivedFile file source out old new a done f h
made_when c old new reported a b done refused fetched made f g h = h

pub made_status : (c : Command) (old new : Option (List File)) (reported : Option (List ℕ)) (fetched : Option (List ℕ)) (made : Option Checked) (out out' err err' : Seen) (o : Outcome) (s : ℕ) → Delivered out out' err err' o s → MadeBy c old new reported (IsDone o) (IsRefused o) fetched made → MadeBy c old new reported (s ≡ 0) (s ≡ 1) fetched made
made_status c old new reported fetched made out out' err err' o s d h =
    made_when c old new reported (IsDone o) (IsRefused o) (s ≡ 0) (s ≡ 1) fetched made (last_status out out' err err' o s (IsDone o) d (by o)) (refused_status out out' err err' o s d) h
  where
    by : (o : Outcome) → OnOk o (IsDone o)
    by (Ok text) = tt
    by (Err f) = tt

-- ---- which code is handed out by itself

-- what is left is left by a command that leaves cells
left_by : (c : Command) (files : Option (List File)) (reported : Option (List ℕ)) (l : Left) → LeftBy c files reported l → HasCode c
left_by (Exec r) files reported l h = tt
left_by (Run r) files reported l h = tt
left_by (Trace file entry out room) files reported l h = tt
left_by (Gen seed count) files reported l h = tt
left_by c files reported l h = absurd h

-- after what was left was kept, or let go but for its code, as the status has it
pub handed_only : (words : List (List ℕ)) (files : Option (List File)) (reported : Option (List ℕ)) (ended : Bool) (left left' : Option Left) (made made' : Option Checked) (s : ℕ) → LeavesFor words files reported ended left → (made ≡ None) ⊎ HandsOut words left → (is_run_status s ≡ true → left' ≡ left) → (is_run_status s ≡ false → left' ≡ None) → code_of left' made' ≡ code_of left made → (is_run_status s ≡ true → made' ≡ made) → (made' ≡ None) ⊎ HandsOut words left'
handed_only words files reported ended left left' made made' s leaves only same gone code kept = by (is_run_status s) refl
  where
    shown : (left : Option Left) → LeavesFor words files reported ended left → (made ≡ None) ⊎ HandsOut words left → left' ≡ None → made' ≡ code_of left made → (made' ≡ None) ⊎ HandsOut words left'
    shown None leaves (inl none) e f = inl (f ∙ none)
    shown None leaves (inr h) e f = inr (e, h.1)
    shown (Some l) leaves only e f = let by = leaves.1 in inr (e, (by.0, by.1, left_by by.0 files reported l by.2))

    still : (made ≡ None) ⊎ HandsOut words left → left' ≡ left → made' ≡ made → (made' ≡ None) ⊎ HandsOut words left'
    still (inl none) e f = inl (f ∙ none)
    still (inr h) e f = inr (e ∙ h.0, h.1)

    by : (b : Bool) → is_run_status s ≡ b → (made' ≡ None) ⊎ HandsOut words left'
    by true e = still only (same e) (kept e)
    by false e = shown left leaves only (gone e) (subst (λ l. code_of l made' ≡ code_of left made) (gone e) code)

-- a code is shown only where it isn't left, also after the trace was stored or wasn't
pub apart_on : (left left' : Option Left) (made made' : Option Checked) → (left ≡ None) ⊎ (made ≡ None) → (left' ≡ None) ⊎ ((left' ≡ left) × (made' ≡ made)) → (left' ≡ None) ⊎ (made' ≡ None)
apart_on left left' made made' h (inl e) = inl e
apart_on left left' made made' (inl e) (inr k) = inl (k.0 ∙ e)
apart_on left left' made made' (inr e) (inr k) = inr (k.1 ∙ e)
