-- A command ends with one thing, but where two codes of a source may differ.
use Rattle.std.proofs.Common.{◌≡◌, ◌∙◌, inl, inr, ℕ, false, List, sym, ap, subst, refl, arith}
use Rattle.std.specs.Prelude.{◌⊎◌, Option, Some, None, Ok, Err}
use Rattle.fip_outside.specs.Files.{File, file_of}
use Rattle.command_library.proofs.Texts.{text_once}
use Rattle.command_library.specs.fip_language.declared.rule.Rule.TheVariants.{E61, E75}
use Rattle.command_library.specs.command_words.Words.{Room, Command, Check, Compile, Verify, Upgrade, Exec, Run, Eval, Trace, Session}
use Rattle.command_library.specs.command_words.Words.{Tasks, Derive, Audit, Replay, Library, Gen}
use Rattle.command_library.specs.command_outcome.declared.failure.Failure.TheVariants as F
use Rattle.command_library.specs.command_run.fip_trees.Tree.{Program}
use Rattle.command_library.proofs.command_eval.Once.{evaluated_once}
use Rattle.command_library.specs.command_tasks.source_report.Report.{IsMatched}
use Rattle.command_library.proofs.command_tasks.source_report.Once.{typed_once}
use Rattle.command_library.proofs.command_tasks.run_loading.Either.{one_trace, not_both, one_place}
use Rattle.command_library.specs.command_tasks.run_loading.Replaying.{replayed}
use Rattle.command_library.proofs.command_tasks.Once.{turns_once}
use Rattle.command_library.specs.command_source.Wanted.{Wanted, IsReady}
use Rattle.command_library.proofs.command_source.Deriving.{derived_or_underived}
use Rattle.command_library.proofs.command_source.Judging.{rejected_once, accepted_not_rejected}
use Rattle.command_library.proofs.command_source.Once.{listing_once, report_once, refused_once, refused_not_ready}
use Rattle.command_answers.specs.Answer.{OnWanted, OnFile, OnFound, EndsAlone, OnNamed, ComesTo}
use Rattle.command_answers.specs.Open.{IsEither, MayDiffer, IsOpen}
use Rattle.command_answers.specs.Asks.{fetched_name, wanted, IsReadyFor, HasWanted, HoldsWanted}
use Rattle.command_answers.specs.Ends.{Compiles, TracesTo, Ended, Traced, TooLong, Derives, Does, IsTaken, OnSource, Refused, LongInput, Ready, Judges, Audits, Reported, NoProof, Judged, Replays}
use Rattle.command_answers.specs.Exec.{End}
use Rattle.command_answers.proofs.OneCode.{code_once}
use Rattle.command_answers.proofs.TalkOnce.{replies_same}
use Rattle.command_answers.proofs.TreesOnce.{trees_once, generated_once}

-- ---- on a source

derives_once : (source : List ℕ) (d e : End) → Derives source d → Derives source e → d ≡ e
derives_once source (Ok t) (Ok u) h k = ap (λ t. Ok t) (h.1 ∙ sym k.1)
derives_once source (Ok t) (Err f) h k = absurd (derived_or_underived source h.0.0 h.0.1 k.0)
derives_once source (Err f) (Ok t) h k = absurd (derived_or_underived source k.0.0 k.0.1 h.0)
derives_once source (Err f) (Err g) h k = ap (λ f. Err f) (h.1 ∙ sym k.1)

-- of two codes' ends that differ one is E61
compiled_once : (source : List ℕ) (d e : End) → Compiles source d → Compiles source e → (d ≡ e) ⊎ IsEither E61 d e
compiled_once source (Ok t) (Ok u) h k = inl (ap (λ t. Ok t) (listing_once source t u h k))
compiled_once source (Ok t) (Err f) h k = inr (inr (ap (λ f. Err f) k.1))
compiled_once source (Err f) (Ok t) h k = inr (inl (ap (λ f. Err f) h.1))
compiled_once source (Err f) (Err g) h k = inl (ap (λ f. Err f) (h.1 ∙ sym k.1))

-- of two traces' ends that differ one is E75
traced_once : (source name input : List ℕ) (room : Room) (d e : End) → TracesTo source name input room d → TracesTo source name input room e → (d ≡ e) ⊎ IsEither E75 d e
traced_once source name input room d e (Ended f h) (Ended g k) = inl (trees_once source name input room false d e h k)
traced_once source name input room d e (Ended f h) (Traced text t k of' short) = inl (trees_once source name input room false d e h k)
traced_once source name input room d e (Ended f h) (TooLong t of' long) = inr (inr refl)
traced_once source name input room d e (Traced text t h of' short) (Ended g k) = inl (trees_once source name input room false d e h k)
traced_once source name input room d e (Traced text t h of' short) (Traced other u k also few) = inl (trees_once source name input room false d e h k)
traced_once source name input room d e (Traced text t h of' short) (TooLong u also long) = inr (inr refl)
traced_once source name input room d e (TooLong t of' long) k = inr (inl refl)

does_once : (source input : List ℕ) (c : Command) (d e : End) → Does source input c d → Does source input c e → (d ≡ e) ⊎ MayDiffer c d e
does_once source input (Check file) (Ok t) (Ok u) h k = inl (ap (λ t. Ok t) (listing_once source t u h k))
does_once source input (Check file) (Ok t) (Err f) h k = absurd k
does_once source input (Check file) (Err f) e h k = absurd h
does_once source input (Compile file out) d e h k = compiled_once source d e h k
does_once source input (Exec r) d e h k = inl (trees_once source r.entry input r.room r.gauge d e h k)
does_once source input (Eval file entry calls frames) d e h k = inl (evaluated_once source entry input calls frames d e h k)
does_once source input (Trace file entry out room) d e h k = traced_once source entry input room d e h k
does_once source input (Session file room) d e h k = inl (replies_same source input room d e h k)
does_once source input (Tasks file seed turns room) d e h k = inl (turns_once source input room d e h k)
does_once source input (Derive file out) d e h k = inl (derives_once source d e h k)
does_once source input c d e h k = absurd h

pub source_once : (source input : List ℕ) (c : Command) (w : Wanted) (d e : End) → OnSource source input c w d → OnSource source input c w e → (d ≡ e) ⊎ (MayDiffer c d e × IsReady source w × IsTaken c input)
source_once source input c w d e (Refused q h) (Refused r k) = inl (ap (λ r. Err (F.Refused r)) (refused_once source w q r h k))
source_once source input c w d e (Refused q h) (LongInput ready reads more) = absurd (refused_not_ready source w q h ready)
source_once source input c w d e (Refused q h) (Ready f ready taken k) = absurd (refused_not_ready source w q h ready)
source_once source input c w d e (LongInput ready reads more) (Refused r k) = absurd (refused_not_ready source w r k ready)
source_once source input c w d e (LongInput ready reads more) (LongInput again also further) = inl refl
source_once source input c w d e (LongInput ready reads more) (Ready f again taken k) = absurd (let le = taken reads in omega (arith, more, le))
source_once source input c w d e (Ready f ready taken h) (Refused r k) = absurd (refused_not_ready source w r k ready)
source_once source input c w d e (Ready f ready taken h) (LongInput again reads more) = absurd (let le = taken reads in omega (arith, more, le))
source_once source input c w d e (Ready f ready taken h) (Ready g again also k) = elim (does_once source input c f g h k) [ inl same ↦ inl same | inr differs ↦ inr (differs, ready, taken) ]

-- ---- of `audit`

verdict_once : (p : Program) (bytes : List ℕ) (d e : End) → Judges p bytes d → Judges p bytes e → d ≡ e
verdict_once p bytes (Ok t) (Ok u) h k = ap (λ t. Ok t) (h.1 ∙ sym k.1)
verdict_once p bytes (Ok t) (Err (F.Refused r)) h k = absurd (accepted_not_rejected bytes p r h.0 k)
verdict_once p bytes (Ok t) (Err f) h k = absurd k
verdict_once p bytes (Err (F.Refused q)) (Ok u) h k = absurd (accepted_not_rejected bytes p q k.0 h)
verdict_once p bytes (Err (F.Refused q)) (Err (F.Refused r)) h k = ap (λ r. Err (F.Refused r)) (rejected_once bytes p q r h k)
verdict_once p bytes (Err (F.Refused q)) (Err f) h k = absurd k
verdict_once p bytes (Err f) e h k = absurd h

-- a source's types and matches are right with one program
judged_once : (source : List ℕ) (p q : Program) (bytes : List ℕ) (d e : End) → IsMatched source p → IsMatched source q → Judges p bytes d → Judges q bytes e → d ≡ e
judged_once source p q bytes d e m n h k =
    verdict_once q bytes d e (subst (λ p. Judges p bytes d) (typed_once source p q m.typed n.typed) h) k

audit_once : (source : List ℕ) (o : Option (List ℕ)) (d e : End) → Audits source o d → Audits source o e → d ≡ e
audit_once source o d e (Reported q x h) (Reported r y k) = ap (λ r. Err (F.Refused r)) (report_once source q r h.0 k.0)
audit_once source o d e (Reported q x h) (NoProof p m) = absurd (h.1 p m)
audit_once source o d e (Reported q x h) (Judged p bytes f m v) = absurd (h.1 p m)
audit_once source o d e (NoProof p m) (Reported r y k) = absurd (k.1 p m)
audit_once source o d e (NoProof p m) (NoProof q n) = refl
audit_once source o d e (Judged p bytes f m v) (Reported r y k) = absurd (k.1 p m)
audit_once source o d e (Judged p bytes f m v) (Judged q other g n w) = judged_once source p q bytes f g m n v w

-- ---- of `replay`

trace_once : (bytes : List ℕ) (step : ℕ) (d e : End) → Replays bytes step d → Replays bytes step e → d ≡ e
trace_once bytes step (Ok t) (Ok u) h k = ap (λ t. Ok t) (h.2 ∙ ap (λ t. replayed t step) (one_trace bytes h.0 k.0 h.1 k.1) ∙ sym k.2)
trace_once bytes step (Ok t) (Err (F.BadTrace at)) h k = absurd (not_both bytes h.0 at h.1 k)
trace_once bytes step (Ok t) (Err f) h k = absurd k
trace_once bytes step (Err (F.BadTrace at)) (Ok u) h k = absurd (not_both bytes k.0 at k.1 h)
trace_once bytes step (Err (F.BadTrace at)) (Err (F.BadTrace to)) h k = ap (λ n. Err (F.BadTrace n)) (one_place bytes at to h k)
trace_once bytes step (Err (F.BadTrace at)) (Err f) h k = absurd k
trace_once bytes step (Err f) e h k = absurd h

-- ---- on files

wanted_once : (bytes input : List ℕ) (c : Command) (o : Option Wanted) (d e : End) → OnWanted bytes input c o d → OnWanted bytes input c o e → (d ≡ e) ⊎ (MayDiffer c d e × IsReadyFor bytes o × IsTaken c input)
wanted_once bytes input c None d e h k = absurd h
wanted_once bytes input c (Some w) d e h k = source_once bytes input c w d e h k

file_once : (files : List File) (bytes input : List ℕ) (c : Command) (d e : End) → OnFile files bytes input c d → OnFile files bytes input c e → (d ≡ e) ⊎ (MayDiffer c d e × HasWanted c bytes × IsTaken c input)
file_once files bytes input (Verify file) d e h k = inl (code_once bytes input (Verify file) d e h k)
file_once files bytes input (Upgrade file out) d e h k = inl (code_once bytes input (Upgrade file out) d e h k)
file_once files bytes input (Run r) d e h k = inl (code_once bytes input (Run r) d e h k)
file_once files bytes input (Audit file proof) d e h k = inl (audit_once bytes (file_of proof files) d e h k)
file_once files bytes input (Replay trace step) d e h k = inl (trace_once bytes step d e h k)
file_once files bytes input c d e h k = wanted_once bytes input c (wanted c) d e h k

found_once : (files : List File) (input : List ℕ) (c : Command) (o : Option (List ℕ)) (d e : End) → OnFound files input c o d → OnFound files input c o e → (d ≡ e) ⊎ ((bytes : List ℕ) × (o ≡ Some bytes) × MayDiffer c d e × HasWanted c bytes × IsTaken c input)
found_once files input c None d e h k = inl (h ∙ sym k)
found_once files input c (Some bytes) d e h k = elim (file_once files bytes input c d e h k) [
  | inl same ↦ inl same
  | inr more ↦ inr (bytes, refl, more.0, more.1, more.2)
]

alone_once : (c : Command) (d e : End) → EndsAlone c d → EndsAlone c e → d ≡ e
alone_once (Library name) (Ok t) (Ok u) h k = ap (λ t. Ok t) (text_once name name t u refl h k)
alone_once (Library name) (Ok t) (Err f) h k = absurd k
alone_once (Library name) (Err f) e h k = absurd h
alone_once (Gen seed count) d e h k = generated_once seed count d e h k
alone_once c d e h k = absurd h

named_once : (files : List File) (input : List ℕ) (c : Command) (o : Option (List ℕ)) (d e : End) → OnNamed files input c o d → OnNamed files input c o e → (d ≡ e) ⊎ (MayDiffer c d e × HoldsWanted c (Some files) o × IsTaken c input)
named_once files input c None d e h k = inl (alone_once c d e h k)
named_once files input c (Some name) d e h k = elim (found_once files input c (file_of name files) d e h k) [
  | inl same ↦ inl same
  | inr more ↦ inr (more.2, (more.0, more.1, more.3), more.4)
]

pub comes_once : (files : List File) (input : List ℕ) (c : Command) (d e : End) → ComesTo files input c d → ComesTo files input c e → (d ≡ e) ⊎ IsOpen files input c d e
comes_once files input c d e h k = named_once files input c (fetched_name c) d e h k
