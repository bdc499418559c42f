-- From an outcome and its delivery to the whole answer.
use Rattle.std.proofs.Common.{◌≡◌, ℕ, List, [], sym, ap, subst, inl, inr, append-nil}
use Rattle.std.specs.Prelude.{◌⊎◌, Option, Some, None, Result, Ok, Err}
use Rattle.std.specs.Io.KnownBytes.{Appends}
use Rattle.std.specs.declared.vec.Vec.{Vec}
use Rattle.std.specs.declared.alloc.Global.{Global}
use Rattle.fip_outside.specs.Faults.{Rose}
use Rattle.fip_outside.specs.Files.{File}
use Rattle.command_outcome.specs.Texts.{no_memory_text}
use Rattle.fip_driver.specs.Delivered.{Seen, Tried, Reported, ReportedFailure, Delivered}
use Rattle.fip_driver.specs.Turns.{end_of, IsFault, IsUnasked, Closes}
use Rattle.command_answers.specs.Answer.{Shows, ComesTo, IsAnswer, host, Answered}
use Rattle.command_answers.specs.Asks.{ComesToInput, stored_name}
use Rattle.command_answers.specs.Exec.{End}
use Rattle.command_answers.specs.Stored.{Stores}
use Rattle.fip_driver.proofs.Storing.{failed_kept}
use Rattle.command_words.specs.Words.{Command, IsCommand}
use Rattle.command_outcome.specs.Failures.{failure_text, failure_status, fault_text}
use Rattle.command_outcome.specs.declared.failure.Failure.{Failure}
use Rattle.command_outcome.specs.declared.failure.Failure.TheVariants as F
use Rattle.command_outcome.specs.declared.failure.Object.{Object}
use Rattle.command_outcome.specs.declared.failure.Object.TheVariants as O

-- what isn't written to has nothing more
pub appends_nothing : (o o' : Option (List ℕ)) → o' ≡ o → Appends o o' []
appends_nothing None o' e = tt
appends_nothing (Some xs) o' e = subst (λ o'. Appends (Some xs) o' []) (sym e) (sym (append-nil xs))

module _ (words : List (List ℕ)) (files : List File) (input : List ℕ) (out out' err err' : Seen) (now : Option (List File)) (no_out : Rose out.faults out'.faults → ⊥) (no_err : Rose err.faults err'.faults → ⊥) where
  abbrev Whole : ℕ → Type 0
  Whole s = Answered words files input (host out.written out'.written err.written err'.written now s)

  no_memory : (s : ℕ) → now ≡ Some files → out' ≡ out → Reported err err' 10 no_memory_text s → Whole s
  no_memory s kept same (inl t) = inl (record { ended = t.0; unwritten = ap (λ o. o.written) same; shown = t.1; kept = kept })
  no_memory s kept same (inr t) = absurd (no_err t.1)

  -- words that are no command, or out of memory
  unasked_reported : (f : Failure) (s : ℕ) → now ≡ Some files → out' ≡ out → IsUnasked words (Err f) → ReportedFailure err err' f s → Whole s
  unasked_reported F.NotUnderstood s kept same none (inl (inl t)) = inr (inl (none, record { ended = t.0; unwritten = ap (λ o. o.written) same; shown = t.1; kept = kept }))
  unasked_reported F.NotUnderstood s kept same none (inl (inr t)) = absurd (no_err t.1)
  unasked_reported F.NotUnderstood s kept same none (inr t) = no_memory s kept same t
  unasked_reported F.NoMemory s kept same h (inl t) = no_memory s kept same t
  unasked_reported F.NoMemory s kept same h (inr t) = no_memory s kept same t
  unasked_reported f s kept same h t = absurd h

  pub unasked_answer : (outcome : Result (Vec ℕ Global) Failure) (s : ℕ) → now ≡ Some files → IsUnasked words outcome → Delivered out out' err err' outcome s → Whole s
  unasked_answer (Ok text) s kept h d = absurd h
  unasked_answer (Err f) s kept h d = unasked_reported f s kept d.0 h d.1

  -- ---- an end

  -- how an end is shown, or that memory ran out for its text
  abbrev Shown : End → ℕ → Type 0
  Shown e s = Shows e out.written out'.written err.written err'.written s

  reported_or_not : (f : Failure) (s : ℕ) → now ≡ Some files → out' ≡ out → Reported err err' (failure_status f) (failure_text f) s ⊎ Reported err err' 10 no_memory_text s → Shown (Err f) s ⊎ Whole s
  reported_or_not f s kept same (inl (inl t)) = inl (t.0, ap (λ o. o.written) same, t.1)
  reported_or_not f s kept same (inl (inr t)) = absurd (no_err t.1)
  reported_or_not f s kept same (inr t) = inr (no_memory s kept same t)

  tried_end : (object : Object) (s : ℕ) → out' ≡ out → s ≡ 9 → Tried err err' (fault_text object) → Shown (Err (F.Fault object)) s
  tried_end object s same e (inl t) = (e, ap (λ o. o.written) same, t)
  tried_end object s same e (inr t) = absurd (no_err t.0)

  failure_end : (f : Failure) (s : ℕ) → now ≡ Some files → out' ≡ out → ReportedFailure err err' f s → Shown (Err f) s ⊎ Whole s
  failure_end (F.Fault object) s kept same h = inl (tried_end object s same h.0 h.1)
  failure_end f s kept same h = reported_or_not f s kept same h

  delivered_end : (c : Command) (o : Result (Vec ℕ Global) Failure) (s : ℕ) → Stores c files input (stored_name c) (end_of o) now → Delivered out out' err err' o s → Shown (end_of o) s ⊎ Whole s
  delivered_end c (Ok text) s stored (inl d) = inl (d.0, ap (λ e. e.written) d.2, d.1)
  delivered_end c (Ok text) s stored (inr d) = absurd (no_out d.1)
  delivered_end c (Err f) s stored d = failure_end f s (failed_kept c (stored_name c) files input now f stored) d.0 d.1

  -- where no count of faults rose, an end of a fault is out of memory
  fault_end : (c : Command) (came folder_rose input_rose : Type 0) → (folder_rose → ⊥) → (input_rose → ⊥) → (e : End) (s : ℕ) → IsFault c came folder_rose input_rose e → Stores c files input (stored_name c) e now → Shown e s → Whole s
  fault_end c came fr ir no_f no_i (Ok text) s h stored t = absurd h
  fault_end c came fr ir no_f no_i (Err F.NoMemory) s h stored t = inl (record { ended = t.0; unwritten = t.1; shown = t.2; kept = failed_kept c (stored_name c) files input now F.NoMemory stored })
  fault_end c came fr ir no_f no_i (Err (F.Fault O.Folder)) s h stored t = absurd (no_f h.0)
  fault_end c came fr ir no_f no_i (Err (F.Fault O.Input)) s h stored t = absurd (no_i h.0)
  fault_end c came fr ir no_f no_i (Err (F.Fault O.Out)) s h stored t = absurd h
  fault_end c came fr ir no_f no_i (Err (F.Fault O.Err)) s h stored t = absurd h
  fault_end c came fr ir no_f no_i (Err failure) s h stored t = absurd h

  closed_end : (c : Command) (folder_rose input_rose : Type 0) → (folder_rose → ⊥) → (input_rose → ⊥) → (e : End) (s : ℕ) → IsCommand words c → Closes files input c folder_rose input_rose e → Stores c files input (stored_name c) e now → Shown e s → Whole s
  closed_end c fr ir no_f no_i e s asked (inl h) stored t = fault_end c (ComesToInput c (Some files)) fr ir no_f no_i e s h stored t
  closed_end c fr ir no_f no_i e s asked (inr h) stored t = inr (inr (c, asked, record { end = e; ends = h; shown = t; stored = stored }))

  pub closed_answer : (c : Command) (folder_rose input_rose : Type 0) → (folder_rose → ⊥) → (input_rose → ⊥) → (o : Result (Vec ℕ Global) Failure) (s : ℕ) → IsCommand words c → Closes files input c folder_rose input_rose (end_of o) → Stores c files input (stored_name c) (end_of o) now → Delivered out out' err err' o s → Whole s
  closed_answer c fr ir no_f no_i o s asked h stored d = elim (delivered_end c o s stored d) [ inl t ↦ closed_end c fr ir no_f no_i (end_of o) s asked h stored t | inr w ↦ w ]
