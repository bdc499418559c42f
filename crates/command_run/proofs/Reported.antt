-- From how a run ended to what it is reported as: by the code, and by the meaning of its source.
use Rattle.std.proofs.Common.{◌≡◌, ◌∙◌, ℕ, List, refl, sym, ap, subst}
use Rattle.std.specs.Prelude.{Result, Ok, Err}
use Rattle.std.specs.declared.vec.Vec.{Vec}
use Rattle.std.specs.declared.alloc.Global.{Global}
use Rattle.fip_language.specs.Meaning.{Answer, Gives, Trap, Out, Deep, Stuck}
use Rattle.fip_language.specs.Table.{Table}
use Rattle.fip_language.specs.Values.{Values}
use Rattle.command_words.specs.Words.{Room}
use Rattle.command_outcome.specs.declared.failure.Failure.{Failure}
use Rattle.command_outcome.specs.declared.failure.Failure.TheVariants as F
use Rattle.command_eval.specs.machine_correctness.machine_semantics.Runs as C
use Rattle.command_eval.specs.machine_correctness.machine_semantics.Runs.{End}
use Rattle.command_eval.specs.machine_correctness.machine_semantics.States.{State}
use Rattle.fip_machine.specs.declared.machine.Ended.{Ended}
use Rattle.fip_machine.specs.declared.machine.Ended.TheVariants as M
use Rattle.command_eval.specs.machine_correctness.tree_refinement.Agreement.{AreWordsOf}
use Rattle.command_eval.specs.machine_correctness.Ended.{EndsJustAs}
use Rattle.command_eval.specs.machine_correctness.Meant.{IsMeant}
use Rattle.command_eval.proofs.machine_correctness.Texts.{printable}
use Rattle.command_eval.specs.EvalAnswer.{OrNoMemory}
use Rattle.command_run.specs.CodeRun.{ReportsCode}
use Rattle.command_run.specs.ExecAnswer.{ReportsRun}
use Rattle.command_run.specs.Starting.{ReportsEnded}

-- what is said of a result, or memory runs out
pub said : (P Q : Result (List ℕ) Failure → Type 0) → ((e : Result (List ℕ) Failure) → P e → Q e) → (o : Result (Vec ℕ Global) Failure) → OrNoMemory P o → OrNoMemory Q o
said P Q f (Ok text) h = f (Ok text.items) h
said P Q f (Err F.NoMemory) h = tt
said P Q f (Err failure) h = f (Err failure) h

-- ---- by the code

module _ (tb : Table) (types : List ℕ) (room : Room) (frames : ℕ) (following : List ℕ) where
  value_reported : (ws : List ℕ) (l : State) (o : Ended) (last : State) (given : List ℕ) (e : Result (List ℕ) Failure) → EndsJustAs (C.Value ws) l o last given → ((vs : Values) × AreWordsOf tb l.store types ws vs) → ReportsEnded tb types room following last.store given o e → ReportsCode tb types room.calls frames following l (C.Value ws) e
  value_reported ws l o last given e h stand reported =
      let vs : Values = stand.0 in
      let words : AreWordsOf tb l.store types given vs = subst (λ us. AreWordsOf tb l.store types us vs) (sym h.2) stand.1 in
      let there : AreWordsOf tb last.store types given vs = subst (λ (u : State). AreWordsOf tb u.store types given vs) (sym h.1) words in
      let value : ReportsEnded tb types room following last.store given M.Value e = subst (λ o. ReportsEnded tb types room following last.store given o e) h.0 reported in
      (vs, stand.1, value vs (printable tb last.store types given vs there))

  pub reported_code : (end : End) (l : State) (o : Ended) (last : State) (given : List ℕ) (e : Result (List ℕ) Failure) → EndsJustAs end l o last given → ((ws : List ℕ) → end ≡ C.Value ws → (vs : Values) × AreWordsOf tb l.store types ws vs) → (end ≡ C.Deep → room.frames ≡ frames) → ReportsEnded tb types room following last.store given o e → ReportsCode tb types room.calls frames following l end e
  reported_code (C.Value ws) l o last given e h stand deep reported = value_reported ws l o last given e h (stand ws refl) reported
  reported_code (C.Trap kind line col) l o last given e h stand deep reported = subst (λ o. ReportsEnded tb types room following last.store given o e) h.0 reported
  reported_code C.Out l o last given e h stand deep reported = subst (λ o. ReportsEnded tb types room following last.store given o e) h.0 reported
  reported_code C.Deep l o last given e h stand deep reported =
      let out : e ≡ Err (F.OutOfFrames room.frames) = subst (λ o. ReportsEnded tb types room following last.store given o e) h.0 reported in
      out ∙ ap (λ n. Err (F.OutOfFrames n)) (deep refl)
  reported_code C.Unsound l o last given e h stand deep reported = absurd h

  -- ---- by the meaning

  pub reported_meant : (o : Ended) (last : State) (given : List ℕ) (a : Answer) (e : Result (List ℕ) Failure) → IsMeant tb types o last given a → (a ≡ Deep → room.frames ≡ frames) → ReportsEnded tb types room following last.store given o e → ReportsRun tb types room.calls frames (λ _. following) a e
  reported_meant M.Value last given (Gives vs left) e h deep reported = reported vs (printable tb last.store types given vs h)
  reported_meant M.Value last given (Trap kind line col) e h deep reported = absurd h
  reported_meant M.Value last given Out e h deep reported = absurd h
  reported_meant M.Value last given Deep e h deep reported = absurd h
  reported_meant M.Value last given Stuck e h deep reported = absurd h
  reported_meant (M.Trap kind line col) last given (Gives vs left) e h deep reported = absurd h
  reported_meant (M.Trap kind line col) last given (Trap l row at) e h deep reported = let same : e ≡ Err (F.Trap l row at) = cc in same
  reported_meant (M.Trap kind line col) last given Out e h deep reported = absurd h
  reported_meant (M.Trap kind line col) last given Deep e h deep reported = absurd h
  reported_meant (M.Trap kind line col) last given Stuck e h deep reported = absurd h
  reported_meant M.Out last given a e h deep reported = subst (λ a. ReportsRun tb types room.calls frames (λ _. following) a e) (sym h) reported
  reported_meant M.Deep last given a e h deep reported =
      let frames_are = deep h in
      subst (λ a. ReportsRun tb types room.calls frames (λ _. following) a e) (sym h) (reported ∙ ap (λ n. Err (F.OutOfFrames n)) frames_are)
