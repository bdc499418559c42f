-- What the command ends in, from what its parts end in.
use Rattle.std.proofs.Common.{◌≡◌, ◌∙◌, ◌<◌, ◌≤◌, ℕ, List, length, sym, subst}
use Rattle.std.specs.Prelude.{Result, Ok, Err}
use Rattle.cell_code.specs.declared.code.Code.{Code}
use Rattle.cell_code.specs.Plain.{plain}
use Rattle.command_words.specs.Words.{Room}
use Rattle.command_outcome.specs.declared.failure.Failure.{Failure}
use Rattle.command_outcome.specs.declared.failure.Failure.TheVariants as F
use Rattle.command_session.specs.command_run.command_eval.EvalAnswer.{OrNoMemory}
use Rattle.fip_language.specs.declared.limits.TheConstants.{MOST_FRAMES}
use Rattle.command_session.specs.command_run.fip_trees.declared.groups.Member.{Member}
use Rattle.command_session.specs.command_run.fip_trees.Tree.{Program}
use Rattle.command_session.specs.command_run.session_semantics.Lines.{lines_of}
use Rattle.command_session.specs.command_run.session_semantics.Turns.{Answered, Bad, Comes, Small, most_tasks, words_of_tasks}
use Rattle.command_session.specs.command_run.code_rules.Breaks.{IsSound}
use Rattle.command_session.specs.command_run.command_source.ProgramCode.{IsLoweredFrom}
use Rattle.command_session.specs.command_run.source_report.Report.{IsAccepted}
use Rattle.command_session.specs.command_run.tail_groups.Members.{AreMembers}
use Rattle.task_lines.specs.Called.{AreCalls, Called}
use Rattle.fip_room.specs.declared.room.Room.{Room as RunRoom}
use Rattle.command_tasks.specs.Called.{AreCallLines, KeepsList}
use Rattle.command_tasks.specs.TasksAnswer.{TakesTurns}
use Rattle.command_tasks.proofs.Entering.{bad_of, core, is_setting, lines_reported, setting, tasks_of, twins_words}
use Rattle.command_tasks.proofs.Weighing.{words_of_calls}

module _ (source : List ℕ) (p : Program) (ms : List Member) (code : Code) (accepted : IsAccepted source p) (found : AreMembers p.instances ms) (sound : IsSound (plain code)) (lowered : IsLoweredFrom p (plain code)) (room : Room) (limits : RunRoom) (calls : limits.calls ≡ room.calls) (frames : limits.frames ≡ room.frames) (few : room.frames ≤ MOST_FRAMES) (input : List ℕ) where
  taken : (e : Result (List ℕ) Failure) → Comes (setting source p ms code accepted found sound lowered room limits calls frames few) (lines_of input) e → TakesTurns source input room e
  taken e comes = (setting source p ms code accepted found sound lowered room limits calls frames few, is_setting source p ms code accepted found sound lowered room limits calls frames few, comes)

  pub kept : (failure : Failure) → KeepsList code input failure → OrNoMemory (TakesTurns source input room) (Err failure)
  kept (F.BadTask k) h = taken (Err (F.BadTask k)) (Bad k (bad_of source p ms code accepted found sound lowered 0 (lines_of input) k h))
  kept F.NoMemory h = tt
  kept failure h = absurd h

  pub small : (cs : List Called) (needed given : ℕ) → AreCalls code (lines_of input) cs → length (lines_of input) ≤ most_tasks → needed ≡ words_of_calls cs → given ≡ room.words → given < needed → TakesTurns source input room (Err (F.TooSmall needed given))
  small cs needed given are many need give less =
      let t = tasks_of source p ms code accepted found sound lowered (lines_of input) cs are in
      let same : needed ≡ words_of_tasks t.0 = need ∙ twins_words p code cs t.0 t.2 in
      taken (Err (F.TooSmall needed given)) (subst (λ n. Comes (setting source p ms code accepted found sound lowered room limits calls frames few) (lines_of input) (Err (F.TooSmall n given))) (sym same) (subst (λ m. Comes (setting source p ms code accepted found sound lowered room limits calls frames few) (lines_of input) (Err (F.TooSmall (words_of_tasks t.0) m))) (sym give) (Small t.0 t.1 many (subst (λ m. m < words_of_tasks t.0) give (subst (λ n. given < n) same less)))))

  pub answered : (cs : List Called) (needed given : ℕ) (text : List ℕ) → AreCalls code (lines_of input) cs → length (lines_of input) ≤ most_tasks → needed ≡ words_of_calls cs → given ≡ room.words → needed ≤ given → AreCallLines (core source p ms code accepted found sound lowered) code limits 0 cs text → TakesTurns source input room (Ok text)
  answered cs needed given text are many need give le reported =
      let t = tasks_of source p ms code accepted found sound lowered (lines_of input) cs are in
      let same : needed ≡ words_of_tasks t.0 = need ∙ twins_words p code cs t.0 t.2 in
      taken (Ok text) (Answered t.0 text t.1 many (subst (λ m. words_of_tasks t.0 ≤ m) give (subst (λ n. n ≤ given) same le)) (lines_reported source p ms code accepted found sound lowered room limits calls frames few 0 cs t.0 text t.2 reported))
