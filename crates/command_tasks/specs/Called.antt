-- For private contracts alone: what the calls of a list end in, by the code and the core form of its source.
use Rattle.std.specs.Prelude.{◌≡◌, ◌≢◌, ◌<◌, ℕ, suc, true, List, [], ◌∷◌, ◌++◌, length, codes}
use Rattle.std.specs.Fmt.{decimal}
use Rattle.cell_code.specs.declared.code.Code.{Code}
use Rattle.command_outcome.specs.declared.failure.Failure.{Failure}
use Rattle.command_outcome.specs.declared.failure.Failure.TheVariants as F
use Rattle.fip_language.specs.Core.{Core}
use Rattle.fip_language.specs.Every.{Every}
use Rattle.fip_language.specs.Meaning.{Answer, Deep, meaning}
use Rattle.fip_language.specs.Statics.{NoClosed}
use Rattle.task_lines.specs.session_lines.Named.{HasFrames}
use Rattle.command_session.specs.command_run.session_semantics.Lines.{lines_of}
use Rattle.cell_code.specs.Plain.{plain}
use Rattle.command_session.specs.command_run.code_rules.Codes.{is_fip}
use Rattle.task_lines.specs.Called.{Called, IsFirstBad}
use Rattle.fip_room.specs.declared.room.Room.{Room}
use Rattle.command_tasks.specs.Telling.{ReportsAnswer}

-- each function that is called has a name
abbrev pub AreNamed : List Called → Type 0
AreNamed cs = Every (λ c. 0 < length c.function.name) cs

-- what the source means by a call
abbrev pub answer_of : Core → Room → ℕ → Called → Answer
answer_of core room frames c = (meaning core c.function.name NoClosed c.values room.calls frames).answer

-- the line of a call: it has the frames of its function, of which a fip one never runs out
pub record IsCallLine (core : Core) (code : Code) (room : Room) (c : Called) (line : List ℕ) : Type 0 where
  pub frames : ℕ
  pub has : HasFrames (plain code) c.entry room.frames frames
  pub reported : ReportsAnswer code.types c.function.results room.calls frames (answer_of core room frames c) line
  pub never_deep : is_fip c.function.kind ≡ true → answer_of core room frames c ≢ Deep

-- those of the calls from number n on
abbrev pub AreCallLines : Core → Code → Room → ℕ → List Called → List ℕ → Type 0
AreCallLines core code room n [] text = text ≡ []
AreCallLines core code room n (c ∷ cs) text = (line : List ℕ) × (rest : List ℕ) × IsCallLine core code room c line
    × (text ≡ decimal n ++ (codes ": " ++ (line ++ rest))) × AreCallLines core code room (suc n) cs rest

-- what keeps an input from being a list
abbrev pub KeepsList : Code → List ℕ → Failure → Type 0
KeepsList code input (F.BadTask k) = IsFirstBad code 0 (lines_of input) k
KeepsList code input F.NoMemory = Unit {0}
KeepsList code input failure = ⊥
