-- What `tasks` ends in on a source that breaks no rule, once the input is read.
--
-- Each line of the input is a task: a function of the source and values in brackets. The first line that is none is
-- reported, or line 1,001; else, where the store has fewer words than the cells of all values and of the functions'
-- credits take, both numbers. Else each task has a line, with its number: what the source means by its function on its
-- values, with the calls that are given, and the frames that a fip function needs or that are given. Whose turn it is
-- when changes none of that, so neither the seed nor the number of turns is spoken of.
--
-- The lines `rev(Cons(1, Nil), Nil)` and `rev(Nil, Nil)` end in `0: Cons(1, Nil)` and `1: Nil`. A third line
-- `rev(Nil)` makes it `bad task 3`, and with 2 words the store is too small, since 3 are needed.
use Rattle.std.specs.Prelude.{◌≡◌, ℕ, List, Result}
use Rattle.command_words.specs.Words.{Room}
use Rattle.command_outcome.specs.declared.failure.Failure.{Failure}
use Rattle.command_session.specs.command_run.source_report.Report.{IsAccepted}
use Rattle.command_session.specs.command_run.tail_groups.Members.{AreMembers}
use Rattle.command_session.specs.command_run.session_semantics.Lines.{lines_of}
use Rattle.command_session.specs.command_run.session_semantics.Talk.{Setting}
use Rattle.command_session.specs.command_run.session_semantics.Turns.{Comes}

-- the program of a source that breaks no rule, with what is found of its instances, in this room
pub record IsSetting (source : List ℕ) (room : Room) (o : Setting) : Type 0 where
  pub accepted : IsAccepted source o.program
  pub found : AreMembers (o.program).instances o.members
  pub words : o.words ≡ room.words
  pub calls : o.calls ≡ room.calls
  pub frames : o.frames ≡ room.frames

abbrev pub TakesTurns : (source input : List ℕ) → Room → Result (List ℕ) Failure → Type 0
TakesTurns source input room e = (o : Setting) × IsSetting source room o × Comes o (lines_of input) e
