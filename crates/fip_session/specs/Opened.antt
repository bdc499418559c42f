-- What a session keeps to between lines, against what was said so far: its names, its cells and the words that are left.
--
-- With 6 words, after `a = rev(Cons(1, Nil), Nil)`: under a that list is found, its one cell is the only one, and 3 words
-- are left.
use Rattle.std.specs.Prelude.{◌≡◌, ℕ, List, ◌++◌, Option, option_map}
use Rattle.std.specs.BTreeMap.{BTreeMap}
use Rattle.std.specs.declared.alloc.Global.{Global}
use Rattle.std.specs.declared.vec.Vec.{Vec}
use Rattle.fip_language.specs.Core.{Name}
use Rattle.session_lines.specs.Named.{AreEntries}
use Rattle.session_lines.specs.command_outcome.Texts.{line_end}
use Rattle.session_lines.specs.session_semantics.Talk.{Setting, State, Replies}
use Rattle.session_correctness.specs.Open.{IsOpen}
use Rattle.fip_session.specs.Named.{found}
use Rattle.session_code.specs.Served.{IsServed}
use Rattle.fip_session.specs.declared.book.Held.{Held}
use Rattle.fip_session.specs.declared.session.Session.{Session}

-- the type and the word that are found under a name
abbrev pub found_as : BTreeMap (Vec ℕ Global) Held → Name → Option (ℕ × ℕ)
found_as held name = option_map (λ h. (h.ty, h.word)) (found held name)

-- The session is that of the setting, in a state of its definition.
pub record IsSession (o : Setting) (t : Session) (s : State) : Type 0 where
  pub served : IsServed o t.book.verified.now.code
  pub table : t.book.table.now ≡ o.program.types
  pub entries : AreEntries t.book.verified.now.code.functions.items t.book.entries.numbers
  pub calls : t.book.room.calls ≡ o.calls
  pub frames : t.book.room.frames ≡ o.frames
  pub opened : IsOpen o.program.types o.words (found_as t.book.held)
      (record { cells = t.store.cells.cells; released = t.store.cells.released }) t.store.left s

-- A line of these bytes gets this reply, of which the LF at its end is left out, and the session is in the state after it.
abbrev pub RepliesTo : Setting → State → List ℕ → List ℕ → Session → Type 0
RepliesTo o s bytes text t = (s' : State) × Replies o s bytes (text ++ line_end) s' × IsSession o t s'
