-- For private contracts alone: that a book is that of a setting, and finds what names hold.
use Rattle.std.specs.Prelude.{◌≡◌, List}
use Rattle.session_lines.specs.Named.{AreEntries}
use Rattle.session_lines.specs.session_semantics.Talk.{Setting}
use Rattle.session_correctness.specs.Lodging.{Lodged}
use Rattle.session_code.specs.Served.{IsServed}
use Rattle.fip_session.specs.Planned.{Finds}
use Rattle.fip_session.specs.declared.book.Book.{Book}

-- The book is that of the setting, and finds what these names hold.
pub record IsBook (o : Setting) (b : Book) (ls : List Lodged) : Type 0 where
  pub served : IsServed o b.verified.now.code
  pub table : b.table.now ≡ o.program.types
  pub entries : AreEntries b.verified.now.code.functions.items b.entries.numbers
  pub finds : Finds b.held ls
