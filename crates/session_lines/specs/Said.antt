-- What a line was read as: the parts of a line of a session, in which the text of a value is from one place to another.
--
-- `a = f(b, Nil)` was read as a call of f, whose result gets the name a, with what b holds and with the value whose
-- text is from 9 to 12.
use Rattle.std.specs.Prelude.{◌≡◌, ℕ, List, [], ◌∷◌, map, drop}
use Rattle.std.specs.Borrow.{Bor}
use Rattle.fip_language.specs.Core.{Name}
use Rattle.session_semantics.specs.Lines.{Given, Held, Fresh, Line, Calls, Shows, GivesUp, SpellsLine}
use Rattle.session_semantics.specs.Lines.{WrittenText, symbols}
use Rattle.session_lines.specs.declared.line.CallLine.{CallLine}
use Rattle.session_lines.specs.declared.line.Line.{Line as LineRead}
use Rattle.session_lines.specs.declared.line.Line.TheVariants as R
use Rattle.session_lines.specs.declared.line.Written.{Written}
use Rattle.session_lines.specs.declared.line.Written.TheVariants as W

-- an argument of a line of these bytes
abbrev pub IsGiven : List ℕ → Written → Given → Type 0
IsGiven bytes (W.Name n) (Held m) = n.now ≡ m
IsGiven bytes (W.Value s) (Fresh w) = WrittenText (symbols (drop s.start bytes)) w (symbols (drop s.end bytes))
IsGiven bytes a g = ⊥

abbrev pub AreGiven : List ℕ → List Written → List Given → Type 0
AreGiven bytes [] [] = Unit {0}
AreGiven bytes (a ∷ list) (g ∷ gs) = IsGiven bytes a g × AreGiven bytes list gs
AreGiven bytes list gs = ⊥

abbrev pub names_of : List (Bor (List ℕ)) → List Name
names_of ns = map (λ n. n.now) ns

pub record IsCall (bytes : List ℕ) (c : CallLine) (result : Name) (results : List Name) (entry : Name)
    (gs : List Given) : Type 0 where
  pub named : names_of c.results.items ≡ result ∷ results
  pub called : c.entry.now ≡ entry
  pub given : AreGiven bytes c.arguments.items gs

abbrev pub IsRead : List ℕ → LineRead → Line → Type 0
IsRead bytes (R.Show n) (Shows m) = n.now ≡ m
IsRead bytes (R.Give n) (GivesUp m) = n.now ≡ m
IsRead bytes (R.Call c) (Calls result results entry gs) = IsCall bytes c result results entry gs
IsRead bytes r l = ⊥

-- the bytes are a line of a session, and that was read
pub record Says (bytes : List ℕ) (read : LineRead) : Type 0 where
  pub line : Line
  pub is : IsRead bytes read line
  pub spelt : SpellsLine bytes line
