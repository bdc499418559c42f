-- What is left of a line after the tokens that were read.
--
-- After rev of the line `rev (Nil, Nil)` the symbols of ` (Nil, Nil)` are left, where ( comes next.
use Rattle.std.specs.Prelude.{◌≡◌, ◌↔◌, ℕ, List, drop}
use Rattle.session_semantics.specs.Lines.{Symbol, symbol, symbols}
use Rattle.session_lines.specs.declared.scan.Scanner.{Scanner}

abbrev pub left : Scanner → List Symbol
left s = symbols (drop s.at s.bytes.now)

-- this byte, and no other, is read as this symbol
abbrev pub IsSignOf : ℕ → Symbol → Type 0
IsSignOf b c = (d : ℕ) → (symbol d ≡ c) ↔ (d ≡ b)
