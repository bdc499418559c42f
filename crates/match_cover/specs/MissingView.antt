-- The rows and nodes of the code, as the definition of the missing pattern has them.
use Rattle.std.specs.Prelude.{◌≡◌, ℕ, zero, suc, List, [], ◌∷◌, map}
use Rattle.std.specs.Borrow.{Bor}
use Rattle.match_knowledge.specs.declared.rows.Row.{Row}
use Rattle.match_knowledge.specs.Patterns.{Pattern, Patterns}
use Rattle.match_knowledge.specs.View.{row, known}
use Rattle.match_cover.specs.declared.missing.Frame.{Frame}
use Rattle.fip_language.specs.Table.{Table}
use Rattle.match_knowledge.specs.Left.{IsMatch, Missed}
use Rattle.match_cover.specs.PatternText.{pattern_text, parts_text, more_text}
use Rattle.match_cover.specs.Missing.{Level, IsMissingOf}

-- the text of the missing pattern of a match that doesn't match all values
abbrev pub SaysMissing : Table → ℕ → List Pattern → List ℕ → Type 0
SaysMissing tb t rows text =
    IsMatch tb t rows → Missed tb t rows → (q : Pattern) × IsMissingOf tb t rows q × (text ≡ pattern_text tb q)

-- the patterns that references lead to
abbrev pub lent_rows : List (Bor Row) → List Pattern
lent_rows rs = map (λ r. row r.now) rs

abbrev pub level : Frame → Level
level f = record { head = f.head; before = map known f.before.items; following = map known f.following.items }

abbrev pub levels : List Frame → List Level
levels fs = map level fs

-- the text of the parts of a pattern from the j-th on: what comes before a part, and after the last of j
abbrev pub part_sign : ℕ → List ℕ
part_sign zero = 40 ∷ []
part_sign (suc j) = 44 ∷ 32 ∷ []

abbrev pub last_sign : ℕ → List ℕ
last_sign zero = []
last_sign (suc j) = 41 ∷ []

abbrev pub rest_text : Table → ℕ → Patterns → List ℕ
rest_text tb zero ps = parts_text tb ps
rest_text tb (suc j) ps = more_text tb ps
