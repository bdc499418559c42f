-- For private contracts alone: the text of a value of a type in a line, and cells that are counted.
use Rattle.std.specs.Prelude.{◌≡◌, ◌<◌, ◌≤◌, ◌+◌, ◌-◌, ◌^◌, ℕ, List, slice_index_or}
use Rattle.fip_language.specs.Table.{Table}
use Rattle.fip_language.specs.Values.{Value}
use Rattle.fip_language.specs.declared.limits.TheConstants.{MOST_FIELDS}
use Rattle.session_lines.specs.session_semantics.Lines.{Symbol, Written, WrittenText}
use Rattle.session_lines.specs.session_semantics.Typed.{IsValue}
use Rattle.value_text.specs.declared.counts.Counts.{Counts}

-- the symbols are the text of a value of a type, and then rest
abbrev pub IsTextOf : Table → ℕ → List Symbol → Value → List Symbol → Type 0
IsTextOf tb k cs v rest = (w : Written) × WrittenText cs w rest × IsValue tb k w v

-- as many more of each size, where these are fewer than the greatest number
abbrev pub Adds : Counts → Counts → (ℕ → ℕ) → Type 0
Adds old new more = (k : ℕ) → k ≤ MOST_FIELDS → slice_index_or old.numbers k 0 + more k < 2 ^ 64 - 1 →
    slice_index_or new.numbers k 0 ≡ slice_index_or old.numbers k 0 + more k
