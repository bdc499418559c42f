-- What was read from a source and written to a sink in several turns. Nothing is claimed where they report no bytes.
use Rattle.std.specs.Prelude.{◌≡◌, ℕ, ◌≤◌, List, length, take, Option}
use Rattle.std.specs.Io.KnownBytes.{Appends, Consumes}

-- So many bytes were taken from those that were left.
abbrev pub Takes : Option (List ℕ) → Option (List ℕ) → ℕ → Type 0
Takes before after count = (bytes : List ℕ) × Consumes before after bytes × (length bytes ≡ count)

-- At most so many bytes were taken from those that were left.
abbrev pub TakesAtMost : Option (List ℕ) → Option (List ℕ) → ℕ → Type 0
TakesAtMost before after most = (bytes : List ℕ) × Consumes before after bytes × (length bytes ≤ most)

-- A front part of the bytes, which may be none or all, came after those that were written.
abbrev pub WritesPrefix : Option (List ℕ) → Option (List ℕ) → List ℕ → Type 0
WritesPrefix before after bytes = (count : ℕ) × Appends before after (take count bytes)
