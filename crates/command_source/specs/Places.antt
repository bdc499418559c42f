-- Line and column of an offset in a source, both from 1, the column in bytes: the line is one more than the LFs before
-- the offset, the column one more than the bytes after the last of them. In the source `a` LF `bc` the offset 3 is at
-- 2:2.
use Rattle.std.specs.Prelude.{ℕ, ◌==◌, if◌then◌else◌, List, [], ◌∷◌, take, Option, Some, None}
use Rattle.fip_language.specs.declared.Place.{Place}
use Rattle.fip_base.specs.declared.refusal.Refusal.{Refusal}
use Rattle.machine_correctness.specs.compiler_correctness.fip_grammar.Cut.{first_place, along, next_line}

-- the place after a byte
abbrev pub after_byte : Place → ℕ → Place
after_byte p b = if b == 10 then next_line p else along p 1

abbrev pub after_bytes : Place → List ℕ → Place
after_bytes p [] = p
after_bytes p (b ∷ bs) = after_bytes (after_byte p b) bs

abbrev pub place_at : List ℕ → ℕ → Place
place_at source offset = record (after_bytes first_place (take offset source)) { at = offset }

abbrev pub placed_at : List ℕ → Option Place → Option Place
placed_at source None = None
placed_at source (Some p) = Some (place_at source p.at)

-- The same refusal; its line and column are those of its offset.
abbrev pub placed : List ℕ → Refusal → Refusal
placed source r = record r { place = placed_at source r.place }
