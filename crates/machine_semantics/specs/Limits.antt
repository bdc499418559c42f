-- The limits of the language that runs speak of.
use Rattle.std.specs.Prelude.{ℕ}
use Rattle.cell_code.specs.fip_language.declared.limits.TheConstants.{FRAME_WORDS, MOST_FIELDS}

-- the words of a frame beside its registers
abbrev pub frame_words : ℕ
frame_words = FRAME_WORDS

-- the greatest size of a cell
abbrev pub most_fields : ℕ
most_fields = MOST_FIELDS
