-- The limits that sound code keeps.
use Rattle.std.specs.Prelude.{ℕ}
use Rattle.cell_code.specs.fip_language.declared.limits.TheConstants.{FRAME_WORDS, MOST_CREDITS, MOST_FIELDS}
use Rattle.cell_code.specs.fip_language.declared.limits.TheConstants.{MOST_INSTANCES, MOST_REGISTERS, MOST_RESULTS}

-- of types and of functions there may be as many as there may be instances
abbrev pub most_types : ℕ
most_types = MOST_INSTANCES

abbrev pub most_functions : ℕ
most_functions = MOST_INSTANCES

-- the greatest size of a cell
abbrev pub most_fields : ℕ
most_fields = MOST_FIELDS

abbrev pub most_credits : ℕ
most_credits = MOST_CREDITS

abbrev pub most_results : ℕ
most_results = MOST_RESULTS

abbrev pub most_registers : ℕ
most_registers = MOST_REGISTERS

-- the words of a frame beside its registers
abbrev pub frame_words : ℕ
frame_words = FRAME_WORDS
