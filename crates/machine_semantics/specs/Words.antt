-- Words: the 64 bits of a register or of a field. What a word stands for is said by its type.
-- A word of a data type is 2c for the constructor c without fields, an atom, and 2p + 1 for the cell at place p. A word
-- of type int is the int's 64 bits: that of 5 is 5, and that of -1 is 2^64 - 1.
-- The word 3 is the cell at place 1 where its type has cells, and the int 3 where its type is int.
use Rattle.std.specs.Prelude.{ℕ, suc, ◌+◌, ◌-◌, ◌*◌, ◌/◌, ◌%◌, ◌^◌, ℤ, pos, negsuc, Bool, true, false}
use Rattle.std.specs.Prelude.{Option, Some, None, nat_eq, nat_lt, if◌then◌else◌}
use Rattle.cell_code.specs.fip_language.Values.{Value, Int, Node}
use Rattle.cell_code.specs.fip_language.Store.{int_word}

-- the word of the constructor c without fields
abbrev pub atom_word : ℕ → ℕ
atom_word c = 2 * c

-- the word of the cell at place p
abbrev pub place_word : ℕ → ℕ
place_word p = 2 * p + 1

-- whether a word of a data type names a cell
abbrev pub is_place : ℕ → Bool
is_place w = nat_eq (w % 2) 1

abbrev pub half_if : Bool → ℕ → Option ℕ
half_if true w = Some (w / 2)
half_if false w = None

-- the place of the cell that a word of a data type names
abbrev pub place_of : ℕ → Option ℕ
place_of w = half_if (is_place w) w

-- the int of a word of type int
abbrev pub int_of : ℕ → ℤ
int_of w = if nat_lt w (2 ^ 63) then pos w else negsuc (2 ^ 64 - suc w)

-- the word of a value of a scalar type
abbrev pub scalar_word : Value → ℕ
scalar_word (Int i) = int_word i
scalar_word (Node c vs) = atom_word c
