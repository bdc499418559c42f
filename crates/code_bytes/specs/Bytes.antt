-- How many bytes the file of the second version may have of a code of a program, by the registers, the places and the
-- width of each instance that has a function, by the credits that headers mark, and by the names and the types.
--
-- The function of `rev` has at most 6,256 instructions of at most 24 bytes and 136 label maps of at most 130 bytes, and
-- with its header 167,854 bytes. So a source with 99 such functions has a file of at most 16,777,216 bytes.
use Rattle.std.specs.Prelude.{ℕ, ◌+◌, ◌*◌, max, List, [], ◌∷◌, length, if◌then◌else◌}
use Rattle.fip_language.specs.Table.{Shape, Table}
use Rattle.fip_trees.specs.Tree.{Instance, Program}
use Rattle.code_size.specs.Bounds.{most_instructions, most_labels}
use Rattle.lowering_relation.specs.LoweredBodies.{has_function}
use Rattle.tail_groups.specs.Registers.{registers}
use Rattle.code_bytes.specs.Operands.{most_operands}

-- an instruction that lists so many registers
abbrev pub instr_bytes : ℕ → ℕ
instr_bytes operands = 16 + 2 * operands

-- a label map of so many registers, of types with at most n constructors
abbrev pub label_bytes : ℕ → ℕ → ℕ
label_bytes n registers = 4 + registers * (10 + 4 * n)

-- what is before the instructions, with the numbers of instructions and of label maps
abbrev pub header_bytes : Instance → ℕ
header_bytes d = 19 + length d.name + 3 * length d.params + length d.credits + 2 * length d.results

-- the function of an instance, of types with at most n constructors, where an instruction lists so many registers
abbrev pub function_bytes : Table → ℕ → ℕ → Instance → ℕ
function_bytes tb n operands d =
    header_bytes d + most_instructions tb d * instr_bytes operands + most_labels tb d * label_bytes n (registers d)

-- the functions of instances, beside each other of a program
abbrev pub functions_bytes : Table → ℕ → List Instance → List Instance → ℕ
functions_bytes tb n all [] = 0
functions_bytes tb n all (d ∷ ds) =
    (if has_function d.kind then function_bytes tb n (most_operands all d) d else 0) + functions_bytes tb n all ds

-- ---- the types

abbrev pub shape_bytes : Shape → ℕ
shape_bytes s = 5 + length s.name + 2 * length s.fields

abbrev pub row_bytes : List Shape → ℕ
row_bytes [] = 0
row_bytes (s ∷ ss) = shape_bytes s + row_bytes ss

abbrev pub table_bytes : Table → ℕ
table_bytes [] = 0
table_bytes (row ∷ rows) = 4 + row_bytes row + table_bytes rows

-- the most constructors of a type
abbrev pub most_constructors : Table → ℕ
most_constructors [] = 0
most_constructors (row ∷ rows) = max (length row) (most_constructors rows)

-- ---- the program

abbrev pub most_bytes : Program → ℕ
most_bytes p =
    10 + table_bytes p.types + functions_bytes p.types (most_constructors p.types) p.instances p.instances
