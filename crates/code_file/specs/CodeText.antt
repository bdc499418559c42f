-- The text of a code: the bytes of its code file, in version 1 or 2, or none where no file encodes it.
--
-- A file is "FP2C", the version, the types after their count, and the functions after theirs. So the code without
-- types and functions is, in version 2, the bytes 46 50 32 43 00 02 00 00 00 00 (in base 16).
use Rattle.std.specs.Prelude.{◌≡◌, ℕ, Bool, true, false, ◌&&◌, ◌==◌, nat_lt, nat_le, codes}
use Rattle.std.specs.Prelude.{List, [], ◌∷◌, length, Option, Some, None}
use Rattle.std.specs.Int.{is_in_range}
use Rattle.cell_code.specs.declared.code.CodeKind.{CodeKind}
use Rattle.cell_code.specs.declared.code.CodeKind.TheVariants.{Fip, Fbip}
use Rattle.fip_language.specs.declared.Operator.{Operator}
use Rattle.fip_language.specs.declared.Operator.TheVariants as O
use Rattle.fip_language.specs.declared.limits.TheConstants.{MOST_CREDITS, MOST_FIELDS}
use Rattle.fip_language.specs.Table.{Shape, Table}
use Rattle.fip_base.specs.declared.plain.Param.{Param}
use Rattle.cell_code.specs.declared.kind.From.{From}
use Rattle.cell_code.specs.declared.kind.Kind.{Kind}
use Rattle.cell_code.specs.declared.kind.Kind.TheVariants as K
use Rattle.cell_code.specs.declared.code.Instr.{Instr}
use Rattle.cell_code.specs.declared.code.Instr.TheVariants as I
use Rattle.code_file.specs.declared.tags.Version.{Version}
use Rattle.code_file.specs.declared.tags.Version.TheVariants.{First, Second}
use Rattle.cell_code.specs.Plain.{LabelMap, PlainFunction, PlainCode}
use Rattle.code_file.specs.Spelling.{◌+++◌, each, only, mark, one, two, four, eight}
use Rattle.code_file.specs.Spelling.{upper_name_text, function_name_text}

-- a list of registers with its count in one byte
unfoldable pub list_text : List ℕ → Option (List ℕ)
list_text registers = one (length registers) +++ each two registers

-- a list of registers with its count in two bytes
unfoldable pub arguments_text : List ℕ → Option (List ℕ)
arguments_text registers = two (length registers) +++ each two registers

-- numbers of types with their count in one byte
unfoldable pub types_text : List ℕ → Option (List ℕ)
types_text types = one (length types) +++ each two types

-- a constructor of a type
unfoldable pub shape_text : Shape → Option (List ℕ)
shape_text shape = upper_name_text shape.name +++ types_text shape.fields

-- a type
unfoldable pub type_text : List Shape → Option (List ℕ)
type_text shapes = four (length shapes) +++ each shape_text shapes

unfoldable pub table_text : Table → Option (List ℕ)
table_text types = two (length types) +++ each type_text types

-- A register that there may not be: none is ffff, so that a register of this number has no text.
unfoldable pub register_text : Option ℕ → Option (List ℕ)
register_text None = Some (255 ∷ 255 ∷ [])
register_text (Some r) = only (nat_lt r 65535) (two r)

-- Where a borrowed word came from: a register and a field. After none comes the field 0.
unfoldable pub from_text : Option From → Option (List ℕ)
from_text None = register_text None +++ mark 0
from_text (Some from) = register_text (Some from.register) +++ one from.field

-- a set of constructors
unfoldable pub set_text : List ℕ → Option (List ℕ)
set_text constructors = two (length constructors) +++ each four constructors

-- what is known of a register
unfoldable pub kind_text : Kind → Option (List ℕ)
kind_text K.Gone = mark 0
kind_text (K.Owned ty constructors) = mark 1 +++ two ty +++ set_text constructors
kind_text (K.Lent ty constructors root from) =
    mark 2 +++ two ty +++ set_text constructors +++ register_text root +++ from_text from
kind_text (K.Scalar ty) = mark 3 +++ two ty
kind_text (K.Credit size) = mark 4 +++ one size

-- a label of a function with so many registers, for each of which it says something
unfoldable pub label_text : ℕ → LabelMap → Option (List ℕ)
label_text registers label =
    only (length label.kinds == registers) (four label.at +++ each kind_text label.kinds)

abbrev pub operator_number : Operator → ℕ
operator_number O.Add = 0
operator_number O.Subtract = 1
operator_number O.Multiply = 2
operator_number O.Divide = 3
operator_number O.Remainder = 4
operator_number O.Equal = 5
operator_number O.NotEqual = 6
operator_number O.Less = 7
operator_number O.LessOrEqual = 8
operator_number O.Greater = 9
operator_number O.GreaterOrEqual = 10

-- an instruction: its op, and its operands
unfoldable pub instr_text : Instr → Option (List ℕ)
instr_text (I.Const destination value) = mark 1 +++ two destination +++ eight value
instr_text (I.Atom destination ty constructor) = mark 2 +++ two destination +++ two ty +++ four constructor
instr_text (I.Move destination source) = mark 3 +++ two destination +++ two source
instr_text (I.Arith destination operator left right line col) =
    mark 4 +++ two destination +++ mark (operator_number operator) +++ two left +++ two right +++ four line +++ four col
instr_text (I.Test register constructor target) = mark 5 +++ two register +++ four constructor +++ four target
instr_text (I.TestInt register value target) = mark 6 +++ two register +++ eight value +++ four target
instr_text (I.Peek destination register field) = mark 7 +++ two destination +++ two register +++ one field
instr_text (I.Take register fields) = mark 8 +++ two register +++ list_text fields
instr_text (I.Put register ty constructor fields) =
    mark 9 +++ two register +++ two ty +++ four constructor +++ list_text fields
instr_text (I.Drop register) = mark 10 +++ two register
instr_text (I.Free register) = mark 11 +++ two register
instr_text (I.Call function arguments destinations) =
    mark 12 +++ four function +++ arguments_text arguments +++ list_text destinations
instr_text (I.Tail function arguments) = mark 13 +++ four function +++ arguments_text arguments
instr_text (I.Ret results) = mark 14 +++ list_text results
instr_text (I.Jump target) = mark 15 +++ four target

-- a function is fip or fbip
abbrev pub code_kind_text : CodeKind → Option (List ℕ)
code_kind_text Fip = mark 0
code_kind_text Fbip = mark 1

abbrev pub lent_text : Bool → Option (List ℕ)
lent_text false = mark 0
lent_text true = mark 1

-- a parameter: whether it is borrowed, and its type
unfoldable pub param_text : Param → Option (List ℕ)
param_text param = lent_text param.lent +++ two param.ty

unfoldable pub params_text : List Param → Option (List ℕ)
params_text params = two (length params) +++ each param_text params

-- the number of a function's credits, at most 16
unfoldable pub credit_count_text : ℕ → Option (List ℕ)
credit_count_text count = only (nat_le count MOST_CREDITS) (mark count)

-- the size of a credit, from 1 to 16
unfoldable pub size_text : ℕ → Option (List ℕ)
size_text size = only (is_in_range 1 MOST_FIELDS size) (mark size)

-- The credits that a function states. In version 1 it states none, and nothing is there.
unfoldable pub credits_text : Version → List ℕ → Option (List ℕ)
credits_text First [] = Some []
credits_text First (size ∷ sizes) = None
credits_text Second sizes = credit_count_text (length sizes) +++ each size_text sizes

unfoldable pub instrs_text : List Instr → Option (List ℕ)
instrs_text instrs = four (length instrs) +++ each instr_text instrs

unfoldable pub labels_text : ℕ → List LabelMap → Option (List ℕ)
labels_text registers labels = four (length labels) +++ each (label_text registers) labels

unfoldable pub function_text : Version → PlainFunction → Option (List ℕ)
function_text version f =
    code_kind_text f.kind +++ function_name_text f.name +++ params_text f.params +++ credits_text version f.credits
    +++ types_text f.results +++ two f.registers +++ instrs_text f.instrs +++ labels_text f.registers f.labels

unfoldable pub functions_text : Version → List PlainFunction → Option (List ℕ)
functions_text version functions = two (length functions) +++ each (function_text version) functions

abbrev pub version_number : Version → ℕ
version_number First = 1
version_number Second = 2

unfoldable pub code_text : Version → PlainCode → Option (List ℕ)
code_text version code =
    Some (codes "FP2C") +++ Some (0 ∷ version_number version ∷ []) +++ table_text code.types
    +++ functions_text version code.functions

-- These bytes encode the code in this version.
abbrev pub CodeText : List ℕ → Version → PlainCode → Type 0
CodeText bytes version code = code_text version code ≡ Some bytes

-- These bytes encode the code in one of the versions.
abbrev pub IsFileOf : List ℕ → PlainCode → Type 0
IsFileOf bytes code = (version : Version) × CodeText bytes version code
