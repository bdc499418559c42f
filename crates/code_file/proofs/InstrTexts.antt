-- The text of each instruction.
use Rattle.std.proofs.Common.{◌≡◌, ℕ, ℤ, List, refl}
use Rattle.fip_language.specs.declared.Operator.{Operator}
use Rattle.cell_code.specs.declared.code.Instr.TheVariants as I
use Rattle.code_file.specs.Spelling.{◌+++◌, mark, one, two, four, eight}
use Rattle.code_file.specs.CodeText.{list_text, arguments_text, operator_number, instr_text}

pub const_is : (destination : ℕ) (value : ℤ) → instr_text (I.Const destination value) ≡ mark 1 +++ two destination +++ eight value
unfolding instr_text
const_is destination value = refl

pub atom_is : (destination : ℕ) (ty : ℕ) (constructor : ℕ) → instr_text (I.Atom destination ty constructor) ≡ mark 2 +++ two destination +++ two ty +++ four constructor
unfolding instr_text
atom_is destination ty constructor = refl

pub move_is : (destination : ℕ) (source : ℕ) → instr_text (I.Move destination source) ≡ mark 3 +++ two destination +++ two source
unfolding instr_text
move_is destination source = refl

pub arith_is : (destination : ℕ) (operator : Operator) (left : ℕ) (right : ℕ) (line : ℕ) (col : ℕ) → instr_text (I.Arith destination operator left right line col) ≡ mark 4 +++ two destination +++ mark (operator_number operator) +++ two left +++ two right +++ four line +++ four col
unfolding instr_text
arith_is destination operator left right line col = refl

pub test_is : (register : ℕ) (constructor : ℕ) (target : ℕ) → instr_text (I.Test register constructor target) ≡ mark 5 +++ two register +++ four constructor +++ four target
unfolding instr_text
test_is register constructor target = refl

pub test_int_is : (register : ℕ) (value : ℤ) (target : ℕ) → instr_text (I.TestInt register value target) ≡ mark 6 +++ two register +++ eight value +++ four target
unfolding instr_text
test_int_is register value target = refl

pub peek_is : (destination : ℕ) (register : ℕ) (field : ℕ) → instr_text (I.Peek destination register field) ≡ mark 7 +++ two destination +++ two register +++ one field
unfolding instr_text
peek_is destination register field = refl

pub take_is : (register : ℕ) (fields : List ℕ) → instr_text (I.Take register fields) ≡ mark 8 +++ two register +++ list_text fields
unfolding instr_text
take_is register fields = refl

pub put_is : (register : ℕ) (ty : ℕ) (constructor : ℕ) (fields : List ℕ) → instr_text (I.Put register ty constructor fields) ≡ mark 9 +++ two register +++ two ty +++ four constructor +++ list_text fields
unfolding instr_text
put_is register ty constructor fields = refl

pub drop_is : (register : ℕ) → instr_text (I.Drop register) ≡ mark 10 +++ two register
unfolding instr_text
drop_is register = refl

pub free_is : (register : ℕ) → instr_text (I.Free register) ≡ mark 11 +++ two register
unfolding instr_text
free_is register = refl

pub call_is : (function : ℕ) (arguments : List ℕ) (destinations : List ℕ) → instr_text (I.Call function arguments destinations) ≡ mark 12 +++ four function +++ arguments_text arguments +++ list_text destinations
unfolding instr_text
call_is function arguments destinations = refl

pub tail_is : (function : ℕ) (arguments : List ℕ) → instr_text (I.Tail function arguments) ≡ mark 13 +++ four function +++ arguments_text arguments
unfolding instr_text
tail_is function arguments = refl

pub ret_is : (results : List ℕ) → instr_text (I.Ret results) ≡ mark 14 +++ list_text results
unfolding instr_text
ret_is results = refl

pub jump_is : (target : ℕ) → instr_text (I.Jump target) ≡ mark 15 +++ four target
unfolding instr_text
jump_is target = refl
