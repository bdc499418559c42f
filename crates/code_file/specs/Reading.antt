-- Scaffolding of private contracts: how a code file is read, a byte after another. A reader takes a byte, as long as it
-- may occur there, and in the end gives a value. No public clause speaks of readers: what they read is said by the
-- texts of `CodeText`.
use Rattle.std.specs.Prelude.{◌≡◌, ℕ, zero, suc, ◌-◌, ℤ, Bool, true, ◌&&◌, ◌||◌, ◌==◌, not, nat_lt, if◌then◌else◌}
use Rattle.std.specs.Prelude.{List, [], ◌∷◌, ◌++◌, length, Option, Some, None, Result, Ok, Err}
use Rattle.std.specs.Int.{w16, w32, w64, from_be_bytes, cast_signed, is_in_range}
use Rattle.fip_language.specs.Character.{is_upper, is_digit, is_letter}
use Rattle.cell_code.specs.declared.code.CodeKind.{CodeKind}
use Rattle.cell_code.specs.declared.code.CodeKind.TheVariants.{Fip, Fbip}
use Rattle.fip_language.specs.declared.Operator.{Operator}
use Rattle.fip_language.specs.declared.Operator.TheVariants as O
use Rattle.fip_language.specs.declared.limits.TheConstants.{MOST_CREDITS, MOST_FIELDS}
use Rattle.fip_language.specs.Table.{Shape, Table}
use Rattle.fip_base.specs.declared.plain.Param.{Param}
use Rattle.cell_code.specs.declared.kind.From.{From}
use Rattle.cell_code.specs.declared.kind.Kind.{Kind}
use Rattle.cell_code.specs.declared.kind.Kind.TheVariants as K
use Rattle.cell_code.specs.declared.code.Instr.{Instr}
use Rattle.cell_code.specs.declared.code.Instr.TheVariants as I
use Rattle.code_file.specs.declared.tags.Version.{Version}
use Rattle.code_file.specs.declared.tags.Version.TheVariants.{First, Second}
use Rattle.code_file.specs.declared.error.ReadStop.{ReadStop}
use Rattle.code_file.specs.declared.error.ReadStop.TheVariants as E
use Rattle.cell_code.specs.declared.code.Code.{Code}
use Rattle.cell_code.specs.Plain.{LabelMap, PlainFunction, PlainCode, plain}
use Rattle.code_file.specs.Spelling.{is_lower, is_keyword}

pub data Reader (A : Type 0) : Type 0 where
  Give : (x : A) → Reader A
  Byte : (may : ℕ → Bool) (next : ℕ → Reader A) → Reader A

infixl 10 ◌>>=◌
abbrev pub ◌>>=◌ : {A B : Type 0} → Reader A → (A → Reader B) → Reader B
(Give x) >>= f = f x
(Byte may next) >>= f = Byte may (λ b. next b >>= f)

-- what is read, and the bytes after it; or how many bytes are left where none fits
pub data Answer (A : Type 0) : Type 0 where
  Got : (x : A) (rest : List ℕ) → Answer A
  Stop : (left : ℕ) → Answer A

abbrev pub read : {A : Type 0} → Reader A → List ℕ → Answer A
read (Give x) bs = Got x bs
read (Byte may next) [] = Stop 0
read (Byte may next) (b ∷ bs) = if may b then read (next b) bs else Stop (suc (length bs))

abbrev pub and_then : {A B : Type 0} → Answer A → (A → List ℕ → Answer B) → Answer B
and_then (Stop left) f = Stop left
and_then (Got x rest) f = f x rest

-- these, and then what is read
abbrev pub with_front : {A : Type 0} → List A → Answer (List A) → Answer (List A)
with_front xs a = and_then a (λ ys rest. Got (xs ++ ys) rest)

-- all of the bytes: none may be left
abbrev pub whole : {A : Type 0} → A → List ℕ → Answer A
whole x [] = Got x []
whole x (b ∷ rest) = Stop (suc (length rest))

abbrev pub read_all : {A : Type 0} → Reader A → List ℕ → Answer A
read_all r bs = and_then (read r bs) whole

-- what a function returned, seen by view, and the bytes that are left to it, are what reading gives
abbrev pub Reads : {X Y : Type 0} → (X → Y) → Result X ReadStop → List ℕ → Answer Y → Type 0
Reads view (Ok x) rest a = a ≡ Got (view x) rest
Reads view (Err E.NoMemory) rest a = Unit {0}
Reads view (Err (E.Left left)) rest a = a ≡ Stop left

abbrev pub same : {X : Type 0} → X → X
same x = x

abbrev pub is_byte : ℕ → Bool
is_byte b = nat_lt b 256

-- a byte for which may holds
unfoldable pub byte : (ℕ → Bool) → Reader ℕ
byte may = Byte may Give

-- any byte
abbrev pub any : Reader ℕ
any = byte is_byte

-- numbers of two, four and eight bytes
unfoldable pub two_reader : Reader ℕ
two_reader = any >>= λ a. any >>= λ b. Give (from_be_bytes w16 (a ∷ b ∷ []))

unfoldable pub four_reader : Reader ℕ
four_reader = any >>= λ a. any >>= λ b. any >>= λ c. any >>= λ d. Give (from_be_bytes w32 (a ∷ b ∷ c ∷ d ∷ []))

unfoldable pub eight_reader : Reader ℤ
eight_reader =
    any >>= λ a. any >>= λ b. any >>= λ c. any >>= λ d. any >>= λ e. any >>= λ f. any >>= λ g. any >>= λ h.
    Give (cast_signed w64 (from_be_bytes w64 (a ∷ b ∷ c ∷ d ∷ e ∷ f ∷ g ∷ h ∷ [])))

-- as many of them
unfoldable pub times : {A : Type 0} → ℕ → Reader A → Reader (List A)
times zero r = Give []
times (suc n) r = r >>= λ x. times n r >>= λ xs. Give (x ∷ xs)

-- a count, and as many of them
abbrev pub counted : {A : Type 0} → Reader ℕ → Reader A → Reader (List A)
counted count r = count >>= λ n. times n r

unfoldable pub list_reader : Reader (List ℕ)
list_reader = counted any two_reader

unfoldable pub arguments_reader : Reader (List ℕ)
arguments_reader = counted two_reader two_reader

unfoldable pub set_reader : Reader (List ℕ)
set_reader = counted two_reader four_reader

-- the length of a name that isn't empty; were all its bytes 0, the last one wouldn't fit
unfoldable pub length_reader : Reader ℕ
length_reader =
    any >>= λ a. any >>= λ b. any >>= λ c.
    byte (λ d. is_byte d && not (from_be_bytes w32 (a ∷ b ∷ c ∷ d ∷ []) == 0)) >>= λ d.
    Give (from_be_bytes w32 (a ∷ b ∷ c ∷ d ∷ []))

abbrev pub is_name_byte : ℕ → Bool
is_name_byte b = is_digit b || is_letter b

unfoldable pub upper_name_reader : Reader (List ℕ)
upper_name_reader =
    length_reader >>= λ n. byte is_upper >>= λ b. times (n - 1) (byte is_name_byte) >>= λ bs. Give (b ∷ bs)

-- Whether a byte may occur in a function's name after others.
abbrev pub may_follow : List ℕ → ℕ → Bool
may_follow [] b = is_lower b
may_follow (c ∷ front) b = is_name_byte b

-- The same where so many come after it: the last one makes no keyword.
abbrev pub may_stand : ℕ → List ℕ → ℕ → Bool
may_stand zero front b = may_follow front b && not (is_keyword (front ++ b ∷ []))
may_stand (suc n) front b = may_follow front b

-- so many bytes more of a function's name
unfoldable pub name_on : ℕ → List ℕ → Reader (List ℕ)
name_on zero front = Give front
name_on (suc n) front = byte (may_stand n front) >>= λ b. name_on n (front ++ b ∷ [])

unfoldable pub function_name_reader : Reader (List ℕ)
function_name_reader = four_reader >>= λ n. name_on n []

unfoldable pub shape_reader : Reader Shape
shape_reader = upper_name_reader >>= λ name. list_reader >>= λ fields. Give (record { name = name; fields = fields })

unfoldable pub type_reader : Reader (List Shape)
type_reader = counted four_reader shape_reader

unfoldable pub table_reader : Reader Table
table_reader = counted two_reader type_reader

abbrev pub register_at : ℕ → Option ℕ
register_at r = if r == 65535 then None else Some r

unfoldable pub register_reader : Reader (Option ℕ)
register_reader = two_reader >>= λ r. Give (register_at r)

abbrev pub from_body : Option ℕ → Reader (Option From)
from_body None = byte (is_in_range 0 0) >>= λ zero_byte. Give None
from_body (Some r) = any >>= λ field. Give (Some (record { register = r; field = field }))

unfoldable pub from_reader : Reader (Option From)
from_reader = register_reader >>= from_body

unfoldable pub owned_reader : Reader Kind
owned_reader = two_reader >>= λ ty. set_reader >>= λ constructors. Give (K.Owned ty constructors)

unfoldable pub lent_reader : Reader Kind
lent_reader =
    two_reader >>= λ ty. set_reader >>= λ constructors. register_reader >>= λ root. from_reader >>= λ from.
    Give (K.Lent ty constructors root from)

unfoldable pub scalar_reader : Reader Kind
scalar_reader = two_reader >>= λ ty. Give (K.Scalar ty)

unfoldable pub credit_reader : Reader Kind
credit_reader = any >>= λ size. Give (K.Credit size)

abbrev pub kind_body : ℕ → Reader Kind
kind_body tag =
    if tag == 0 then Give K.Gone
    else if tag == 1 then owned_reader
    else if tag == 2 then lent_reader
    else if tag == 3 then scalar_reader
    else credit_reader

unfoldable pub kind_reader : Reader Kind
kind_reader = byte (is_in_range 0 4) >>= kind_body

unfoldable pub label_reader : ℕ → Reader LabelMap
label_reader registers =
    four_reader >>= λ at. times registers kind_reader >>= λ kinds. Give (record { at = at; kinds = kinds })

abbrev pub operator_at : ℕ → Operator
operator_at n =
    if n == 0 then O.Add
    else if n == 1 then O.Subtract
    else if n == 2 then O.Multiply
    else if n == 3 then O.Divide
    else if n == 4 then O.Remainder
    else if n == 5 then O.Equal
    else if n == 6 then O.NotEqual
    else if n == 7 then O.Less
    else if n == 8 then O.LessOrEqual
    else if n == 9 then O.Greater
    else O.GreaterOrEqual

unfoldable pub operator_reader : Reader Operator
operator_reader = byte (is_in_range 0 10) >>= λ n. Give (operator_at n)

unfoldable pub const_reader : Reader Instr
const_reader = two_reader >>= λ destination. eight_reader >>= λ value. Give (I.Const destination value)

unfoldable pub atom_reader : Reader Instr
atom_reader =
    two_reader >>= λ destination. two_reader >>= λ ty. four_reader >>= λ constructor.
    Give (I.Atom destination ty constructor)

unfoldable pub move_reader : Reader Instr
move_reader = two_reader >>= λ destination. two_reader >>= λ source. Give (I.Move destination source)

unfoldable pub arith_reader : Reader Instr
arith_reader =
    two_reader >>= λ destination. operator_reader >>= λ operator. two_reader >>= λ left.
    two_reader >>= λ right. four_reader >>= λ line. four_reader >>= λ col.
    Give (I.Arith destination operator left right line col)

unfoldable pub test_reader : Reader Instr
test_reader =
    two_reader >>= λ register. four_reader >>= λ constructor. four_reader >>= λ target.
    Give (I.Test register constructor target)

unfoldable pub test_int_reader : Reader Instr
test_int_reader =
    two_reader >>= λ register. eight_reader >>= λ value. four_reader >>= λ target.
    Give (I.TestInt register value target)

unfoldable pub peek_reader : Reader Instr
peek_reader =
    two_reader >>= λ destination. two_reader >>= λ register. any >>= λ field.
    Give (I.Peek destination register field)

unfoldable pub take_reader : Reader Instr
take_reader = two_reader >>= λ register. list_reader >>= λ fields. Give (I.Take register fields)

unfoldable pub put_reader : Reader Instr
put_reader =
    two_reader >>= λ register. two_reader >>= λ ty. four_reader >>= λ constructor. list_reader >>= λ fields.
    Give (I.Put register ty constructor fields)

unfoldable pub drop_reader : Reader Instr
drop_reader = two_reader >>= λ register. Give (I.Drop register)

unfoldable pub free_reader : Reader Instr
free_reader = two_reader >>= λ register. Give (I.Free register)

unfoldable pub call_reader : Reader Instr
call_reader =
    four_reader >>= λ function. arguments_reader >>= λ arguments. list_reader >>= λ destinations.
    Give (I.Call function arguments destinations)

unfoldable pub tail_reader : Reader Instr
tail_reader = four_reader >>= λ function. arguments_reader >>= λ arguments. Give (I.Tail function arguments)

unfoldable pub ret_reader : Reader Instr
ret_reader = list_reader >>= λ results. Give (I.Ret results)

unfoldable pub jump_reader : Reader Instr
jump_reader = four_reader >>= λ target. Give (I.Jump target)

abbrev pub instr_body : ℕ → Reader Instr
instr_body op =
    if op == 1 then const_reader
    else if op == 2 then atom_reader
    else if op == 3 then move_reader
    else if op == 4 then arith_reader
    else if op == 5 then test_reader
    else if op == 6 then test_int_reader
    else if op == 7 then peek_reader
    else if op == 8 then take_reader
    else if op == 9 then put_reader
    else if op == 10 then drop_reader
    else if op == 11 then free_reader
    else if op == 12 then call_reader
    else if op == 13 then tail_reader
    else if op == 14 then ret_reader
    else jump_reader

unfoldable pub instr_reader : Reader Instr
instr_reader = byte (is_in_range 1 15) >>= instr_body

unfoldable pub code_kind_reader : Reader CodeKind
code_kind_reader = byte (is_in_range 0 1) >>= λ b. Give (if b == 0 then Fip else Fbip)

unfoldable pub param_reader : Reader Param
param_reader = byte (is_in_range 0 1) >>= λ b. two_reader >>= λ ty. Give (record { ty = ty; lent = b == 1 })

unfoldable pub params_reader : Reader (List Param)
params_reader = counted two_reader param_reader

unfoldable pub size_reader : Reader ℕ
size_reader = byte (is_in_range 1 MOST_FIELDS)

unfoldable pub credits_reader : Version → Reader (List ℕ)
credits_reader First = Give []
credits_reader Second = counted (byte (is_in_range 0 MOST_CREDITS)) size_reader

unfoldable pub instrs_reader : Reader (List Instr)
instrs_reader = counted four_reader instr_reader

unfoldable pub labels_reader : ℕ → Reader (List LabelMap)
labels_reader registers = counted four_reader (label_reader registers)

unfoldable pub function_reader : Version → Reader PlainFunction
function_reader version =
    code_kind_reader >>= λ kind. function_name_reader >>= λ name. params_reader >>= λ params.
    credits_reader version >>= λ credits. list_reader >>= λ results. two_reader >>= λ registers.
    instrs_reader >>= λ instrs. labels_reader registers >>= λ labels.
    Give (record {
      kind = kind;
      name = name;
      params = params;
      credits = credits;
      results = results;
      registers = registers;
      instrs = instrs;
      labels = labels;
    })

unfoldable pub functions_reader : Version → Reader (List PlainFunction)
functions_reader version = counted two_reader (function_reader version)

-- just this byte
abbrev pub exactly : ℕ → Reader ℕ
exactly b = byte (is_in_range b b)

unfoldable pub magic_reader : Reader Version
magic_reader =
    exactly 70 >>= λ f. exactly 80 >>= λ p. exactly 50 >>= λ two_sign. exactly 67 >>= λ c. exactly 0 >>= λ high.
    byte (is_in_range 1 2) >>= λ low. Give (if low == 1 then First else Second)

-- the version, and the code
unfoldable pub code_reader : Reader (Version × PlainCode)
code_reader =
    magic_reader >>= λ version. table_reader >>= λ types. functions_reader version >>= λ functions.
    Give (version, record { types = types; functions = functions })

-- what a function returned that reads a whole file
abbrev pub ReadsFile : Result Code ReadStop → List ℕ → Type 0
ReadsFile (Ok c) bs = (version : Version) × (read_all code_reader bs ≡ Got (version, plain c) [])
ReadsFile (Err E.NoMemory) bs = Unit {0}
ReadsFile (Err (E.Left left)) bs = read_all code_reader bs ≡ Stop left
