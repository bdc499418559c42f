-- The bytes of the pieces of a code file, by what they encode.
-- Idea: each piece has at most so many bytes, and those of two pieces are their sum.
use Rattle.std.proofs.Common.{◌≡◌, ◌∙◌, ◌<◌, ◌≤◌, ◌+◌, ◌-◌, ◌*◌, ◌^◌, ℕ, zero, suc, ℤ, pos, negsuc, max, Bool, true, false, ◌&&◌, not, ◌==◌, nat_lt, List, [], ◌∷◌, ◌++◌, length, map, Option, Some, None, slice_get, if◌then◌else◌, refl, sym, ap, subst, arith, inl, inr, true≢false}
use Rattle.std.proofs.lemmas.Option.{none-some, same_Some}
use Rattle.std.proofs.lemmas.List.{length-append}
use Rattle.std.specs.Int.{w16, w32, w64, to_be_bytes}
use Rattle.cell_code.specs.declared.code.CodeKind.{CodeKind}
use Rattle.cell_code.specs.declared.code.CodeKind.TheVariants.{Fip, Fbip}
use Rattle.fip_language.specs.declared.Operator.{Operator}
use Rattle.fip_language.specs.Table.{Shape, Table, shapes, constructors}
use Rattle.fip_base.specs.declared.plain.Param.{Param}
use Rattle.cell_code.specs.declared.code.Instr.{Instr}
use Rattle.cell_code.specs.declared.code.Instr.TheVariants as I
use Rattle.cell_code.specs.declared.kind.From.{From}
use Rattle.cell_code.specs.declared.kind.Kind.{Kind}
use Rattle.cell_code.specs.declared.kind.Kind.TheVariants as K
use Rattle.code_file.specs.CodeText.{list_text, arguments_text, types_text, shape_text, type_text, table_text, register_text, from_text, set_text, kind_text, label_text, operator_number, instr_text, code_kind_text, lent_text, param_text, params_text, credit_count_text, size_text, credits_text, instrs_text, labels_text, function_text, functions_text, code_text, version_number}
use Rattle.cell_code.specs.Plain.{LabelMap, PlainFunction, PlainCode}
use Rattle.code_file.specs.Spelling.{◌+++◌, each, only, mark, one, two, four, eight, name_text, upper_name_text, function_name_text}
use Rattle.code_file.specs.declared.tags.Version.TheVariants.{Second}
use Rattle.separation_kinds.proofs.Basics.{both, below, below_is, equal, refuted, less_or_not}
use Rattle.code_rules.specs.Headers.{are_rising, is_set, is_good_root, is_good_from, is_good_kind, are_good_kinds, are_good_maps}
use Rattle.code_rules.specs.Types.{count}
use Rattle.code_bytes.specs.Operands.{operands, HaveFew}
use Rattle.code_bytes.specs.Bytes.{instr_bytes, label_bytes, shape_bytes, row_bytes, table_bytes, most_constructors}
pub use Rattle.fip_language.proofs.Facts.{times_le}

-- ---- numbers

-- ---- a text of at most so many bytes

abbrev pub IsShort : Option (List ℕ) → ℕ → Type 0
IsShort o n = (s : List ℕ) → o ≡ Some s → length s ≤ n

pub shorter : (o : Option (List ℕ)) (n m : ℕ) → n ≤ m → IsShort o n → IsShort o m
shorter o n m le h s e = let z = h s e in omega (arith, le, z)

pub together : (a b : Option (List ℕ)) (n m : ℕ) → IsShort a n → IsShort b m → IsShort (a +++ b) (n + m)
unfolding ◌+++◌
together None b n m h k s e = absurd (none-some s e)
together (Some x) None n m h k s e = absurd (none-some s e)
together (Some x) (Some y) n m h k s e =
    let long = h x refl in
    let more = k y refl in
    let all = length-append x y in
    let same = ap length (same_Some (x ++ y) s e) in
    omega (arith, long, more, all, same)

pub all_short : {A : Type 0} (text : A → Option (List ℕ)) (n : ℕ) (xs : List A) → ((i : ℕ) (x : A) → slice_get xs i ≡ Some x → IsShort (text x) n) → IsShort (each text xs) (length xs * n)
unfolding each
all_short text n [] h s e = let z = ap length (same_Some [] s e) in omega (arith, z)
all_short text n (x ∷ xs) h s e =
    let long = together (text x) (each text xs) n (length xs * n) (h 0 x refl) (all_short text n xs (λ i y e. h (suc i) y e)) s e in
    omega (arith, long)

where_true : (b : Bool) (t : Option (List ℕ)) (n : ℕ) → (b ≡ true → IsShort t n) → IsShort (only b t) n
where_true true t n h s e = h refl s e
where_true false t n h s e = absurd (none-some s e)

pub some_short : (t : List ℕ) (n : ℕ) → length t ≤ n → IsShort (Some t) n
some_short t n le s e = let z = ap length (same_Some t s e) in omega (arith, le, z)

mark_short : (b : ℕ) → IsShort (mark b) 1
mark_short b = some_short (b ∷ []) 1 (omega arith)

one_short : (n : ℕ) → IsShort (one n) 1
unfolding one
one_short n = where_true (nat_lt n 256) (Some (n ∷ [])) 1 (λ e. some_short (n ∷ []) 1 (omega arith))

two_short : (n : ℕ) → IsShort (two n) 2
unfolding two
two_short n = where_true (nat_lt n 65536) (Some (to_be_bytes w16 n)) 2 (λ e. some_short (to_be_bytes w16 n) 2 (omega arith))

four_short : (n : ℕ) → IsShort (four n) 4
unfolding four
four_short n = where_true (nat_lt n 4294967296) (Some (to_be_bytes w32 n)) 4 (λ e. some_short (to_be_bytes w32 n) 4 (omega arith))

eight_short : (z : ℤ) → IsShort (eight z) 8
unfolding eight
eight_short (pos n) = where_true (nat_lt n (2 ^ 63)) (Some (to_be_bytes w64 n)) 8 (λ e. some_short (to_be_bytes w64 n) 8 (omega arith))
eight_short (negsuc n) = where_true (nat_lt n (2 ^ 63)) (Some (to_be_bytes w64 (2 ^ 64 - suc n))) 8 (λ e. some_short (to_be_bytes w64 (2 ^ 64 - suc n)) 8 (omega arith))

-- ---- lists and names

twos_short : (ns : List ℕ) → IsShort (each two ns) (length ns * 2)
twos_short ns = all_short two 2 ns (λ i n e. two_short n)

list_short : (rs : List ℕ) → IsShort (list_text rs) (1 + 2 * length rs)
unfolding list_text
list_short rs = shorter (one (length rs) +++ each two rs) (1 + length rs * 2) (1 + 2 * length rs) (omega arith)
    (together (one (length rs)) (each two rs) 1 (length rs * 2) (one_short (length rs)) (twos_short rs))

arguments_short : (rs : List ℕ) → IsShort (arguments_text rs) (2 + 2 * length rs)
unfolding arguments_text
arguments_short rs = shorter (two (length rs) +++ each two rs) (2 + length rs * 2) (2 + 2 * length rs) (omega arith)
    (together (two (length rs)) (each two rs) 2 (length rs * 2) (two_short (length rs)) (twos_short rs))

types_short : (ts : List ℕ) → IsShort (types_text ts) (1 + 2 * length ts)
unfolding types_text
types_short ts = shorter (one (length ts) +++ each two ts) (1 + length ts * 2) (1 + 2 * length ts) (omega arith)
    (together (one (length ts)) (each two ts) 1 (length ts * 2) (one_short (length ts)) (twos_short ts))

name_short : (name : List ℕ) → IsShort (name_text name) (4 + length name)
unfolding name_text
name_short name = together (four (length name)) (Some name) 4 (length name) (four_short (length name)) (some_short name (length name) (omega arith))

upper_short : (name : List ℕ) → IsShort (upper_name_text name) (4 + length name)
unfolding upper_name_text
upper_short name = where_true _ (name_text name) (4 + length name) (λ e. name_short name)

function_name_short : (name : List ℕ) → IsShort (function_name_text name) (4 + length name)
unfolding function_name_text
function_name_short name = where_true _ (name_text name) (4 + length name) (λ e. name_short name)

-- ---- the table

shape_short : (x : Shape) → IsShort (shape_text x) (shape_bytes x)
unfolding shape_text
shape_short x = shorter (upper_name_text x.name +++ types_text x.fields) (4 + length x.name + (1 + 2 * length x.fields)) (shape_bytes x) (omega arith)
    (together (upper_name_text x.name) (types_text x.fields) (4 + length x.name) (1 + 2 * length x.fields) (upper_short x.name) (types_short x.fields))

shapes_short : (row : List Shape) → IsShort (each shape_text row) (row_bytes row)
unfolding each
shapes_short [] = some_short [] 0 (omega arith)
shapes_short (x ∷ row) = together (shape_text x) (each shape_text row) (shape_bytes x) (row_bytes row) (shape_short x) (shapes_short row)

type_short : (row : List Shape) → IsShort (type_text row) (4 + row_bytes row)
unfolding type_text
type_short row = together (four (length row)) (each shape_text row) 4 (row_bytes row) (four_short (length row)) (shapes_short row)

rows_short : (tb : Table) → IsShort (each type_text tb) (table_bytes tb)
unfolding each
rows_short [] = some_short [] 0 (omega arith)
rows_short (row ∷ rows) = together (type_text row) (each type_text rows) (4 + row_bytes row) (table_bytes rows) (type_short row) (rows_short rows)

table_short : (tb : Table) → IsShort (table_text tb) (2 + table_bytes tb)
unfolding table_text
table_short tb = together (two (length tb)) (each type_text tb) 2 (table_bytes tb) (two_short (length tb)) (rows_short tb)

-- ---- instructions

module _ (a b : Option (List ℕ)) (n m : ℕ) (h : IsShort a n) (k : IsShort b m) where
  abbrev with : IsShort (a +++ b) (n + m)
  with = together a b n m h k

instr_short : (x : Instr) → IsShort (instr_text x) (16 + 2 * operands x)
unfolding instr_text
instr_short (I.Const d v) =
    shorter (mark 1 +++ two d +++ eight v) 11 16 (omega arith) (with (mark 1) (two d +++ eight v) 1 10 (mark_short 1) (with (two d) (eight v) 2 8 (two_short d) (eight_short v)))
instr_short (I.Atom d t k) =
    shorter (mark 2 +++ two d +++ two t +++ four k) 9 16 (omega arith)
    (with (mark 2) (two d +++ two t +++ four k) 1 8 (mark_short 2) (with (two d) (two t +++ four k) 2 6 (two_short d) (with (two t) (four k) 2 4 (two_short t) (four_short k))))
instr_short (I.Move d s) =
    shorter (mark 3 +++ two d +++ two s) 5 16 (omega arith) (with (mark 3) (two d +++ two s) 1 4 (mark_short 3) (with (two d) (two s) 2 2 (two_short d) (two_short s)))
instr_short (I.Arith d o a b line col) =
    with (mark 4) (two d +++ mark (operator_number o) +++ two a +++ two b +++ four line +++ four col) 1 15 (mark_short 4)
    (with (two d) (mark (operator_number o) +++ two a +++ two b +++ four line +++ four col) 2 13 (two_short d)
    (with (mark (operator_number o)) (two a +++ two b +++ four line +++ four col) 1 12 (mark_short (operator_number o))
    (with (two a) (two b +++ four line +++ four col) 2 10 (two_short a)
    (with (two b) (four line +++ four col) 2 8 (two_short b)
    (with (four line) (four col) 4 4 (four_short line) (four_short col))))))
instr_short (I.Test r k target) =
    shorter (mark 5 +++ two r +++ four k +++ four target) 11 16 (omega arith)
    (with (mark 5) (two r +++ four k +++ four target) 1 10 (mark_short 5) (with (two r) (four k +++ four target) 2 8 (two_short r) (with (four k) (four target) 4 4 (four_short k) (four_short target))))
instr_short (I.TestInt r v target) =
    shorter (mark 6 +++ two r +++ eight v +++ four target) 15 16 (omega arith)
    (with (mark 6) (two r +++ eight v +++ four target) 1 14 (mark_short 6) (with (two r) (eight v +++ four target) 2 12 (two_short r) (with (eight v) (four target) 8 4 (eight_short v) (four_short target))))
instr_short (I.Peek d r i) =
    shorter (mark 7 +++ two d +++ two r +++ one i) 6 16 (omega arith)
    (with (mark 7) (two d +++ two r +++ one i) 1 5 (mark_short 7) (with (two d) (two r +++ one i) 2 3 (two_short d) (with (two r) (one i) 2 1 (two_short r) (one_short i))))
instr_short (I.Take r ds) =
    shorter (mark 8 +++ two r +++ list_text ds) (1 + (2 + (1 + 2 * length ds))) (16 + 2 * length ds) (omega arith)
    (with (mark 8) (two r +++ list_text ds) 1 (2 + (1 + 2 * length ds)) (mark_short 8) (with (two r) (list_text ds) 2 (1 + 2 * length ds) (two_short r) (list_short ds)))
instr_short (I.Put d t k ss) =
    shorter (mark 9 +++ two d +++ two t +++ four k +++ list_text ss) (1 + (2 + (2 + (4 + (1 + 2 * length ss))))) (16 + 2 * length ss) (omega arith)
    (with (mark 9) (two d +++ two t +++ four k +++ list_text ss) 1 (2 + (2 + (4 + (1 + 2 * length ss)))) (mark_short 9)
    (with (two d) (two t +++ four k +++ list_text ss) 2 (2 + (4 + (1 + 2 * length ss))) (two_short d)
    (with (two t) (four k +++ list_text ss) 2 (4 + (1 + 2 * length ss)) (two_short t)
    (with (four k) (list_text ss) 4 (1 + 2 * length ss) (four_short k) (list_short ss)))))
instr_short (I.Drop r) = shorter (mark 10 +++ two r) 3 16 (omega arith) (with (mark 10) (two r) 1 2 (mark_short 10) (two_short r))
instr_short (I.Free r) = shorter (mark 11 +++ two r) 3 16 (omega arith) (with (mark 11) (two r) 1 2 (mark_short 11) (two_short r))
instr_short (I.Call g rs ds) =
    shorter (mark 12 +++ four g +++ arguments_text rs +++ list_text ds) (1 + (4 + ((2 + 2 * length rs) + (1 + 2 * length ds)))) (16 + 2 * (length rs + length ds)) (omega arith)
    (with (mark 12) (four g +++ arguments_text rs +++ list_text ds) 1 (4 + ((2 + 2 * length rs) + (1 + 2 * length ds))) (mark_short 12)
    (with (four g) (arguments_text rs +++ list_text ds) 4 ((2 + 2 * length rs) + (1 + 2 * length ds)) (four_short g)
    (with (arguments_text rs) (list_text ds) (2 + 2 * length rs) (1 + 2 * length ds) (arguments_short rs) (list_short ds))))
instr_short (I.Tail g rs) =
    shorter (mark 13 +++ four g +++ arguments_text rs) (1 + (4 + (2 + 2 * length rs))) (16 + 2 * length rs) (omega arith)
    (with (mark 13) (four g +++ arguments_text rs) 1 (4 + (2 + 2 * length rs)) (mark_short 13) (with (four g) (arguments_text rs) 4 (2 + 2 * length rs) (four_short g) (arguments_short rs)))
instr_short (I.Ret rs) =
    shorter (mark 14 +++ list_text rs) (1 + (1 + 2 * length rs)) (16 + 2 * length rs) (omega arith)
    (with (mark 14) (list_text rs) 1 (1 + 2 * length rs) (mark_short 14) (list_short rs))
instr_short (I.Jump target) = shorter (mark 15 +++ four target) 5 16 (omega arith) (with (mark 15) (four target) 1 4 (mark_short 15) (four_short target))

instrs_short : (xs : List Instr) (most few : ℕ) → HaveFew most xs → length xs ≤ few → IsShort (instrs_text xs) (4 + few * instr_bytes most)
unfolding instrs_text
instrs_short xs most few h le =
    let grows = times_le (length xs) few (instr_bytes most) le in
    shorter (four (length xs) +++ each instr_text xs) (4 + length xs * instr_bytes most) (4 + few * instr_bytes most) (omega (arith, grows))
    (together (four (length xs)) (each instr_text xs) 4 (length xs * instr_bytes most) (four_short (length xs))
    (all_short instr_text (instr_bytes most) xs (λ i x e. shorter (instr_text x) (16 + 2 * operands x) (instr_bytes most) (let z = h i x e in omega (arith, z)) (instr_short x))))

-- ---- label maps

-- the constructors that a kind names are few
abbrev pub HasFew : ℕ → Kind → Type 0
HasFew n K.Gone = Unit {0}
HasFew n (K.Scalar t) = Unit {0}
HasFew n (K.Owned t cs) = length cs ≤ n
HasFew n (K.Lent t cs root from) = length cs ≤ n
HasFew n (K.Credit k) = Unit {0}

set_short : (cs : List ℕ) (n : ℕ) → length cs ≤ n → IsShort (set_text cs) (2 + 4 * n)
unfolding set_text
set_short cs n le = shorter (two (length cs) +++ each four cs) (2 + length cs * 4) (2 + 4 * n) (omega (arith, le))
    (together (two (length cs)) (each four cs) 2 (length cs * 4) (two_short (length cs)) (all_short four 4 cs (λ i c e. four_short c)))

register_short : (o : Option ℕ) → IsShort (register_text o) 2
unfolding register_text
register_short None = some_short (255 ∷ 255 ∷ []) 2 (omega arith)
register_short (Some r) = where_true (nat_lt r 65535) (two r) 2 (λ e. two_short r)

from_short : (o : Option From) → IsShort (from_text o) 3
unfolding from_text
from_short None = together (register_text None) (mark 0) 2 1 (register_short None) (mark_short 0)
from_short (Some from) = together (register_text (Some from.register)) (one from.field) 2 1 (register_short (Some from.register)) (one_short from.field)

kind_short : (n : ℕ) (k : Kind) → HasFew n k → IsShort (kind_text k) (10 + 4 * n)
unfolding kind_text
kind_short n K.Gone h = shorter (mark 0) 1 (10 + 4 * n) (omega arith) (mark_short 0)
kind_short n (K.Owned t cs) h =
    shorter (mark 1 +++ two t +++ set_text cs) (1 + (2 + (2 + 4 * n))) (10 + 4 * n) (omega arith)
    (with (mark 1) (two t +++ set_text cs) 1 (2 + (2 + 4 * n)) (mark_short 1) (with (two t) (set_text cs) 2 (2 + 4 * n) (two_short t) (set_short cs n h)))
kind_short n (K.Lent t cs root from) h =
    shorter (mark 2 +++ two t +++ set_text cs +++ register_text root +++ from_text from) (1 + (2 + ((2 + 4 * n) + (2 + 3)))) (10 + 4 * n) (omega arith)
    (with (mark 2) (two t +++ set_text cs +++ register_text root +++ from_text from) 1 (2 + ((2 + 4 * n) + (2 + 3))) (mark_short 2)
    (with (two t) (set_text cs +++ register_text root +++ from_text from) 2 ((2 + 4 * n) + (2 + 3)) (two_short t)
    (with (set_text cs) (register_text root +++ from_text from) (2 + 4 * n) (2 + 3) (set_short cs n h)
    (with (register_text root) (from_text from) 2 3 (register_short root) (from_short from)))))
kind_short n (K.Scalar t) h = shorter (mark 3 +++ two t) 3 (10 + 4 * n) (omega arith) (with (mark 3) (two t) 1 2 (mark_short 3) (two_short t))
kind_short n (K.Credit k) h = shorter (mark 4 +++ one k) 2 (10 + 4 * n) (omega arith) (with (mark 4) (one k) 1 1 (mark_short 4) (one_short k))

abbrev pub AllHaveFew : ℕ → List Kind → Type 0
AllHaveFew n ks = (i : ℕ) (k : Kind) → slice_get ks i ≡ Some k → HasFew n k

label_short : (registers n : ℕ) (l : LabelMap) → AllHaveFew n l.kinds → IsShort (label_text registers l) (label_bytes n registers)
unfolding label_text
label_short registers n l h = where_true (length l.kinds == registers) (four l.at +++ each kind_text l.kinds) (label_bytes n registers) (λ e.
    let same = ap (λ m. m * (10 + 4 * n)) (equal (length l.kinds) registers e) in
    shorter (four l.at +++ each kind_text l.kinds) (4 + length l.kinds * (10 + 4 * n)) (label_bytes n registers) (omega (arith, same))
    (together (four l.at) (each kind_text l.kinds) 4 (length l.kinds * (10 + 4 * n)) (four_short l.at)
    (all_short kind_text (10 + 4 * n) l.kinds (λ i k at. kind_short n k (h i k at)))))

abbrev pub LabelsFew : ℕ → List LabelMap → Type 0
LabelsFew n ls = (i : ℕ) (l : LabelMap) → slice_get ls i ≡ Some l → AllHaveFew n l.kinds

labels_short : (registers n few : ℕ) (ls : List LabelMap) → LabelsFew n ls → length ls ≤ few → IsShort (labels_text registers ls) (4 + few * label_bytes n registers)
unfolding labels_text
labels_short registers n few ls h le =
    let grows = times_le (length ls) few (label_bytes n registers) le in
    shorter (four (length ls) +++ each (label_text registers) ls) (4 + length ls * label_bytes n registers) (4 + few * label_bytes n registers) (omega (arith, grows))
    (together (four (length ls)) (each (label_text registers) ls) 4 (length ls * label_bytes n registers) (four_short (length ls))
    (all_short (label_text registers) (label_bytes n registers) ls (λ i l e. label_short registers n l (h i l e))))

-- ---- functions

kind_mark_short : (k : CodeKind) → IsShort (code_kind_text k) 1
kind_mark_short Fip = mark_short 0
kind_mark_short Fbip = mark_short 1

lent_short : (b : Bool) → IsShort (lent_text b) 1
lent_short false = mark_short 0
lent_short true = mark_short 1

params_short : (ps : List Param) → IsShort (params_text ps) (2 + 3 * length ps)
unfolding params_text param_text
params_short ps = shorter (two (length ps) +++ each param_text ps) (2 + length ps * 3) (2 + 3 * length ps) (omega arith)
    (together (two (length ps)) (each param_text ps) 2 (length ps * 3) (two_short (length ps))
    (all_short param_text 3 ps (λ i p e. together (lent_text p.lent) (two p.ty) 1 2 (lent_short p.lent) (two_short p.ty))))

credits_short : (ks : List ℕ) → IsShort (credits_text Second ks) (1 + length ks)
unfolding credits_text credit_count_text size_text
credits_short ks = shorter (credit_count_text (length ks) +++ each size_text ks) (1 + length ks * 1) (1 + length ks) (omega arith)
    (together (credit_count_text (length ks)) (each size_text ks) 1 (length ks * 1) (where_true _ (mark (length ks)) 1 (λ e. mark_short (length ks)))
    (all_short size_text 1 ks (λ i k e. where_true _ (mark k) 1 (λ t. mark_short k))))

-- of a function with so many instructions, operands, label maps and constructors
abbrev pub bytes_for : PlainFunction → ℕ → ℕ → ℕ → ℕ → ℕ
bytes_for f instrs most labels n =
    19 + length f.name + 3 * length f.params + length f.credits + 2 * length f.results
    + instrs * instr_bytes most + labels * label_bytes n f.registers

pub function_short : (f : PlainFunction) (instrs most labels n : ℕ) → HaveFew most f.instrs → length f.instrs ≤ instrs → LabelsFew n f.labels → length f.labels ≤ labels → IsShort (function_text Second f) (bytes_for f instrs most labels n)
unfolding function_text
function_short f instrs most labels n few in_room small fit =
    let a : ℕ = 4 + instrs * instr_bytes most in
    let b : ℕ = 4 + labels * label_bytes n f.registers in
    let e : Option (List ℕ) = instrs_text f.instrs +++ labels_text f.registers f.labels in
    let d : Option (List ℕ) = two f.registers +++ e in
    let c : Option (List ℕ) = types_text f.results +++ d in
    let k : Option (List ℕ) = credits_text Second f.credits +++ c in
    let p : Option (List ℕ) = params_text f.params +++ k in
    let m : Option (List ℕ) = function_name_text f.name +++ p in
    shorter (code_kind_text f.kind +++ m) (1 + ((4 + length f.name) + ((2 + 3 * length f.params) + ((1 + length f.credits) + ((1 + 2 * length f.results) + (2 + (a + b))))))) (bytes_for f instrs most labels n) (omega arith)
    (with (code_kind_text f.kind) m 1 ((4 + length f.name) + ((2 + 3 * length f.params) + ((1 + length f.credits) + ((1 + 2 * length f.results) + (2 + (a + b)))))) (kind_mark_short f.kind)
    (with (function_name_text f.name) p (4 + length f.name) ((2 + 3 * length f.params) + ((1 + length f.credits) + ((1 + 2 * length f.results) + (2 + (a + b))))) (function_name_short f.name)
    (with (params_text f.params) k (2 + 3 * length f.params) ((1 + length f.credits) + ((1 + 2 * length f.results) + (2 + (a + b)))) (params_short f.params)
    (with (credits_text Second f.credits) c (1 + length f.credits) ((1 + 2 * length f.results) + (2 + (a + b))) (credits_short f.credits)
    (with (types_text f.results) d (1 + 2 * length f.results) (2 + (a + b)) (types_short f.results)
    (with (two f.registers) e 2 (a + b) (two_short f.registers)
    (with (instrs_text f.instrs) (labels_text f.registers f.labels) a b (instrs_short f.instrs most instrs few in_room) (labels_short f.registers n labels f.labels small fit))))))))

-- ---- the code

pub code_short : (code : PlainCode) (n : ℕ) → IsShort (each (function_text Second) code.functions) n → IsShort (code_text Second code) (10 + table_bytes code.types + n)
unfolding code_text functions_text
code_short code n h =
    let functions : Option (List ℕ) = two (length code.functions) +++ each (function_text Second) code.functions in
    shorter _ (4 + (2 + ((2 + table_bytes code.types) + (2 + n)))) (10 + table_bytes code.types + n) (omega arith)
    (with (Some (70 ∷ 80 ∷ 50 ∷ 67 ∷ [])) _ 4 (2 + ((2 + table_bytes code.types) + (2 + n))) (some_short (70 ∷ 80 ∷ 50 ∷ 67 ∷ []) 4 (omega arith))
    (with (Some (0 ∷ version_number Second ∷ [])) _ 2 ((2 + table_bytes code.types) + (2 + n)) (some_short (0 ∷ version_number Second ∷ []) 2 (omega arith))
    (with (table_text code.types) functions (2 + table_bytes code.types) (2 + n) (table_short code.types)
    (together (two (length code.functions)) (each (function_text Second) code.functions) 2 n (two_short (length code.functions)) h))))

-- ---- what the rules of sound code say of label maps

rising_few : (n low : ℕ) (ks : List ℕ) → are_rising n low ks ≡ true → low ≤ n → length ks + low ≤ n
rising_few n low [] e le = omega (arith, le)
rising_few n low (k ∷ ks) e le =
    let a = both (not (nat_lt k low)) (nat_lt k n && are_rising n (suc k) ks) e in
    let b = both (nat_lt k n) (are_rising n (suc k) ks) a.1 in
    let under = below k n b.0 in
    let rest = rising_few n (suc k) ks b.1 (omega (arith, under)) in
    let above = not_below k low (refuted (nat_lt k low) a.0) in
    omega (arith, rest, above)
  where
    not_below : (i j : ℕ) → nat_lt i j ≡ false → j ≤ i
    not_below i j e = elim (less_or_not i j) as (λ v. j ≤ i) [
      | inl less ↦ absurd (true≢false (sym (below_is i j less) ∙ e))
      | inr le ↦ le
    ]

most_there : (tb : Table) (t : ℕ) → length (shapes tb t) ≤ most_constructors tb
most_there [] t = omega arith
most_there (row ∷ rows) zero = omega arith
most_there (row ∷ rows) (suc t) = let r = most_there rows t in omega (arith, r)

most_counted : (tb : Table) (t : ℕ) → count tb t ≤ most_constructors tb
most_counted tb zero = omega arith
most_counted tb (suc t) = most_there tb t

set_few : (tb : Table) (t : ℕ) (s : List ℕ) → is_set tb t s ≡ true → length s ≤ most_constructors tb
set_few tb t s e =
    let a = both (not (length s == 0)) (are_rising (count tb t) 0 s) e in
    let few = rising_few (count tb t) 0 s a.1 (omega arith) in
    let all = most_counted tb t in
    omega (arith, few, all)

kind_few : (tb : Table) (ms : List Kind) (j : ℕ) (k : Kind) → is_good_kind tb ms j k ≡ true → HasFew (most_constructors tb) k
kind_few tb ms j K.Gone e = tt
kind_few tb ms j (K.Scalar t) e = tt
kind_few tb ms j (K.Owned t s) e = set_few tb t s e
kind_few tb ms j (K.Lent t s root from) e = set_few tb t s (both (is_set tb t s) (is_good_root ms root && is_good_from tb ms j root from) e).0
kind_few tb ms j (K.Credit k) e = tt

kinds_few : (tb : Table) (ms : List Kind) (j : ℕ) (ks : List Kind) → are_good_kinds tb ms j ks ≡ true → AllHaveFew (most_constructors tb) ks
kinds_few tb ms j [] e i k at = absurd (none-some k at)
kinds_few tb ms j (x ∷ ks) e zero k at = subst (HasFew (most_constructors tb)) (same_Some x k at) (kind_few tb ms j x (both (is_good_kind tb ms j x) (are_good_kinds tb ms (suc j) ks) e).0)
kinds_few tb ms j (x ∷ ks) e (suc i) k at = kinds_few tb ms (suc j) ks (both (is_good_kind tb ms j x) (are_good_kinds tb ms (suc j) ks) e).1 i k at

-- a map that is formed, and those after it
map_parts : (tb : Table) (f : PlainFunction) (low : ℕ) (m : LabelMap) (ms : List LabelMap) → are_good_maps tb f low (m ∷ ms) ≡ true → (are_good_kinds tb m.kinds 0 m.kinds ≡ true) × (are_good_maps tb f m.at ms ≡ true)
map_parts tb f low m ms e =
    let a = both (nat_lt low m.at) (nat_lt m.at (length f.instrs) && ((length m.kinds == f.registers) && (are_good_kinds tb m.kinds 0 m.kinds && are_good_maps tb f m.at ms))) e in
    let b = both (nat_lt m.at (length f.instrs)) ((length m.kinds == f.registers) && (are_good_kinds tb m.kinds 0 m.kinds && are_good_maps tb f m.at ms)) a.1 in
    let d = both (length m.kinds == f.registers) (are_good_kinds tb m.kinds 0 m.kinds && are_good_maps tb f m.at ms) b.1 in
    both (are_good_kinds tb m.kinds 0 m.kinds) (are_good_maps tb f m.at ms) d.1

pub maps_few : (tb : Table) (f : PlainFunction) (low : ℕ) (ls : List LabelMap) → are_good_maps tb f low ls ≡ true → (i : ℕ) (l : LabelMap) → slice_get ls i ≡ Some l → AllHaveFew (most_constructors tb) l.kinds
maps_few tb f low [] e i l at = absurd (none-some l at)
maps_few tb f low (m ∷ ms) e zero l at = subst (λ (x : LabelMap). AllHaveFew (most_constructors tb) x.kinds) (same_Some m l at) (kinds_few tb m.kinds 0 m.kinds (map_parts tb f low m ms e).0)
maps_few tb f low (m ∷ ms) e (suc i) l at = maps_few tb f m.at ms (map_parts tb f low m ms e).1 i l at
