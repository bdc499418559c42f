-- The code of a list's reversal, as it is lowered, and codes that differ from it in one place.
--
-- Type 2 is `data ints { Nil; Cons(int, ints) }`. The function is
-- fip fun rev(xs: ints, acc: ints): ints { match! xs { Nil -> acc; Cons(x, t) -> rev(t, Cons(x, acc)) } }
-- xs is in register 0 and acc in register 1; x and t come into registers 2 and 3. The cell of Cons, which the Take
-- leaves as a credit in register 0, holds the new Cons, and the frame goes on with t and that.
use Rattle.std.specs.Prelude.{◌≡◌, ◌↔◌, ℕ, false, List, [], ◌∷◌, codes, pos}
use Rattle.cell_code.specs.fip_language.Table.{Table, Shape}
use Rattle.cell_code.specs.declared.code.CodeKind.TheVariants.{Fip}
use Rattle.cell_code.specs.fip_base.declared.plain.Param.{Param}
use Rattle.cell_code.specs.declared.code.Instr.{Instr}
use Rattle.cell_code.specs.declared.code.Instr.TheVariants as I
use Rattle.cell_code.specs.declared.kind.Kind.{Kind}
use Rattle.cell_code.specs.declared.kind.Kind.TheVariants.{Gone, Scalar, Owned}
use Rattle.code_rules.specs.declared.rule.SoundRule.{SoundRule}
use Rattle.cell_code.specs.Plain.{LabelMap, PlainFunction, PlainCode}
use Rattle.code_rules.specs.Tables.{bare, bool_shapes}
use Rattle.code_rules.specs.Breaks.{Breaks}

abbrev pub ints : List Shape
ints = bare (codes "Nil") ∷ record { name = codes "Cons"; fields = 0 ∷ 2 ∷ [] } ∷ []

abbrev pub types : Table
types = bool_shapes ∷ ints ∷ []

abbrev pub owned_list : Param
owned_list = record { ty = 2; lent = false }

-- at instruction 3 the list is known to be Cons; this is what else is said of registers 0 and 2
abbrev pub cons_map : List ℕ → Kind → LabelMap
cons_map set two = record {
  at = 3;
  kinds = Owned 2 set ∷ Owned 2 (0 ∷ 1 ∷ []) ∷ two ∷ Gone ∷ Gone ∷ Gone ∷ Gone ∷ [];
}

abbrev pub cons_known : LabelMap
cons_known = cons_map (1 ∷ []) Gone

abbrev pub function_of : List ℕ → List Instr → LabelMap → PlainFunction
function_of results instrs label = record {
  kind = Fip;
  name = codes "rev";
  params = owned_list ∷ owned_list ∷ [];
  credits = [];
  results = results;
  registers = 7;
  instrs = instrs;
  labels = label ∷ [];
}

abbrev pub code_of : Table → PlainFunction → PlainCode
code_of w f = record { types = w; functions = f ∷ [] }

-- its instructions, with those of numbers 1 to 5 to be reported
abbrev pub rev_with : Instr → Instr → Instr → Instr → List Instr → List Instr
rev_with one two three four rest = I.Test 0 0 3 ∷ one ∷ two ∷ three ∷ four ∷ rest

abbrev pub nil_taken : Instr
nil_taken = I.Take 0 []

abbrev pub acc_given : Instr
acc_given = I.Ret (1 ∷ [])

abbrev pub cons_taken : Instr
cons_taken = I.Take 0 (2 ∷ 3 ∷ [])

abbrev pub cons_put : Instr
cons_put = I.Put 0 2 1 (2 ∷ 1 ∷ [])

abbrev pub again : List Instr
again = I.Tail 0 (3 ∷ 0 ∷ []) ∷ []

abbrev pub of_instrs : List Instr → PlainCode
of_instrs instrs = code_of types (function_of (2 ∷ []) instrs cons_known)

abbrev pub reversal : PlainCode
reversal = of_instrs (rev_with nil_taken acc_given cons_taken cons_put again)

-- bool has its constructors the other way round
abbrev pub bool_is_turned : PlainCode
bool_is_turned =
    code_of ((bare (codes "True") ∷ bare (codes "False") ∷ []) ∷ ints ∷ [])
    (function_of (2 ∷ []) (rev_with nil_taken acc_given cons_taken cons_put again) cons_known)

-- a field comes into register 7, which isn't there
abbrev pub takes_past_the_end : PlainCode
takes_past_the_end = of_instrs (rev_with nil_taken acc_given (I.Take 0 (2 ∷ 7 ∷ [])) cons_put again)

-- the list that was taken apart is given
abbrev pub gives_what_is_gone : PlainCode
gives_what_is_gone = of_instrs (rev_with nil_taken (I.Ret (0 ∷ [])) cons_taken cons_put again)

-- the rest of the list is overwritten
abbrev pub puts_into_a_tree : PlainCode
puts_into_a_tree = of_instrs (rev_with nil_taken acc_given cons_taken (I.Put 3 2 1 (2 ∷ 1 ∷ [])) again)

-- nothing follows the Put
abbrev pub has_no_end : PlainCode
has_no_end = of_instrs (rev_with nil_taken acc_given cons_taken cons_put [])

-- the label map promises an int in register 2
abbrev pub promises_an_int : PlainCode
promises_an_int =
    code_of types
    (function_of (2 ∷ []) (rev_with nil_taken acc_given cons_taken cons_put again) (cons_map (1 ∷ []) (Scalar 0)))

-- the list that is Nil is still owned where acc is given
abbrev pub leaves_a_tree : PlainCode
leaves_a_tree = of_instrs (rev_with (I.Const 4 (pos 5)) acc_given cons_taken cons_put again)

-- the list is dropped in a fip function
abbrev pub drops_a_tree : PlainCode
drops_a_tree = of_instrs (rev_with (I.Drop 0) acc_given cons_taken cons_put again)

-- the function waits for itself
abbrev pub waits_for_itself : PlainCode
waits_for_itself =
    of_instrs
    (rev_with nil_taken acc_given cons_taken cons_put (I.Call 0 (3 ∷ 0 ∷ []) (4 ∷ []) ∷ I.Ret (4 ∷ []) ∷ []))

-- the function has no result
abbrev pub has_no_result : PlainCode
has_no_result =
    code_of types (function_of [] (rev_with nil_taken acc_given cons_taken cons_put again) cons_known)

-- The rest of the list is peeked into register 4 before its cell is taken. Taken into register 3, it is Gone in
-- register 4, and moving it from there is refused.
abbrev pub reads_after_a_take : PlainCode
reads_after_a_take =
    of_instrs (rev_with nil_taken acc_given (I.Peek 4 0 1) cons_taken (I.Move 5 4 ∷ cons_put ∷ again))

-- Taken into register 4 itself, it is owned there.
abbrev pub takes_an_heir : PlainCode
takes_an_heir =
    of_instrs
    (rev_with nil_taken acc_given (I.Peek 4 0 1) (I.Take 0 (2 ∷ 4 ∷ [])) (cons_put ∷ I.Tail 0 (4 ∷ 0 ∷ []) ∷ []))

-- The code breaks just this rule, of function 0 at instruction i.
abbrev pub BreaksJust : PlainCode → ℕ → SoundRule → Type 0
BreaksJust c i rule =
    (n j : ℕ) (other : SoundRule) → Breaks c n j other ↔ ((n ≡ 0) × (j ≡ i) × (other ≡ rule))
