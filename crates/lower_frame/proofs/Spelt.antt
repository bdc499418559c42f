-- What has a text: a part at a time.
use Rattle.std.proofs.Common.{◌≡◌, refl, sym, ap, ◌∙◌, subst, arith, ℕ, ℤ, zero, suc, ◌+◌, ◌-◌, ◌<◌, ◌≤◌, List, [], ◌∷◌, ◌++◌, length, length-append, map, take, Bool, true, false, Option, Some, None, get_or, slice_get, slice_set, FitsSigned}
use Rattle.std.specs.Prelude.{is_some, option_map, if◌then◌else◌}
use Rattle.std.specs.Int.{w64}
use Rattle.std.proofs.lemmas.List.{length-map}
use Rattle.std.proofs.lemmas.Option.{slice_get-map}
use Rattle.cell_code.specs.fip_language.declared.Operator.{Operator}
use Rattle.cell_code.specs.declared.kind.From.{From}
use Rattle.cell_code.specs.declared.kind.Kind.{Kind}
use Rattle.cell_code.specs.declared.kind.Kind.TheVariants as K
use Rattle.cell_code.specs.declared.kind.Label.{Label}
use Rattle.cell_code.specs.declared.code.Instr.{Instr}
use Rattle.cell_code.specs.declared.code.Instr.TheVariants as I
use Rattle.cell_code.specs.declared.code.Function.{Function}
use Rattle.cell_code.specs.Plain.{LabelMap, plain_label}
use Rattle.code_file.specs.Spelling.{◌+++◌, each, mark, one, two, four, eight}
use Rattle.code_file.specs.CodeText.{list_text, arguments_text, operator_number, instr_text, kind_text, set_text, register_text, from_text}
use Rattle.code_file.proofs.Numbers.{one_fits, two_fits, four_fits, eight_fits, register_some, register_no}
use Rattle.code_file.proofs.InstrTexts.{const_is, atom_is, move_is, arith_is, test_is, test_int_is, peek_is, take_is, put_is, drop_is, free_is, call_is, tail_is, ret_is, jump_is}
use Rattle.lower_frame.specs.Labels.{stands_at, untold, telling, Rising}
use Rattle.lower_frame.specs.Spelled.{IsSpelt, AreKindsSpelt, AreMapsSpelt, AreInstrsSpelt, AreLabelsSpelt, IsFunctionSpelt, AreSpelt}
use Rattle.fip_base.proofs.fip_language.Facts.{length_set, same_some}

there : (o : Option (List ℕ)) (t : List ℕ) → o ≡ Some t → IsSpelt o
there o t e = ap is_some e

-- one text after another
joined : (a b : Option (List ℕ)) → IsSpelt a → IsSpelt b → IsSpelt (a +++ b)
unfolding ◌+++◌
joined None b h k = absurd (cc)
joined (Some s) None h k = absurd (cc)
joined (Some s) (Some t) h k = refl

from_equal : (a b : Option (List ℕ)) → a ≡ b → IsSpelt b → IsSpelt a
from_equal a b e h = ap is_some e ∙ h

-- numbers

pub one_spelt : (n : ℕ) → n < 256 → IsSpelt (one n)
one_spelt n lt = there (one n) _ (one_fits n lt)

pub two_spelt : (n : ℕ) → n < 65536 → IsSpelt (two n)
two_spelt n lt = there (two n) _ (two_fits n lt)

pub four_spelt : (n : ℕ) → n < 4294967296 → IsSpelt (four n)
four_spelt n lt = there (four n) _ (four_fits n lt)

eight_spelt : (z : ℤ) → FitsSigned w64 z → IsSpelt (eight z)
eight_spelt z fits = there (eight z) _ (eight_fits z fits)

pub ruleset numbers = (two_spelt)

-- lists

twos : (xs : List ℕ) → ((i : ℕ) → get_or xs i 0 < 65536) → IsSpelt (each two xs)
unfolding each
twos [] small = refl
twos (x ∷ xs) small = joined (two x) (each two xs) (two_spelt x (small 0)) (twos xs (λ i. small (suc i)))

fours : (xs : List ℕ) → ((i : ℕ) → get_or xs i 0 < 4294967296) → IsSpelt (each four xs)
unfolding each
fours [] small = refl
fours (x ∷ xs) small = joined (four x) (each four xs) (four_spelt x (small 0)) (fours xs (λ i. small (suc i)))

pub list_spelt : (xs : List ℕ) → length xs < 256 → ((i : ℕ) → get_or xs i 0 < 65536) → IsSpelt (list_text xs)
unfolding list_text
list_spelt xs few small = joined (one (length xs)) (each two xs) (one_spelt (length xs) few) (twos xs small)

pub arguments_spelt : (xs : List ℕ) → length xs < 65536 → ((i : ℕ) → get_or xs i 0 < 65536) → IsSpelt (arguments_text xs)
unfolding arguments_text
arguments_spelt xs few small = joined (two (length xs)) (each two xs) (two_spelt (length xs) few) (twos xs small)

pub set_spelt : (xs : List ℕ) → length xs < 65536 → ((i : ℕ) → get_or xs i 0 < 4294967296) → IsSpelt (set_text xs)
unfolding set_text
set_spelt xs few small = joined (two (length xs)) (each four xs) (two_spelt (length xs) few) (fours xs small)

-- instructions

marked : (b : ℕ) (a : Option (List ℕ)) → IsSpelt a → IsSpelt (mark b +++ a)
marked b a h = joined (mark b) a refl h

pub const_spelt : (destination : ℕ) (value : ℤ) → destination < 65536 → FitsSigned w64 value → IsSpelt (instr_text (I.Const destination value))
const_spelt destination value d v = from_equal _ _ (const_is destination value) (marked 1 _ (joined (two destination) (eight value) (two_spelt destination d) (eight_spelt value v)))

pub atom_spelt : (destination ty constructor : ℕ) → destination < 65536 → IsSpelt (two ty) → constructor < 4294967296 → IsSpelt (instr_text (I.Atom destination ty constructor))
atom_spelt destination ty constructor d t c = from_equal _ _ (atom_is destination ty constructor) (marked 2 _ (joined (two destination) (two ty +++ four constructor) (two_spelt destination d) (joined (two ty) (four constructor) t (four_spelt constructor c))))

pub move_spelt : (destination source : ℕ) → destination < 65536 → source < 65536 → IsSpelt (instr_text (I.Move destination source))
move_spelt destination source d s = from_equal _ _ (move_is destination source) (marked 3 _ (joined (two destination) (two source) (two_spelt destination d) (two_spelt source s)))

pub arith_spelt : (destination : ℕ) (operator : Operator) (left right line col : ℕ) → destination < 65536 → left < 65536 → right < 65536 → line < 4294967296 → col < 4294967296 → IsSpelt (instr_text (I.Arith destination operator left right line col))
arith_spelt destination operator left right line col d l r li co = from_equal _ _ (arith_is destination operator left right line col)
    (marked 4 _ (joined (two destination) (mark (operator_number operator) +++ two left +++ two right +++ four line +++ four col) (two_spelt destination d)
    (marked (operator_number operator) _ (joined (two left) (two right +++ four line +++ four col) (two_spelt left l)
    (joined (two right) (four line +++ four col) (two_spelt right r) (joined (four line) (four col) (four_spelt line li) (four_spelt col co)))))))

pub test_spelt : (register constructor target : ℕ) → register < 65536 → constructor < 4294967296 → target < 4294967296 → IsSpelt (instr_text (I.Test register constructor target))
test_spelt register constructor target r c t = from_equal _ _ (test_is register constructor target) (marked 5 _ (joined (two register) (four constructor +++ four target) (two_spelt register r) (joined (four constructor) (four target) (four_spelt constructor c) (four_spelt target t))))

pub test_int_spelt : (register : ℕ) (value : ℤ) (target : ℕ) → register < 65536 → FitsSigned w64 value → target < 4294967296 → IsSpelt (instr_text (I.TestInt register value target))
test_int_spelt register value target r v t = from_equal _ _ (test_int_is register value target) (marked 6 _ (joined (two register) (eight value +++ four target) (two_spelt register r) (joined (eight value) (four target) (eight_spelt value v) (four_spelt target t))))

pub peek_spelt : (destination register field : ℕ) → destination < 65536 → register < 65536 → field < 256 → IsSpelt (instr_text (I.Peek destination register field))
peek_spelt destination register field d r f = from_equal _ _ (peek_is destination register field) (marked 7 _ (joined (two destination) (two register +++ one field) (two_spelt destination d) (joined (two register) (one field) (two_spelt register r) (one_spelt field f))))

pub take_spelt : (register : ℕ) (fields : List ℕ) → register < 65536 → IsSpelt (list_text fields) → IsSpelt (instr_text (I.Take register fields))
take_spelt register fields r f = from_equal _ _ (take_is register fields) (marked 8 _ (joined (two register) (list_text fields) (two_spelt register r) f))

pub put_spelt : (register ty constructor : ℕ) (fields : List ℕ) → register < 65536 → IsSpelt (two ty) → constructor < 4294967296 → IsSpelt (list_text fields) → IsSpelt (instr_text (I.Put register ty constructor fields))
put_spelt register ty constructor fields r t c f = from_equal _ _ (put_is register ty constructor fields) (marked 9 _ (joined (two register) (two ty +++ four constructor +++ list_text fields) (two_spelt register r) (joined (two ty) (four constructor +++ list_text fields) t (joined (four constructor) (list_text fields) (four_spelt constructor c) f))))

pub drop_spelt : (register : ℕ) → register < 65536 → IsSpelt (instr_text (I.Drop register))
drop_spelt register r = from_equal _ _ (drop_is register) (marked 10 _ (two_spelt register r))

pub free_spelt : (register : ℕ) → register < 65536 → IsSpelt (instr_text (I.Free register))
free_spelt register r = from_equal _ _ (free_is register) (marked 11 _ (two_spelt register r))

pub call_spelt : (function : ℕ) (arguments destinations : List ℕ) → function < 4294967296 → IsSpelt (arguments_text arguments) → IsSpelt (list_text destinations) → IsSpelt (instr_text (I.Call function arguments destinations))
call_spelt function arguments destinations f a d = from_equal _ _ (call_is function arguments destinations) (marked 12 _ (joined (four function) (arguments_text arguments +++ list_text destinations) (four_spelt function f) (joined (arguments_text arguments) (list_text destinations) a d)))

pub tail_spelt : (function : ℕ) (arguments : List ℕ) → function < 4294967296 → IsSpelt (arguments_text arguments) → IsSpelt (instr_text (I.Tail function arguments))
tail_spelt function arguments f a = from_equal _ _ (tail_is function arguments) (marked 13 _ (joined (four function) (arguments_text arguments) (four_spelt function f) a))

pub ret_spelt : (results : List ℕ) → IsSpelt (list_text results) → IsSpelt (instr_text (I.Ret results))
ret_spelt results r = from_equal _ _ (ret_is results) (marked 14 _ r)

pub jump_spelt : (target : ℕ) → target < 4294967296 → IsSpelt (instr_text (I.Jump target))
jump_spelt target t = from_equal _ _ (jump_is target) (marked 15 _ (four_spelt target t))

pub ruleset instructions = (const_spelt, atom_spelt, move_spelt, arith_spelt, test_spelt, test_int_spelt, peek_spelt, take_spelt, put_spelt, drop_spelt, free_spelt, call_spelt, tail_spelt, ret_spelt, jump_spelt)

-- kinds

pub gone_spelt : IsSpelt (kind_text K.Gone)
unfolding kind_text
gone_spelt = refl

pub scalar_spelt : (ty : ℕ) → IsSpelt (two ty) → IsSpelt (kind_text (K.Scalar ty))
unfolding kind_text
scalar_spelt ty t = marked 3 _ t

pub owned_spelt : (ty : ℕ) (constructors : List ℕ) → IsSpelt (two ty) → IsSpelt (set_text constructors) → IsSpelt (kind_text (K.Owned ty constructors))
unfolding kind_text
owned_spelt ty constructors t s = marked 1 _ (joined (two ty) (set_text constructors) t s)

pub lent_spelt : (ty : ℕ) (constructors : List ℕ) (root : Option ℕ) (from : Option From) → IsSpelt (two ty) → IsSpelt (set_text constructors) → IsSpelt (register_text root) → IsSpelt (from_text from) → IsSpelt (kind_text (K.Lent ty constructors root from))
unfolding kind_text
lent_spelt ty constructors root from t s r f = marked 2 _ (joined (two ty) (set_text constructors +++ register_text root +++ from_text from) t (joined (set_text constructors) (register_text root +++ from_text from) s (joined (register_text root) (from_text from) r f)))

pub credit_spelt : (size : ℕ) → size < 256 → IsSpelt (kind_text (K.Credit size))
unfolding kind_text
credit_spelt size s = marked 4 _ (one_spelt size s)

pub no_register_spelt : IsSpelt (register_text None)
no_register_spelt = ap is_some register_no

pub register_spelt : (r : ℕ) → r < 65535 → IsSpelt (register_text (Some r))
register_spelt r lt = from_equal _ _ (register_some r lt) (two_spelt r (omega (arith, lt)))

pub from_none_spelt : IsSpelt (from_text None)
unfolding from_text
from_none_spelt = joined (register_text None) (mark 0) no_register_spelt refl

pub from_some_spelt : (from : From) → from.register < 65535 → from.field < 256 → IsSpelt (from_text (Some from))
unfolding from_text
from_some_spelt from r f = joined (register_text (Some from.register)) (one from.field) (register_spelt from.register r) (one_spelt from.field f)

pub ruleset kinds = (gone_spelt, scalar_spelt, owned_spelt, lent_spelt, credit_spelt, no_register_spelt, register_spelt, from_none_spelt, from_some_spelt)

-- targets in the place of labels

parts : (a b : Option (List ℕ)) → IsSpelt (a +++ b) → IsSpelt a × IsSpelt b
unfolding ◌+++◌
parts None b h = absurd (cc)
parts (Some s) None h = absurd (cc)
parts (Some s) (Some t) h = (refl, refl)

pub test_settled : (register constructor label target : ℕ) → target < 4294967296 → IsSpelt (instr_text (I.Test register constructor label)) → IsSpelt (instr_text (I.Test register constructor target))
test_settled register constructor label target lt h =
    let all : IsSpelt (mark 5 +++ two register +++ four constructor +++ four label) = from_equal _ _ (sym (test_is register constructor label)) h in
    let rest : IsSpelt (two register +++ four constructor +++ four label) = (parts (mark 5) (two register +++ four constructor +++ four label) all).1 in
    let two_parts = parts (two register) (four constructor +++ four label) rest in
    let four_parts = parts (four constructor) (four label) two_parts.1 in
    from_equal _ _ (test_is register constructor target) (marked 5 _ (joined (two register) (four constructor +++ four target) two_parts.0 (joined (four constructor) (four target) four_parts.0 (four_spelt target lt))))

pub test_int_settled : (register : ℕ) (value : ℤ) (label target : ℕ) → target < 4294967296 → IsSpelt (instr_text (I.TestInt register value label)) → IsSpelt (instr_text (I.TestInt register value target))
test_int_settled register value label target lt h =
    let all : IsSpelt (mark 6 +++ two register +++ eight value +++ four label) = from_equal _ _ (sym (test_int_is register value label)) h in
    let rest : IsSpelt (two register +++ eight value +++ four label) = (parts (mark 6) (two register +++ eight value +++ four label) all).1 in
    let two_parts = parts (two register) (eight value +++ four label) rest in
    let eight_parts = parts (eight value) (four label) two_parts.1 in
    from_equal _ _ (test_int_is register value target) (marked 6 _ (joined (two register) (eight value +++ four target) two_parts.0 (joined (eight value) (four target) eight_parts.0 (four_spelt target lt))))

pub ruleset settling = (test_settled, test_int_settled, jump_spelt)

-- all of a list

all_of_more : {A : Type 0} → (P : A → Type 0) (xs : List A) (y : A) → ((i : ℕ) (x : A) → slice_get xs i ≡ Some x → P x) → P y → (i : ℕ) (x : A) → slice_get (xs ++ y ∷ []) i ≡ Some x → P x
all_of_more P [] y h p zero x e = subst P (same_some y x e) p
all_of_more P [] y h p (suc i) x e = absurd (cc)
all_of_more P (z ∷ zs) y h p zero x e = h 0 x e
all_of_more P (z ∷ zs) y h p (suc i) x e = all_of_more P zs y (λ j. h (suc j)) p i x e

all_of_first : {A : Type 0} → (P : A → Type 0) (n : ℕ) (xs : List A) → ((i : ℕ) (x : A) → slice_get xs i ≡ Some x → P x) → (i : ℕ) (x : A) → slice_get (take n xs) i ≡ Some x → P x
all_of_first P zero [] h i x e = absurd (cc)
all_of_first P zero (y ∷ ys) h i x e = absurd (cc)
all_of_first P (suc n) [] h i x e = absurd (cc)
all_of_first P (suc n) (y ∷ ys) h zero x e = h 0 x e
all_of_first P (suc n) (y ∷ ys) h (suc i) x e = all_of_first P n ys (λ j. h (suc j)) i x e

all_but_one : {A : Type 0} → (P : A → Type 0) (xs : List A) (n : ℕ) (y : A) → ((i : ℕ) (x : A) → slice_get xs i ≡ Some x → P x) → P y → (i : ℕ) (x : A) → slice_get (slice_set xs n y) i ≡ Some x → P x
all_but_one P [] n y h p i x e = absurd (cc)
all_but_one P (z ∷ zs) zero y h p zero x e = subst P (same_some y x e) p
all_but_one P (z ∷ zs) zero y h p (suc i) x e = h (suc i) x e
all_but_one P (z ∷ zs) (suc n) y h p zero x e = h 0 x e
all_but_one P (z ∷ zs) (suc n) y h p (suc i) x e = all_but_one P zs n y (λ j. h (suc j)) p i x e

-- instructions of a function

abbrev HasText : Instr → Type 0
HasText x = IsSpelt (instr_text x)

pub none_written : AreInstrsSpelt []
none_written = record { few = omega arith; each = λ i x e. absurd (cc) }

pub instrs_pushed : (is js : List Instr) (x : Instr) → js ≡ is ++ x ∷ [] → length is < 4294967295 → IsSpelt (instr_text x) → AreInstrsSpelt is → AreInstrsSpelt js
instrs_pushed is js x e lt h s = subst AreInstrsSpelt (sym e) (record { few = omega (arith, lt, length-append is (x ∷ [])); each = all_of_more HasText is x s.each h })

pub instrs_set : (is : List Instr) (i : ℕ) (x y : Instr) → slice_get is i ≡ Some x → (IsSpelt (instr_text x) → IsSpelt (instr_text y)) → AreInstrsSpelt is → AreInstrsSpelt (slice_set is i y)
instrs_set is i x y e h s = record { few = omega (arith, s.few, length_set is i y); each = all_but_one HasText is i y s.each (h (s.each i x e)) }

-- label maps of a function

abbrev KindsHaveTexts : LabelMap → Type 0
KindsHaveTexts m = AreKindsSpelt m.kinds

pub none_reported : AreMapsSpelt []
none_reported = record { by = λ i m e. absurd (cc) }

maps_if : (b : Bool) (ms ks : List LabelMap) → AreMapsSpelt ms → AreMapsSpelt ks → AreMapsSpelt (if b then ms else ks)
maps_if true ms ks h k = h
maps_if false ms ks h k = k

untold_spelt : (p : ℕ) (ms : List LabelMap) → AreMapsSpelt ms → AreMapsSpelt (untold p ms)
untold_spelt p ms h = maps_if (stands_at p (slice_get ms (length ms - 1))) (take (length ms - 1) ms) ms (record { by = all_of_first KindsHaveTexts (length ms - 1) ms h.by }) h

telling_spelt : (p : ℕ) (ks : List Kind) (ms : List LabelMap) → AreKindsSpelt ks → AreMapsSpelt ms → AreMapsSpelt (telling p ks ms)
telling_spelt zero ks ms k h = h
telling_spelt (suc p) ks ms k h = record { by = all_of_more KindsHaveTexts (untold (suc p) ms) (record { at = suc p; kinds = ks }) (untold_spelt (suc p) ms h).by k }

pub maps_reported : (p : ℕ) (ks : List Kind) (ls ns : List Label) → map plain_label ns ≡ telling p ks (map plain_label ls) → AreKindsSpelt ks → AreMapsSpelt (map plain_label ls) → AreMapsSpelt (map plain_label ns)
maps_reported p ks ls ns e k h = subst AreMapsSpelt (sym e) (telling_spelt p ks (map plain_label ls) k h)

pub ruleset spelling = (none_written, none_reported, instrs_pushed, maps_reported)

-- in the end: they rise, so there are no more of them than instructions

rising_few : (high low : ℕ) (ms : List LabelMap) → low ≤ high → Rising high low ms → low + length ms ≤ high
rising_few high low [] le r = omega (arith, le)
rising_few high low (m ∷ ms) le r = omega (arith, r.0, rising_few high m.at ms r.1 r.2)

rising_at : (high low : ℕ) (ms : List LabelMap) → Rising high low ms → (i : ℕ) (m : LabelMap) → slice_get ms i ≡ Some m → m.at ≤ high
rising_at high low [] r i m e = absurd (cc)
rising_at high low (k ∷ ms) r zero m e = subst (λ x. x.at ≤ high) (same_some k m e) r.1
rising_at high low (k ∷ ms) r (suc i) m e = rising_at high k.at ms r.2 i m e

map_there : (ls : List Label) (i : ℕ) (l : Label) → slice_get ls i ≡ Some l → slice_get (map plain_label ls) i ≡ Some (plain_label l)
map_there ls i l e = slice_get-map plain_label ls i ∙ ap (option_map plain_label) e

pub labels_spelt : (is : List Instr) (ls : List Label) → AreInstrsSpelt is → Rising (length is) 0 (map plain_label ls) → AreMapsSpelt (map plain_label ls) → AreLabelsSpelt ls
labels_spelt is ls s r h = record {
  few = omega (arith, s.few, rising_few (length is) 0 (map plain_label ls) (omega arith) r, length-map ls plain_label);
  each = λ i l e. (omega (arith, s.few, rising_at (length is) 0 (map plain_label ls) r i (plain_label l) (map_there ls i l e)), h.by i (plain_label l) (map_there ls i l e));
}

-- functions, one after another

pub no_function_spelt : AreSpelt []
no_function_spelt i f e = absurd (cc)

pub function_pushed : (fs gs : List Function) (f : Function) → gs ≡ fs ++ f ∷ [] → IsFunctionSpelt f → AreSpelt fs → AreSpelt gs
function_pushed fs gs f e h s = subst AreSpelt (sym e) (all_of_more IsFunctionSpelt fs f s h)

pub ruleset functions = (no_function_spelt)
