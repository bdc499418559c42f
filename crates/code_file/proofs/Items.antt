-- The readers of kinds and instructions read just their texts.
use Rattle.std.proofs.Common.{◌≡◌, ℕ, zero, suc, ◌+◌, ◌<◌, ◌≤◌, List, [], ◌∷◌, ◌++◌, length, Option, Some, None, Bool, true, false, refl, sym, ap, ap₂, ◌∙◌, subst, arith}
use Rattle.std.specs.Prelude.{◌==◌, ◌&&◌, nat_lt, nat_le, if◌then◌else◌}
use Rattle.std.specs.Int.{w16, to_be_bytes, is_in_range}
use Rattle.std.proofs.lemmas.Bool.{leb-true, ltb-true, lt-ltb, eqb-true, eqb-false, eq-eqb}
use Rattle.fip_language.specs.declared.Operator.{Operator}
use Rattle.fip_language.specs.declared.Operator.TheVariants as O
use Rattle.cell_code.specs.declared.kind.From.{From}
use Rattle.cell_code.specs.declared.kind.Kind.{Kind}
use Rattle.cell_code.specs.declared.kind.Kind.TheVariants as K
use Rattle.cell_code.specs.declared.code.Instr.{Instr}
use Rattle.cell_code.specs.declared.code.Instr.TheVariants as I
use Rattle.cell_code.specs.Plain.{LabelMap}
use Rattle.code_file.specs.Spelling.{◌+++◌, each, mark, only, one, two, four, eight}
use Rattle.code_file.specs.CodeText.{list_text, arguments_text, set_text, register_text, from_text, kind_text, label_text, operator_number, instr_text}
use Rattle.code_file.specs.Reading.{Reader, Give, Byte, ◌>>=◌, byte, any, two_reader, four_reader, eight_reader, times, list_reader, arguments_reader, set_reader}
use Rattle.code_file.specs.Reading.{register_at, register_reader, from_body, from_reader, owned_reader, lent_reader, scalar_reader, credit_reader, kind_body, kind_reader, label_reader}
use Rattle.code_file.specs.Reading.{operator_at, operator_reader, instr_body, instr_reader}
use Rattle.code_file.specs.Reading.{const_reader, atom_reader, move_reader, arith_reader, test_reader, test_int_reader, peek_reader, take_reader, put_reader, drop_reader, free_reader, call_reader, tail_reader, ret_reader, jump_reader}
use Rattle.code_file.proofs.Readers.{Takes, Alive, Front, IsField, bind_takes, bind_gives, then_alive, bind_alive, front_join, front_split, takes_times, gives_times, times_alive}
use Rattle.code_file.proofs.Readers.{takes1, gives1, alive1, takes2, gives2, alive2, takes3, gives3, alive3, takes4, gives4, alive4, takes5, gives5, alive5, takes6, gives6, alive6}
use Rattle.code_file.proofs.Fields.{and_both, both_and, front_only, only_front, field_test, field_any, field_two, field_four, field_eight, field_list, field_arguments, field_set}

-- a byte in front of a text
pub front_mark : (b : ℕ) (t : Option (List ℕ)) (bs rest : List ℕ) → Front t bs rest → Front (mark b +++ t) (b ∷ bs) rest
front_mark b t bs rest h = front_join (mark b) t (b ∷ bs) bs rest refl h

-- what is read after a tag
pub tag_takes : {A : Type 0} → (may : ℕ → Bool) (f : ℕ → Reader A) (bs : List ℕ) (y : A) (rest : List ℕ) → Takes (byte may >>= f) bs y rest → (b : ℕ) × (mid : List ℕ) × (may b ≡ true) × (bs ≡ b ∷ mid) × Takes (f b) mid y rest
unfolding byte
tag_takes may f [] y rest h = absurd h
tag_takes may f (b ∷ bs) y rest h = (b, bs, h.0, refl, h.1)

pub tag_gives : {A : Type 0} → (may : ℕ → Bool) (f : ℕ → Reader A) (b : ℕ) (t : Option (List ℕ)) (bs : List ℕ) (y : A) (rest : List ℕ) → may b ≡ true → Front (mark b +++ t) bs rest → ((mid : List ℕ) → Front t mid rest → Takes (f b) mid y rest) → Takes (byte may >>= f) bs y rest
unfolding byte
tag_gives may f b t bs y rest e h g =
    let p = front_split (mark b) t bs rest h in
    subst (λ bs. Takes (byte may >>= f) bs y rest) (sym p.1) (e, g p.0 p.2)

pub tag_alive : {A : Type 0} → (may : ℕ → Bool) (f : ℕ → Reader A) (b : ℕ) → may b ≡ true → ((b : ℕ) → Alive (f b)) → Alive (byte may >>= f)
unfolding byte
tag_alive may f b e g = ((b, e), λ b e. g b)

pub in_range : (lo hi n : ℕ) → is_in_range lo hi n ≡ true → (lo ≤ n) × (n ≤ hi)
in_range lo hi n e = let k = and_both (nat_le lo n) (nat_le n hi) e in (leb-true lo n k.0, leb-true n hi k.1)

-- a register, or none
register_of : (r : ℕ) (b : Bool) → (r == 65535) ≡ b → (bs rest : List ℕ) → Front (two r) bs rest → Front (register_text (if b then None else Some r)) bs rest
unfolding register_text two
register_of r true e bs rest h =
    let k = front_only (nat_lt r 65536) (Some (to_be_bytes w16 r)) bs rest h in
    let is : r ≡ 65535 = eqb-true r 65535 e in
    (front_only (nat_lt 65535 65536) (Some (to_be_bytes w16 65535)) bs rest (subst (λ r. Front (two r) bs rest) is h)).1
register_of r false e bs rest h =
    let k = front_only (nat_lt r 65536) (Some (to_be_bytes w16 r)) bs rest h in
    let lt = ltb-true r 65536 k.0 in
    let n = eqb-false r 65535 e in
    only_front (nat_lt r 65535) (two r) bs rest (lt-ltb r 65535 (omega (arith, n))) h

register_takes : (bs : List ℕ) (y : Option ℕ) (rest : List ℕ) → Takes register_reader bs y rest → Front (register_text y) bs rest
unfolding register_reader
register_takes bs y rest h =
    let k = takes1 two_reader two field_two register_at bs y rest h in
    subst (λ y. Front (register_text y) bs rest) k.1 (register_of k.0 (k.0 == 65535) refl bs rest k.2)

register_at_some : (r : ℕ) (b : Bool) → (r == 65535) ≡ b → r < 65535 → (if b then None else Some r) ≡ Some r
register_at_some r true e lt = let k = eqb-true r 65535 e in absurd (omega arith)
register_at_some r false e lt = refl

no_register : (bs rest : List ℕ) → bs ≡ 255 ∷ 255 ∷ rest → Front (two 65535) bs rest
unfolding two
no_register bs rest h = h

register_gives : (bs : List ℕ) (y : Option ℕ) (rest : List ℕ) → Front (register_text y) bs rest → Takes register_reader bs y rest
unfolding register_reader register_text
register_gives bs None rest h = gives1 two_reader two field_two register_at 65535 bs rest (no_register bs rest h)
register_gives bs (Some r) rest h =
    let k = front_only (nat_lt r 65535) (two r) bs rest h in
    let lt = ltb-true r 65535 k.0 in
    subst (λ y. Takes (two_reader >>= λ r. Give (register_at r)) bs y rest) (register_at_some r (r == 65535) refl lt)
    (gives1 two_reader two field_two register_at r bs rest k.1)

register_alive : Alive register_reader
unfolding register_reader
register_alive = alive1 two_reader two field_two register_at

pub field_register : IsField register_reader register_text
field_register = record { takes = register_takes; gives = register_gives; alive = register_alive }

-- where a borrowed word came from
zero_is : (b : ℕ) → is_in_range 0 0 b ≡ true → b ≡ 0
zero_is b e = let k = in_range 0 0 b e in omega (arith, k.1)

from_after : (root : Option ℕ) (bs mid : List ℕ) (y : Option From) (rest : List ℕ) → Front (register_text root) bs mid → Takes (from_body root) mid y rest → Front (from_text y) bs rest
unfolding from_text
from_after None bs mid y rest f h =
    let p = tag_takes (is_in_range 0 0) (λ z. Give None) mid y rest h in
    let e = p.4 in
    subst (λ y. Front (from_text y) bs rest) e.1
    (front_join (register_text None) (mark 0) bs mid rest f (p.3 ∙ ap₂ (λ b r. b ∷ r) (zero_is p.0 p.2) e.0))
from_after (Some r) bs mid y rest f h =
    let k = takes1 any one field_any (λ field. Some (record { register = r; field = field })) mid y rest h in
    subst (λ y. Front (from_text y) bs rest) k.1 (front_join (register_text (Some r)) (one k.0) bs mid rest f k.2)

from_takes : (bs : List ℕ) (y : Option From) (rest : List ℕ) → Takes from_reader bs y rest → Front (from_text y) bs rest
unfolding from_reader
from_takes bs y rest h =
    let p = bind_takes register_reader from_body bs y rest h in
    from_after p.0 bs p.1 y rest (register_takes bs p.0 p.1 p.2) p.3

from_gives : (bs : List ℕ) (y : Option From) (rest : List ℕ) → Front (from_text y) bs rest → Takes from_reader bs y rest
unfolding from_reader from_text byte
from_gives bs None rest h =
    let p = front_split (register_text None) (mark 0) bs rest h in
    bind_gives register_reader from_body bs p.0 None None rest (register_gives bs None p.0 p.1)
    (subst (λ m. Takes (from_body None) m None rest) (sym p.2) (refl, (refl, refl)))
from_gives bs (Some from) rest h =
    let p = front_split (register_text (Some from.register)) (one from.field) bs rest h in
    bind_gives register_reader from_body bs p.0 (Some from.register) (Some from) rest (register_gives bs (Some from.register) p.0 p.1)
    (gives1 any one field_any (λ field. Some (record { register = from.register; field = field })) from.field p.0 rest p.2)

from_body_alive : (r : Option ℕ) → Alive (from_body r)
from_body_alive None = tag_alive (is_in_range 0 0) (λ z. Give None) 0 refl (λ b. tt)
from_body_alive (Some r) = alive1 any one field_any (λ field. Some (record { register = r; field = field }))

from_alive : Alive from_reader
unfolding from_reader
from_alive = then_alive register_reader from_body register_alive from_body_alive

pub field_from : IsField from_reader from_text
field_from = record { takes = from_takes; gives = from_gives; alive = from_alive }

-- kinds
kind_of : (tag : ℕ) → tag ≤ 4 → (bs : List ℕ) (y : Kind) (rest : List ℕ) → Takes (kind_body tag) bs y rest → Front (kind_text y) (tag ∷ bs) rest
unfolding kind_text owned_reader lent_reader scalar_reader credit_reader
kind_of zero le bs y rest h = subst (λ y. Front (kind_text y) (0 ∷ bs) rest) h.1 (ap (λ r. 0 ∷ r) h.0)
kind_of (suc zero) le bs y rest h =
    let k = takes2 two_reader two field_two set_reader set_text field_set K.Owned bs y rest h in
    subst (λ y. Front (kind_text y) (1 ∷ bs) rest) k.2 (front_mark 1 (two k.0 +++ set_text k.1) bs rest k.3)
kind_of (suc (suc zero)) le bs y rest h =
    let k = takes4 two_reader two field_two set_reader set_text field_set register_reader register_text field_register from_reader from_text field_from K.Lent bs y rest h in
    subst (λ y. Front (kind_text y) (2 ∷ bs) rest) k.4 (front_mark 2 (two k.0 +++ set_text k.1 +++ register_text k.2 +++ from_text k.3) bs rest k.5)
kind_of (suc (suc (suc zero))) le bs y rest h =
    let k = takes1 two_reader two field_two K.Scalar bs y rest h in
    subst (λ y. Front (kind_text y) (3 ∷ bs) rest) k.1 (front_mark 3 (two k.0) bs rest k.2)
kind_of (suc (suc (suc (suc zero)))) le bs y rest h =
    let k = takes1 any one field_any K.Credit bs y rest h in
    subst (λ y. Front (kind_text y) (4 ∷ bs) rest) k.1 (front_mark 4 (one k.0) bs rest k.2)
kind_of (suc (suc (suc (suc (suc tag))))) le bs y rest h = absurd (omega arith)

kind_takes : (bs : List ℕ) (y : Kind) (rest : List ℕ) → Takes kind_reader bs y rest → Front (kind_text y) bs rest
unfolding kind_reader
kind_takes bs y rest h =
    let p = tag_takes (is_in_range 0 4) kind_body bs y rest h in
    subst (λ bs. Front (kind_text y) bs rest) (sym p.3) (kind_of p.0 (in_range 0 4 p.0 p.2).1 p.1 y rest p.4)

kind_gives : (bs : List ℕ) (y : Kind) (rest : List ℕ) → Front (kind_text y) bs rest → Takes kind_reader bs y rest
unfolding kind_reader kind_text owned_reader lent_reader scalar_reader credit_reader byte
kind_gives bs K.Gone rest h = subst (λ bs. Takes (byte (is_in_range 0 4) >>= kind_body) bs K.Gone rest) (sym h) (refl, (refl, refl))
kind_gives bs (K.Owned t s) rest h = tag_gives (is_in_range 0 4) kind_body 1 (two t +++ set_text s) bs (K.Owned t s) rest refl h
    (λ mid f. gives2 two_reader two field_two set_reader set_text field_set K.Owned t s mid rest f)
kind_gives bs (K.Lent t s root from) rest h = tag_gives (is_in_range 0 4) kind_body 2 (two t +++ set_text s +++ register_text root +++ from_text from) bs (K.Lent t s root from) rest refl h
    (λ mid f. gives4 two_reader two field_two set_reader set_text field_set register_reader register_text field_register from_reader from_text field_from K.Lent t s root from mid rest f)
kind_gives bs (K.Scalar t) rest h = tag_gives (is_in_range 0 4) kind_body 3 (two t) bs (K.Scalar t) rest refl h
    (λ mid f. gives1 two_reader two field_two K.Scalar t mid rest f)
kind_gives bs (K.Credit n) rest h = tag_gives (is_in_range 0 4) kind_body 4 (one n) bs (K.Credit n) rest refl h
    (λ mid f. gives1 any one field_any K.Credit n mid rest f)

if_alive : {A : Type 0} → (b : Bool) (r s : Reader A) → Alive r → Alive s → Alive (if b then r else s)
if_alive true r s a c = a
if_alive false r s a c = c

owned_alive : Alive owned_reader
unfolding owned_reader
owned_alive = alive2 two_reader two field_two set_reader set_text field_set K.Owned

lent_alive : Alive lent_reader
unfolding lent_reader
lent_alive = alive4 two_reader two field_two set_reader set_text field_set register_reader register_text field_register from_reader from_text field_from K.Lent

scalar_alive : Alive scalar_reader
unfolding scalar_reader
scalar_alive = alive1 two_reader two field_two K.Scalar

credit_alive : Alive credit_reader
unfolding credit_reader
credit_alive = alive1 any one field_any K.Credit

kind_body_alive : (tag : ℕ) → Alive (kind_body tag)
kind_body_alive tag =
    if_alive (tag == 0) (Give K.Gone) _ tt (if_alive (tag == 1) owned_reader _ owned_alive (if_alive (tag == 2) lent_reader _ lent_alive
    (if_alive (tag == 3) scalar_reader credit_reader scalar_alive credit_alive)))

kind_alive : Alive kind_reader
unfolding kind_reader
kind_alive = tag_alive (is_in_range 0 4) kind_body 0 refl kind_body_alive

pub field_kind : IsField kind_reader kind_text
field_kind = record { takes = kind_takes; gives = kind_gives; alive = kind_alive }

-- labels
label_takes : (registers : ℕ) (bs : List ℕ) (y : LabelMap) (rest : List ℕ) → Takes (label_reader registers) bs y rest → Front (label_text registers y) bs rest
unfolding label_reader label_text
label_takes registers bs y rest h =
    let p = bind_takes four_reader (λ at. times registers kind_reader >>= λ kinds. Give (record { at = at; kinds = kinds })) bs y rest h in
    let q = bind_takes (times registers kind_reader) (λ kinds. Give (record { at = p.0; kinds = kinds })) p.1 y rest p.3 in
    let t = takes_times kind_reader kind_text field_kind registers p.1 q.0 q.1 q.2 in
    let e = q.3 in
    subst (λ (y : LabelMap). Front (only (length y.kinds == registers) (four y.at +++ each kind_text y.kinds)) bs rest) e.1
    (only_front (length q.0 == registers) (four p.0 +++ each kind_text q.0) bs rest (eq-eqb (length q.0) registers t.1)
    (front_join (four p.0) (each kind_text q.0) bs p.1 rest (field_four.takes bs p.0 p.1 p.2) (subst (λ m. Front (each kind_text q.0) p.1 m) e.0 t.0)))

label_gives : (registers : ℕ) (bs : List ℕ) (y : LabelMap) (rest : List ℕ) → Front (label_text registers y) bs rest → Takes (label_reader registers) bs y rest
unfolding label_reader label_text
label_gives registers bs y rest h =
    let k = front_only (length y.kinds == registers) (four y.at +++ each kind_text y.kinds) bs rest h in
    let p = front_split (four y.at) (each kind_text y.kinds) bs rest k.1 in
    bind_gives four_reader (λ at. times registers kind_reader >>= λ kinds. Give (record { at = at; kinds = kinds })) bs p.0 y.at y rest (field_four.gives bs y.at p.0 p.1)
    (bind_gives (times registers kind_reader) (λ kinds. Give (record { at = y.at; kinds = kinds })) p.0 rest y.kinds y rest
    (gives_times kind_reader kind_text field_kind registers p.0 y.kinds rest (eqb-true (length y.kinds) registers k.0) p.2) (refl, refl))

label_alive : (registers : ℕ) → Alive (label_reader registers)
unfolding label_reader
label_alive registers = then_alive four_reader (λ at. times registers kind_reader >>= λ kinds. Give (record { at = at; kinds = kinds })) field_four.alive (λ at.
    then_alive (times registers kind_reader) (λ kinds. Give (record { at = at; kinds = kinds })) (times_alive kind_reader kind_text field_kind registers) (λ kinds. tt))

pub field_label : (registers : ℕ) → IsField (label_reader registers) (label_text registers)
field_label registers = record { takes = label_takes registers; gives = label_gives registers; alive = label_alive registers }

-- operators
abbrev operator_text : Operator → Option (List ℕ)
operator_text o = mark (operator_number o)

operator_again : (n : ℕ) → n ≤ 10 → operator_number (operator_at n) ≡ n
operator_again zero le = refl
operator_again (suc zero) le = refl
operator_again (suc (suc zero)) le = refl
operator_again (suc (suc (suc zero))) le = refl
operator_again (suc (suc (suc (suc zero)))) le = refl
operator_again (suc (suc (suc (suc (suc zero))))) le = refl
operator_again (suc (suc (suc (suc (suc (suc zero)))))) le = refl
operator_again (suc (suc (suc (suc (suc (suc (suc zero))))))) le = refl
operator_again (suc (suc (suc (suc (suc (suc (suc (suc zero)))))))) le = refl
operator_again (suc (suc (suc (suc (suc (suc (suc (suc (suc zero))))))))) le = refl
operator_again (suc (suc (suc (suc (suc (suc (suc (suc (suc (suc zero)))))))))) le = refl
operator_again (suc (suc (suc (suc (suc (suc (suc (suc (suc (suc (suc n))))))))))) le = absurd (omega arith)

operator_back : (o : Operator) → operator_at (operator_number o) ≡ o
operator_back O.Add = refl
operator_back O.Subtract = refl
operator_back O.Multiply = refl
operator_back O.Divide = refl
operator_back O.Remainder = refl
operator_back O.Equal = refl
operator_back O.NotEqual = refl
operator_back O.Less = refl
operator_back O.LessOrEqual = refl
operator_back O.Greater = refl
operator_back O.GreaterOrEqual = refl

operator_small : (o : Operator) → is_in_range 0 10 (operator_number o) ≡ true
operator_small O.Add = refl
operator_small O.Subtract = refl
operator_small O.Multiply = refl
operator_small O.Divide = refl
operator_small O.Remainder = refl
operator_small O.Equal = refl
operator_small O.NotEqual = refl
operator_small O.Less = refl
operator_small O.LessOrEqual = refl
operator_small O.Greater = refl
operator_small O.GreaterOrEqual = refl

operator_takes : (bs : List ℕ) (y : Operator) (rest : List ℕ) → Takes operator_reader bs y rest → Front (operator_text y) bs rest
unfolding operator_reader
operator_takes bs y rest h =
    let p = tag_takes (is_in_range 0 10) (λ n. Give (operator_at n)) bs y rest h in
    let e = p.4 in
    subst (λ y. Front (operator_text y) bs rest) e.1
    (p.3 ∙ ap₂ (λ b r. b ∷ r) (sym (operator_again p.0 (in_range 0 10 p.0 p.2).1)) e.0)

operator_gives : (bs : List ℕ) (y : Operator) (rest : List ℕ) → Front (operator_text y) bs rest → Takes operator_reader bs y rest
unfolding operator_reader byte
operator_gives bs y rest h =
    subst (λ bs. Takes (byte (is_in_range 0 10) >>= λ n. Give (operator_at n)) bs y rest) (sym h) (operator_small y, (refl, operator_back y))

operator_alive : Alive operator_reader
unfolding operator_reader
operator_alive = tag_alive (is_in_range 0 10) (λ n. Give (operator_at n)) 0 refl (λ n. tt)

field_operator : IsField operator_reader operator_text
field_operator = record { takes = operator_takes; gives = operator_gives; alive = operator_alive }

-- instructions
instr_of : (op : ℕ) → 1 ≤ op → op ≤ 15 → (bs : List ℕ) (y : Instr) (rest : List ℕ) → Takes (instr_body op) bs y rest → Front (instr_text y) (op ∷ bs) rest
unfolding instr_text const_reader atom_reader move_reader arith_reader test_reader test_int_reader peek_reader take_reader put_reader drop_reader free_reader call_reader tail_reader ret_reader jump_reader
instr_of zero ge le bs y rest h = absurd (omega arith)
instr_of (suc zero) ge le bs y rest h =
    let k = takes2 two_reader two field_two eight_reader eight field_eight I.Const bs y rest h in
    subst (λ y. Front (instr_text y) (1 ∷ bs) rest) k.2 (front_mark 1 (two k.0 +++ eight k.1) bs rest k.3)
instr_of (suc (suc zero)) ge le bs y rest h =
    let k = takes3 two_reader two field_two two_reader two field_two four_reader four field_four I.Atom bs y rest h in
    subst (λ y. Front (instr_text y) (2 ∷ bs) rest) k.3 (front_mark 2 (two k.0 +++ two k.1 +++ four k.2) bs rest k.4)
instr_of (suc (suc (suc zero))) ge le bs y rest h =
    let k = takes2 two_reader two field_two two_reader two field_two I.Move bs y rest h in
    subst (λ y. Front (instr_text y) (3 ∷ bs) rest) k.2 (front_mark 3 (two k.0 +++ two k.1) bs rest k.3)
instr_of (suc (suc (suc (suc zero)))) ge le bs y rest h =
    let k = takes6 two_reader two field_two operator_reader operator_text field_operator two_reader two field_two two_reader two field_two four_reader four field_four four_reader four field_four I.Arith bs y rest h in
    subst (λ y. Front (instr_text y) (4 ∷ bs) rest) k.6 (front_mark 4 (two k.0 +++ operator_text k.1 +++ two k.2 +++ two k.3 +++ four k.4 +++ four k.5) bs rest k.7)
instr_of (suc (suc (suc (suc (suc zero))))) ge le bs y rest h =
    let k = takes3 two_reader two field_two four_reader four field_four four_reader four field_four I.Test bs y rest h in
    subst (λ y. Front (instr_text y) (5 ∷ bs) rest) k.3 (front_mark 5 (two k.0 +++ four k.1 +++ four k.2) bs rest k.4)
instr_of (suc (suc (suc (suc (suc (suc zero)))))) ge le bs y rest h =
    let k = takes3 two_reader two field_two eight_reader eight field_eight four_reader four field_four I.TestInt bs y rest h in
    subst (λ y. Front (instr_text y) (6 ∷ bs) rest) k.3 (front_mark 6 (two k.0 +++ eight k.1 +++ four k.2) bs rest k.4)
instr_of (suc (suc (suc (suc (suc (suc (suc zero))))))) ge le bs y rest h =
    let k = takes3 two_reader two field_two two_reader two field_two any one field_any I.Peek bs y rest h in
    subst (λ y. Front (instr_text y) (7 ∷ bs) rest) k.3 (front_mark 7 (two k.0 +++ two k.1 +++ one k.2) bs rest k.4)
instr_of (suc (suc (suc (suc (suc (suc (suc (suc zero)))))))) ge le bs y rest h =
    let k = takes2 two_reader two field_two list_reader list_text field_list I.Take bs y rest h in
    subst (λ y. Front (instr_text y) (8 ∷ bs) rest) k.2 (front_mark 8 (two k.0 +++ list_text k.1) bs rest k.3)
instr_of (suc (suc (suc (suc (suc (suc (suc (suc (suc zero))))))))) ge le bs y rest h =
    let k = takes4 two_reader two field_two two_reader two field_two four_reader four field_four list_reader list_text field_list I.Put bs y rest h in
    subst (λ y. Front (instr_text y) (9 ∷ bs) rest) k.4 (front_mark 9 (two k.0 +++ two k.1 +++ four k.2 +++ list_text k.3) bs rest k.5)
instr_of (suc (suc (suc (suc (suc (suc (suc (suc (suc (suc zero)))))))))) ge le bs y rest h =
    let k = takes1 two_reader two field_two I.Drop bs y rest h in
    subst (λ y. Front (instr_text y) (10 ∷ bs) rest) k.1 (front_mark 10 (two k.0) bs rest k.2)
instr_of (suc (suc (suc (suc (suc (suc (suc (suc (suc (suc (suc zero))))))))))) ge le bs y rest h =
    let k = takes1 two_reader two field_two I.Free bs y rest h in
    subst (λ y. Front (instr_text y) (11 ∷ bs) rest) k.1 (front_mark 11 (two k.0) bs rest k.2)
instr_of (suc (suc (suc (suc (suc (suc (suc (suc (suc (suc (suc (suc zero)))))))))))) ge le bs y rest h =
    let k = takes3 four_reader four field_four arguments_reader arguments_text field_arguments list_reader list_text field_list I.Call bs y rest h in
    subst (λ y. Front (instr_text y) (12 ∷ bs) rest) k.3 (front_mark 12 (four k.0 +++ arguments_text k.1 +++ list_text k.2) bs rest k.4)
instr_of (suc (suc (suc (suc (suc (suc (suc (suc (suc (suc (suc (suc (suc zero))))))))))))) ge le bs y rest h =
    let k = takes2 four_reader four field_four arguments_reader arguments_text field_arguments I.Tail bs y rest h in
    subst (λ y. Front (instr_text y) (13 ∷ bs) rest) k.2 (front_mark 13 (four k.0 +++ arguments_text k.1) bs rest k.3)
instr_of (suc (suc (suc (suc (suc (suc (suc (suc (suc (suc (suc (suc (suc (suc zero)))))))))))))) ge le bs y rest h =
    let k = takes1 list_reader list_text field_list I.Ret bs y rest h in
    subst (λ y. Front (instr_text y) (14 ∷ bs) rest) k.1 (front_mark 14 (list_text k.0) bs rest k.2)
instr_of (suc (suc (suc (suc (suc (suc (suc (suc (suc (suc (suc (suc (suc (suc (suc zero))))))))))))))) ge le bs y rest h =
    let k = takes1 four_reader four field_four I.Jump bs y rest h in
    subst (λ y. Front (instr_text y) (15 ∷ bs) rest) k.1 (front_mark 15 (four k.0) bs rest k.2)
instr_of (suc (suc (suc (suc (suc (suc (suc (suc (suc (suc (suc (suc (suc (suc (suc (suc op)))))))))))))))) ge le bs y rest h = absurd (omega arith)

instr_takes : (bs : List ℕ) (y : Instr) (rest : List ℕ) → Takes instr_reader bs y rest → Front (instr_text y) bs rest
unfolding instr_reader
instr_takes bs y rest h =
    let p = tag_takes (is_in_range 1 15) instr_body bs y rest h in
    let r = in_range 1 15 p.0 p.2 in
    subst (λ bs. Front (instr_text y) bs rest) (sym p.3) (instr_of p.0 r.0 r.1 p.1 y rest p.4)

instr_gives : (bs : List ℕ) (y : Instr) (rest : List ℕ) → Front (instr_text y) bs rest → Takes instr_reader bs y rest
unfolding instr_reader instr_text const_reader atom_reader move_reader arith_reader test_reader test_int_reader peek_reader take_reader put_reader drop_reader free_reader call_reader tail_reader ret_reader jump_reader
instr_gives bs (I.Const a b) rest h = tag_gives (is_in_range 1 15) instr_body 1 (two a +++ eight b) bs (I.Const a b) rest refl h
    (λ mid f. gives2 two_reader two field_two eight_reader eight field_eight I.Const a b mid rest f)
instr_gives bs (I.Atom a b c) rest h = tag_gives (is_in_range 1 15) instr_body 2 (two a +++ two b +++ four c) bs (I.Atom a b c) rest refl h
    (λ mid f. gives3 two_reader two field_two two_reader two field_two four_reader four field_four I.Atom a b c mid rest f)
instr_gives bs (I.Move a b) rest h = tag_gives (is_in_range 1 15) instr_body 3 (two a +++ two b) bs (I.Move a b) rest refl h
    (λ mid f. gives2 two_reader two field_two two_reader two field_two I.Move a b mid rest f)
instr_gives bs (I.Arith a b c d e g) rest h = tag_gives (is_in_range 1 15) instr_body 4 (two a +++ operator_text b +++ two c +++ two d +++ four e +++ four g) bs (I.Arith a b c d e g) rest refl h
    (λ mid f. gives6 two_reader two field_two operator_reader operator_text field_operator two_reader two field_two two_reader two field_two four_reader four field_four four_reader four field_four I.Arith a b c d e g mid rest f)
instr_gives bs (I.Test a b c) rest h = tag_gives (is_in_range 1 15) instr_body 5 (two a +++ four b +++ four c) bs (I.Test a b c) rest refl h
    (λ mid f. gives3 two_reader two field_two four_reader four field_four four_reader four field_four I.Test a b c mid rest f)
instr_gives bs (I.TestInt a b c) rest h = tag_gives (is_in_range 1 15) instr_body 6 (two a +++ eight b +++ four c) bs (I.TestInt a b c) rest refl h
    (λ mid f. gives3 two_reader two field_two eight_reader eight field_eight four_reader four field_four I.TestInt a b c mid rest f)
instr_gives bs (I.Peek a b c) rest h = tag_gives (is_in_range 1 15) instr_body 7 (two a +++ two b +++ one c) bs (I.Peek a b c) rest refl h
    (λ mid f. gives3 two_reader two field_two two_reader two field_two any one field_any I.Peek a b c mid rest f)
instr_gives bs (I.Take a b) rest h = tag_gives (is_in_range 1 15) instr_body 8 (two a +++ list_text b) bs (I.Take a b) rest refl h
    (λ mid f. gives2 two_reader two field_two list_reader list_text field_list I.Take a b mid rest f)
instr_gives bs (I.Put a b c d) rest h = tag_gives (is_in_range 1 15) instr_body 9 (two a +++ two b +++ four c +++ list_text d) bs (I.Put a b c d) rest refl h
    (λ mid f. gives4 two_reader two field_two two_reader two field_two four_reader four field_four list_reader list_text field_list I.Put a b c d mid rest f)
instr_gives bs (I.Drop a) rest h = tag_gives (is_in_range 1 15) instr_body 10 (two a) bs (I.Drop a) rest refl h
    (λ mid f. gives1 two_reader two field_two I.Drop a mid rest f)
instr_gives bs (I.Free a) rest h = tag_gives (is_in_range 1 15) instr_body 11 (two a) bs (I.Free a) rest refl h
    (λ mid f. gives1 two_reader two field_two I.Free a mid rest f)
instr_gives bs (I.Call a b c) rest h = tag_gives (is_in_range 1 15) instr_body 12 (four a +++ arguments_text b +++ list_text c) bs (I.Call a b c) rest refl h
    (λ mid f. gives3 four_reader four field_four arguments_reader arguments_text field_arguments list_reader list_text field_list I.Call a b c mid rest f)
instr_gives bs (I.Tail a b) rest h = tag_gives (is_in_range 1 15) instr_body 13 (four a +++ arguments_text b) bs (I.Tail a b) rest refl h
    (λ mid f. gives2 four_reader four field_four arguments_reader arguments_text field_arguments I.Tail a b mid rest f)
instr_gives bs (I.Ret a) rest h = tag_gives (is_in_range 1 15) instr_body 14 (list_text a) bs (I.Ret a) rest refl h
    (λ mid f. gives1 list_reader list_text field_list I.Ret a mid rest f)
instr_gives bs (I.Jump a) rest h = tag_gives (is_in_range 1 15) instr_body 15 (four a) bs (I.Jump a) rest refl h
    (λ mid f. gives1 four_reader four field_four I.Jump a mid rest f)

const_alive : Alive const_reader
unfolding const_reader
const_alive = alive2 two_reader two field_two eight_reader eight field_eight I.Const

atom_alive : Alive atom_reader
unfolding atom_reader
atom_alive = alive3 two_reader two field_two two_reader two field_two four_reader four field_four I.Atom

move_alive : Alive move_reader
unfolding move_reader
move_alive = alive2 two_reader two field_two two_reader two field_two I.Move

arith_alive : Alive arith_reader
unfolding arith_reader
arith_alive = alive6 two_reader two field_two operator_reader operator_text field_operator two_reader two field_two two_reader two field_two four_reader four field_four four_reader four field_four I.Arith

test_alive : Alive test_reader
unfolding test_reader
test_alive = alive3 two_reader two field_two four_reader four field_four four_reader four field_four I.Test

test_int_alive : Alive test_int_reader
unfolding test_int_reader
test_int_alive = alive3 two_reader two field_two eight_reader eight field_eight four_reader four field_four I.TestInt

peek_alive : Alive peek_reader
unfolding peek_reader
peek_alive = alive3 two_reader two field_two two_reader two field_two any one field_any I.Peek

take_alive : Alive take_reader
unfolding take_reader
take_alive = alive2 two_reader two field_two list_reader list_text field_list I.Take

put_alive : Alive put_reader
unfolding put_reader
put_alive = alive4 two_reader two field_two two_reader two field_two four_reader four field_four list_reader list_text field_list I.Put

drop_alive : Alive drop_reader
unfolding drop_reader
drop_alive = alive1 two_reader two field_two I.Drop

free_alive : Alive free_reader
unfolding free_reader
free_alive = alive1 two_reader two field_two I.Free

call_alive : Alive call_reader
unfolding call_reader
call_alive = alive3 four_reader four field_four arguments_reader arguments_text field_arguments list_reader list_text field_list I.Call

tail_alive : Alive tail_reader
unfolding tail_reader
tail_alive = alive2 four_reader four field_four arguments_reader arguments_text field_arguments I.Tail

ret_alive : Alive ret_reader
unfolding ret_reader
ret_alive = alive1 list_reader list_text field_list I.Ret

jump_alive : Alive jump_reader
unfolding jump_reader
jump_alive = alive1 four_reader four field_four I.Jump

instr_body_alive : (op : ℕ) → Alive (instr_body op)
instr_body_alive op =
    if_alive (op == 1) const_reader _ const_alive (if_alive (op == 2) atom_reader _ atom_alive (if_alive (op == 3) move_reader _ move_alive (if_alive (op == 4) arith_reader _ arith_alive (if_alive (op == 5) test_reader _ test_alive (if_alive (op == 6) test_int_reader _ test_int_alive (if_alive (op == 7) peek_reader _ peek_alive (if_alive (op == 8) take_reader _ take_alive (if_alive (op == 9) put_reader _ put_alive (if_alive (op == 10) drop_reader _ drop_alive (if_alive (op == 11) free_reader _ free_alive (if_alive (op == 12) call_reader _ call_alive (if_alive (op == 13) tail_reader _ tail_alive (if_alive (op == 14) ret_reader jump_reader ret_alive jump_alive)))))))))))))

instr_alive : Alive instr_reader
unfolding instr_reader
instr_alive = tag_alive (is_in_range 1 15) instr_body 1 refl instr_body_alive

pub field_instr : IsField instr_reader instr_text
field_instr = record { takes = instr_takes; gives = instr_gives; alive = instr_alive }
