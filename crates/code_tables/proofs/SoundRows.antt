-- The tests along the rows of a table say what sound tables are.
use Rattle.std.proofs.Common.{◌≡◌, ℕ, zero, suc, ◌<◌, ◌≤◌, true, ◌&&◌, not, List, [], ◌∷◌, length, map, Option, Some, None, slice_get, option_map, drop, codes, refl, sym, ap, ap₂, ◌∙◌, subst, arith}
use Rattle.std.specs.Prelude.{nat_lt}
use Rattle.std.specs.Str.{bytes_eq}
use Rattle.std.proofs.lemmas.Bool.{and_parts, and_from, not-true, not_from_false, ltb-true, lt-ltb, ltb-false, le-ltb, false≢true}
use Rattle.std.proofs.lemmas.Option.{same_Some, none-some, slice_get-map}
use Rattle.std.proofs.lemmas.Slice.Eq.{bytes_eq-Decides}
use Rattle.std.proofs.lemmas.List.{length-map}
use Rattle.fip_language.specs.Table.{Table, Shape, shapes, constructors, no_fields}
use Rattle.cell_code.specs.declared.code.Code.{Code}
use Rattle.cell_code.specs.declared.code.Function.{Function}
use Rattle.code_rules.specs.Limits.{most_types, most_functions, most_fields}
use Rattle.cell_code.specs.Plain.{PlainFunction, plain_function, plain, function_at}
use Rattle.code_rules.specs.Headers.{are_types}
use Rattle.code_rules.specs.Tables.{bare, bool_shapes, IsSoundShape, IsSoundType, AreSoundTables}
use Rattle.code_tables.specs.Apart.{none_met, is_any_name, is_some_name, apart, shape_name, shape_names, function_name, function_names}
use Rattle.code_tables.specs.Rows.{is_bare, is_bool_row, is_narrow, are_narrow, is_sound_row, are_sound_rows}
use Rattle.code_tables.specs.Marks.{HaveValues}
use Rattle.code_tables.proofs.NamesApart.{apart_reports, apart_from}
use Rattle.fip_language.proofs.Facts.{map_at_inverse as at_name, mapped_from}

-- ---- bool

no_fields_nil : (fs : List ℕ) → no_fields fs ≡ true → fs ≡ []
no_fields_nil [] e = refl
no_fields_nil (f ∷ fs) e = absurd (false≢true e)

bare_reports : (name : List ℕ) (s : Shape) → is_bare name s ≡ true → s ≡ bare name
bare_reports name s e =
    let p = and_parts (bytes_eq s.name name) (no_fields s.fields) e in
    let made : List ℕ → List ℕ → Shape = λ n f. record { name = n; fields = f } in
    ap₂ made ((bytes_eq-Decides s.name name).0 p.0) (no_fields_nil s.fields p.1)

bare_from : (name : List ℕ) (s : Shape) → s ≡ bare name → is_bare name s ≡ true
bare_from name s e = and_from _ _ ((bytes_eq-Decides s.name name).1 (ap (λ (r : Shape). r.name) e)) (ap (λ (r : Shape). no_fields r.fields) e)

row_of_two : (s r a b : Shape) → s ≡ a → r ≡ b → ◌≡◌ {A = List Shape} (s ∷ r ∷ []) (a ∷ b ∷ [])
row_of_two s r a b e f = ap₂ (λ x y. x ∷ y ∷ []) e f

pub bool_reports : (ss : List Shape) → is_bool_row ss ≡ true → ss ≡ bool_shapes
bool_reports [] e = absurd (false≢true e)
bool_reports (s ∷ []) e = absurd (false≢true e)
bool_reports (s ∷ r ∷ []) e = (let p = and_parts (is_bare (codes "False") s) (is_bare (codes "True") r) e in row_of_two s r _ _ (bare_reports (codes "False") s p.0) (bare_reports (codes "True") r p.1))
bool_reports (s ∷ r ∷ q ∷ qs) e = absurd (false≢true e)

pub bool_from : (ss : List Shape) → ss ≡ bool_shapes → is_bool_row ss ≡ true
bool_from ss e = ap is_bool_row e ∙ and_from _ _ (bare_from (codes "False") (bare (codes "False")) refl) (bare_from (codes "True") (bare (codes "True")) refl)

-- ---- fields

types_report : (w : Table) (ts : List ℕ) → are_types w ts ≡ true → (i t : ℕ) → slice_get ts i ≡ Some t → t ≤ length w
types_report w [] e i t h = absurd (none-some t h)
types_report w (u ∷ us) e zero t h = (let l = ltb-true u (suc (length w)) (and_parts _ (are_types w us) e).0 in let s = same_Some u t h in omega (arith, l, s))
types_report w (u ∷ us) e (suc i) t h = types_report w us (and_parts (nat_lt u (suc (length w))) (are_types w us) e).1 i t h

types_from : (w : Table) (ts : List ℕ) → ((i t : ℕ) → slice_get ts i ≡ Some t → t ≤ length w) → are_types w ts ≡ true
types_from w [] h = refl
types_from w (u ∷ us) h = (let l = h zero u refl in and_from _ _ (lt-ltb u (suc (length w)) (omega (arith, l))) (types_from w us (λ i t e. h (suc i) t e)))

narrow_reports : (w : Table) (s : Shape) → is_narrow w s ≡ true → IsSoundShape w s
narrow_reports w s e =
    let p = and_parts (not (nat_lt most_fields (length s.fields))) (are_types w s.fields) e in
    record { few = ltb-false most_fields (length s.fields) (not-true _ p.0); typed = types_report w s.fields p.1 }

narrow_from : (w : Table) (s : Shape) → IsSoundShape w s → is_narrow w s ≡ true
narrow_from w s h = and_from _ _ (not_from_false _ (le-ltb most_fields (length s.fields) h.few)) (types_from w s.fields h.typed)

all_narrow : (w : Table) (ss : List Shape) → are_narrow w ss ≡ true → (k : ℕ) (s : Shape) → slice_get ss k ≡ Some s → IsSoundShape w s
all_narrow w [] e k s h = absurd (none-some s h)
all_narrow w (r ∷ ss) e zero s h = subst (IsSoundShape w) (same_Some r s h) (narrow_reports w r (and_parts (is_narrow w r) (are_narrow w ss) e).0)
all_narrow w (r ∷ ss) e (suc k) s h = all_narrow w ss (and_parts (is_narrow w r) (are_narrow w ss) e).1 k s h

narrow_all : (w : Table) (ss : List Shape) → ((k : ℕ) (s : Shape) → slice_get ss k ≡ Some s → IsSoundShape w s) → are_narrow w ss ≡ true
narrow_all w [] h = refl
narrow_all w (r ∷ ss) h = and_from _ _ (narrow_from w r (h zero r refl)) (narrow_all w ss (λ k s e. h (suc k) s e))

-- ---- the name at a place of a list of names

named_at : {A : Type 0} (name : A → List ℕ) (xs : List A) (i : ℕ) (x : A) → slice_get xs i ≡ Some x → slice_get (map name xs) i ≡ Some (name x)
named_at name xs i x e = slice_get-map name xs i ∙ ap (option_map name) e

-- ---- a row

-- what is asked of the constructors of a type, but that it has a value
record IsRow (w : Table) (ss : List Shape) : Type 0 where
  some : 0 < length ss
  narrow : (k : ℕ) (s : Shape) → slice_get ss k ≡ Some s → IsSoundShape w s
  apart : (k l : ℕ) (r s : Shape) → slice_get ss k ≡ Some r → slice_get ss l ≡ Some s → r.name ≡ s.name → k ≡ l

names_report : (ss : List Shape) → apart is_any_name none_met (shape_names ss) ≡ true → (k l : ℕ) (r s : Shape) → slice_get ss k ≡ Some r → slice_get ss l ≡ Some s → r.name ≡ s.name → k ≡ l
names_report ss e k l r s h g n =
    let a = apart_reports is_any_name none_met (shape_names ss) e in
    a.once k l s.name (named_at shape_name ss k r h ∙ ap Some n) (named_at shape_name ss l s g) refl

names_from : (ss : List Shape) → ((k l : ℕ) (r s : Shape) → slice_get ss k ≡ Some r → slice_get ss l ≡ Some s → r.name ≡ s.name → k ≡ l) → apart is_any_name none_met (shape_names ss) ≡ true
names_from ss h = apart_from is_any_name none_met (shape_names ss) (record {
  new = λ i n e c. refl;
  once = λ i j n e f c. (let x = at_name shape_name ss i n e in let y = at_name shape_name ss j n f in h i j x.0 y.0 x.1 y.1 (x.2 ∙ sym y.2));
})

row_reports : (w : Table) (ss : List Shape) → is_sound_row w ss ≡ true → IsRow w ss
row_reports w [] e = absurd (false≢true e)
row_reports w (s ∷ ss) e =
    let p = and_parts (are_narrow w (s ∷ ss)) (apart is_any_name none_met (shape_names (s ∷ ss))) e in
    record { some = omega arith; narrow = all_narrow w (s ∷ ss) p.0; apart = names_report (s ∷ ss) p.1 }

row_from : (w : Table) (ss : List Shape) → IsRow w ss → is_sound_row w ss ≡ true
row_from w [] h = absurd (let l = h.some in omega (arith, l))
row_from w (s ∷ ss) h = and_from _ _ (narrow_all w (s ∷ ss) h.narrow) (names_from (s ∷ ss) h.apart)

rows_report : (w rows : Table) → are_sound_rows w rows ≡ true → (t : ℕ) → t < length rows → IsRow w (shapes rows t)
rows_report w [] e t h = absurd (omega (arith, h))
rows_report w (row ∷ rows) e zero h = row_reports w row (and_parts (is_sound_row w row) (are_sound_rows w rows) e).0
rows_report w (row ∷ rows) e (suc t) h = rows_report w rows (and_parts (is_sound_row w row) (are_sound_rows w rows) e).1 t (omega (arith, h))

rows_from : (w rows : Table) → ((t : ℕ) → t < length rows → IsRow w (shapes rows t)) → are_sound_rows w rows ≡ true
rows_from w [] h = refl
rows_from w (row ∷ rows) h = and_from _ _ (row_from w row (h 0 (omega arith))) (rows_from w rows (λ t l. h (suc t) (omega (arith, l))))

-- ---- the whole

some_name : (n : List ℕ) → is_some_name n ≡ true → 0 < length n
some_name [] e = absurd (false≢true e)
some_name (b ∷ bs) e = omega arith

name_some : (n : List ℕ) → 0 < length n → is_some_name n ≡ true
name_some [] e = absurd (omega (arith, e))
name_some (b ∷ bs) e = refl

pub tables_report : (c : Code) → length c.types ≤ most_types → length c.functions.items ≤ most_functions → is_bool_row (constructors c.types 1) ≡ true → are_sound_rows c.types c.types ≡ true → HaveValues c.types → apart is_some_name none_met (function_names c.functions.items) ≡ true → AreSoundTables (plain c)
tables_report c few_types few_functions b rows v names = record {
  few_types = few_types;
  few_functions = (let l = length-map c.functions.items plain_function in omega (arith, l, few_functions));
  bool = bool_reports (constructors c.types 1) b;
  types = types;
  names = named;
}
  where
    types : (t : ℕ) → 0 < t → t ≤ length c.types → IsSoundType c.types t
    types zero low high = absurd (omega (arith, low))
    types (suc t) low high =
        let row = rows_report c.types c.types rows t (omega (arith, high)) in
        record { some = row.some; shapes = row.narrow; apart = row.apart; value = v (suc t) low high }

    named : (m n : ℕ) (f g : PlainFunction) → function_at (plain c) m ≡ Some f → function_at (plain c) n ≡ Some g → 0 < length f.name → f.name ≡ g.name → m ≡ n
    named m n f g h k l e =
        let x = at_name plain_function c.functions.items m f h in
        let y = at_name plain_function c.functions.items n g k in
        let a = apart_reports is_some_name none_met (function_names c.functions.items) names in
        let p : slice_get (function_names c.functions.items) m ≡ Some f.name = named_at function_name c.functions.items m x.0 x.1 ∙ ap Some (ap (λ (q : PlainFunction). q.name) x.2) in
        let q : slice_get (function_names c.functions.items) n ≡ Some f.name = named_at function_name c.functions.items n y.0 y.1 ∙ ap Some (ap (λ (r : PlainFunction). r.name) y.2 ∙ sym e) in
        a.once m n f.name p q (name_some f.name l)

pub few_types_from : (c : Code) → AreSoundTables (plain c) → length c.types ≤ most_types
few_types_from c h = h.few_types

pub few_functions_from : (c : Code) → AreSoundTables (plain c) → length c.functions.items ≤ most_functions
few_functions_from c h = (let l = length-map c.functions.items plain_function in let k = h.few_functions in omega (arith, l, k))

pub rows_sound : (c : Code) → AreSoundTables (plain c) → are_sound_rows c.types c.types ≡ true
rows_sound c h = rows_from c.types c.types (λ t l. at t (h.types (suc t) (omega arith) (omega (arith, l))))
  where
    at : (t : ℕ) → IsSoundType c.types (suc t) → IsRow c.types (shapes c.types t)
    at t s = record { some = s.some; narrow = s.shapes; apart = s.apart }

pub values_sound : (c : Code) → AreSoundTables (plain c) → HaveValues c.types
values_sound c h = λ t low high. (h.types t low high).value

pub names_sound : (c : Code) → AreSoundTables (plain c) → apart is_some_name none_met (function_names c.functions.items) ≡ true
names_sound c h = apart_from is_some_name none_met (function_names c.functions.items) (record { new = λ i n e k. refl; once = once })
  where
    once : (i j : ℕ) (n : List ℕ) → slice_get (function_names c.functions.items) i ≡ Some n → slice_get (function_names c.functions.items) j ≡ Some n → is_some_name n ≡ true → i ≡ j
    once i j n e f k =
        let x = at_name function_name c.functions.items i n e in
        let y = at_name function_name c.functions.items j n f in
        let l : 0 < length x.0.name = subst (λ m. 0 < length m) (sym x.2) (some_name n k) in
        h.names i j (plain_function x.0) (plain_function y.0) (named_plain i x.0 x.1) (named_plain j y.0 y.1) l (x.2 ∙ sym y.2)
      where
        named_plain : (i : ℕ) (f : Function) → slice_get c.functions.items i ≡ Some f → function_at (plain c) i ≡ Some (plain_function f)
        named_plain i f e = slice_get-map plain_function c.functions.items i ∙ ap (option_map plain_function) e

-- ---- along the rows

row_at : (w rows : Table) (t : ℕ) → t < length rows → are_sound_rows w (drop t rows) ≡ (is_sound_row w (shapes rows t) && are_sound_rows w (drop (suc t) rows))
row_at w [] t h = absurd (omega (arith, h))
row_at w (row ∷ rows) zero h = refl
row_at w (row ∷ rows) (suc t) h = row_at w rows t (omega (arith, h))

pub next_row : (w rows : Table) (t n : ℕ) → suc t ≡ n → t < length rows → are_sound_rows w (drop t rows) ≡ (is_sound_row w (constructors rows n) && are_sound_rows w (drop n rows))
next_row w rows t n e h = row_at w rows t h ∙ ap (λ m. is_sound_row w (constructors rows m) && are_sound_rows w (drop m rows)) e
