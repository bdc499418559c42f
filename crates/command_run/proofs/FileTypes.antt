-- The table of types of a sound code that has a file is sound: its constructors have upper-case names, since they are
-- encoded so.
use Rattle.std.proofs.Common.{◌≡◌, ◌∙◌, ◌<◌, ◌≤◌, ℕ, zero, suc, Bool, true, false, List, [], ◌∷◌, length, Option, Some, None, slice_get, if◌then◌else◌, refl, sym, ap, arith}
use Rattle.std.proofs.lemmas.Option.{none-some, same_Some, slice_get_within}
use Rattle.fip_language.specs.Character.{is_upper_name}
use Rattle.fip_language.specs.SoundTable.{AreTypes, IsSoundTable}
use Rattle.fip_language.specs.Table.{Shape, Table, shapes}
use Rattle.fip_machine.specs.cell_code.declared.code.Code.{Code}
use Rattle.command_eval.specs.machine_correctness.code_file.CodeText.{IsFileOf, code_text, functions_text, table_text, type_text, shape_text, types_text, version_number}
use Rattle.fip_machine.specs.cell_code.Plain.{PlainCode, plain}
use Rattle.command_eval.specs.machine_correctness.code_file.Spelling.{◌+++◌, each, four, two, name_text, upper_name_text}
use Rattle.command_eval.specs.machine_correctness.code_rules.Tables.{AreSoundTables, IsSoundType}
use Rattle.command_eval.specs.command_source.Codes.{IsSoundFile}

-- ---- pieces of a text

first_piece : (a b : Option (List ℕ)) (s : List ℕ) → (a +++ b) ≡ Some s → (x : List ℕ) × (a ≡ Some x)
unfolding ◌+++◌
first_piece None b s e = absurd (none-some s e)
first_piece (Some x) b s e = (x, refl)

last_piece : (a b : Option (List ℕ)) (s : List ℕ) → (a +++ b) ≡ Some s → (y : List ℕ) × (b ≡ Some y)
unfolding ◌+++◌
last_piece None b s e = absurd (none-some s e)
last_piece (Some x) None s e = absurd (none-some s e)
last_piece (Some x) (Some y) s e = (y, refl)

each_piece : {A : Type 0} (text : A → Option (List ℕ)) (xs : List A) (i : ℕ) (x : A) (s : List ℕ) → each text xs ≡ Some s → slice_get xs i ≡ Some x → (t : List ℕ) × (text x ≡ Some t)
unfolding each
each_piece text [] i x s e at = absurd (none-some x at)
each_piece text (y ∷ xs) zero x s e at = let p = first_piece (text y) (each text xs) s e in (p.0, ap text (sym (same_Some y x at)) ∙ p.1)
each_piece text (y ∷ xs) (suc i) x s e at = let p = last_piece (text y) (each text xs) s e in each_piece text xs i x p.0 p.1 at

-- ---- the names

upper_test : (b : Bool) (t : Option (List ℕ)) (s : List ℕ) → (if b then t else None) ≡ Some s → b ≡ true
upper_test true t s e = refl
upper_test false t s e = absurd (none-some s e)

upper_spelt : (name s : List ℕ) → upper_name_text name ≡ Some s → is_upper_name name ≡ true
unfolding upper_name_text
upper_spelt name s e = upper_test (is_upper_name name) (name_text name) s e

shape_spelt : (x : Shape) (s : List ℕ) → shape_text x ≡ Some s → is_upper_name x.name ≡ true
unfolding shape_text
shape_spelt x s e = let p = first_piece (upper_name_text x.name) (types_text x.fields) s e in upper_spelt x.name p.0 p.1

type_spelt : (row : List Shape) (c : ℕ) (x : Shape) (s : List ℕ) → type_text row ≡ Some s → slice_get row c ≡ Some x → is_upper_name x.name ≡ true
unfolding type_text
type_spelt row c x s e at =
    let p = last_piece (four (length row)) (each shape_text row) s e in
    let q = each_piece shape_text row c x p.0 p.1 at in
    shape_spelt x q.0 q.1

row_there : (tb : Table) (t c : ℕ) (x : Shape) → slice_get (shapes tb t) c ≡ Some x → slice_get tb t ≡ Some (shapes tb t)
row_there [] t c x at = absurd (none-some x at)
row_there (row ∷ rows) zero c x at = refl
row_there (row ∷ rows) (suc t) c x at = row_there rows t c x at

table_spelt : (tb : Table) (t c : ℕ) (x : Shape) (s : List ℕ) → table_text tb ≡ Some s → slice_get (shapes tb t) c ≡ Some x → is_upper_name x.name ≡ true
unfolding table_text
table_spelt tb t c x s e at =
    let p = last_piece (two (length tb)) (each type_text tb) s e in
    let q = each_piece type_text tb t (shapes tb t) p.0 p.1 (row_there tb t c x at) in
    type_spelt (shapes tb t) c x q.0 q.1 at

upper_in_file : (bytes : List ℕ) (code : PlainCode) (t c : ℕ) (x : Shape) → IsFileOf bytes code → slice_get (shapes code.types t) c ≡ Some x → is_upper_name x.name ≡ true
unfolding code_text
upper_in_file bytes code t c x spelt at =
    let version = spelt.0 in
    let p = last_piece (Some (70 ∷ 80 ∷ 50 ∷ 67 ∷ [])) (Some (0 ∷ version_number version ∷ []) +++ (table_text code.types +++ functions_text version code.functions)) bytes spelt.1 in
    let q = last_piece (Some (0 ∷ version_number version ∷ [])) (table_text code.types +++ functions_text version code.functions) p.0 p.1 in
    let r = first_piece (table_text code.types) (functions_text version code.functions) q.0 q.1 in
    table_spelt code.types t c x r.0 r.1 at

pub file_spelt : (bytes : List ℕ) (code : PlainCode) (t c : ℕ) (x : Shape) → IsSoundFile bytes code → slice_get (shapes code.types t) c ≡ Some x → is_upper_name x.name ≡ true
file_spelt bytes code t c x file at = upper_in_file bytes code t c x file.spelt at

-- ---- the table

pub types_there : (tb : Table) (ts : List ℕ) → ((i t : ℕ) → slice_get ts i ≡ Some t → t ≤ length tb) → AreTypes tb ts
types_there tb [] h = tt
types_there tb (t ∷ ts) h = (h 0 t refl, types_there tb ts (λ i u e. h (suc i) u e))

pub spelt_table : (bytes : List ℕ) (code : Code) → IsFileOf bytes (plain code) → AreSoundTables (plain code) → IsSoundTable code.types
spelt_table bytes code spelt tables =
    let sound : (t : ℕ) → t < length code.types → IsSoundType code.types (suc t) = λ t less. tables.types (suc t) (omega arith) (omega (arith, less)) in
    let of_row : (t c : ℕ) (x : Shape) → slice_get (shapes code.types t) c ≡ Some x → IsSoundType code.types (suc t) = λ t c x at. sound t (slice_get_within code.types t (shapes code.types t) (row_there code.types t c x at)) in
    record {
      names = λ t c x at. upper_in_file bytes (plain code) t c x spelt at;
      unlike = λ t c d x y a b same. (of_row t c x a).apart c d x y a b same;
      known = λ t c x at. types_there code.types x.fields ((of_row t c x at).shapes c x at).typed;
      narrow = λ t c x at. ((of_row t c x at).shapes c x at).few;
      inhabited = λ t less. (sound t less).value;
    }

pub file_table : (bytes : List ℕ) (code : Code) → IsSoundFile bytes (plain code) → AreSoundTables (plain code) → IsSoundTable code.types
file_table bytes code file tables = spelt_table bytes code file.spelt tables
