-- The types of the program of a source have a text: the constructors of each are few, and have upper-case names.
use Rattle.std.proofs.Common.{◌≡◌, ◌<◌, ◌≤◌, ℕ, zero, suc, true, List, [], ◌∷◌, length, Some, slice_get, refl, sym, ap, ◌∙◌, subst, arith}
use Rattle.std.proofs.lemmas.Option.{none-some, same_Some}
use Rattle.lowering_soundness.specs.fip_language.declared.limits.TheConstants.{MOST_SOURCE_BYTES}
use Rattle.lowering_soundness.specs.fip_language.Character.{is_upper_name}
use Rattle.lowering_soundness.specs.fip_language.Core.{Data, Core}
use Rattle.lowering_soundness.specs.fip_language.Declarations.{bool_type, data_types}
use Rattle.lowering_soundness.specs.fip_language.Every.{Every}
use Rattle.lowering_soundness.specs.fip_language.Table.{Shape, Table, shapes}
use Rattle.lowering_soundness.proofs.fip_language.Plain.{every_at}
use Rattle.lowering_soundness.specs.fip_trees.Tree.{Program}
use Rattle.lowering_soundness.specs.fip_trees.declared.least.Violation.{Violation}
use Rattle.source_safety.specs.data_types.Answers.{Violates}
use Rattle.source_safety.specs.data_types.Declarations.{data_scope, declared_names}
use Rattle.derivation_correctness.specs.static_params.Answers.{AreFew}
use Rattle.derivation_correctness.specs.static_params.FlatProgram.{Numbers, flat_constructor, flat_program}
use Rattle.derivation_correctness.specs.static_params.FlatSource.{constructor, declared, flat_source}
use Rattle.derivation_correctness.proofs.static_params.ConstructorRows.{declared_shape}
use Rattle.derivation_correctness.proofs.static_params.TableRows.{map_length, row_there}
use Rattle.derivation_correctness.specs.source_report.Report.{IsParsed, IsFlat, IsTyped}
use Rattle.derivation_correctness.specs.code_file.Spelling.{each, two, four, upper_name_text}
use Rattle.derivation_correctness.specs.code_file.CodeText.{types_text, shape_text, type_text, table_text}
use Rattle.derivation_correctness.specs.lower_frame.Spelled.{IsSpelt}
use Rattle.compiler_correctness.proofs.Tables.{IsNarrowTable}
use Rattle.compiler_correctness.proofs.Names.{NamedConstructor, NamedData, NamedFunction, spelt_names}
use Rattle.compiler_correctness.proofs.Texts.{joined, each_spelt, types_spelt, two_spelt, four_spelt, upper_name_spelt}

-- the constructors of each type are few, and have upper-case names
pub record IsNamedTable (tb : Table) : Type 0 where
  pub rows : (t : ℕ) → t < length tb → length (shapes tb t) ≤ MOST_SOURCE_BYTES
  pub names : (t c : ℕ) (s : Shape) → slice_get (shapes tb t) c ≡ Some s → (is_upper_name s.name ≡ true) × (length s.name ≤ MOST_SOURCE_BYTES)

bool_named : NamedData MOST_SOURCE_BYTES bool_type
bool_named = (((refl, omega arith), ((refl, omega arith), tt)), omega arith)

module _ (core : Core) (unbroken : (v : Violation) → Violates core v → ⊥) (named : Every (NamedData MOST_SOURCE_BYTES) core.types) (ns : Numbers) (few : AreFew (flat_source core) ns) where
  abbrev tb : Table
  tb = (flat_program (flat_source core) ns).types

  abbrev Named : Data → Type 0
  Named d = NamedData MOST_SOURCE_BYTES d

  data_named : (t : ℕ) (d : Data) → slice_get (data_types core) t ≡ Some d → Named d
  data_named t d e = every_at Named (data_types core) t d (bool_named, named) e

  shape_named : (t c : ℕ) (s : Shape) → slice_get (shapes tb t) c ≡ Some s → (is_upper_name s.name ≡ true) × (length s.name ≤ MOST_SOURCE_BYTES)
  shape_named t c s e =
      let x = declared_shape core unbroken ns few t c s e in
      let row = data_named x.place x.data_type x.there in
      subst (λ (z : Shape). (is_upper_name z.name ≡ true) × (length z.name ≤ MOST_SOURCE_BYTES)) x.same
      (every_at (NamedConstructor MOST_SOURCE_BYTES) x.data_type.constructors c x.declares row.0 x.at)

  row_few : (t : ℕ) → t < length tb → length (shapes tb t) ≤ MOST_SOURCE_BYTES
  row_few t lt =
      let r = row_there core ns few.passed few.instances.instances few.given few.types t lt in
      let d = r.«data» in
      let all : length d.constructors ≤ MOST_SOURCE_BYTES = (data_named r.number d r.there).1 in
      let same : length (shapes tb t) ≡ length d.constructors =
      ap length r.row ∙ map_length (flat_constructor ns r.arguments) (declared (declared_names core) d).constructors
      ∙ map_length (constructor (data_scope (declared_names core) d)) d.constructors in
      omega (arith, all, same)

  pub flat_named : IsNamedTable tb
  flat_named = record { rows = row_few; names = shape_named }

pub parsed_names : (source : List ℕ) (core : Core) → IsParsed source core → Every (NamedData MOST_SOURCE_BYTES) core.types × Every (NamedFunction MOST_SOURCE_BYTES) core.functions
parsed_names source core h =
    subst (λ (c : Core). Every (NamedData MOST_SOURCE_BYTES) c.types × Every (NamedFunction MOST_SOURCE_BYTES) c.functions) (sym h.is)
    (spelt_names MOST_SOURCE_BYTES source h.tree h.short h.spelt)

flat_table : (source : List ℕ) (p : Program) → IsFlat source p → IsNamedTable p.types
flat_table source p h =
    subst (λ (q : Program). IsNamedTable q.types) (sym h.is)
    (flat_named h.core h.declared.unbroken (parsed_names source h.core h.declared.parsed).0 h.numbers h.few)

typed_table : (source : List ℕ) (p : Program) → IsTyped source p → IsNamedTable p.types
typed_table source p h = subst (λ (q : Program). IsNamedTable q.types) (sym h.is) (flat_table source h.untyped h.flat)

-- ---- its text

row_at : (w : Table) (t : ℕ) (row : List Shape) → slice_get w t ≡ Some row → (t < length w) × (shapes w t ≡ row)
row_at [] t row e = absurd (none-some row e)
row_at (x ∷ w) zero row e = (omega arith, same_Some x row e)
row_at (x ∷ w) (suc t) row e =
    let r = row_at w t row e in
    let k = r.0 in
    (omega (arith, k), r.1)

module _ (w : Table) (narrow : IsNarrowTable w) (named : IsNamedTable w) where
  shape_spelt : (t c : ℕ) (s : Shape) → slice_get (shapes w t) c ≡ Some s → IsSpelt (shape_text s)
  unfolding shape_text
  shape_spelt t c s e =
      let name = named.names t c s e in
      let short = name.1 in
      let few = narrow.narrow t c s e in
      joined (upper_name_text s.name) (types_text s.fields) (upper_name_spelt s.name name.0 (omega (arith, short)))
      (types_spelt (length w) s.fields narrow.few_types (omega (arith, few)) (narrow.known t c s e))

  type_spelt : (t : ℕ) (row : List Shape) → slice_get w t ≡ Some row → IsSpelt (type_text row)
  unfolding type_text
  type_spelt t row e =
      let r = row_at w t row e in
      let few = named.rows t r.0 in
      let same = ap length r.1 in
      joined (four (length row)) (each shape_text row) (four_spelt (length row) (omega (arith, few, same)))
      (each_spelt shape_text row (λ c s at. shape_spelt t c s (ap (λ ss. slice_get ss c) r.1 ∙ at)))

  table_spelt : IsSpelt (table_text w)
  unfolding table_text
  table_spelt =
      let few = narrow.few_types in
      joined (two (length w)) (each type_text w) (two_spelt (length w) (omega (arith, few))) (each_spelt type_text w (λ t row e. type_spelt t row e))

-- the types of the typed program of a source have a text
pub typed_types_spelt : (source : List ℕ) (p : Program) → IsTyped source p → IsNarrowTable p.types → IsSpelt (table_text p.types)
typed_types_spelt source p h narrow = table_spelt p.types narrow (typed_table source p h)
