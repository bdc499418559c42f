-- The table of the program of a source: each type that is numbered has one row, that of its data type; its fields are of
-- types that are there; and it has a value. And each instance that is numbered is one of the program.
use Rattle.std.proofs.Common.{◌≡◌, ◌≤◌, ◌<◌, inl, inr, ℕ, zero, suc, List, [], ◌∷◌, length, map, Some, slice_get, refl, sym, ap, ◌∙◌, subst, arith}
use Rattle.fip_language.proofs.Search.{slice_get_there}
use Rattle.fip_language.proofs.Words.{map_at}
use Rattle.fip_language.specs.Core.{Core, Data}
use Rattle.fip_language.specs.Declarations.{data_types}
use Rattle.fip_language.specs.Every.{Among}
use Rattle.fip_language.specs.SoundTable.{AreTypes}
use Rattle.fip_language.specs.Table.{Shape, Table, shapes, HasType}
use Rattle.fip_language.specs.Values.{Value, Int, Node}
use Rattle.fip_trees.specs.Tree as T
use Rattle.data_types.specs.Types as D
use Rattle.data_types.specs.Declarations.{declarations, declared_names}
use Rattle.reached_instances.specs.closed_types.declared.closed.Head.TheVariants as H
use Rattle.reached_instances.specs.closed_types.Closed as Z
use Rattle.reached_instances.specs.closed_types.Closed.{Closed, Closeds, Applied, NoClosed, MoreClosed}
use Rattle.reached_instances.specs.closed_types.Source.{declared_at}
use Rattle.reached_instances.specs.closed_types.Instances.{AreInstances, ArePassed}
use Rattle.reached_instances.specs.closed_types.TypeInstances.{AreTypes as AreNumberedTypes, type_roots, field_types}
use Rattle.static_params.specs.FlatProgram.{Numbers, type_number, flat_instance, instance_if, instances_of, numbers_of, flat_constructor, rows_of, declaring_of, flat_program}
use Rattle.static_params.specs.FlatSource.{flat_source, declared}
use Rattle.static_params.proofs.GoodTypes.{IsGood, IsGoodFunction}
use Rattle.static_params.proofs.GoodInstances.{instances_good, declared_is}
use Rattle.static_params.proofs.TypeRows.{some_below, there_among, root_numbered, type_within, one_each, one_at, shapes_is, IsApplied, row_of, row_is, has_row, has_declaring}
use Rattle.static_params.proofs.TypeValues.{good, applied, row_at, type_valued}
pub use Rattle.fip_language.proofs.Facts.{map_length}

pub shapes_below : (tb : Table) (t c : ℕ) (s : Shape) → slice_get (shapes tb t) c ≡ Some s → t < length tb
shapes_below [] t c s e = absurd (cc)
shapes_below (r ∷ tb) zero c s e = omega arith
shapes_below (r ∷ tb) (suc t) c s e = let k = shapes_below tb t c s e in omega (arith, k)

module _ (core : Core) (ns : Numbers) (passed : List Closed) (instances : AreInstances (flat_source core) ns.instances) (given : ArePassed ns.instances passed) (types : AreNumberedTypes (flat_source core) ns.instances passed ns.types) where
  abbrev pub p : T.Program
  p = flat_program (flat_source core) ns

  pub is_good : (c : Closed) → Among c ns.types → IsGood core c
  is_good = good core ns passed instances given types

  pub is_applied : (c : Closed) → Among c ns.types → IsApplied c
  is_applied = applied core ns passed instances given types

  pub one_row : (c : Closed) → Among c ns.types → (row : List Shape) × (rows_of (flat_source core) ns c ≡ row ∷ [])
  one_row c a = has_row core ns c (is_good c a) (is_applied c a)

  pub one_number : (c : Closed) → Among c ns.types → (n : ℕ) × (declaring_of (flat_source core) c ≡ n ∷ [])
  one_number c a = has_declaring core c (is_good c a) (is_applied c a)

  pub types_length : length p.types ≡ length ns.types
  types_length = one_each (rows_of (flat_source core) ns) ns.types one_row

  pub declaring_length : length p.declaring ≡ length ns.types
  declaring_length = one_each (declaring_of (flat_source core)) ns.types one_number

  pub within_table : (c : Closed) → type_number ns c ≤ length p.types
  within_table c = let h = type_within ns c in let e = types_length in omega (arith, h, e)

  numbers_within : (cs : Closeds) → AreTypes p.types (numbers_of ns cs)
  numbers_within NoClosed = tt
  numbers_within (MoreClosed c cs) = (within_table c, numbers_within cs)

  -- ---- the row of a type, by its place

  pub record IsRow (t : ℕ) : Type 0 where
    pub number : ℕ
    pub arguments : Closeds
    pub «data» : Data
    pub among : Among (Applied (H.«Type» (suc number)) arguments) ns.types
    pub at : slice_get ns.types t ≡ Some (Applied (H.«Type» (suc number)) arguments)
    pub declared : declared_at (flat_source core) (suc number) ≡ Some (declared (declared_names core) «data»)
    pub there : slice_get (data_types core) number ≡ Some «data»
    pub row : shapes p.types t ≡ row_of core ns «data» arguments

  row_by : (t : ℕ) (c : Closed) → slice_get ns.types t ≡ Some c → IsGood core c → IsApplied c → IsRow t
  row_by t Z.Int e g a = absurd a
  row_by t (Applied (H.Function f) cs) e g a = absurd g
  row_by t (Applied (H.«Type» n) cs) e g a =
      let is = declared_is core g.0.0 g.0.2 in
      let same : slice_get ns.types t ≡ Some (Applied (H.«Type» (suc g.0.0)) cs) = e ∙ ap (λ n. Some (Applied (H.«Type» n) cs)) g.0.1 in
      record {
        number = g.0.0;
        arguments = cs;
        «data» = is.0;
        among = there_among ns.types t (Applied (H.«Type» (suc g.0.0)) cs) same;
        at = same;
        declared = is.2;
        there = is.1;
        row = shapes_is p.types t (row_of core ns is.0 cs)
            (one_at (rows_of (flat_source core) ns) ns.types one_row t (Applied (H.«Type» (suc g.0.0)) cs) (row_of core ns is.0 cs) same (row_is core ns g.0.0 cs is.0 is.2));
      }

  pub row_there : (t : ℕ) → t < length p.types → IsRow t
  row_there t h =
      let small : t < length ns.types = (let e = types_length in omega (arith, h, e)) in
      let at = slice_get_there ns.types t small in
      row_by t at.0 at.1 (is_good at.0 (there_among ns.types t at.0 at.1)) (is_applied at.0 (there_among ns.types t at.0 at.1))

  pub fields_within : (t c : ℕ) (s : Shape) → slice_get (shapes p.types t) c ≡ Some s → AreTypes p.types s.fields
  fields_within t c s e =
      let r = row_there t (shapes_below p.types t c s e) in
      let at = map_at (flat_constructor ns r.arguments) (declared (declared_names core) r.«data»).constructors c s (subst (λ ss. slice_get ss c ≡ Some s) r.row e) in
      subst (λ (s : Shape). AreTypes p.types s.fields) at.2 (numbers_within (field_types r.arguments at.0.fields))

  -- a value of the row, wherever it is
  same_row : (i t : ℕ) (v : Value) → shapes p.types i ≡ shapes p.types t → HasType p.types (suc i) v → HasType p.types (suc t) v
  same_row i t (Int n) e h = absurd h
  same_row i t (Node c vs) e h = (h.0, subst (λ ss. slice_get ss c ≡ Some h.0) e h.1, h.2)

  module _ (valued : (n : ℕ) → n < length (data_types core) → D.IsValued (declarations core) n) where
    pub inhabited : (t : ℕ) → t < length p.types → (v : Value) × HasType p.types (suc t) v
    inhabited t h =
        let r = row_there t h in
        let c : Closed = Applied (H.«Type» (suc r.number)) r.arguments in
        let v = type_valued core ns passed instances given types valued c (inr r.among) (is_good c r.among) in
        let at = row_at core ns passed instances given types r.number r.arguments r.«data» r.declared r.among in
        (v.0, same_row at.0 t v.0 (at.2 ∙ sym r.row) (subst (λ n. HasType p.types n v.0) at.1 v.1))

  pub some_type : 0 < length p.types
  some_type =
      let h = root_numbered (type_roots (flat_source core) ns.instances passed) _ ns.types types (Applied (H.«Type» 1) NoClosed) (inl refl) in
      let n = some_below (Applied (H.«Type» 1) NoClosed) ns.types h in
      let e = types_length in
      omega (arith, n, e)

  -- ---- instances

  pub one_instance : (c : Closed) → IsGoodFunction core c → (d : T.Instance) × (instances_of (flat_source core) ns c ≡ d ∷ [])
  one_instance Z.Int h = absurd h
  one_instance (Applied (H.«Type» n) cs) h = absurd h
  one_instance (Applied (H.Function f) cs) h =
      let there = slice_get_there core.functions f h.0 in
      (flat_instance (flat_source core) ns (record { function = f; given = cs }) there.0, ap (instance_if (flat_source core) ns (record { function = f; given = cs })) there.1)

  pub instances_length : length p.instances ≡ length ns.instances
  instances_length = one_each (instances_of (flat_source core) ns) ns.instances (λ c a. one_instance c (instances_good core ns.instances instances c a))
