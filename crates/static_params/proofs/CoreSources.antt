-- What specialising starts from is read off the core form alone: the declarations in memory are those of the core form.
use Rattle.std.proofs.Common.{◌≡◌, ◌&&◌, ◌-◌, ◌<◌, ℕ, suc, Bool, true, false, List, [], ◌∷◌, map, nat_lt, refl, sym, ap, ap₂, ◌∙◌, subst, arith}
use Rattle.std.proofs.lemmas.Bool.Decides.{nat_tests}
use Rattle.fip_language.specs.Core as C
use Rattle.fip_language.specs.Declarations.{data_types}
use Rattle.fip_base.specs.CoreView as V
use Rattle.fip_base.specs.declared.core_form.Core.{Core}
use Rattle.fip_trees.specs.declared.decls.FieldType.{FieldType, roll-FieldType}
use Rattle.fip_trees.specs.declared.decls.FieldType.TheOpen as F
use Rattle.fip_trees.specs.declared.decls.FieldType.TheFolds.{fold-roll-FieldType, map-FieldType, ind-FieldType}
use Rattle.fip_trees.specs.declared.decls.DeclaredConstructor.{DeclaredConstructor}
use Rattle.fip_trees.specs.declared.decls.DeclaredType.{DeclaredType}
use Rattle.fip_trees.specs.declared.decls.Decls.{Decls}
use Rattle.data_types.specs.Answers.{declared_row_names}
use Rattle.data_types.specs.Declarations.{declarations, data_declared, data_scope, declared_names, written_names, row_names, constructor_name, constructor_fields}
use Rattle.data_types.specs.Numbered.{all_true, is_numbered, numbered_step, are_numbered, row_numbered, type_numbered, types_numbered}
use Rattle.data_types.specs.Types as D
use Rattle.data_types.specs.View as v
use Rattle.reached_instances.specs.closed_types.Source as S
use Rattle.reached_instances.specs.SourceView as s
use Rattle.reached_instances.specs.closed_types.DeclaredView.{ty_step}
use Rattle.static_params.specs.FlatSource.{field, fields, constructor, declared, flat_source}
use Rattle.fip_language.proofs.Facts.{and_both as both_true, cons_head as heads, cons_tail as tails}

one_more : (n : ℕ) → nat_lt 0 n ≡ true → n ≡ suc (n - 1)
one_more n e = let h : 0 < n = grind (arith, nat_tests) in omega (arith, h)

abbrev IsField : FieldType → Type 0
IsField t = is_numbered t ≡ true → s.ty t ≡ field (v.ty t)

module _ {A : Type 0} (f : A → FieldType) (ok : (a : A) → IsField (f a)) where
  row_field : (as' : List A) → all_true (map is_numbered (map f as')) ≡ true → s.tys_of (map s.ty (map f as')) ≡ fields (v.row (map v.ty (map f as')))
  row_field [] e = refl
  row_field (a ∷ as') e =
      let parts = both_true (is_numbered (f a)) (all_true (map is_numbered (map f as'))) e in
      ap₂ (λ t ts. S.MoreTys t ts) (ok a parts.0) (row_field as' parts.1)

  layer_field : (y : F.FieldType-F A) → numbered_step (map-FieldType FieldType Bool is_numbered (map-FieldType A FieldType f y)) ≡ true →
      ty_step (map-FieldType FieldType S.Ty s.ty (map-FieldType A FieldType f y)) ≡ field (v.ty_step (map-FieldType FieldType D.Ty v.ty (map-FieldType A FieldType f y)))
  layer_field F.Int e = refl
  layer_field (F.Parameter k) e = refl
  layer_field (F.Applied n ts) e =
      let parts = both_true (nat_lt 0 n) (all_true (map is_numbered (map f ts.items))) e in
      ap₂ (λ n us. S.Of n us) (one_more n parts.0) (row_field ts.items parts.1)

  pub step_field : (y : F.FieldType-F A) → IsField (roll-FieldType (map-FieldType A FieldType f y))
  step_field y e =
      fold-roll-FieldType S.Ty ty_step (map-FieldType A FieldType f y) ∙
      layer_field y (sym (fold-roll-FieldType Bool numbered_step (map-FieldType A FieldType f y)) ∙ e) ∙
      sym (ap field (fold-roll-FieldType D.Ty v.ty_step (map-FieldType A FieldType f y)))

pub field_is : (t : FieldType) → IsField t
field_is t = ind-FieldType IsField (λ x y e. subst (λ x. IsField (roll-FieldType x)) e (step_field (λ a. a.0) (λ a. a.1) y)) t

fields_are : (ts : List FieldType) → are_numbered ts ≡ true → s.tys_of (map s.ty ts) ≡ fields (v.tys ts)
fields_are [] e = refl
fields_are (t ∷ ts) e =
    let parts = both_true (is_numbered t) (are_numbered ts) e in
    ap₂ (λ t ts. S.MoreTys t ts) (field_is t parts.0) (fields_are ts parts.1)

rows_are : (z : _) (ks : List DeclaredConstructor) (ws : List C.DataConstructor) → all_true (map row_numbered ks) ≡ true → map v.fields ks ≡ map (constructor_fields z) ws → map (λ (k : DeclaredConstructor). k.name.now) ks ≡ map constructor_name ws → map s.constructor ks ≡ map (constructor z) ws
rows_are z [] [] n e f = refl
rows_are z [] (w ∷ ws) n e f = absurd (cc)
rows_are z (k ∷ ks) [] n e f = absurd (cc)
rows_are z (k ∷ ks) (w ∷ ws) n e f =
    let parts = both_true (row_numbered k) (all_true (map row_numbered ks)) n in
    let name = heads k.name.now w.name (map (λ (k : DeclaredConstructor). k.name.now) ks) (map constructor_name ws) f in
    let types = fields_are k.fields.items parts.0 ∙ ap fields (heads (v.fields k) (constructor_fields z w) (map v.fields ks) (map (constructor_fields z) ws) e) in
    let first : s.constructor k ≡ constructor z w = (λ i. record { name = name i; fields = types i }) in
    ap₂ (λ (k : S.Constructor) (ks : List S.Constructor). k ∷ ks) first
    (rows_are z ks ws parts.1 (tails (v.fields k) (constructor_fields z w) (map v.fields ks) (map (constructor_fields z) ws) e) (tails k.name.now w.name (map (λ (k : DeclaredConstructor). k.name.now) ks) (map constructor_name ws) f))

type_is : (ns : _) (d : DeclaredType) (w : C.Data) → type_numbered d ≡ true → v.declared d ≡ data_declared ns w → declared_row_names d ≡ row_names w → s.declared d ≡ declared ns w
type_is ns d w n e f =
    let arities : d.arity ≡ Rattle.std.specs.Prelude.length w.parameters = ap (λ (x : D.Declared). x.arity) e in
    let rows = rows_are (data_scope ns w) d.constructors.items w.constructors n (ap (λ (x : D.Declared). x.constructors) e) f in
    λ i. record { arity = arities i; constructors = rows i }

types_are : (ns : _) (ds : List DeclaredType) (ws : List C.Data) → types_numbered ds ≡ true → v.declarations ds ≡ map (data_declared ns) ws → map declared_row_names ds ≡ map row_names ws → map s.declared ds ≡ map (declared ns) ws
types_are ns [] [] n e f = refl
types_are ns [] (w ∷ ws) n e f = absurd (cc)
types_are ns (d ∷ ds) [] n e f = absurd (cc)
types_are ns (d ∷ ds) (w ∷ ws) n e f =
    let parts = both_true (type_numbered d) (types_numbered ds) n in
    ap₂ (λ (d : S.Declared) (ds : List S.Declared). d ∷ ds)
    (type_is ns d w parts.0 (heads (v.declared d) (data_declared ns w) (v.declarations ds) (map (data_declared ns) ws) e) (heads (declared_row_names d) (row_names w) (map declared_row_names ds) (map row_names ws) f))
    (types_are ns ds ws parts.1 (tails (v.declared d) (data_declared ns w) (v.declarations ds) (map (data_declared ns) ws) e) (tails (declared_row_names d) (row_names w) (map declared_row_names ds) (map row_names ws) f))

pub source_is : (core : Core) (decls : Decls) → decls.names ≡ written_names (V.core core) → v.declarations decls.types.items ≡ declarations (V.core core) → map declared_row_names decls.types.items ≡ map row_names (data_types (V.core core)) → types_numbered decls.types.items ≡ true → s.source_of core decls ≡ flat_source (V.core core)
source_is core decls names types rows numbered =
    let all = types_are (declared_names (V.core core)) decls.types.items (data_types (V.core core)) numbered types rows in
    λ i. record { names = names i; types = all i; functions = (V.core core).functions }
