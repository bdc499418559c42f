-- In the setting of a sound program types are scalar as its table says, and constructors have few fields; its headers have
-- credits of sizes that constructors have.
use Rattle.std.proofs.Common.{◌≡◌, ◌≤◌, ◌&&◌, ℕ, zero, suc, true, List, [], ◌∷◌, length, Option, Some, None, slice_get, inl, inr, refl, sym, ap, ◌∙◌, subst, arith}
use Rattle.std.proofs.Math.Logic.{∥∥₁_elim}
use Rattle.std.specs.Coded.{Coded-set, coded_bool, le_prop}
use Rattle.fip_language.proofs.Facts.{nat_lt_of}
use Rattle.fip_language.specs.declared.limits.TheConstants.{MOST_FIELDS}
use Rattle.fip_language.specs.Every.{Among}
use Rattle.fip_language.specs.SoundTable.{AreTypes as AreKnown}
use Rattle.fip_language.specs.Table as T
use Rattle.fip_language.specs.Table.{Shape, Table, shapes}
use Rattle.fip_trees.specs.SoundProgram.{AreHeaderCredits, IsSoundProgram}
use Rattle.fip_trees.specs.Tree.{Instance, Program}
use Rattle.fip_trees.proofs.TypedPrograms.{few_credits, credits_sized}
use Rattle.lower_parts.specs.lower_frame.code_rules.Types as Y
use Rattle.lower_parts.specs.lower_frame.code_rules.Types.{fields, fields_of, is_type, is_scalar_type}
use Rattle.lower_parts.specs.lowering_relation.LoweredFunctions.{IsSettingOf}
use Rattle.lower_parts.specs.lowering_relation.Values.{Setting}
use Rattle.lower_parts.specs.Bodies.{ScalarsRight}

in_table : (tb : Table) (t : ℕ) → t ≤ length tb → is_type tb t ≡ true
in_table tb t h = nat_lt_of t (suc (length tb)) (omega (arith, h))

scalar_in_table : (tb : Table) (t : ℕ) → is_type tb t ≡ true → T.is_scalar tb t ≡ is_scalar_type tb t
scalar_in_table tb t h = sym (ap (λ b. b && T.is_scalar tb t) h)

fields_known : (tb : Table) (o : Option Shape) → ((x : Shape) → o ≡ Some x → AreKnown tb x.fields) → AreKnown tb (fields_of o)
fields_known tb None h = tt
fields_known tb (Some x) h = h x refl

fields_few : (o : Option Shape) → ((x : Shape) → o ≡ Some x → length x.fields ≤ MOST_FIELDS) → length (fields_of o) ≤ MOST_FIELDS
fields_few None h = omega arith
fields_few (Some x) h = h x refl

known_among : (tb : Table) (ts : List ℕ) (u : ℕ) → AreKnown tb ts → Among u ts → u ≤ length tb
known_among tb [] u h a = absurd a
known_among tb (t ∷ ts) u h (inl e) = subst (λ x. x ≤ length tb) (sym e) h.0
known_among tb (t ∷ ts) u h (inr a) = known_among tb ts u h.1 a

module _ (p : Program) (sound : IsSoundProgram p) where
  type_fields : (t d : ℕ) → AreKnown p.types (fields p.types t d)
  type_fields zero d = tt
  type_fields (suc t) d = fields_known p.types (slice_get (shapes p.types t) d) (λ x e. sound.known t d x e)

  few_fields : (t d : ℕ) → length (fields p.types t d) ≤ MOST_FIELDS
  few_fields zero d = omega arith
  few_fields (suc t) d = fields_few (slice_get (shapes p.types t) d) (λ x e. sound.narrow t d x e)

one_bare : (ss : List Shape) → length ss ≡ 1 → fields_of (slice_get ss 0) ≡ [] → T.all_bare ss ≡ true
one_bare [] e f = absurd (let z : ⊥ = omega (arith, e) in z)
one_bare (x ∷ []) e f = ap (λ ts. T.no_fields ts && true) f
one_bare (x ∷ y ∷ ss) e f = absurd (let z : ⊥ = omega (arith, e) in z)

one_scalar : (tb : Table) (t : ℕ) → Y.count tb t ≡ 1 → fields tb t 0 ≡ [] → T.is_scalar tb t ≡ true
one_scalar tb zero e f = refl
one_scalar tb (suc t) e f = one_bare (shapes tb t) e f

scalars_right : (p : Program) (st : Setting) → IsSoundProgram p → IsSettingOf p st → ScalarsRight st
scalars_right p st sound so = record {
  parts = λ t d u a. so.scalar u ∙ scalar_in_table p.types u (in_table p.types u (known_among p.types (fields p.types t d) u (type_fields p sound t d) (subst (λ tb. Among u (fields tb t d)) so.types a)))
      ∙ ap (λ tb. is_scalar_type tb u) (sym so.types);
  few = λ t d. subst (λ tb. length (fields tb t d) ≤ MOST_FIELDS) (sym so.types) (few_fields p sound t d);
  atoms = λ t e f. so.scalar t ∙ one_scalar p.types t (sym (ap (λ tb. Y.count tb t) so.types) ∙ e) (sym (ap (λ tb. fields tb t 0) so.types) ∙ f);
}

-- so by the type of a typed program: each of these facts has one proof
pub sound_scalars : (p : Program) (st : Setting) → ∥ IsSoundProgram p ∥₁ → IsSettingOf p st → ScalarsRight st
sound_scalars p st sound so = record {
  parts = λ t d u a. ∥∥₁_elim sound (Coded-set coded_bool _ _) (λ x. (scalars_right p st x so).parts t d u a);
  few = λ t d. ∥∥₁_elim sound le_prop (λ x. (scalars_right p st x so).few t d);
  atoms = λ t e f. ∥∥₁_elim sound (Coded-set coded_bool _ _) (λ x. (scalars_right p st x so).atoms t e f);
}

pub header_credits : (p : Program) → ∥ IsSoundProgram p ∥₁ → (g : ℕ) (d : Instance) → slice_get p.instances g ≡ Some d → AreHeaderCredits d.credits
header_credits p sound g d at = record { few = few_credits p sound g d at; sized = credits_sized p sound g d at }
