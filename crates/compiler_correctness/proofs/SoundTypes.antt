-- The types of the program of a source are those of sound code, by what every program without static parameters keeps to.
use Rattle.std.proofs.Common.{◌≡◌, ◌<◌, ◌≤◌, ℕ, zero, suc, List, [], ◌∷◌, length, Some, slice_get, sym, ap, ◌∙◌, subst, arith}
use Rattle.std.proofs.lemmas.Option.{none-some, same_Some}
use Rattle.lowering_soundness.specs.fip_language.SoundTable.{AreTypes as AreKnown}
use Rattle.lowering_soundness.specs.fip_language.Table.{Shape, Table, shapes, constructors, HasType}
use Rattle.lowering_soundness.specs.fip_language.Values.{Value, Int, Node}
use Rattle.lowering_soundness.specs.fip_trees.SoundProgram.{IsSoundProgram}
use Rattle.lowering_soundness.specs.fip_trees.Tree.{Program}
use Rattle.derivation_correctness.proofs.static_params.Sounding.{flat_is_sound}
use Rattle.lowering_soundness.proofs.type_check.Filling.{stays_sound}
use Rattle.lowering_soundness.specs.cell_code.Plain.{PlainFunction, PlainCode, function_at}
use Rattle.lowering_soundness.specs.code_rules.Limits.{most_types, most_functions}
use Rattle.lowering_soundness.specs.code_rules.Tables.{bool_shapes, IsSoundType, AreSoundTables}
use Rattle.derivation_correctness.specs.source_report.Report.{IsFlat, IsTyped}

pub typed_sound : (source : List ℕ) (p : Program) → IsTyped source p → IsSoundProgram p
typed_sound source p h =
    let f : IsFlat source h.untyped = h.flat in
    subst IsSoundProgram (sym h.is) (stays_sound h.untyped (subst IsSoundProgram (sym f.is) (flat_is_sound f.core f.declared.unbroken f.declared.valued f.numbers f.few)))

pub typed_bool : (source : List ℕ) (p : Program) → IsTyped source p → constructors p.types 1 ≡ bool_shapes
typed_bool source p h = (typed_sound source p h).bool

-- ---- the types

known_at : (tb : Table) (ts : List ℕ) (i t : ℕ) → AreKnown tb ts → slice_get ts i ≡ Some t → t ≤ length tb
known_at tb [] i t h e = absurd (none-some t e)
known_at tb (u ∷ ts) zero t h e = subst (λ u. u ≤ length tb) (same_Some u t e) h.0
known_at tb (u ∷ ts) (suc i) t h e = known_at tb ts i t h.1 e

get_within : (ks : List Shape) (i : ℕ) (k : Shape) → slice_get ks i ≡ Some k → 0 < length ks
get_within [] i k e = absurd (none-some k e)
get_within (j ∷ ks) i k e = omega arith

some_shape : (tb : Table) (t : ℕ) (v : Value) → HasType tb (suc t) v → 0 < length (shapes tb t)
some_shape tb t (Int i) h = absurd h
some_shape tb t (Node c vs) h = get_within (shapes tb t) c h.0 h.1

sound_type : (p : Program) (t : ℕ) → IsSoundProgram p → 0 < t → t ≤ length p.types → IsSoundType p.types t
sound_type p zero h low high = absurd (let z : ⊥ = omega arith in z)
sound_type p (suc t) h low high =
    let v = h.inhabited t (omega arith) in
    record {
      some = some_shape p.types t v.0 v.1;
      shapes = λ k s e. record { few = h.narrow t k s e; typed = λ i u at. known_at p.types s.fields i u (h.known t k s e) at };
      apart = λ k l r s e f same. h.unlike t k l r s e f same;
      value = v;
    }

pub tables_are_sound : (source : List ℕ) (p : Program) (c : PlainCode) → IsTyped source p → c.types ≡ p.types → length c.functions ≤ most_functions → ((m n : ℕ) (f g : PlainFunction) → function_at c m ≡ Some f → function_at c n ≡ Some g → 0 < length f.name → f.name ≡ g.name → m ≡ n) → AreSoundTables c
tables_are_sound source p c typed same few names =
    let sound = typed_sound source p typed in
    record {
      few_types = subst (λ (tb : Table). length tb ≤ most_types) (sym same) sound.few_types;
      few_functions = few;
      bool = ap (λ tb. constructors tb 1) same ∙ typed_bool source p typed;
      types = λ t low high. subst (λ tb. IsSoundType tb t) (sym same) (sound_type p t sound low (subst (λ tb. t ≤ length tb) same high));
      names = names;
    }
