-- What a sound code keeps of the rules on its tables and headers, a number at a time.
use Rattle.std.proofs.Common.{◌≡◌, ◌<◌, ◌≤◌, ℕ, zero, suc, Bool, true, false, inl, inr, List, [], ◌∷◌, length, Some, slice_get, refl, arith}
use Rattle.std.proofs.lemmas.Option.{none-some}
use Rattle.lowering_soundness.specs.fip_language.Table.{Shape, Table, shapes}
use Rattle.lowering_soundness.specs.code_rules.Breaks.{IsSound}
use Rattle.lowering_soundness.specs.cell_code.Plain.{PlainFunction, PlainCode, function_at}
use Rattle.lowering_soundness.specs.code_rules.Headers.{is_formed}
use Rattle.lowering_soundness.specs.code_rules.Limits.{most_types, most_functions, most_fields}
use Rattle.lowering_soundness.specs.code_rules.Tables.{IsSoundShape, AreSoundTables}
use Rattle.lowering_soundness.specs.code_rules.declared.rule.SoundRule.TheVariants.{S0, S9}

-- its tables aren't unsound
keeps_tables : (c : PlainCode) → IsSound c → (AreSoundTables c → ⊥) → ⊥
keeps_tables c sound fails = sound 0 0 S0 (inl (fails, refl, refl, refl))

-- a number that isn't past another is at most this
stable : (n m : ℕ) → ((n ≤ m → ⊥) → ⊥) → n ≤ m
stable zero m h = omega arith
stable (suc n) zero h = absurd (h (λ e. let z : ⊥ = omega (arith, e) in z))
stable (suc n) (suc m) h =
    let z : n ≤ m = stable n m (λ fails. h (λ e. fails (let y : n ≤ m = omega (arith, e) in y))) in
    omega (arith, z)

shape_there : (w : Table) (t k : ℕ) (s : Shape) → slice_get (shapes w t) k ≡ Some s → t < length w
shape_there [] t k s e = absurd (none-some s e)
shape_there (row ∷ w) zero k s e = omega arith
shape_there (row ∷ w) (suc t) k s e =
    let z = shape_there w t k s e in
    omega (arith, z)

sound_shape : (c : PlainCode) (t k : ℕ) (s : Shape) → slice_get (shapes c.types t) k ≡ Some s → AreSoundTables c → IsSoundShape c.types s
sound_shape c t k s e tables =
    let z = shape_there c.types t k s e in
    (tables.types (suc t) (omega arith) (omega (arith, z))).shapes k s e

-- there are few types, with few fields, of types that are there
pub record IsNarrowTable (w : Table) : Type 0 where
  pub few_types : length w ≤ most_types
  pub narrow : (t k : ℕ) (s : Shape) → slice_get (shapes w t) k ≡ Some s → length s.fields ≤ most_fields
  pub known : (t k : ℕ) (s : Shape) → slice_get (shapes w t) k ≡ Some s → (i u : ℕ) → slice_get s.fields i ≡ Some u → u ≤ length w

pub narrow_table : (c : PlainCode) → IsSound c → IsNarrowTable c.types
narrow_table c sound = record {
  few_types = stable (length c.types) most_types (λ fails. keeps_tables c sound (λ tables. fails tables.few_types));
  narrow = λ t k s e. stable (length s.fields) most_fields (λ fails. keeps_tables c sound (λ tables. fails (sound_shape c t k s e tables).few));
  known = λ t k s e i u at. stable u (length c.types) (λ fails. keeps_tables c sound (λ tables. fails ((sound_shape c t k s e tables).typed i u at)));
}

pub few_functions : (c : PlainCode) → IsSound c → length c.functions ≤ most_functions
few_functions c sound = stable (length c.functions) most_functions (λ fails. keeps_tables c sound (λ tables. fails tables.few_functions))

-- each function keeps S9
pub sound_formed : (c : PlainCode) (n : ℕ) (f : PlainFunction) → IsSound c → function_at c n ≡ Some f → is_formed c f ≡ true
sound_formed c n f sound e = by (is_formed c f) refl
  where
    by : (b : Bool) → is_formed c f ≡ b → is_formed c f ≡ true
    by true k = k
    by false k = absurd (keeps_tables c sound (λ tables. sound n 0 S9 (inr (tables, (f, e, inl (k, refl, refl))))))
