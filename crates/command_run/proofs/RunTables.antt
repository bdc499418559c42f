-- The table of types of sound code is one by which values are read: its constructors have names of their own, fields
-- of its types, and values. The code says it with two nots, and so it is said here of what is no test.
use Rattle.std.proofs.Common.{◌≡◌, ◌⊎◌, inl, inr, ℕ, zero, suc, ◌<◌, ◌≤◌, Bool, true, false, ◌&&◌, List, [], ◌∷◌, Some, length, map, slice_get, refl, ap, ap₂, arith}
use Rattle.std.specs.Prelude.{ℤ, pos, negsuc}
use Rattle.std.proofs.lemmas.Option.{none-some}
use Rattle.std.proofs.lemmas.Bool.Decides.{nat_tests}
use Rattle.fip_base.specs.declared.plain.Param.{Param}
use Rattle.fip_language.specs.Character.{is_upper_name}
use Rattle.fip_language.specs.SoundTable.{AreTypes, IsSoundTable}
use Rattle.fip_language.specs.Table.{Shape, Table, shapes}
use Rattle.fip_language.specs.Values.{Value, Int, Node, Values, End, More}
use Rattle.command_eval.specs.machine_correctness.code_rules.Breaks.{IsSound}
use Rattle.code_verify.specs.cell_code.Plain.{PlainCode}
use Rattle.command_eval.specs.machine_correctness.code_rules.Headers.{are_params}
use Rattle.command_eval.specs.machine_correctness.code_rules.Tables.{AreSoundTables}
use Rattle.command_eval.specs.machine_correctness.code_rules.Types.{is_type}
use Rattle.command_eval.specs.machine_correctness.code_rules.declared.rule.SoundRule.TheVariants.{S0}
use Rattle.fip_language.proofs.Facts.{and_both as both, same_or_apart as numbers}
use Rattle.command_run.proofs.FileTypes.{types_there as are_types}

-- it can't be that tables aren't sound
pub tables : (c : PlainCode) → IsSound c → (AreSoundTables c → ⊥) → ⊥
tables c sound none = sound 0 0 S0 (inl (none, refl, refl, refl))

-- ---- the table

within : (tb : Table) (t k : ℕ) (s : Shape) → slice_get (shapes tb t) k ≡ Some s → t < length tb
within [] t k s e = absurd (none-some s e)
within (row ∷ rows) zero k s e = omega arith
within (row ∷ rows) (suc t) k s e = let h = within rows t k s e in omega (arith, h)

pub sound_table : (c : PlainCode) → AreSoundTables c → ((t k : ℕ) (s : Shape) → slice_get (shapes c.types t) k ≡ Some s → is_upper_name s.name ≡ true) → IsSoundTable c.types
sound_table c h names = record {
  names = names;
  unlike = λ t k l s r e f n. (h.types (suc t) (omega arith) (let w = within c.types t k s e in omega (arith, w))).apart k l s r e f n;
  known = λ t k s e. are_types c.types s.fields ((h.types (suc t) (omega arith) (let w = within c.types t k s e in omega (arith, w))).shapes k s e).typed;
  narrow = λ t k s e. ((h.types (suc t) (omega arith) (let w = within c.types t k s e in omega (arith, w))).shapes k s e).few;
  inhabited = λ t l. (h.types (suc t) (omega arith) (omega (arith, l))).value;
}

-- ---- parameters

type_within : (tb : Table) (t : ℕ) → is_type tb t ≡ true → t ≤ length tb
type_within tb t e = grind (arith, nat_tests, e)

pub params_known : (tb : Table) (ps : List Param) → are_params tb ps ≡ true → AreTypes tb (map (λ (p : Param). p.ty) ps)
params_known tb [] e = tt
params_known tb (p ∷ ps) e = let h = both (is_type tb p.ty) (are_params tb ps) e in (type_within tb p.ty h.0, params_known tb ps h.1)

-- ---- whether values are the same

ints : (i j : ℤ) → (i ≡ j) ⊎ (i ≡ j → ⊥)
ints (pos m) (pos n) = elim (numbers m n) as (λ v. (pos m ≡ pos n) ⊎ (pos m ≡ pos n → ⊥)) [ inl h ↦ inl (ap pos h) | inr h ↦ inr (λ e. h (let z : m ≡ n = cc in z)) ]
ints (pos m) (negsuc n) = inr (λ e. absurd cc)
ints (negsuc m) (pos n) = inr (λ e. absurd cc)
ints (negsuc m) (negsuc n) = elim (numbers m n) as (λ v. (negsuc m ≡ negsuc n) ⊎ (negsuc m ≡ negsuc n → ⊥)) [ inl h ↦ inl (ap negsuc h) | inr h ↦ inr (λ e. h (let z : m ≡ n = cc in z)) ]

mutual
  value_same : (v w : Value) → (v ≡ w) ⊎ (v ≡ w → ⊥)
  value_same (Int i) (Int j) = elim (ints i j) as (λ x. (Int i ≡ Int j) ⊎ (Int i ≡ Int j → ⊥)) [ inl h ↦ inl (ap Int h) | inr h ↦ inr (λ e. h (let z : i ≡ j = cc in z)) ]
  value_same (Int i) (Node d ws) = inr (λ e. absurd cc)
  value_same (Node c vs) (Int j) = inr (λ e. absurd cc)
  value_same (Node c vs) (Node d ws) = elim (numbers c d) as (λ x. (Node c vs ≡ Node d ws) ⊎ (Node c vs ≡ Node d ws → ⊥)) [
    | inl h ↦ elim (values_same vs ws) as (λ x. (Node c vs ≡ Node d ws) ⊎ (Node c vs ≡ Node d ws → ⊥)) [
      | inl k ↦ inl (ap₂ Node h k)
      | inr k ↦ inr (λ e. k (let z : vs ≡ ws = cc in z))
    ]
    | inr h ↦ inr (λ e. h (let z : c ≡ d = cc in z))
  ]

  values_same : (vs ws : Values) → (vs ≡ ws) ⊎ (vs ≡ ws → ⊥)
  values_same End End = inl refl
  values_same End (More w ws) = inr (λ e. absurd cc)
  values_same (More v vs) End = inr (λ e. absurd cc)
  values_same (More v vs) (More w ws) = elim (value_same v w) as (λ x. (More v vs ≡ More w ws) ⊎ (More v vs ≡ More w ws → ⊥)) [
    | inl h ↦ elim (values_same vs ws) as (λ x. (More v vs ≡ More w ws) ⊎ (More v vs ≡ More w ws → ⊥)) [
      | inl k ↦ inl (ap₂ More h k)
      | inr k ↦ inr (λ e. k (let z : vs ≡ ws = cc in z))
    ]
    | inr h ↦ inr (λ e. h (let z : v ≡ w = cc in z))
  ]

pub values_unless : (vs ws : Values) → ((vs ≡ ws → ⊥) → ⊥) → vs ≡ ws
values_unless vs ws h = elim (values_same vs ws) as (λ x. vs ≡ ws) [ inl e ↦ e | inr n ↦ absurd (h n) ]
