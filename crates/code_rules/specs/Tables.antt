-- S0: the types of a code and its functions' names. Type 1 is bool; there are at most 4,096 types and functions; each
-- type has constructors of names of its own, at most 16 fields each, of types of the table, and a finite value; no two
-- functions have one name, but the empty one.
--
-- `data inf { Mk(inf) }` alone breaks it, as it has no finite value.
use Rattle.std.specs.Prelude.{◌≡◌, ℕ, ◌<◌, ◌≤◌, List, [], ◌∷◌, length, Some, slice_get, codes}
use Rattle.cell_code.specs.fip_language.Table.{Table, Shape, constructors, HasType}
use Rattle.cell_code.specs.fip_language.Values.{Value}
use Rattle.code_rules.specs.Limits.{most_types, most_functions, most_fields}
use Rattle.cell_code.specs.Plain.{PlainFunction, PlainCode, function_at}

-- a constructor without fields
abbrev pub bare : List ℕ → Shape
bare name = record { name = name; fields = [] }

abbrev pub bool_shapes : List Shape
bool_shapes = bare (codes "False") ∷ bare (codes "True") ∷ []

-- constructor k of type t
abbrev pub IsShape : Table → ℕ → ℕ → Shape → Type 0
IsShape w t k s = slice_get (constructors w t) k ≡ Some s

pub record IsSoundShape (w : Table) (s : Shape) : Type 0 where
  pub few : length s.fields ≤ most_fields
  pub typed : (i t : ℕ) → slice_get s.fields i ≡ Some t → t ≤ length w

pub record IsSoundType (w : Table) (t : ℕ) : Type 0 where
  pub some : 0 < length (constructors w t)
  pub shapes : (k : ℕ) (s : Shape) → IsShape w t k s → IsSoundShape w s
  pub apart : (k l : ℕ) (r s : Shape) → IsShape w t k r → IsShape w t l s → r.name ≡ s.name → k ≡ l
  pub value : (v : Value) × HasType w t v

pub record AreSoundTables (c : PlainCode) : Type 0 where
  pub few_types : length c.types ≤ most_types
  pub few_functions : length c.functions ≤ most_functions
  pub bool : constructors c.types 1 ≡ bool_shapes
  pub types : (t : ℕ) → 0 < t → t ≤ length c.types → IsSoundType c.types t
  pub names :
      (m n : ℕ) (f g : PlainFunction) → function_at c m ≡ Some f → function_at c n ≡ Some g → 0 < length f.name →
      f.name ≡ g.name → m ≡ n
