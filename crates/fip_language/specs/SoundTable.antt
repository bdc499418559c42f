-- What is required of a table of types before values of its types are read or written.
-- Constructors have upper-case names, no two of a type are alike, a constructor has at most 16 fields, the types of
-- the fields are there, and every type has a value.
use Rattle.std.specs.Prelude.{◌≡◌, ℕ, suc, ◌<◌, ◌≤◌, true, List, [], ◌∷◌, length, Some, slice_get}
use Rattle.fip_language.specs.declared.limits.TheConstants.{MOST_FIELDS}
use Rattle.fip_language.specs.Values.{Value}
use Rattle.fip_language.specs.Table.{Shape, Table, shapes, HasType}
use Rattle.fip_language.specs.Character.{is_upper_name}

-- these types are there: int is type 0, and the table has the types from 1 on
abbrev pub AreTypes : Table → List ℕ → Type 0
AreTypes tb [] = Unit {0}
AreTypes tb (k ∷ ks) = (k ≤ length tb) × AreTypes tb ks

pub record IsSoundTable (tb : Table) : Type 0 where
  pub names : (t c : ℕ) (s : Shape) → slice_get (shapes tb t) c ≡ Some s → is_upper_name s.name ≡ true
  pub unlike : (t c d : ℕ) (s r : Shape) → slice_get (shapes tb t) c ≡ Some s → slice_get (shapes tb t) d ≡ Some r →
      s.name ≡ r.name → c ≡ d
  pub known : (t c : ℕ) (s : Shape) → slice_get (shapes tb t) c ≡ Some s → AreTypes tb s.fields
  pub narrow : (t c : ℕ) (s : Shape) → slice_get (shapes tb t) c ≡ Some s → length s.fields ≤ MOST_FIELDS
  pub inhabited : (t : ℕ) → t < length tb → (v : Value) × HasType tb (suc t) v
