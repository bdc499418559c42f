-- What every program without static parameters keeps to, whatever source it was made of. There are few instances and
-- few types, no two roots have one name, and the types are sound: bool is the first, each has a finite value, and its
-- constructors have names of their own, few fields, and types for these that are in the table. A header has few
-- credits, of sizes that constructors have.
--
-- In the program of `data list[a] { Nil; Cons(a, list[a]) }` and `fun f(xs: list[int]): int { 0 }` there are one
-- instance, f, without credits, and two types: bool, with the value False, and list[int], with the value Nil.
use Rattle.std.specs.Prelude.{◌≡◌, ℕ, suc, ◌<◌, ◌≤◌, true, List, [], length, map, Some, slice_get}
use Rattle.fip_base.specs.fip_language.Core.{DataConstructor}
use Rattle.fip_base.specs.fip_language.Declarations.{bool_type}
use Rattle.fip_base.specs.fip_language.declared.limits.TheConstants.{MOST_CREDITS, MOST_FIELDS, MOST_INSTANCES}
use Rattle.fip_base.specs.fip_language.SoundTable.{AreTypes}
use Rattle.fip_base.specs.fip_language.Table.{Shape, shapes, HasType}
use Rattle.fip_base.specs.fip_language.Values.{Value}
use Rattle.fip_trees.specs.Tree.{Instance, Program}

-- the constructors of bool, False and True, which have no fields
abbrev pub bool_row : List Shape
bool_row = map (λ (k : DataConstructor). record { name = k.name; fields = [] }) bool_type.constructors

-- the sizes of a header's credits
pub record AreHeaderCredits (sizes : List ℕ) : Type 0 where
  pub few : length sizes ≤ MOST_CREDITS
  pub sized : (i n : ℕ) → slice_get sizes i ≡ Some n → (1 ≤ n) × (n ≤ MOST_FIELDS)

pub record IsSoundProgram (p : Program) : Type 0 where
  pub few : length p.instances ≤ MOST_INSTANCES
  pub roots : (i j : ℕ) (d e : Instance) → slice_get p.instances i ≡ Some d → slice_get p.instances j ≡ Some e →
      d.root ≡ true → e.root ≡ true → d.name ≡ e.name → i ≡ j
  pub few_types : length p.types ≤ MOST_INSTANCES
  pub bool : shapes p.types 0 ≡ bool_row
  pub inhabited : (t : ℕ) → t < length p.types → (v : Value) × HasType p.types (suc t) v
  pub known : (t c : ℕ) (s : Shape) → slice_get (shapes p.types t) c ≡ Some s → AreTypes p.types s.fields
  pub narrow : (t c : ℕ) (s : Shape) → slice_get (shapes p.types t) c ≡ Some s → length s.fields ≤ MOST_FIELDS
  pub unlike : (t c d : ℕ) (s r : Shape) → slice_get (shapes p.types t) c ≡ Some s →
      slice_get (shapes p.types t) d ≡ Some r → s.name ≡ r.name → c ≡ d
  pub credits : (i : ℕ) (d : Instance) → slice_get p.instances i ≡ Some d → AreHeaderCredits d.credits
