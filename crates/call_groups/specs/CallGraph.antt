-- It serves the search for groups: functions are numbered, and each has the number of its group.
use Rattle.std.specs.Prelude.{◌≡◌, ◌≤◌, ◌<◌, ◌↔◌, ℕ, Bool, List, map, length, slice_get}
use Rattle.std.specs.Prelude.{Option, Some, None}
use Rattle.std.specs.declared.vec.Vec.{Vec}
use Rattle.std.specs.declared.alloc.Global.{Global}
use Rattle.call_groups.specs.declared.search.Call.{Call}
use Rattle.call_groups.specs.declared.search.Standing.{Standing}
use Rattle.call_groups.specs.declared.search.Standing.TheVariants.{New, OnPath, Grouped}
use Rattle.call_groups.specs.declared.search.Partition.{Partition}
pub use Rattle.call_groups.specs.Groups.{In, calls_of, call, Calls, Path, Reaches, SameGroup}

abbrev pub row : Vec Call Global → List Call
row v = v.items

abbrev pub rows : List (Vec Call Global) → List (List Call)
rows = map row

-- the number of a function's group; a number that is no function's is a group of its own
abbrev pub number_by : Option Standing → ℕ → ℕ
number_by None f = f
number_by (Some New) f = f
number_by (Some (OnPath p)) f = f
number_by (Some (Grouped g)) f = g

abbrev pub group_number : Partition → ℕ → ℕ
group_number p f = number_by (slice_get p.standings.items f) f

-- The groups of these rows, and all functions in the order of their groups' numbers. A call never leads to a group of a
-- greater number.
pub record IsPartition (rs : List (List Call)) (p : Partition) : Type 0 where
  pub same : (a b : ℕ) → (group_number p a ≡ group_number p b) ↔ SameGroup rs a b
  pub falls : (a b : ℕ) (k : Bool) → Calls rs a b k → b < length rs → group_number p b ≤ group_number p a
  pub within : (a : ℕ) → a < length rs → group_number p a < length rs
  pub listed : (a : ℕ) → a < length rs → In a p.order.items
  pub there : (a : ℕ) → In a p.order.items → a < length rs
  pub in_order :
      (i j a b : ℕ) → i ≤ j → slice_get p.order.items i ≡ Some a → slice_get p.order.items j ≡ Some b →
      group_number p a ≤ group_number p b
