-- It serves the proof that lowered code is laid out as asked: what the end of a clause leaves, where a let binds its
-- match, and what is laid out there. o was known where the match began, ms are its marks, and `need` is what it needs
-- of each size of credits; the clause gave its values to the registers `given`. v was written before, where k was
-- known, and w after, where l is known.
-- Where 2 is the only register that owned a tree at o, and is marked, and 3 is given, a tree in 3 stays and one in 2
-- doesn't.
use Rattle.std.specs.Prelude.{◌≡◌, ◌⊎◌, ◌<◌, ◌≤◌, ◌-◌, ℕ, Bool, true, false, not, ◌&&◌, ◌||◌, List, Option, Some, None}
use Rattle.std.specs.Prelude.{length, slice_get, take}
use Rattle.fip_language.specs.declared.FunKind.{FunKind}
use Rattle.fip_language.specs.declared.FunKind.TheVariants.{Fip, Fbip, Fun}
use Rattle.fip_language.specs.declared.limits.TheConstants.{MOST_FIELDS}
use Rattle.fip_trees.specs.Sizes.{no_sizes, number}
use Rattle.fip_trees.specs.Tree.{Expression}
use Rattle.fip_trees.specs.declared.needs.Need.{Need}
use Rattle.cell_code.specs.Plain.{PlainFunction, PlainCode}
use Rattle.lower_frame.specs.lowering_relation.declared.held.Held.TheVariants as H
use Rattle.lower_frame.specs.lowering_relation.Known.{Known, is_owned}
use Rattle.lower_frame.specs.lowering_relation.Values.{Setting}
use Rattle.lower_frame.specs.lowering_relation.LoweredBodies.{Target, Return, Into}
use Rattle.lower_frame.specs.lowering_relation.Reading.{contains}
use Rattle.lower_frame.specs.lowering_relation.Written.{Written, size, HasFrom}
use Rattle.lower_frame.specs.lowering_relation.Credits.{of_size}
use Rattle.lower_frame.specs.lowering_relation.Describing.{held_at}
use Rattle.lower_frame.specs.lowering_relation.Joins.{BaresEnd}
use Rattle.lower_frame.specs.lowering_relation.Leftover.{LeavesOver}
use Rattle.lower_frame.specs.lowering_relation.Matches.{wide}
use Rattle.lower_frame.specs.lowering_relation.Uses as U
use Rattle.lower_frame.specs.Credits.{Accounted, sized}
use Rattle.lower_parts.specs.Marks.{AreMarked, is_marked}

-- in these functions what is left over is given up
abbrev pub is_fbip : FunKind → Bool
is_fbip Fip = false
is_fbip Fbip = true
is_fbip Fun = false

-- what an expression needs, of which this is reported
abbrev pub sizes_of : Option Need → List ℕ
sizes_of None = no_sizes
sizes_of (Some n) = n.sizes

-- a tree in register r stays
abbrev pub stays_at : Known → List Bool → List ℕ → ℕ → Bool
stays_at o ms given r = (is_owned (slice_get o.held r) && not (is_marked ms r)) || contains r given

-- the tree in register r is dropped, unless it stays; others stay
pub record DropsUnless (stays : Bool) (r : ℕ) (k l : Known) : Type 0 where
  pub gone : stays ≡ false → is_owned (slice_get l.held r) ≡ false
  pub kept : stays ≡ true → l ≡ k
  pub others : (q : ℕ) → (q ≡ r → ⊥) → is_owned (slice_get l.held q) ≡ is_owned (slice_get k.held q)
  pub credits : l.credits ≡ k.credits

-- of the first n registers the trees are dropped that don't stay
pub record DropsBut (o : Known) (ms : List Bool) (given : List ℕ) (n : ℕ) (k l : Known) : Type 0 where
  pub kept : (r : ℕ) → stays_at o ms given r ≡ true → is_owned (slice_get l.held r) ≡ is_owned (slice_get k.held r)
  pub gone : (r : ℕ) → r < n → stays_at o ms given r ≡ false → is_owned (slice_get l.held r) ≡ false
  pub credits : l.credits ≡ k.credits

-- of the credits of a size so many are left, the first ones, and those of other sizes; trees stay
pub record FreesPast (n kept : ℕ) (k l : Known) : Type 0 where
  pub past : Accounted k → of_size n l.credits ≡ take kept (of_size n k.credits)
  pub others : (m : ℕ) → (m ≡ n → ⊥) → of_size m l.credits ≡ of_size m k.credits
  pub trees : Accounted k → (r : ℕ) → is_owned (slice_get l.held r) ≡ is_owned (slice_get k.held r)

-- how many credits of a size are left
abbrev pub kept_of : Known → List ℕ → ℕ → ℕ
kept_of o need n = sized n o.credits - number need n

-- this is so of the sizes up to n
pub record FreesBut (o : Known) (need : List ℕ) (n : ℕ) (k l : Known) : Type 0 where
  pub past : Accounted k → (m : ℕ) → 1 ≤ m → m ≤ n →
      of_size m l.credits ≡ take (kept_of o need m) (of_size m k.credits)
  pub others : (m : ℕ) → (m ≡ 0) ⊎ (n < m) → of_size m l.credits ≡ of_size m k.credits
  pub trees : Accounted k → (r : ℕ) → is_owned (slice_get l.held r) ≡ is_owned (slice_get k.held r)

-- In fbip the marks are those of match e, each tree that is owned where it begins has one, and `need` is what e needs.
pub record CanLeave (s : Setting) (fip : Bool) (o : Known) (e : Expression) (ms : List Bool) (need : List ℕ) :
    Type 0 where
  pub marked : fip ≡ false → AreMarked s o e ms
  pub many : fip ≡ false → (r : ℕ) → is_owned (slice_get o.held r) ≡ true → r < length ms
  pub needed : fip ≡ false → (n : ℕ) → 1 ≤ n → n ≤ MOST_FIELDS → number need n ≡ U.need s n e

-- in fbip what is left over is given up
pub record LeavesLaid (s : Setting) (fip : Bool) (k : Known) (v : Written) (o : Known) (ms : List Bool)
    (need given : List ℕ) (l : Known) (w : Written) : Type 0 where
  pub by : Accounted k → (e : Expression) → CanLeave s fip o e ms need → (to : ℕ → ℕ) (f : PlainFunction) →
      HasFrom (size v) w to f.instrs → LeavesOver fip s f o e given (size v) k (size w) l

-- The end of a clause of match e from `at` to `stop`: constructors that were matched are used up, and in fbip what is
-- left over is given up. A register holds then what it held, or nothing; which constructors were built is forgotten.
pub record LeftAfter (c : PlainCode) (s : Setting) (fip : Bool) (f : PlainFunction) (o : Known) (e : Expression)
    (given : List ℕ) (at : ℕ) (k : Known) (stop : ℕ) (l : Known) : Type 0 where
  pub mid : ℕ
  pub bare : Known
  pub bares : BaresEnd c f at k mid bare
  pub left : Known
  pub over : LeavesOver fip s f o e given mid bare stop left
  pub held : (r : ℕ) → (held_at left.held r ≡ held_at k.held r) ⊎ (held_at left.held r ≡ H.Nothing)
  pub known : l ≡ wide left

pub record ClauseLeavesLaid (s : Setting) (fip : Bool) (k : Known) (v : Written) (o : Known) (ms : List Bool)
    (need given : List ℕ) (l : Known) (w : Written) : Type 0 where
  pub maps : w.maps ≡ v.maps
  pub names : l.names ≡ k.names
  pub next : l.next ≡ k.next
  pub accounts : Accounted k → Accounted l
  pub by : Accounted k → (e : Expression) → CanLeave s fip o e ms need → (c : PlainCode) (to : ℕ → ℕ)
      (f : PlainFunction) → HasFrom (size v) w to f.instrs → LeftAfter c s fip f o e given (size v) k (size w) l

-- constructors that were matched are used up; where nothing was written all is known as it was
pub record EndsBaresLaid (k : Known) (v : Written) (l : Known) (w : Written) : Type 0 where
  pub maps : w.maps ≡ v.maps
  pub names : l.names ≡ k.names
  pub next : l.next ≡ k.next
  pub accounts : Accounted k → Accounted l
  pub still : size w ≡ size v → l ≡ k
  pub held : (r : ℕ) → (held_at l.held r ≡ held_at k.held r) ⊎ (held_at l.held r ≡ H.Nothing)
  pub by : Accounted k → (c : PlainCode) (to : ℕ → ℕ) (f : PlainFunction) → HasFrom (size v) w to f.instrs →
      BaresEnd c f (size v) k (size w) l

-- before a match whose values go to a target
abbrev pub EndsMatchedLaid : Target → Known → Written → Known → Written → Type 0
EndsMatchedLaid Return k v l w = (l ≡ k) × (w ≡ v)
EndsMatchedLaid (Into ds) k v l w = EndsBaresLaid k v l w
