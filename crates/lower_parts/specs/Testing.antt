-- It serves the proof that lowered code is laid out as asked: what the parts of the lowering of tests have laid out in
-- each function that has what they have written. Other tests are still to be written then: each at a label after it,
-- which takes what fails the test before it.
use Rattle.std.specs.Prelude.{◌≡◌, ◌≤◌, ◌<◌, ℕ, List, Option, Some, None, true, map, is_some, slice_get}
use Rattle.fip_language.specs.Every.{Every}
use Rattle.fip_language.specs.Table.{Table}
use Rattle.fip_trees.specs.Tree.{Pattern}
use Rattle.cell_code.specs.declared.kind.Kind.{Kind}
use Rattle.cell_code.specs.Plain.{PlainFunction, PlainCode}
use Rattle.lower_frame.specs.code_rules.Codes.{label_at}
use Rattle.match_knowledge.specs.declared.verdicts.Verdict.TheVariants as D
use Rattle.match_knowledge.specs.Patterns as M
use Rattle.match_knowledge.specs.Known.{Known, compare}
use Rattle.lower_frame.specs.lowering_relation.Rows.{row_of}
use Rattle.lower_frame.specs.lowering_relation.Landing.{Scene, Side, RuledOut}
use Rattle.lower_frame.specs.lowering_relation.Written.{Written, size, HasFrom, IsAt}
use Rattle.lower_frame.specs.lowering_relation.declared.held.Held.{Held}
use Rattle.lower_frame.specs.lowering_relation.Describing.{Holding, held_at}
use Rattle.lower_frame.specs.lowering_relation.Matches.{BuiltRight, widened}
use Rattle.lower_frame.specs.lowering_relation.Tests.{Choice, TakenAt, TestsLaid}
use Rattle.lower_frame.specs.Labels.{telling}
use Rattle.lower_parts.specs.Seen.{Seen}

-- what tests are written of, where labels are at these places
abbrev pub choice_at : (ℕ → ℕ) → Scene → Choice
choice_at to s = record {
  type = s.type;
  root = s.root;
  takes = s.takes;
  patterns = s.patterns;
  entries = map to s.entries;
}

-- the same but for which constructors were built; those that were are of their types
pub record Alike (w : Table) (hs : List Held) (g : Holding) : Type 0 where
  pub held : (r : ℕ) → widened (g r) ≡ widened (held_at hs r)
  pub built : (r : ℕ) → BuiltRight w (g r)

-- A label has its place at n or after, and takes what is known there, whatever was built before the match, or the body
-- of a clause begins there.
pub record CaughtAt (c : PlainCode) (f : PlainFunction) (hs : List Held) (ch : Choice) (n : ℕ) (known : Known)
    (read : List ℕ) (place : ℕ) : Type 0 where
  pub following : n ≤ place
  pub label : is_some (label_at f.labels place) ≡ true
  pub takes : (g : Holding) → Alike c.types hs g → TakenAt c f g ch place known read

abbrev pub CaughtBy :
    PlainCode → PlainFunction → List Held → Choice → (ℕ → ℕ) → ℕ → Known → List ℕ → Option ℕ → Type 0
CaughtBy c f hs ch to n known read None = ⊥
CaughtBy c f hs ch to n known read (Some label) = CaughtAt c f hs ch n known read (to label)

-- so it is with the label of a side
abbrev pub Caught : PlainCode → PlainFunction → List Held → Choice → (ℕ → ℕ) → ℕ → Side → Type 0
Caught c f hs ch to n d = CaughtBy c f hs ch to n d.known d.read d.label

-- tests, and then clause i is chosen
abbrev pub Tried : PlainCode → PlainFunction → Holding → Choice → ℕ → Known → List ℕ → ℕ → ℕ → Type 0
Tried c f g ch at k read i end = (steps : ℕ) × TestsLaid c f g ch steps at k read i end

-- the same, or clause i is chosen already
abbrev pub TriedOn : PlainCode → PlainFunction → Holding → Choice → ℕ → Known → List ℕ → Option ℕ → ℕ → ℕ → Type 0
TriedOn c f g ch at k read None i end = Tried c f g ch at k read i end
TriedOn c f g ch at k read (Some j) i end = (j ≡ i) × (end ≡ at)

-- the positions that were read, where this is known
abbrev pub SeenAt : Scene → Known → List ℕ → Type 0
SeenAt s k read = Seen s.table s.type k s.root read

abbrev pub SeenSide : Scene → Side → Type 0
SeenSide s d = SeenAt s d.known d.read

-- no value that comes to a side matches a pattern
abbrev pub Misses : M.Pattern → Side → Type 0
Misses p d = compare p d.known ≡ D.Misses

-- so it is with the pattern of clause i
pub record AreMissed (ps : List M.Pattern) (i : ℕ) (ds : List Side) : Type 0 where
  pub each : (p : M.Pattern) → slice_get ps i ≡ Some p → Every (Misses p) ds

-- a step from where k is known to where l is known, or to a clause; nothing is reported
pub record StepsLaid (s : Scene) (v : Written) (k : Known) (read : List ℕ) (w : Written) (l : Known)
    (read_on : List ℕ) (new : List Side) (o : Option ℕ) : Type 0 where
  pub maps : w.maps ≡ v.maps
  pub by : (c : PlainCode) (to : ℕ → ℕ) (f : PlainFunction) (hs : List Held) (g : Holding) → Alike c.types hs g →
      c.types ≡ s.table → HasFrom (size v) w to f.instrs →
      Every (Caught c f hs (choice_at to s) to (size w)) new → (i end : ℕ) →
      TriedOn c f g (choice_at to s) (size w) l read_on o i end → Tried c f g (choice_at to s) (size v) k read i end
  pub seen : SeenAt s k read → (o ≡ None → SeenAt s l read_on) × Every (SeenSide s) new
  pub missed : (p : M.Pattern) → compare p k ≡ D.Misses → (compare p l ≡ D.Misses) × Every (Misses p) new
  pub chosen : (i : ℕ) → o ≡ Some i →
      (q : Pattern) × (slice_get s.patterns i ≡ Some q) × (compare (row_of q) l ≡ D.Fits)
  pub later : Every (λ (d : Side). 0 < size w) new

-- where a side has a label these kinds are reported at the end of v; else nothing is reported
abbrev pub ReportsSide : Written → Option ℕ → List Kind → Written → Type 0
ReportsSide v None kinds w = w.maps ≡ v.maps
ReportsSide v (Some label) kinds w = IsAt w label (size v) × (w.maps ≡ telling (size v) kinds v.maps)

-- the tests from a side on, up to clause i, where these kinds are reported at the side
pub record FollowsLaid (s : Scene) (kinds : List Kind) (v : Written) (d : Side) (w : Written) (new : List Side)
    (i : ℕ) : Type 0 where
  pub by : (c : PlainCode) (to : ℕ → ℕ) (f : PlainFunction) (hs : List Held) (g : Holding) → Alike c.types hs g →
      c.types ≡ s.table → HasFrom (size v) w to f.instrs →
      Every (Caught c f hs (choice_at to s) to (size w)) new →
      Tried c f g (choice_at to s) (size v) d.known d.read i (size w)
  pub reports : ReportsSide v d.label kinds w
  pub later : Every (λ (d : Side). 0 < size w) new
  pub seen : SeenSide s d → Every (SeenSide s) new
  pub missed : (p : M.Pattern) → Misses p d → Every (Misses p) new
  pub onward : (n : ℕ) → RuledOut s d.known n → n ≤ i
