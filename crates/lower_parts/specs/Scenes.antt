-- It serves the proofs on lowered code: matches and the sides of their tests, as the code keeps them, and what each
-- part of the lowering of tests has written: v was written before it and w after it, with ds and es the sides that
-- were still to be written.
use Rattle.std.specs.Prelude.{◌≡◌, ◌⊎◌, ◌<◌, ℕ, suc, Bool, true, false, List, [], ◌∷◌, ◌++◌, Option, Some}
use Rattle.std.specs.Prelude.{None, length, map, slice_get, if◌then◌else◌}
use Rattle.std.specs.Borrow.{Bor}
use Rattle.fip_language.specs.Every.{Every}
use Rattle.fip_language.specs.Table.{Table}
use Rattle.fip_trees.specs.declared.program.Pattern.{Pattern as Tree}
use Rattle.fip_trees.specs.Tree.{Pattern}
use Rattle.fip_trees.specs.TreeView as V
use Rattle.cell_code.specs.declared.code.Instr.{Instr}
use Rattle.cell_code.specs.declared.kind.Kind.{Kind}
use Rattle.match_knowledge.specs.declared.rows.Row.{Row}
use Rattle.match_knowledge.specs.declared.knowledge.Knowledge.{Knowledge}
use Rattle.match_knowledge.specs.declared.verdicts.Verdict.TheVariants as D
use Rattle.match_knowledge.specs.Patterns as M
use Rattle.match_knowledge.specs.Known.{Known, Open, Knowns, NoKnowns, MoreKnowns, compare, is_asks, side}
use Rattle.match_knowledge.specs.View as View
use Rattle.code_size.specs.match_cover.DecisionTree.{first_live, Split}
use Rattle.lower_frame.specs.lowering_relation.Spots as S
use Rattle.lower_frame.specs.lowering_relation.Rows.{row_of}
use Rattle.lower_frame.specs.lowering_relation.Reading.{Reading, Asked, asked, reading, read_one}
use Rattle.lower_frame.specs.lowering_relation.Opening.{names_any, naming, taking}
use Rattle.lower_frame.specs.lowering_relation.Landing.{Scene, Side, IsScene, Good, AllGood, LeadsTo, place_of_side, test_of}
use Rattle.lower_frame.specs.lowering_relation.Written.{Written, size, Extends, HasFrom, IsAt, added}
use Rattle.lower_parts.specs.declared.choice.Choice.{Choice}
use Rattle.lower_parts.specs.declared.choice.Side.{Side as Kept}
use Rattle.lower_parts.specs.declared.choice.Asked.{Asked as Found}
use Rattle.lower_parts.specs.declared.choice.First.{First}
use Rattle.lower_parts.specs.declared.choice.First.TheVariants as F
use Rattle.lower_parts.specs.Growth.{IsRoom, Spends, sides_cost, sides_left, way_cost, way_left}
use Rattle.lower_frame.specs.Labels.{labels, telling}
use Rattle.lower_frame.specs.Positions.{spot_of, spot_at}
use Rattle.lower_parts.specs.Testing.{StepsLaid, FollowsLaid}

abbrev pub pattern_at : Bor Tree → Pattern
pattern_at b = V.pattern b.now

abbrev pub patterns_of : Choice → List Pattern
patterns_of c = map pattern_at c.patterns.items

-- a match of a program with these types, where registers below `low` were used before it
abbrev pub scene : Table → ℕ → Choice → Scene
scene tb low c = record {
  table = tb;
  type = c.ty;
  root = spot_of c.root;
  low = low;
  takes = c.takes;
  patterns = patterns_of c;
  entries = c.entries.items;
}

-- the patterns without names are those of the clauses
pub record HasRows (c : Choice) : Type 0 where
  pub same : View.rows c.rows.items ≡ map row_of (patterns_of c)

-- each clause has a pattern and a label
pub record IsWhole (c : Choice) : Type 0 where
  pub patterns : length c.patterns.items ≡ length c.rows.items
  pub entries : length c.entries.items ≡ length c.rows.items

abbrev pub side_of : Kept → Side
side_of d = record { known = View.known d.known; read = d.read.items; label = d.label }

abbrev pub sides_of : List Kept → List Side
sides_of ds = map side_of ds

-- the start of a match
abbrev pub first_side : Side
first_side = record { known = Open []; read = []; label = None }

pub record NotFirst (ds : List Side) : Type 0 where
  pub not : ds ≡ first_side ∷ [] → ⊥

abbrev pub HasLabel : Option ℕ → Type 0
HasLabel None = ⊥
HasLabel (Some l) = Unit {0}

abbrev pub Labelled : Side → Type 0
Labelled d = HasLabel d.label

-- each side has a label, or the match starts here
abbrev pub Ready : ℕ → Written → List Side → Type 0
Ready start v ds = Every Labelled ds ⊎ ((ds ≡ first_side ∷ []) × (start ≡ size v))

abbrev pub reading_of : Written → List ℕ → Reading
reading_of w rs = record { written = w; read = rs }

abbrev pub asked_of : Found → Asked
asked_of a = record { register = a.register; head = a.head }

-- the place of the first pattern that asks, where the first one has place n
abbrev pub asking : M.Patterns → Knowns → ℕ → Option ℕ
asking M.NoPatterns ks n = None
asking (M.MorePatterns p ps) NoKnowns n = None
asking (M.MorePatterns p ps) (MoreKnowns k ks) n = if is_asks (compare p k) then Some n else asking ps ks (suc n)

-- the pattern at a place asks for more than is known there
abbrev pub AsksAt : List Row → List Knowledge → ℕ → Type 0
AsksAt rs ks i =
    (r : Row) (k : Knowledge) → slice_get rs i ≡ Some r → slice_get ks i ≡ Some k
    → compare (View.row r) (View.known k) ≡ D.Asks

-- the first pattern that isn't ruled out matches all values, or it asks
abbrev pub IsFirstOf : List M.Pattern → Known → First → Type 0
IsFirstOf ps k (F.Chosen i) =
    ((p : M.Pattern) × (slice_get ps i ≡ Some p) × (compare p k ≡ D.Fits))
    × ((j : ℕ) (p : M.Pattern) → j < i → slice_get ps j ≡ Some p → compare p k ≡ D.Misses)
IsFirstOf ps k (F.Asks r) =
    (i : ℕ) × (slice_get ps i ≡ Some (View.row r.now)) × (compare (View.row r.now) k ≡ D.Asks)
    × ((j : ℕ) (p : M.Pattern) → j < i → slice_get ps j ≡ Some p → compare p k ≡ D.Misses)

-- the position at a place changed something
pub record AtSpot {A : Type 0} (change : S.Spot → A → A) (ss : S.Spots) (n : ℕ) (a b : A) : Type 0 where
  pub spot : S.Spot
  pub there : spot_at ss n ≡ Some spot
  pub is : b ≡ change spot a

-- what a part of a pattern names is read, from a field of the cell of register r
abbrev pub naming_part : ℕ → ℕ → Pattern → S.Spot → Reading → Reading
naming_part r i p s x = if names_any p then naming p s (read_one x r i (S.register s)) else x

-- the cells of the scrutinee are taken apart, or what its pattern names is read
abbrev pub SettlesBy : Bool → Pattern → S.Spot → Reading → Reading → Type 0
SettlesBy true q s x y = y.written ≡ taking q s x.written
SettlesBy false q s x y = y ≡ naming q s x

pub record Settles (c : Choice) (i : ℕ) (x y : Reading) : Type 0 where
  pub pattern : Pattern
  pub there : slice_get (patterns_of c) i ≡ Some pattern
  pub by : SettlesBy c.takes pattern (spot_of c.root) x y

-- a test of what a pattern asks for, and the side where it fails
pub record Tests (p : M.Pattern) (k : Known) (root : S.Spot) (x : Reading) (w : Written) (read : List ℕ)
    (d : Side) : Type 0 where
  pub found : Asked
  pub target : ℕ
  pub asks : asked p k root ≡ Some found
  pub known : d.known ≡ side false p k
  pub seen : d.read ≡ (reading p k root x).read
  pub label : d.label ≡ Some target
  pub read_on : read ≡ (reading p k root x).read
  pub extends : Extends (added (reading p k root x).written (test_of found.register found.head target)) w
  pub as_long : size w ≡ size (added (reading p k root x).written (test_of found.register found.head target))
  pub one_label : labels w ≡ suc (labels (reading p k root x).written)
  pub maps : w.maps ≡ (reading p k root x).written.maps

-- where this leads: to a clause, or to where something more is known
abbrev pub Then : Scene → (ℕ → ℕ) → List Instr → Written → Known → List ℕ → Option ℕ → Type 0
Then s to code w k read None = Good s to code (size w) k read
Then s to code w k read (Some i) = LeadsTo s to code (size w) i

-- What is written is paid, with a register for each position, on a way up to a clause or to where l is known.
abbrev pub Pays : Table → Choice → Written → Option ℕ → Known → List ℕ → List Side → Written → Option ℕ → Known →
    List ℕ → List Side → Type 0
Pays tb c v p k read ds w o l read_on es =
    (n : ℕ) → IsRoom n (spot_of c.root) → Spends (way_cost n tb (View.rows c.rows.items) p k read ds)
    (way_left n tb (View.rows c.rows.items) p k ds) v (way_cost n tb (View.rows c.rows.items) o l read_on es)
    (way_left n tb (View.rows c.rows.items) o l es) w

-- and so it is with the sides that are still to be written
abbrev pub PaysSides : Table → Choice → Written → List Side → Written → List Side → Type 0
PaysSides tb c v ds w es =
    (n : ℕ) → IsRoom n (spot_of c.root) → Spends (sides_cost n tb (View.rows c.rows.items) ds)
    (sides_left n tb (View.rows c.rows.items) ds) v (sides_cost n tb (View.rows c.rows.items) es)
    (sides_left n tb (View.rows c.rows.items) es) w

-- with an instruction more
abbrev pub PaysMore : Table → Choice → Written → List Side → Written → List Side → Type 0
PaysMore tb c v ds w es =
    (n : ℕ) → IsRoom n (spot_of c.root) → Spends (sides_cost n tb (View.rows c.rows.items) ds)
    (sides_left n tb (View.rows c.rows.items) ds) v (suc (sides_cost n tb (View.rows c.rows.items) es))
    (sides_left n tb (View.rows c.rows.items) es) w

-- a step from where k is known to where l is known, or to a clause
pub record Steps (s : Scene) (v : Written) (k : Known) (read : List ℕ) (ds : List Side) (w : Written) (l : Known)
    (read_on : List ℕ) (es : List Side) (o : Option ℕ) : Type 0 where
  pub new : List Side
  pub following : es ≡ ds ++ new
  pub labelled : Every Labelled new
  pub extends : Extends v w
  pub by : (to : ℕ → ℕ) (code : List Instr) → HasFrom (size v) w to code → Then s to code w l read_on o →
      AllGood s to code 0 new → Good s to code (size v) k read
  pub laid : StepsLaid s v k read w l read_on new o

pub record Advances (tb : Table) (c : Choice) (v : Written) (k : Known) (read : List ℕ) (ds : List Side) (w : Written)
    (l : Known) (read_on : List ℕ) (es : List Side) (o : Option ℕ) : Type 0 where
  pub by : (low : ℕ) → IsScene (scene tb low c) → HasRows c → Steps (scene tb low c) v k read ds w l read_on es o
  pub few : Pays tb c v None k read ds w o l read_on es

-- the same of a pattern that asks
pub record Asks (tb : Table) (c : Choice) (p : M.Pattern) (v : Written) (k : Known) (read : List ℕ) (ds : List Side)
    (w : Written) (l : Known) (read_on : List ℕ) (es : List Side) : Type 0 where
  pub by : (low i : ℕ) (q : Pattern) → IsScene (scene tb low c) → slice_get (patterns_of c) i ≡ Some q →
      p ≡ row_of q → compare p k ≡ D.Asks → Steps (scene tb low c) v k read ds w l read_on es None
  pub few : (i : ℕ) → slice_get (View.rows c.rows.items) i ≡ Some p →
      first_live 0 (View.rows c.rows.items) k ≡ Split p → compare p k ≡ D.Asks →
      Pays tb c v None k read ds w None l read_on es

-- a label has its place here, where there is one, and these kinds are reported
abbrev pub PlacesSide : Written → Option ℕ → List Kind → Written → Type 0
PlacesSide v None kinds w = w ≡ v
PlacesSide v (Some l) kinds w =
    Extends v w × (size w ≡ size v) × IsAt w l (size v) × (labels w ≡ labels v)
    × (w.maps ≡ telling (size v) kinds v.maps)

-- the tests from a side on lead to a clause
pub record FollowsIn (s : Scene) (kinds : List Kind) (v : Written) (d : Side) (ds : List Side) (w : Written)
    (es : List Side) (i : ℕ) : Type 0 where
  pub new : List Side
  pub following : es ≡ ds ++ new
  pub labelled : Every Labelled new
  pub extends : Extends v w
  pub by : (to : ℕ → ℕ) (code : List Instr) → HasFrom (size v) w to code → LeadsTo s to code (size w) i →
      AllGood s to code 0 new → Good s to code (place_of_side to (size v) d.label) d.known d.read
  pub laid : FollowsLaid s kinds v d w new i

pub record Follows (tb : Table) (kinds : List Kind) (c : Choice) (v : Written) (d : Side) (ds : List Side)
    (w : Written) (es : List Side) (i : ℕ) : Type 0 where
  pub by : (low : ℕ) → IsScene (scene tb low c) → HasRows c → FollowsIn (scene tb low c) kinds v d ds w es i
  pub few : PaysMore tb c v (ds ++ d ∷ []) w es

-- the tests are written up to here, or all that lead here
abbrev pub HereIf : Scene → (ℕ → ℕ) → List Instr → Written → ℕ → Bool → Type 0
HereIf s to code w i false = Unit {0}
HereIf s to code w i true = LeadsTo s to code (size w) i

pub record ChoosesIn (s : Scene) (start i : ℕ) (v : Written) (ds : List Side) (w : Written) (es : List Side)
    (last : Bool) : Type 0 where
  pub labelled : Every Labelled es
  pub extends : Extends v w
  pub by : (to : ℕ → ℕ) (code : List Instr) → HasFrom (size v) w to code → HereIf s to code w i last →
      AllGood s to code start es → AllGood s to code start ds

pub record ChoosesIf (tb : Table) (c : Choice) (i : ℕ) (v : Written) (ds : List Side) (w : Written) (es : List Side)
    (last : Bool) : Type 0 where
  pub by : (low start : ℕ) → IsScene (scene tb low c) → HasRows c → Ready start v ds →
      ChoosesIn (scene tb low c) start i v ds w es last
  pub few : PaysSides tb c v ds w es
