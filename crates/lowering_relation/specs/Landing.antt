-- It serves the proofs on lowered code: what the tests of a match end in. From a place where something is known of the
-- scrutinee's value and some of its parts were read, the code leads to the label of the first clause that matches, with
-- the values of its variables in their registers.
use Rattle.std.specs.Prelude.{◌≡◌, ◌<◌, ◌≤◌, ℕ, Bool, true, false, List, Option, Some, None}
use Rattle.std.specs.Prelude.{slice_get, get_or}
use Rattle.tree_semantics.specs.fip_language.Values.{Value}
use Rattle.tree_semantics.specs.fip_language.Table.{Table, HasType}
use Rattle.tree_semantics.specs.fip_language.Every.{Every, Among}
use Rattle.credit_check.specs.fip_trees.Tree.{Pattern}
use Rattle.code_rules.specs.cell_code.declared.code.Instr.{Instr}
use Rattle.code_rules.specs.cell_code.declared.code.Instr.TheVariants as I
use Rattle.tree_semantics.specs.Contents.{Contents}
use Rattle.match_knowledge.specs.declared.heads.Head.{Head}
use Rattle.match_knowledge.specs.declared.heads.Head.TheVariants.{Number, Tag}
use Rattle.match_knowledge.specs.declared.verdicts.Verdict.TheVariants.{Misses}
use Rattle.match_knowledge.specs.Patterns.{fits, IsPattern}
use Rattle.match_knowledge.specs.Known.{Known, agrees, compare}
use Rattle.lowering_relation.specs.Choosing.{place, Reaches}
use Rattle.lowering_relation.specs.Spots.{Spot, register, below, Differ}
use Rattle.lowering_relation.specs.Rows.{row_of}
use Rattle.lowering_relation.specs.Reading.{Holds, Shaped}
use Rattle.lowering_relation.specs.Opening.{Opened, Roomy}
use Rattle.lowering_relation.specs.Written.{Written, size, Extends, HasFrom}

-- A match: the types, its type, the positions, whether cells are taken apart, the clauses' patterns and the labels of
-- their bodies. Registers below `low` were used before it.
pub record Scene : Type 0 where
  pub table : Table
  pub type : ℕ
  pub root : Spot
  pub low : ℕ
  pub takes : Bool
  pub patterns : List Pattern
  pub entries : List ℕ

abbrev pub entry : Scene → ℕ → ℕ
entry s i = get_or s.entries i 0

-- the parts of the values have positions with registers of their own, and the patterns are of the match's type
pub record IsScene (s : Scene) : Type 0 where
  pub roomy : (i : ℕ) (q : Pattern) → slice_get s.patterns i ≡ Some q → Roomy q s.root
  pub typed : (i : ℕ) (q : Pattern) → slice_get s.patterns i ≡ Some q → IsPattern s.table s.type (row_of q)
  pub differ : Differ s.root
  pub used : register s.root < s.low
  pub fresh : (z : ℕ) → Among z (below s.root) → s.low ≤ z

abbrev pub SameBelow : ℕ → Contents → Contents → Type 0
SameBelow low cs ds = (z : ℕ) → z < low → ds z ≡ cs z

-- the first clause that matches
pub record IsFirst (s : Scene) (v : Value) (i : ℕ) (q : Pattern) : Type 0 where
  pub there : slice_get s.patterns i ≡ Some q
  pub fits : fits (row_of q) v ≡ true
  pub before : (j : ℕ) (p : Pattern) → j < i → slice_get s.patterns j ≡ Some p →
      Rattle.match_knowledge.specs.Patterns.fits (row_of p) v ≡ false

-- from p, where registers hold cs, the label of the first clause that matches is reached; before the match they held c0
pub record Lands (s : Scene) (to : ℕ → ℕ) (code : List Instr) (p : ℕ) (c0 cs : Contents) : Type 0 where
  pub number : ℕ
  pub pattern : Pattern
  pub first : IsFirst s (c0 (register s.root)) number pattern
  pub contents : Contents
  pub reaches : Reaches code (place p cs) (place (to (entry s number)) contents)
  pub same : SameBelow s.low c0 contents
  pub opened : Opened s.takes pattern s.root (c0 (register s.root)) contents

-- so it is from p for each value of which this is known, where these registers were read
abbrev pub Good : Scene → (ℕ → ℕ) → List Instr → ℕ → Known → List ℕ → Type 0
Good s to code p k read =
    (c0 cs : Contents) → HasType s.table s.type (c0 (register s.root)) → agrees k (c0 (register s.root)) ≡ true →
    Shaped k (c0 (register s.root)) → SameBelow s.low c0 cs → Holds s.root (c0 (register s.root)) cs read →
    Lands s to code p c0 cs

-- a test of a head, which goes to a label where it fails
abbrev pub test_of : ℕ → Head → ℕ → Instr
test_of r (Tag c) label = I.Test r c label
test_of r (Number i) label = I.TestInt r i label

-- the clauses before one that are ruled out
abbrev pub RuledOut : Scene → Known → ℕ → Type 0
RuledOut s k i = (j : ℕ) (p : Pattern) → j < i → slice_get s.patterns j ≡ Some p → compare (row_of p) k ≡ Misses

-- where tests aren't written yet: at a label, or at the start of the match
pub record Side : Type 0 where
  pub known : Known
  pub read : List ℕ
  pub label : Option ℕ

abbrev pub place_of_side : (ℕ → ℕ) → ℕ → Option ℕ → ℕ
place_of_side to start None = start
place_of_side to start (Some l) = to l

abbrev pub SideGood : Scene → (ℕ → ℕ) → List Instr → ℕ → Side → Type 0
SideGood s to code start d = Good s to code (place_of_side to start d.label) d.known d.read

abbrev pub AllGood : Scene → (ℕ → ℕ) → List Instr → ℕ → List Side → Type 0
AllGood s to code start ds = Every (SideGood s to code start) ds

-- from this place the code goes to the label of a clause
abbrev pub LeadsTo : Scene → (ℕ → ℕ) → List Instr → ℕ → ℕ → Type 0
LeadsTo s to code p i = (ds : Contents) → Reaches code (place p ds) (place (to (entry s i)) ds)

-- Tests were written: what is after w leads to clause i, and other tests are still to be written. Where these lead to
-- the right clauses, so do those that were to be written before.
pub record Continues (s : Scene) (start i : ℕ) (v : Written) (before : List Side) (w : Written) (sides : List Side) :
    Type 0 where
  pub extends : Extends v w
  pub by : (to : ℕ → ℕ) (code : List Instr) → HasFrom (size v) w to code → LeadsTo s to code (size w) i →
      AllGood s to code start sides → AllGood s to code start before
