-- It serves the proof that lowered code is laid out as asked: expressions and blocks. What is asked of them beside what
-- they are typed as; what holds where lowering goes on; and what is laid out of them.
use Rattle.std.specs.Prelude.{◌≡◌, ◌<◌, ◌≤◌, ◌+◌, ℕ, suc, Bool, true, false, List, [], ◌∷◌, Option, Some, None}
use Rattle.std.specs.Prelude.{length, drop, slice_get}
use Rattle.fip_language.specs.declared.limits.TheConstants.{MOST_FIELDS}
use Rattle.fip_language.specs.Every.{Among}
use Rattle.fip_language.specs.Table.{Table}
use Rattle.fip_trees.specs.declared.needs.Need.{Need}
use Rattle.fip_trees.specs.declared.program.Binder.{Binder}
use Rattle.fip_trees.specs.Sizes.{number}
use Rattle.fip_trees.specs.Tree.{Argument, Variable, Literal, Constructor, Arguments, NoArguments, MoreArguments, count}
use Rattle.fip_trees.specs.Tree.{Expression, Give, Tuple, Operation, Call, Match, Nested, Block, Last, Let}
use Rattle.fip_trees.specs.Tree.{Clauses, NoClauses, MoreClauses}
use Rattle.cell_code.specs.declared.kind.Kind.{Kind}
use Rattle.cell_code.specs.Plain.{PlainFunction, PlainCode}
use Rattle.lower_frame.specs.code_rules.Codes.{label_at}
use Rattle.lower_frame.specs.code_rules.Types as Y
use Rattle.lower_frame.specs.code_rules.Types.{fields, is_scalar_type}
use Rattle.lower_frame.specs.lowering_relation.declared.held.Held.{Held}
use Rattle.lower_frame.specs.lowering_relation.declared.held.Held.TheVariants as H
use Rattle.lower_frame.specs.lowering_relation.Known.{Known, register_of}
use Rattle.lower_frame.specs.lowering_relation.Values.{Setting, is_scalar}
use Rattle.lower_frame.specs.lowering_relation.LoweredBodies.{Target, Return, Into}
use Rattle.lower_frame.specs.lowering_relation.Tidy.{NotIn}
use Rattle.lower_frame.specs.lowering_relation.WellMatched.{WellMatched, WellMatchedBlock, WellMatchedClauses}
use Rattle.lower_frame.specs.lowering_relation.Written.{Written, size, Extends}
use Rattle.lower_frame.specs.lowering_relation.Describing.{held_at}
use Rattle.lower_frame.specs.lowering_relation.Labels.{reported, Takes}
use Rattle.lower_frame.specs.lowering_relation.Matches.{variable_of, BuiltRight}
use Rattle.lower_frame.specs.lowering_relation.Standing.{AreRising}
use Rattle.lower_frame.specs.lowering_relation.Uses as U
use Rattle.lower_frame.specs.lowering_relation.LaidBodies.{ExpressionLaid, BlockLaid}
use Rattle.lower_frame.specs.Credits.{AllSolid, is_bare}
use Rattle.lower_frame.specs.Registers.{registers}
use Rattle.lower_parts.specs.Growth.{Stay}
use Rattle.lower_parts.specs.Laying.{is_built, InFunction, Underway}

-- what is asked

-- Constructors have few fields, which are scalar as their types are; a type is scalar that has one constructor alone,
-- without fields.
pub record ScalarsRight (st : Setting) : Type 0 where
  pub parts : (t d u : ℕ) → Among u (fields st.types t d) → is_scalar st u ≡ is_scalar_type st.types u
  pub few : (t d : ℕ) → length (fields st.types t d) ≤ MOST_FIELDS
  pub atoms : (t : ℕ) → Y.count st.types t ≡ 1 → fields st.types t 0 ≡ [] → is_scalar st t ≡ true

abbrev mutual
  -- constructors that an argument builds are of their types
  pub Founded : Table → Argument → Type 0
  Founded w (Variable x n p) = Unit {0}
  Founded w (Literal i p) = Unit {0}
  Founded w (Constructor t d c n p as') = (c < Y.count w t) × FoundedAll w as'

  pub FoundedAll : Table → Arguments → Type 0
  FoundedAll w NoArguments = Unit {0}
  FoundedAll w (MoreArguments a as') = Founded w a × FoundedAll w as'

abbrev pub IsSome : {A : Type 0} → Option A → Type 0
IsSome None = ⊥
IsSome (Some x) = Unit {0}

abbrev mutual
  -- The same of an expression; scrutinees are variables, and there are values and binders.
  pub FoundedIn : Table → Expression → Type 0
  FoundedIn w (Give a) = Founded w a
  FoundedIn w (Tuple p as') = (0 < count as') × FoundedAll w as'
  FoundedIn w (Operation o p a b) = Founded w a × Founded w b
  FoundedIn w (Call g n p as') = FoundedAll w as'
  FoundedIn w (Match ds t p a q b cs) = IsSome (variable_of a) × FoundedBlock w b × FoundedClauses w cs
  FoundedIn w (Nested b) = FoundedBlock w b

  pub FoundedBlock : Table → Block → Type 0
  FoundedBlock w (Last e) = FoundedIn w e
  FoundedBlock w (Let bs e rest) = (0 < length bs) × FoundedIn w e × FoundedBlock w rest

  pub FoundedClauses : Table → Clauses → Type 0
  FoundedClauses w NoClauses = Unit {0}
  FoundedClauses w (MoreClauses q b cs) = FoundedBlock w b × FoundedClauses w cs

-- how many expressions are walked through
abbrev mutual
  pub span : Expression → ℕ
  span (Give a) = 1
  span (Tuple p as') = 1
  span (Operation o p a b) = 1
  span (Call g n p as') = 1
  span (Match ds t p a q b cs) = suc (suc (span_rest b) + span_clauses cs)
  span (Nested b) = suc (span_rest b)

  pub span_rest : Block → ℕ
  span_rest (Last e) = span e
  span_rest (Let bs e rest) = span e + span_rest rest

  pub span_clauses : Clauses → ℕ
  span_clauses NoClauses = 0
  span_clauses (MoreClauses q b cs) = suc (span_rest b) + span_clauses cs

abbrev pub span_block : Block → ℕ
span_block b = suc (span_rest b)

-- the first of these needs are those of an expression and of the expressions in it, in the order of the walk
abbrev mutual
  pub HasNeeds : Setting → List Need → Expression → Type 0
  HasNeeds s ns (Give a) = Unit {0}
  HasNeeds s ns (Tuple p as') = Unit {0}
  HasNeeds s ns (Operation o p a b) = Unit {0}
  HasNeeds s ns (Call g n p as') = Unit {0}
  HasNeeds s ns (Match ds t p a q b cs) =
      ((x : Need) × (slice_get ns 0 ≡ Some x) × ((k : ℕ) → 1 ≤ k → k ≤ MOST_FIELDS →
      number x.sizes k ≡ U.need s k (Match ds t p a q b cs))) × NeedsRest s (drop 2 ns) b
      × NeedsClauses s (drop (suc (suc (span_rest b))) ns) cs
  HasNeeds s ns (Nested b) = NeedsRest s (drop 1 ns) b

  pub NeedsRest : Setting → List Need → Block → Type 0
  NeedsRest s ns (Last e) = HasNeeds s ns e
  NeedsRest s ns (Let bs e rest) = HasNeeds s ns e × NeedsRest s (drop (span e) ns) rest

  pub NeedsClauses : Setting → List Need → Clauses → Type 0
  NeedsClauses s ns NoClauses = Unit {0}
  NeedsClauses s ns (MoreClauses q b cs) = NeedsRest s (drop 1 ns) b × NeedsClauses s (drop (span_block b) ns) cs

-- what is asked of an expression, of a block, and of clauses of a match of type t
pub record Asked (s : Setting) (ns : List Need) (e : Expression) : Type 0 where
  pub scalars : ScalarsRight s
  pub matched : WellMatched s.types e
  pub founded : FoundedIn s.types e
  pub needs : HasNeeds s ns e

pub record AskedBlock (s : Setting) (ns : List Need) (b : Block) : Type 0 where
  pub scalars : ScalarsRight s
  pub matched : WellMatchedBlock s.types b
  pub founded : FoundedBlock s.types b
  pub needs : NeedsRest s ns b

pub record AskedClauses (s : Setting) (ns : List Need) (t : ℕ) (cs : Clauses) : Type 0 where
  pub scalars : ScalarsRight s
  pub matched : WellMatchedClauses s.types t cs
  pub founded : FoundedClauses s.types cs
  pub needs : NeedsClauses s ns cs

-- where lowering goes on

-- neither built nor matched
abbrev pub IsPlain : Held → Type 0
IsPlain h = (is_built h ≡ false) × (is_bare (Some h) ≡ false)

-- A constructor that was built, or matched, is one of its type's; where nothing is written there is none.
pub record RightAt (w : Table) (at : ℕ) (h : Held) : Type 0 where
  pub built : BuiltRight w h
  pub bare : (t d : ℕ) → h ≡ H.Bare t d → d < Y.count w t
  pub later : at ≡ 0 → IsPlain h

abbrev pub BuiltWell : Table → ℕ → Known → Type 0
BuiltWell w at k = (r : ℕ) → RightAt w at (held_at k.held r)

-- register d is used already, holds nothing and is no variable's and no credit's
pub record Waits (k : Known) (d : ℕ) : Type 0 where
  pub used : d < k.next
  pub empty : held_at k.held d ≡ H.Nothing
  pub unnamed : (x : ℕ) → register_of k.names (Some x) ≡ Some d → ⊥
  pub free : NotIn d k.credits

-- there is a register for results, and each waits
abbrev pub WaitsAt : Target → Known → Type 0
WaitsAt Return k = Unit {0}
WaitsAt (Into ds) k = (0 < length ds) × ((d : ℕ) → Among d ds → Waits k d)

-- registers that wait, and get no result, wait still
abbrev pub StillWait : List ℕ → Known → Known → Type 0
StillWait ds k l = (d : ℕ) → Waits k d → (Among d ds → ⊥) → Waits l d

abbrev pub Onward : Table → Known → Target → Known → Written → Type 0
Onward tb k Return l w = AreRising (size w) 0 w.maps
Onward tb k (Into ds) l w = Underway tb l w × AllSolid l ds × StillWait ds k l

-- a label here takes what is known here
abbrev pub LabelTakes : PlainCode → PlainFunction → ℕ → Known → Type 0
LabelTakes c f at k = (map : List Kind) → label_at f.labels at ≡ Some map → Takes f.registers map (reported c k)

abbrev pub BuiltAfter : Table → Target → ℕ → Known → Type 0
BuiltAfter w Return at l = Unit {0}
BuiltAfter w (Into ds) at l = BuiltWell w at l

-- what is so in a function
pub record LaidIn (s : Setting) (k : Known) (v : Written) (target : Target) (l : Known) (w : Written) (P : Type 0)
    (c : PlainCode) (f : PlainFunction) : Type 0 where
  pub laid : P
  pub first : LabelTakes c f (size v) k
  pub built : BuiltAfter s.types target (size w) l

-- What is laid out, from where k is known: something is written.
pub record LaysIn (s : Setting) (k : Known) (v : Written) (target : Target) (l : Known) (w : Written)
    (P : PlainCode → PlainFunction → Type 0) : Type 0 where
  pub extends : Extends v w
  pub longer : size v < size w
  pub room : l.next ≤ registers k
  pub stay : Stay target k l
  pub laid : InFunction s.types (registers k) v w
      (λ c f. BuiltWell s.types (size v) k → LaidIn s k v target l w (P c f) c f)
  pub onward : Onward s.types k target l w

pub record Lays (s : Setting) (fip : Bool) (k : Known) (v : Written) (e : Expression) (target : Target) (l : Known)
    (w : Written) : Type 0 where
  pub by : Underway s.types k v → WaitsAt target k →
      LaysIn s k v target l w (λ c f. ExpressionLaid c s fip f (size v) k e target (size w) l)

pub record LaysBlock (s : Setting) (fip : Bool) (k : Known) (v : Written) (b : Block) (target : Target) (l : Known)
    (w : Written) : Type 0 where
  pub by : Underway s.types k v → WaitsAt target k →
      LaysIn s k v target l w (λ c f. BlockLaid c s fip f (size v) k b target (size w) l)

-- a let without its body: whatever follows
pub record LaysLet (s : Setting) (fip : Bool) (k : Known) (v : Written) (bs : List Binder) (e : Expression) (l : Known)
    (w : Written) : Type 0 where
  pub by : (rest : Block) (target : Target) (m : Known) (z : Written) → LaysBlock s fip l w rest target m z →
      LaysBlock s fip k v (Let bs e rest) target m z
