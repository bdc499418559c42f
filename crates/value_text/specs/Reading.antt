-- How far the reader of a text is, in the machine's words. No public clause speaks of it.
-- The reader keeps the open constructors and the types that are still to come; the values before are known to the
-- machine alone. It goes in steps from spot to spot: a spot lies before a value or after one.
use Rattle.std.specs.Prelude.{◌≡◌, ℕ, suc, ◌+◌, ◌≤◌, List, [], ◌∷◌, ◌++◌, length, drop, Option}
use Rattle.std.specs.Prelude.{ℤ, Bool, true, false, Some, None, Result, Ok, Err}
use Rattle.fip_language.specs.Prefix.{Accepted, Stopped}
use Rattle.fip_language.specs.Values.{Value, Int, Node, Values, End, count_of}
use Rattle.fip_language.specs.Table.{Table}
use Rattle.fip_language.specs.declared.limits.TheConstants.{MOST_FIELDS}
use Rattle.fip_language.specs.SoundTable.{AreTypes}
use Rattle.value_text.specs.declared.read.Frame.{Frame}
use Rattle.value_text.specs.declared.read.Cursor.{Cursor}
use Rattle.value_text.specs.declared.read.Event.{Event}
use Rattle.value_text.specs.declared.read.Event.TheVariants.{Number, Bare, Opened, Comma, Closed, Line}
use Rattle.value_text.specs.declared.read.Refused.{Refused}
use Rattle.value_text.specs.declared.read.Refused.TheVariants.{BadValue, NoMemory}
use Rattle.value_text.specs.Machine.{start, snoc, Around, Alone, Lines, Field, State, Want, Over, filled}
use Rattle.value_text.specs.Loaded.{types_of}
use Rattle.value_text.specs.Scan.{runs}

-- an open constructor: its number, the types of the fields after the one that is read, and the number of its fields
pub record Pending : Type 0 where
  pub c : ℕ
  pub rest : List ℕ
  pub size : ℕ

-- what comes next: a value of a type, or what stands after a value; the open constructors, the innermost first; the
-- types of the lines that come
pub record Outline : Type 0 where
  pub next : Option ℕ
  pub frames : List Pending
  pub lines : List ℕ

abbrev pub pending : Frame → Pending
pending f = record {
  c = f.tag;
  rest = drop f.begun (f.constructor.now).fields;
  size = length (f.constructor.now).fields;
}

-- the last first
unfoldable pub pending_rows : List Frame → List Pending
pending_rows [] = []
pending_rows (f ∷ fs) = pending_rows fs ++ pending f ∷ []

abbrev pub outline : Cursor → Outline
outline r = record { next = r.next; frames = pending_rows r.frames.items; lines = types_of r.lines.now }

-- all types that it speaks of are there, and no constructor has more than 16 fields
abbrev pub KnownRows : Table → List Pending → Type 0
KnownRows tb [] = Unit {0}
KnownRows tb (p ∷ ps) = AreTypes tb p.rest × ((p.size ≤ MOST_FIELDS) × KnownRows tb ps)

abbrev pub KnownNext : Table → Option ℕ → Type 0
KnownNext tb None = Unit {0}
KnownNext tb (Some k) = k ≤ length tb

pub record IsKnown (tb : Table) (o : Outline) : Type 0 where
  pub next : KnownNext tb o.next
  pub frames : KnownRows tb o.frames
  pub lines : AreTypes tb o.lines

pub data Spot : Type 0 where
  Before : (k : ℕ) (around : Around) → Spot
  After : (around : Around) (v : Value) → Spot
  -- there are no values
  Nowhere : Spot

abbrev pub state_at : Spot → State
state_at (Before k a) = Want k a
state_at (After a v) = filled a v
state_at Nowhere = Over End

abbrev pub rows_of : Around → List Pending
rows_of (Alone n) = []
rows_of (Lines done rest) = []
rows_of (Field c done rest around) = record { c = c; rest = rest; size = suc (count_of done) + length rest }
    ∷ rows_of around

abbrev pub lines_of : Around → List ℕ
lines_of (Alone n) = []
lines_of (Lines done rest) = rest
lines_of (Field c done rest around) = lines_of around

abbrev pub outline_at : Spot → Outline
outline_at (Before k a) = record { next = Some k; frames = rows_of a; lines = lines_of a }
outline_at (After a v) = record { next = None; frames = rows_of a; lines = lines_of a }
outline_at Nowhere = record { next = None; frames = []; lines = [] }

-- Reading goes on from here: a value that is read alone isn't whole yet.
abbrev pub GoesOn : Spot → Type 0
GoesOn (After (Alone n) v) = ⊥
GoesOn _ = Unit {0}

-- the number of characters that stand after a value that is read alone
abbrev pub after_of : Around → Option ℕ
after_of (Alone n) = Some n
after_of (Lines done rest) = None
after_of (Field c done rest around) = after_of around

abbrev pub after_at : Spot → Option ℕ
after_at (Before k a) = after_of a
after_at (After a v) = after_of a
after_at Nowhere = None

-- where reading begins: the machine's state, the place in the text, and how many characters stand after a value that
-- is read alone
pub record Origin : Type 0 where
  pub state : State
  pub place : ℕ
  pub following : Option ℕ

-- a whole text, a line for each type
abbrev pub whole : List ℕ → Origin
whole types = record { state = start types; place = 0; following = None }

-- one value of a type, from a place on, after which so many characters stand
abbrev pub alone : ℕ → ℕ → ℕ → Origin
alone k at n = record { state = Want k (Alone n); place = at; following = Some n }

-- an event leads from a spot to a spot
abbrev pub Moves : Event → Spot → Spot → Type 0
Moves (Number i) s s' = (a : Around) × (s ≡ Before 0 a) × (s' ≡ After a (Int i))
Moves (Bare c) s s' = (t : ℕ) × (a : Around) × (s ≡ Before (suc t) a) × (s' ≡ After a (Node c End))
Moves Opened s s' = (t : ℕ) × (a : Around) × (c k : ℕ) × (ks : List ℕ) × (s ≡ Before (suc t) a)
    × (s' ≡ Before k (Field c End ks a))
Moves Comma s s' = (c : ℕ) × (done : Values) × (v : Value) × (k : ℕ) × (ks : List ℕ) × (a : Around)
    × (s ≡ After (Field c done (k ∷ ks) a) v) × (s' ≡ Before k (Field c (snoc done v) ks a))
Moves (Closed c n) s s' = (done : Values) × (v : Value) × (a : Around) × (s ≡ After (Field c done [] a) v)
    × (s' ≡ After a (Node c (snoc done v))) × (n ≡ suc (count_of done))
Moves Line s s' = (done : Values) × (v : Value) × (k : ℕ) × (ks : List ℕ) × (s ≡ After (Lines done (k ∷ ks)) v)
    × (s' ≡ Before k (Lines (snoc done v) ks))

-- after the last of these values
abbrev pub IsLast : Spot → Values → Type 0
IsLast (Before k a) vs = ⊥
IsLast (After a v) vs = (done : Values) × (a ≡ Lines done []) × (vs ≡ snoc done v)
IsLast Nowhere vs = vs ≡ End

-- what the parts of a step tell: an int; a constructor with fields, or the number of one without; a comma, or the
-- number and the size of a constructor that closed; an end of a line, or the end of the text
abbrev pub number_event : Result ℤ Refused → Result (Option Event) Refused
number_event (Ok i) = Ok (Some (Number i))
number_event (Err e) = Err e

abbrev pub node_event : Result (Option ℕ) Refused → Result (Option Event) Refused
node_event (Ok None) = Ok (Some Opened)
node_event (Ok (Some c)) = Ok (Some (Bare c))
node_event (Err e) = Err e

abbrev pub field_event : Result (Option (ℕ × ℕ)) Refused → Result (Option Event) Refused
field_event (Ok None) = Ok (Some Comma)
field_event (Ok (Some r)) = Ok (Some (Closed r.0 r.1))
field_event (Err e) = Err e

abbrev pub line_event : Result Bool Refused → Result (Option Event) Refused
line_event (Ok true) = Ok (Some Line)
line_event (Ok false) = Ok None
line_event (Err e) = Err e

-- the bytes that an event has at least: with its ( and its commas a constructor has as many as its cell has words
abbrev pub cost_of : Event → ℕ
cost_of (Number i) = 0
cost_of (Bare c) = 0
cost_of Opened = 2
cost_of Comma = 1
cost_of (Closed c n) = 0
cost_of Line = 0

-- a step from this spot and this place gives this
abbrev pub Stepped : Table → List ℕ → Spot → ℕ → Result (Option Event) Refused → Outline → ℕ → Type 0
Stepped tb bytes s at (Ok (Some e)) o' at' = (s' : Spot) × Moves e s s' × (o' ≡ outline_at s')
    × (runs tb bytes (state_at s) at ≡ runs tb bytes (state_at s') at')
Stepped tb bytes s at (Ok None) o' at' = (vs : Values) × IsLast s vs × (runs tb bytes (state_at s) at ≡ Accepted vs)
Stepped tb bytes s at (Err (BadValue k)) o' at' = runs tb bytes (state_at s) at ≡ Stopped k
Stepped tb bytes s at (Err NoMemory) o' at' = Unit {0}

-- before the first value
abbrev pub spot_of : List ℕ → Spot
spot_of [] = Nowhere
spot_of (k ∷ ks) = Before k (Lines End ks)

-- a cell has at most 16 fields
abbrev pub IsNarrow : Event → Type 0
IsNarrow (Closed c n) = n ≤ MOST_FIELDS
IsNarrow _ = Unit {0}

-- what is read is all read so far, from where reading begins
pub record IsReading (tb : Table) (from : Origin) (bytes : List ℕ) (o : Outline) (at : ℕ) (s : Spot) : Type 0 where
  pub outline : o ≡ outline_at s
  pub following : after_at s ≡ from.following
  pub reads : runs tb bytes (state_at s) at ≡ runs tb bytes from.state from.place
  pub known : IsKnown tb o
  pub within : at ≤ length bytes
