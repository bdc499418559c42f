-- How a text of values is read, one character after another. No public clause speaks of it: it is proved to accept
-- just the texts, and to stop at the first character with which no text begins.
use Rattle.std.specs.Prelude.{ℕ, zero, suc, ◌+◌, ◌*◌, Bool, true, false, ◌&&◌, ◌==◌, nat_le, if◌then◌else◌, List, []}
use Rattle.std.specs.Prelude.{◌∷◌, ◌++◌, Option, Some, None}
use Rattle.fip_language.specs.Values.{Value, Int, Node, Values, End, More}
use Rattle.fip_language.specs.Table.{Shape, Table, shapes}
use Rattle.fip_language.specs.Character.{Character, Blank, Line, Open, Close, Comma, Minus, Digit, Letter, character}
use Rattle.fip_language.specs.Character.{characters}
use Rattle.fip_language.specs.ValueText.{bound, int_of}

abbrev pub same_character : Character → Character → Bool
same_character (Digit a) (Digit b) = a == b
same_character (Letter a) (Letter b) = a == b
same_character _ _ = false

abbrev pub same_text : List Character → List Character → Bool
same_text [] [] = true
same_text [] (d ∷ ds) = false
same_text (c ∷ cs) [] = false
same_text (c ∷ cs) (d ∷ ds) = same_character c d && same_text cs ds

-- the first text is the front of the second
abbrev pub begins : List Character → List Character → Bool
begins [] ds = true
begins (c ∷ cs) [] = false
begins (c ∷ cs) (d ∷ ds) = same_character c d && begins cs ds

abbrev pub any_begins : List Character → List Shape → Bool
any_begins front [] = false
any_begins front (s ∷ ss) = if begins front (characters s.name) then true else any_begins front ss

-- the first constructor of a name, and its fields
abbrev pub lookup : ℕ → List Character → List Shape → Option (ℕ × List ℕ)
lookup i name [] = None
lookup i name (s ∷ ss) = if same_text name (characters s.name) then Some (i, s.fields) else lookup (suc i) name ss

abbrev pub join : Values → Values → Values
join End ys = ys
join (More x xs) ys = More x (join xs ys)

abbrev pub snoc : Values → Value → Values
snoc xs x = join xs (More x End)

-- what is around a value: the values before it, and the types of those after it; or the value is read alone, and so
-- many characters stand after it, whatever they are
pub data Around : Type 0 where
  Alone : (n : ℕ) → Around
  Lines : (done : Values) (rest : List ℕ) → Around
  Field : (c : ℕ) (done : Values) (rest : List ℕ) (around : Around) → Around

pub data State : Type 0 where
  -- a value of this type comes
  Want : (k : ℕ) (around : Around) → State
  -- in a name
  Naming : (t : ℕ) (front : List Character) (around : Around) → State
  -- after a -
  Signed : (around : Around) → State
  -- in a number
  Number : (neg : Bool) (n : ℕ) (around : Around) → State
  -- this sign comes
  Await : (sign : Character) (next : State) → State
  -- all values are there
  Over : (vs : Values) → State
  -- a value is there that is read alone, and so many characters come
  Past : (n : ℕ) (vs : Values) → State

-- after a value
abbrev pub filled : Around → Value → State
filled (Alone n) v = Past n (More v End)
filled (Lines done []) v = Over (snoc done v)
filled (Lines done (k ∷ ks)) v = Await Line (Want k (Lines (snoc done v) ks))
filled (Field c done [] around) v = Await Close (filled around (Node c (snoc done v)))
filled (Field c done (k ∷ ks) around) v = Await Comma (Want k (Field c (snoc done v) ks around))

-- after a constructor's name
abbrev pub named : ℕ → List ℕ → Around → State
named c [] around = filled around (Node c End)
named c (k ∷ ks) around = Await Open (Want k (Field c End ks around))

abbrev pub is_sign : Character → Character → Bool
is_sign Line Line = true
is_sign Open Open = true
is_sign Close Close = true
is_sign Comma Comma = true
is_sign _ _ = false

-- a state after a whole token takes a character
abbrev pub pass : State → Character → Option State
pass (Await sign next) Blank = Some (Await sign next)
pass (Await sign next) c = if is_sign sign c then Some next else None
pass (Over vs) Blank = Some (Over vs)
pass (Over vs) Line = Some (Over vs)
pass (Over vs) c = None
pass (Past zero vs) c = None
pass (Past (suc n) vs) c = Some (Past n vs)
pass s c = None

abbrev pub naming : Table → ℕ → List Character → Around → Option State
naming tb t front around = if any_begins front (shapes tb t) then Some (Naming t front around) else None

abbrev pub pass_named : Option (ℕ × List ℕ) → Around → Character → Option State
pass_named None around c = None
pass_named (Some r) around c = pass (named r.0 r.1 around) c

abbrev pub in_name : Table → ℕ → List Character → Around → Character → Option State
in_name tb t front around (Digit d) = naming tb t (front ++ Digit d ∷ []) around
in_name tb t front around (Letter b) = naming tb t (front ++ Letter b ∷ []) around
in_name tb t front around c = pass_named (lookup 0 front (shapes tb t)) around c

abbrev pub numbered : Bool → ℕ → Around → Option State
numbered neg n around = if nat_le n (bound neg) then Some (Number neg n around) else None

abbrev pub act : Table → State → Character → Option State
act tb (Want zero around) Blank = Some (Want zero around)
act tb (Want zero around) Minus = Some (Signed around)
act tb (Want zero around) (Digit d) = numbered false d around
act tb (Want zero around) c = None
act tb (Want (suc t) around) Blank = Some (Want (suc t) around)
act tb (Want (suc t) around) c = in_name tb t [] around c
act tb (Naming t front around) c = in_name tb t front around c
act tb (Signed around) (Digit d) = numbered true d around
act tb (Signed around) c = None
act tb (Number neg n around) (Digit d) = numbered neg (10 * n + d) around
act tb (Number neg n around) c = pass (filled around (Int (int_of neg n))) c
act tb (Await sign next) c = pass (Await sign next) c
act tb (Over vs) c = pass (Over vs) c
act tb (Past n vs) c = pass (Past n vs) c

abbrev pub over : State → Option Values
over (Over vs) = Some vs
over (Past zero vs) = Some vs
over _ = None

abbrev pub over_named : Option (ℕ × List ℕ) → Around → Option Values
over_named None around = None
over_named (Some r) around = over (named r.0 r.1 around)

abbrev pub final : Table → State → Option Values
final tb (Want zero around) = None
final tb (Want (suc t) around) = over_named (lookup 0 [] (shapes tb t)) around
final tb (Naming t front around) = over_named (lookup 0 front (shapes tb t)) around
final tb (Signed around) = None
final tb (Number neg n around) = over (filled around (Int (int_of neg n)))
final tb (Await sign next) = None
final tb (Over vs) = Some vs
final tb (Past n vs) = over (Past n vs)

abbrev pub start : List ℕ → State
start [] = Over End
start (k ∷ ks) = Want k (Lines End ks)

abbrev pub step : Table → State → ℕ → Option State
step tb s b = act tb s (character b)
