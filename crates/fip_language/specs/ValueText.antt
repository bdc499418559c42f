-- The text of values, as it is read: a line for each parameter, in order.
-- A constructor without fields is its name, one with fields Name(v, v). An int is digits, with a - directly before
-- them where it is negative; it may have leading zeros. Blanks may occur before each token and after a value. An LF
-- ends a line, and may miss after the last; after the last value only blanks and LFs come. A function without
-- parameters takes blanks and LFs alone.
-- So for two parameters, a list and an int, `Cons(1 ,Nil)`, LF, `-007` is a text, and `Cons(1,Nil)  -7` is none.
-- A relation `XText .. cs x rest` says: the characters cs are the text of x, and then rest.
use Rattle.std.specs.Prelude.{◌≡◌, ℕ, zero, suc, ◌+◌, ◌-◌, ◌*◌, ◌^◌, ◌≤◌, Bool, true, false, ℤ, pos, neg_ℤ, List, []}
use Rattle.std.specs.Prelude.{◌∷◌, Some, slice_get}
use Rattle.fip_language.specs.Values.{Value, Int, Node, Values, End, More}
use Rattle.fip_language.specs.Table.{Shape, Table, shapes}
use Rattle.fip_language.specs.Character.{Character, Blank, Line, Open, Close, Comma, Minus, Digit, Letter, characters}

-- the text without the blanks in front
abbrev pub skip : List Character → List Character
skip [] = []
skip (Blank ∷ cs) = skip cs
skip (c ∷ cs) = c ∷ cs

-- the name in front, as long as it goes, and what is after it
abbrev pub name_of : List Character → List Character
name_of [] = []
name_of (Digit d ∷ cs) = Digit d ∷ name_of cs
name_of (Letter b ∷ cs) = Letter b ∷ name_of cs
name_of (c ∷ cs) = []

abbrev pub after_name : List Character → List Character
after_name [] = []
after_name (Digit d ∷ cs) = after_name cs
after_name (Letter b ∷ cs) = after_name cs
after_name (c ∷ cs) = c ∷ cs

-- the number n with the digits in front written after it, as many as come, and what is after them
abbrev pub number : ℕ → List Character → ℕ
number n [] = n
number n (Digit d ∷ cs) = number (10 * n + d) cs
number n (c ∷ cs) = n

abbrev pub after_number : List Character → List Character
after_number [] = []
after_number (Digit d ∷ cs) = after_number cs
after_number (c ∷ cs) = c ∷ cs

-- the greatest number after a -, and without one
abbrev pub bound : Bool → ℕ
bound true = 2 ^ 63
bound false = 2 ^ 63 - 1

abbrev pub int_of : Bool → ℕ → ℤ
int_of true n = neg_ℤ (pos n)
int_of false n = pos n

abbrev pub Digits : Bool → List Character → ℤ → List Character → Type 0
Digits neg [] i rest = ⊥
Digits neg (Digit d ∷ cs) i rest = (number d cs ≤ bound neg) × (i ≡ int_of neg (number d cs)) × (rest ≡ after_number cs)
Digits neg (c ∷ cs) i rest = ⊥

abbrev pub IntText : List Character → ℤ → List Character → Type 0
IntText [] i rest = ⊥
IntText (Minus ∷ cs) i rest = Digits true cs i rest
IntText (c ∷ cs) i rest = Digits false (c ∷ cs) i rest

abbrev mutual
  -- a value of a type
  pub ValueText : Table → ℕ → List Character → Value → List Character → Type 0
  ValueText tb zero cs (Int i) rest = IntText (skip cs) i rest
  ValueText tb zero cs (Node c vs) rest = ⊥
  ValueText tb (suc t) cs (Int i) rest = ⊥
  ValueText tb (suc t) cs (Node c vs) rest = (s : Shape) × (slice_get (shapes tb t) c ≡ Some s)
      × (name_of (skip cs) ≡ characters s.name) × FieldsText tb s.fields (after_name (skip cs)) vs rest

  -- the fields after a constructor's name
  pub FieldsText : Table → List ℕ → List Character → Values → List Character → Type 0
  FieldsText tb [] cs End rest = cs ≡ rest
  FieldsText tb [] cs (More v vs) rest = ⊥
  FieldsText tb (k ∷ ks) cs End rest = ⊥
  FieldsText tb (k ∷ ks) cs (More v vs) rest = (inner : List Character) × (after : List Character)
      × (skip cs ≡ Open ∷ inner) × ValueText tb k inner v after × MoreText tb ks after vs rest

  -- the fields after a field
  pub MoreText : Table → List ℕ → List Character → Values → List Character → Type 0
  MoreText tb [] cs End rest = skip cs ≡ Close ∷ rest
  MoreText tb [] cs (More v vs) rest = ⊥
  MoreText tb (k ∷ ks) cs End rest = ⊥
  MoreText tb (k ∷ ks) cs (More v vs) rest = (next : List Character) × (after : List Character)
      × (skip cs ≡ Comma ∷ next) × ValueText tb k next v after × MoreText tb ks after vs rest

-- only blanks and ends of lines
abbrev pub AllBlank : List Character → Type 0
AllBlank [] = Unit {0}
AllBlank (Blank ∷ cs) = AllBlank cs
AllBlank (Line ∷ cs) = AllBlank cs
AllBlank (c ∷ cs) = ⊥

-- the lines after a value
abbrev pub LinesText : Table → List ℕ → List Character → Values → Type 0
LinesText tb [] cs End = AllBlank cs
LinesText tb [] cs (More v vs) = ⊥
LinesText tb (k ∷ ks) cs End = ⊥
LinesText tb (k ∷ ks) cs (More v vs) = (next : List Character) × (after : List Character) × (skip cs ≡ Line ∷ next)
    × ValueText tb k next v after × LinesText tb ks after vs

-- the whole text
abbrev pub InputText : Table → List ℕ → List Character → Values → Type 0
InputText tb [] cs End = AllBlank cs
InputText tb [] cs (More v vs) = ⊥
InputText tb (k ∷ ks) cs End = ⊥
InputText tb (k ∷ ks) cs (More v vs) = (after : List Character) × ValueText tb k cs v after × LinesText tb ks after vs

-- The bytes are a text of these values, of the parameters' types.
abbrev pub SpellsValues : Table → List ℕ → List ℕ → Values → Type 0
SpellsValues tb params bytes vs = InputText tb params (characters bytes) vs
