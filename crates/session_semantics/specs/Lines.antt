-- The lines of a session and of a list of tasks, as they are written.
-- A line of a session calls a function and keeps its results under names, `a, b = split(xs, Cons(1, Nil))`; or shows
-- what a name holds, `?a`; or gives it up, `-a`. A line of a list of tasks calls a function, `rev(Cons(1, Nil), Nil)`.
-- A space, a tab or a CR may occur before each word and sign, and after the last; the - of an int touches its digits.
-- A keyword is no name. A relation `XText cs x rest` says: the symbols cs are the text of x, and then rest.
use Rattle.std.specs.Prelude.{◌≡◌, ℕ, ◌+◌, ◌-◌, ◌*◌, Bool, true, false, ◌&&◌, ◌||◌, nat_le, ◌==◌, if◌then◌else◌}
use Rattle.std.specs.Prelude.{ℤ, pos, neg_ℤ, List, [], ◌∷◌, map, codes}
use Rattle.command_outcome.specs.fip_language.Core.{Name}
use Rattle.command_outcome.specs.fip_language.Declarations.{same_name}
use Rattle.command_outcome.specs.fip_language.Character.{is_blank, is_digit, is_upper}
pub use Rattle.command_outcome.specs.fip_language.Character.{is_keyword}

-- the lines of a text: an LF ends each, and may miss after the last
abbrev pub put_before : ℕ → List (List ℕ) → List (List ℕ)
put_before b [] = (b ∷ []) ∷ []
put_before b (line ∷ lines) = (b ∷ line) ∷ lines

abbrev pub lines_of : List ℕ → List (List ℕ)
lines_of [] = []
lines_of (b ∷ bs) = if b == 10 then [] ∷ lines_of bs else put_before b (lines_of bs)

-- what a byte is in a line
pub data Symbol : Type 0 where
  Blank : Symbol
  Open : Symbol
  Close : Symbol
  Comma : Symbol
  Equals : Symbol
  Question : Symbol
  Minus : Symbol
  Underscore : Symbol
  -- a digit's number
  Digit : (d : ℕ) → Symbol
  -- a letter's byte
  Small : (b : ℕ) → Symbol
  Capital : (b : ℕ) → Symbol
  Other : Symbol

abbrev pub symbol : ℕ → Symbol
symbol b =
    if is_blank b then Blank
    else if b == 40 then Open
    else if b == 41 then Close
    else if b == 44 then Comma
    else if b == 61 then Equals
    else if b == 63 then Question
    else if b == 45 then Minus
    else if b == 95 then Underscore
    else if is_digit b then Digit (b - 48)
    else if is_upper b then Capital b
    else if nat_le 97 b && nat_le b 122 then Small b
    else Other

abbrev pub symbols : List ℕ → List Symbol
symbols = map symbol

-- without the blanks in front
abbrev pub skip : List Symbol → List Symbol
skip [] = []
skip (Blank ∷ cs) = skip cs
skip (c ∷ cs) = c ∷ cs

-- the bytes of the word in front, as long as it goes, and what is after it
abbrev pub word : List Symbol → List ℕ
word [] = []
word (Underscore ∷ cs) = 95 ∷ word cs
word (Digit d ∷ cs) = (48 + d) ∷ word cs
word (Small b ∷ cs) = b ∷ word cs
word (Capital b ∷ cs) = b ∷ word cs
word (c ∷ cs) = []

abbrev pub following : List Symbol → List Symbol
following [] = []
following (Underscore ∷ cs) = following cs
following (Digit d ∷ cs) = following cs
following (Small b ∷ cs) = following cs
following (Capital b ∷ cs) = following cs
following (c ∷ cs) = c ∷ cs

abbrev pub BeginsSmall : List Symbol → Type 0
BeginsSmall (Small b ∷ cs) = Unit {0}
BeginsSmall cs = ⊥

abbrev pub BeginsCapital : List Symbol → Type 0
BeginsCapital (Capital b ∷ cs) = Unit {0}
BeginsCapital cs = ⊥

-- a name of a value or of a function
pub record NameText (cs : List Symbol) (name : Name) (rest : List Symbol) : Type 0 where
  pub small : BeginsSmall (skip cs)
  pub is : name ≡ word (skip cs)
  pub free : is_keyword name ≡ false
  pub then' : rest ≡ following (skip cs)

abbrev pub SignText : Symbol → List Symbol → List Symbol → Type 0
SignText sign cs rest = skip cs ≡ sign ∷ rest

-- a value as it is written, of any size and with any names of constructors
mutual
  pub data Written : Type 0 where
    Number : (i : ℤ) → Written
    Named : (name : Name) (parts : Parts) → Written

  pub data Parts : Type 0 where
    NoParts : Parts
    MoreParts : (w : Written) (ws : Parts) → Parts

-- the number n with the digits in front written after it, as many as come, and what is after them
abbrev pub number : ℕ → List Symbol → ℕ
number n [] = n
number n (Digit d ∷ cs) = number (10 * n + d) cs
number n (c ∷ cs) = n

abbrev pub after_number : List Symbol → List Symbol
after_number [] = []
after_number (Digit d ∷ cs) = after_number cs
after_number (c ∷ cs) = c ∷ cs

abbrev pub signed : Bool → ℕ → ℤ
signed true n = neg_ℤ (pos n)
signed false n = pos n

abbrev pub DigitsText : Bool → List Symbol → ℤ → List Symbol → Type 0
DigitsText negative (Digit d ∷ cs) i rest = (i ≡ signed negative (number d cs)) × (rest ≡ after_number cs)
DigitsText negative cs i rest = ⊥

abbrev pub NumberText : List Symbol → ℤ → List Symbol → Type 0
NumberText (Minus ∷ cs) i rest = DigitsText true cs i rest
NumberText cs i rest = DigitsText false cs i rest

-- a ( comes next
abbrev pub IsOpened : List Symbol → Type 0
IsOpened (Open ∷ cs) = Unit {0}
IsOpened cs = ⊥

abbrev mutual
  pub WrittenText : List Symbol → Written → List Symbol → Type 0
  WrittenText cs (Number i) rest = NumberText (skip cs) i rest
  WrittenText cs (Named name parts) rest = BeginsCapital (skip cs) × (name ≡ word (skip cs))
      × PartsText (following (skip cs)) parts rest

  -- what is after a constructor's name
  pub PartsText : List Symbol → Parts → List Symbol → Type 0
  PartsText cs NoParts rest = (IsOpened (skip cs) → ⊥) × (rest ≡ cs)
  PartsText cs (MoreParts w ws) rest = (inner : List Symbol) × (after : List Symbol)
      × SignText Open cs inner × WrittenText inner w after × FurtherText after ws rest

  -- the parts after a part
  pub FurtherText : List Symbol → Parts → List Symbol → Type 0
  FurtherText cs NoParts rest = SignText Close cs rest
  FurtherText cs (MoreParts w ws) rest = (next : List Symbol) × (after : List Symbol)
      × SignText Comma cs next × WrittenText next w after × FurtherText after ws rest

-- what is given for a parameter: what a name holds, or a value
pub data Given : Type 0 where
  Held : (name : Name) → Given
  Fresh : (w : Written) → Given

abbrev pub GivenText : List Symbol → Given → List Symbol → Type 0
GivenText cs (Held name) rest = NameText cs name rest
GivenText cs (Fresh w) rest = WrittenText cs w rest

abbrev pub MoreGivenText : List Symbol → List Given → List Symbol → Type 0
MoreGivenText cs [] rest = SignText Close cs rest
MoreGivenText cs (g ∷ gs) rest = (next : List Symbol) × (after : List Symbol)
    × SignText Comma cs next × GivenText next g after × MoreGivenText after gs rest

-- what is between the brackets of a call
abbrev pub AllGivenText : List Symbol → List Given → List Symbol → Type 0
AllGivenText cs [] rest = SignText Close cs rest
AllGivenText cs (g ∷ gs) rest = (after : List Symbol) × GivenText cs g after × MoreGivenText after gs rest

-- the names of results after the first, and the = after them
abbrev pub MoreNamesText : List Symbol → List Name → List Symbol → Type 0
MoreNamesText cs [] rest = SignText Equals cs rest
MoreNamesText cs (n ∷ ns) rest = (next : List Symbol) × (after : List Symbol)
    × SignText Comma cs next × NameText next n after × MoreNamesText after ns rest

-- a function's name and what it is given, to the end of the line
abbrev pub CallText : List Symbol → Name → List Given → Type 0
CallText cs entry gs = (after : List Symbol) × (inner : List Symbol) × (rest : List Symbol)
    × NameText cs entry after × SignText Open after inner × AllGivenText inner gs rest × (skip rest ≡ [])

pub data Line : Type 0 where
  Calls : (result : Name) (results : List Name) (entry : Name) (arguments : List Given) → Line
  Shows : (name : Name) → Line
  GivesUp : (name : Name) → Line

-- a sign, a name, and the end of the line
abbrev pub MarkedText : Symbol → List Symbol → Name → Type 0
MarkedText sign cs name = (next : List Symbol) × (rest : List Symbol)
    × SignText sign cs next × NameText next name rest × (skip rest ≡ [])

abbrev pub LineText : List Symbol → Line → Type 0
LineText cs (Calls result results entry gs) = (after : List Symbol) × (rest : List Symbol)
    × NameText cs result after × MoreNamesText after results rest × CallText rest entry gs
LineText cs (Shows name) = MarkedText Question cs name
LineText cs (GivesUp name) = MarkedText Minus cs name

-- the bytes are this line of a session
abbrev pub SpellsLine : List ℕ → Line → Type 0
SpellsLine bytes line = LineText (symbols bytes) line

abbrev pub fresh_of : Parts → List Given
fresh_of NoParts = []
fresh_of (MoreParts w ws) = Fresh w ∷ fresh_of ws

-- the bytes are a task: a function's name and values
abbrev pub SpellsTask : List ℕ → Name → Parts → Type 0
SpellsTask bytes entry ws = CallText (symbols bytes) entry (fresh_of ws)
