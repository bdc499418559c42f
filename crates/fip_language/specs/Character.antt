-- What a byte is in a text of values, and the names of constructors.
-- A space, a tab and a CR are blanks, an LF ends a line. A name has letters, digits and _ .
use Rattle.std.specs.Prelude.{ℕ, ◌-◌, Bool, true, false, ◌&&◌, ◌||◌, nat_le, ◌==◌, if◌then◌else◌, List, [], ◌∷◌, map, codes}
use Rattle.std.specs.Str.{bytes_eq}

pub data Character : Type 0 where
  Blank : Character
  Line : Character
  Open : Character
  Close : Character
  Comma : Character
  Minus : Character
  -- a digit's number
  Digit : (d : ℕ) → Character
  -- a letter's byte; _ is one
  Letter : (b : ℕ) → Character
  Other : Character

abbrev pub is_blank : ℕ → Bool
is_blank b = (b == 32) || (b == 9) || (b == 13)

abbrev pub is_digit : ℕ → Bool
is_digit b = nat_le 48 b && nat_le b 57

abbrev pub is_upper : ℕ → Bool
is_upper b = nat_le 65 b && nat_le b 90

-- a small letter
abbrev pub is_lower : ℕ → Bool
is_lower b = nat_le 97 b && nat_le b 122

abbrev pub is_letter : ℕ → Bool
is_letter b = is_upper b || (nat_le 97 b && nat_le b 122) || (b == 95)

abbrev pub character : ℕ → Character
character b =
    if is_blank b then Blank
    else if b == 10 then Line
    else if b == 40 then Open
    else if b == 41 then Close
    else if b == 44 then Comma
    else if b == 45 then Minus
    else if is_digit b then Digit (b - 48)
    else if is_letter b then Letter b
    else Other

abbrev pub characters : List ℕ → List Character
characters = map character

-- only letters, digits and _
abbrev pub are_name_bytes : List ℕ → Bool
are_name_bytes [] = true
are_name_bytes (b ∷ bs) = (is_digit b || is_letter b) && are_name_bytes bs

-- a constructor's name: an upper-case letter, and then letters, digits and _
abbrev pub is_upper_name : List ℕ → Bool
is_upper_name [] = false
is_upper_name (b ∷ bs) = is_upper b && are_name_bytes bs

-- a word of the language, which names nothing
abbrev pub is_keyword : List ℕ → Bool
is_keyword text =
    bytes_eq text (codes "data") || bytes_eq text (codes "fip") || bytes_eq text (codes "fbip")
    || bytes_eq text (codes "fun") || bytes_eq text (codes "match") || bytes_eq text (codes "let")
    || bytes_eq text (codes "if") || bytes_eq text (codes "else") || bytes_eq text (codes "int")
