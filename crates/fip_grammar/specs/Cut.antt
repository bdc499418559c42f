-- How a source is cut into tokens: blanks and comments lie between them, and at each place the longest token is taken.
use Rattle.std.specs.Prelude.{◌≡◌, ◌≢◌, ℕ, ◌+◌, ◌<◌, ◌≤◌, Bool, true, false, ◌==◌, ◌&&◌, ◌||◌, if◌then◌else◌, nat_le}
use Rattle.std.specs.Prelude.{codes, List, [], ◌∷◌, ◌++◌, length, take, Option, Some, None}
use Rattle.std.specs.List.{list_all}
use Rattle.std.specs.Str.{bytes_eq}
use Rattle.fip_language.specs.declared.Place.{Place}
use Rattle.fip_language.specs.declared.Operator.TheVariants as O
use Rattle.fip_grammar.specs.declared.Sign.TheVariants as S
use Rattle.fip_grammar.specs.Token.{Word, Lower, Upper, Number, Operate, Mark, Token, token}
pub use Rattle.fip_language.specs.Character.{is_lower, is_upper, is_digit}

-- a letter, a digit or _
abbrev pub is_name : ℕ → Bool
is_name b = is_lower b || (is_upper b || (is_digit b || (b == 95)))

-- the token that letters, digits and _ after a small letter are
abbrev pub keyword_or_name : List ℕ → Word
keyword_or_name text =
    if bytes_eq text (codes "data") then Mark S.Data
    else (if bytes_eq text (codes "fip") then Mark S.Fip
    else (if bytes_eq text (codes "fbip") then Mark S.Fbip
    else (if bytes_eq text (codes "fun") then Mark S.Fun
    else (if bytes_eq text (codes "match") then Mark S.Match
    else (if bytes_eq text (codes "let") then Mark S.Let
    else (if bytes_eq text (codes "if") then Mark S.If
    else (if bytes_eq text (codes "else") then Mark S.Else
    else (if bytes_eq text (codes "int") then Mark S.Int
    else Lower text))))))))

-- the sign that a byte is
abbrev pub single_sign : ℕ → Option Word
single_sign b =
    if b == 95 then Some (Mark S.Underscore)
    else (if b == 40 then Some (Mark S.RoundOpen)
    else (if b == 41 then Some (Mark S.RoundClose)
    else (if b == 91 then Some (Mark S.SquareOpen)
    else (if b == 93 then Some (Mark S.SquareClose)
    else (if b == 123 then Some (Mark S.CurlyOpen)
    else (if b == 125 then Some (Mark S.CurlyClose)
    else (if b == 44 then Some (Mark S.Comma)
    else (if b == 59 then Some (Mark S.Semicolon)
    else (if b == 58 then Some (Mark S.Colon)
    else (if b == 94 then Some (Mark S.Caret)
    else (if b == 61 then Some (Mark S.Equals)
    else (if b == 43 then Some (Operate O.Add)
    else (if b == 45 then Some (Operate O.Subtract)
    else (if b == 42 then Some (Operate O.Multiply)
    else (if b == 47 then Some (Operate O.Divide)
    else (if b == 37 then Some (Operate O.Remainder)
    else (if b == 60 then Some (Operate O.Less)
    else (if b == 62 then Some (Operate O.Greater)
    else None))))))))))))))))))

-- the sign that two bytes are: -> == != <= >=
abbrev pub double_sign : ℕ → ℕ → Option Word
double_sign b c =
    if (b == 45) && (c == 62) then Some (Mark S.Arrow)
    else (if (b == 61) && (c == 61) then Some (Operate O.Equal)
    else (if (b == 33) && (c == 61) then Some (Operate O.NotEqual)
    else (if (b == 60) && (c == 61) then Some (Operate O.LessOrEqual)
    else (if (b == 62) && (c == 61) then Some (Operate O.GreaterOrEqual)
    else None))))

abbrev pub sign_of : ℕ → List ℕ → Option Word
sign_of b [] = single_sign b
sign_of b (c ∷ []) = double_sign b c
sign_of b (c ∷ d ∷ more) = None

abbrev pub lower_word : Bool → List ℕ → Option Word
lower_word true text = Some (keyword_or_name text)
lower_word false text = if bytes_eq text (codes "match!") then Some (Mark S.MatchBang) else None

-- The token that a whole text is, if it is one: x1 is Lower, fun is Mark Fun, x! is none.
abbrev pub word_of : List ℕ → Option Word
word_of [] = None
word_of (b ∷ bs) =
    if is_lower b then lower_word (list_all is_name bs) (b ∷ bs)
    else (if is_upper b then (if list_all is_name bs then Some (Upper (b ∷ bs)) else None)
    else (if is_digit b then (if list_all is_digit bs then Some (Number (b ∷ bs)) else None)
    else sign_of b bs))

-- The first n bytes of a text are a token, and no longer front of it is one.
pub record IsFirst (text : List ℕ) (n : ℕ) (w : Word) : Type 0 where
  pub within : n ≤ length text
  pub word : word_of (take n text) ≡ Some w
  pub longest : (m : ℕ) → n < m → m ≤ length text → word_of (take m text) ≡ None

-- no token begins a text
abbrev pub BeginsNone : List ℕ → Type 0
BeginsNone text = (m : ℕ) → m ≤ length text → word_of (take m text) ≡ None

-- space, tab, LF, CR
abbrev pub is_blank : ℕ → Bool
is_blank b = (b == 32) || ((b == 9) || ((b == 10) || (b == 13)))

abbrev pub first_place : Place
first_place = record { line = 1; col = 1; at = 0 }

-- so many bytes further in a line
abbrev pub along : Place → ℕ → Place
along p n = record { line = p.line; col = p.col + n; at = p.at + n }

-- after an LF
abbrev pub next_line : Place → Place
next_line p = record { line = p.line + 1; col = 1; at = p.at + 1 }

-- a piece of a source
pub data Piece : Type 0 where
  Blank : (byte : ℕ) → Piece
  -- the two slashes, and what is after them in the line
  Comment : (text : List ℕ) → Piece
  Cut : (text : List ℕ) (word : Word) → Piece

abbrev pub piece_text : Piece → List ℕ
piece_text (Blank b) = b ∷ []
piece_text (Comment text) = 47 ∷ 47 ∷ text
piece_text (Cut text w) = text

-- The place after a piece. An LF is a blank that ends a line; comments and tokens have none in them.
abbrev pub following : Place → Piece → Place
following p (Blank b) = if b == 10 then next_line p else along p 1
following p (Comment text) = along p (2 + length text)
following p (Cut text w) = along p (length text)

abbrev pub after_all : Place → List Piece → Place
after_all p [] = p
after_all p (x ∷ xs) = after_all (following p x) xs

abbrev pub is_no_lf : ℕ → Bool
is_no_lf b = if b == 10 then false else true

-- a comment ends before an LF or at the end
abbrev pub EndsLine : List ℕ → Type 0
EndsLine [] = Unit {0}
EndsLine (b ∷ bs) = b ≡ 10

abbrev pub is_comment : List ℕ → Bool
is_comment [] = false
is_comment (b ∷ []) = false
is_comment (b ∷ c ∷ bs) = (b == 47) && (c == 47)

abbrev pub is_gap : List ℕ → Bool
is_gap [] = false
is_gap (b ∷ bs) = is_blank b || is_comment (b ∷ bs)

-- a text that begins with this piece, which rest follows
abbrev pub BeginsWith : Piece → List ℕ → List ℕ → Type 0
BeginsWith (Blank b) text rest = is_blank b ≡ true
BeginsWith (Comment bs) text rest = (list_all is_no_lf bs ≡ true) × EndsLine rest
BeginsWith (Cut bs w) text rest = (is_gap text ≡ false) × IsFirst text (length bs) w

-- A text is these pieces, and then rest.
abbrev pub Pieces : List Piece → List ℕ → List ℕ → Type 0
Pieces [] text rest = text ≡ rest
Pieces (x ∷ xs) text rest = (after : List ℕ) × (text ≡ piece_text x ++ after) × BeginsWith x text after
    × Pieces xs after rest

abbrev pub tokens_at : Place → Piece → List Token
tokens_at p (Blank b) = []
tokens_at p (Comment bs) = []
tokens_at p (Cut bs w) = token w p ∷ []

-- the tokens among the pieces, each with its place
abbrev pub tokens_of : Place → List Piece → List Token
tokens_of p [] = []
tokens_of p (x ∷ xs) = tokens_at p x ++ tokens_of (following p x) xs

-- These are the tokens of a source, and the place of its end.
abbrev pub IsCut : List ℕ → List Token → Place → Type 0
IsCut source ts end = (xs : List Piece) × Pieces xs source [] × (ts ≡ tokens_of first_place xs)
    × (end ≡ after_all first_place xs)

-- At this place is the first byte of a source that begins no token, no blank and no comment.
abbrev pub IsBadByte : List ℕ → Place → Type 0
IsBadByte source p = (xs : List Piece) × (rest : List ℕ) × Pieces xs source rest × (p ≡ after_all first_place xs)
    × (rest ≢ []) × (is_gap rest ≡ false) × BeginsNone rest
