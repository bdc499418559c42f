-- What the functions of the lexer claim.
use Rattle.std.specs.Prelude.{◌≡◌, ℕ, ◌+◌, ◌<◌, false, List, [], ◌∷◌, ◌++◌, length, Option, Some, None}
use Rattle.fip_language.specs.declared.Place.{Place}
use Rattle.fip_grammar.specs.declared.lexer.Front.{Front}
use Rattle.fip_grammar.specs.declared.lexer.Front.TheVariants as F
use Rattle.fip_grammar.specs.declared.lexer.LexError.{LexError}
use Rattle.fip_grammar.specs.declared.lexer.LexError.TheVariants as L
use Rattle.fip_grammar.specs.declared.token.Word.{Word}
use Rattle.fip_grammar.specs.Token as T
use Rattle.fip_grammar.specs.Cut.{IsFirst, BeginsNone, Piece, Cut, piece_text, following, after_all, BeginsWith, Pieces}
use Rattle.fip_grammar.specs.Cut.{tokens_at, tokens_of, first_place, is_gap, double_sign, IsBadByte}
use Rattle.fip_grammar.specs.WordView.{word}

-- A text begins with this piece, after which the place is this.
pub record IsFront (text : List ℕ) (p : Place) (x : Piece) (next : Place) : Type 0 where
  pub after : List ℕ
  pub whole : text ≡ piece_text x ++ after
  pub begins : BeginsWith x text after
  pub following : next ≡ following p x
  pub some : 0 < length (piece_text x)
  pub moved : next.at ≡ p.at + length (piece_text x)

-- what is at the start of a text that isn't empty
abbrev pub IsFrontOf : List ℕ → Place → Front → Type 0
IsFrontOf text p (F.Gap next) = (x : Piece) × IsFront text p x next × (tokens_at p x ≡ [])
IsFrontOf text p (F.Token w next) = (bs : List ℕ) × IsFront text p (Cut bs (word w)) next
IsFrontOf text p F.Nothing = (is_gap text ≡ false) × BeginsNone text

-- the token that a text begins with, and its length
abbrev pub IsFirstOf : List ℕ → Option (T.Word × ℕ) → Type 0
IsFirstOf text None = BeginsNone text
IsFirstOf text (Some r) = IsFirst text r.1 r.0

-- The source up to rest was cut into these tokens, and rest begins at this place.
abbrev pub IsRead : List ℕ → List ℕ → Place → List T.Token → Type 0
IsRead source rest p ts = (xs : List Piece) × Pieces xs source rest × (ts ≡ tokens_of first_place xs)
    × (p ≡ after_all first_place xs)

-- the sign that two bytes at the start of a text are
abbrev pub double_start : ℕ → List ℕ → Option T.Word
double_start b [] = None
double_start b (c ∷ more) = double_sign b c

abbrev pub firsts : Word × ℕ → T.Word × ℕ
firsts r = (word r.0, r.1)

abbrev pub Bad : List ℕ → LexError → Type 0
Bad source L.Memory = Unit {0}
Bad source (L.BadByte p) = IsBadByte source p
