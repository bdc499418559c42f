-- The Upper tokens that a source is cut into have upper-case names.
use Rattle.std.proofs.Common.{◌≡◌, ℕ, Bool, true, false, cond, ◌&&◌, ◌||◌, ◌==◌, codes, List, [], ◌∷◌, length, take, Option, Some, None, refl, sym, subst}
use Rattle.std.specs.List.{list_all}
use Rattle.std.specs.Str.{bytes_eq}
use Rattle.std.proofs.lemmas.Bool.{and_from, and_parts}
use Rattle.fip_language.specs.declared.Place.{Place}
use Rattle.fip_language.specs.declared.Operator.TheVariants as O
use Rattle.fip_language.specs.Every.{Every}
use Rattle.fip_language.specs.Character.{is_letter, are_name_bytes, is_upper_name}
use Rattle.fip_grammar.specs.declared.Sign.TheVariants as S
use Rattle.fip_grammar.specs.Token.{Word, Lower, Upper, Number, Operate, Mark, Token}
use Rattle.fip_grammar.specs.Cut.{is_lower, is_upper, is_digit, is_name, keyword_or_name, single_sign, double_sign, sign_of, lower_word, word_of, IsFirst, Piece, Blank, Comment, Cut, following, Pieces, tokens_of, first_place, IsCut}
use Rattle.fip_language.proofs.Facts.{or_exchange as name_byte}

-- an upper word is an upper-case name
abbrev pub Proper : Word → Type 0
Proper (Upper n) = is_upper_name n ≡ true
Proper _ = Unit {0}

abbrev ProperOption : Option Word → Type 0
ProperOption None = Unit {0}
ProperOption (Some w) = Proper w

-- the first word whose test holds, or else the last one
abbrev first_of : {A : Type 0} → List (Bool × A) → A → A
first_of [] d = d
first_of (c ∷ cs) d = cond c.0 c.1 (first_of cs d)

pub holds_if : {A : Type 0} (P : A → Type 0) (c : Bool) (x y : A) → P x → P y → P (cond c x y)
holds_if P true x y h k = h
holds_if P false x y h k = k

holds_of : {A : Type 0} (P : A → Type 0) (cs : List (Bool × A)) (d : A) → Every (λ (c : Bool × A). P c.1) cs → P d → P (first_of cs d)
holds_of P [] d h k = k
holds_of P (c ∷ cs) d h k = holds_if P c.0 c.1 (first_of cs d) h.0 (holds_of P cs d h.1 k)

proper_lower : (text : List ℕ) → Proper (keyword_or_name text)
proper_lower text = holds_of Proper (
    (bytes_eq text (codes "data"), Mark S.Data) ∷
    (bytes_eq text (codes "fip"), Mark S.Fip) ∷
    (bytes_eq text (codes "fbip"), Mark S.Fbip) ∷
    (bytes_eq text (codes "fun"), Mark S.Fun) ∷
    (bytes_eq text (codes "match"), Mark S.Match) ∷
    (bytes_eq text (codes "let"), Mark S.Let) ∷
    (bytes_eq text (codes "if"), Mark S.If) ∷
    (bytes_eq text (codes "else"), Mark S.Else) ∷
    (bytes_eq text (codes "int"), Mark S.Int) ∷
    []) (Lower text) (tt, (tt, (tt, (tt, (tt, (tt, (tt, (tt, (tt, tt))))))))) tt

proper_single : (b : ℕ) → ProperOption (single_sign b)
proper_single b = holds_of ProperOption (
    (b == 95, Some (Mark S.Underscore)) ∷
    (b == 40, Some (Mark S.RoundOpen)) ∷
    (b == 41, Some (Mark S.RoundClose)) ∷
    (b == 91, Some (Mark S.SquareOpen)) ∷
    (b == 93, Some (Mark S.SquareClose)) ∷
    (b == 123, Some (Mark S.CurlyOpen)) ∷
    (b == 125, Some (Mark S.CurlyClose)) ∷
    (b == 44, Some (Mark S.Comma)) ∷
    (b == 59, Some (Mark S.Semicolon)) ∷
    (b == 58, Some (Mark S.Colon)) ∷
    (b == 94, Some (Mark S.Caret)) ∷
    (b == 61, Some (Mark S.Equals)) ∷
    (b == 43, Some (Operate O.Add)) ∷
    (b == 45, Some (Operate O.Subtract)) ∷
    (b == 42, Some (Operate O.Multiply)) ∷
    (b == 47, Some (Operate O.Divide)) ∷
    (b == 37, Some (Operate O.Remainder)) ∷
    (b == 60, Some (Operate O.Less)) ∷
    (b == 62, Some (Operate O.Greater)) ∷
    []) None (tt, (tt, (tt, (tt, (tt, (tt, (tt, (tt, (tt, (tt, (tt, (tt, (tt, (tt, (tt, (tt, (tt, (tt, (tt, tt))))))))))))))))))) tt

proper_double : (b c : ℕ) → ProperOption (double_sign b c)
proper_double b c = holds_of ProperOption (
    ((b == 45) && (c == 62), Some (Mark S.Arrow)) ∷
    ((b == 61) && (c == 61), Some (Operate O.Equal)) ∷
    ((b == 33) && (c == 61), Some (Operate O.NotEqual)) ∷
    ((b == 60) && (c == 61), Some (Operate O.LessOrEqual)) ∷
    ((b == 62) && (c == 61), Some (Operate O.GreaterOrEqual)) ∷
    []) None (tt, (tt, (tt, (tt, (tt, tt))))) tt

proper_sign : (b : ℕ) (bs : List ℕ) → ProperOption (sign_of b bs)
proper_sign b [] = proper_single b
proper_sign b (c ∷ []) = proper_double b c
proper_sign b (c ∷ d ∷ more) = tt

proper_keyword : (names : Bool) (text : List ℕ) → ProperOption (lower_word names text)
proper_keyword true text = proper_lower text
proper_keyword false text = holds_if ProperOption (bytes_eq text (codes "match!")) (Some (Mark S.MatchBang)) None tt tt

name_bytes : (bs : List ℕ) → list_all is_name bs ≡ true → are_name_bytes bs ≡ true
name_bytes [] e = refl
name_bytes (b ∷ bs) e =
    and_from (is_digit b || is_letter b) (are_name_bytes bs)
    (name_byte (is_lower b) (is_upper b) (is_digit b) (b == 95) (and_parts (is_name b) (list_all is_name bs) e).0)
    (name_bytes bs (and_parts (is_name b) (list_all is_name bs) e).1)

proper_name : (b : ℕ) (bs : List ℕ) (names : Bool) → is_upper b ≡ true → list_all is_name bs ≡ names → ProperOption (cond names (Some (Upper (b ∷ bs))) None)
proper_name b bs true u e = and_from (is_upper b) (are_name_bytes bs) u (name_bytes bs e)
proper_name b bs false u e = tt

proper_upper : (b : ℕ) (bs : List ℕ) (upper : Bool) (other : Option Word) → is_upper b ≡ upper → ProperOption other → ProperOption (cond upper (cond (list_all is_name bs) (Some (Upper (b ∷ bs))) None) other)
proper_upper b bs true other u k = proper_name b bs (list_all is_name bs) u refl
proper_upper b bs false other u k = k

proper_word : (text : List ℕ) → ProperOption (word_of text)
proper_word [] = tt
proper_word (b ∷ bs) =
    let number = cond (list_all is_digit bs) (Some (Number (b ∷ bs))) None in
    let other = cond (is_digit b) number (sign_of b bs) in
    let o : ProperOption other = holds_if ProperOption (is_digit b) number (sign_of b bs) (holds_if ProperOption (list_all is_digit bs) (Some (Number (b ∷ bs))) None tt tt) (proper_sign b bs) in
    let upper = cond (is_upper b) (cond (list_all is_name bs) (Some (Upper (b ∷ bs))) None) other in
    holds_if ProperOption (is_lower b) (lower_word (list_all is_name bs) (b ∷ bs)) upper (proper_keyword (list_all is_name bs) (b ∷ bs)) (proper_upper b bs (is_upper b) other refl o)

proper_first : (text : List ℕ) (n : ℕ) (w : Word) → IsFirst text n w → Proper w
proper_first text n w f = subst ProperOption f.word (proper_word (take n text))

abbrev ProperToken : Token → Type 0
ProperToken t = Proper t.word

proper_pieces : (xs : List Piece) (p : Place) (text rest : List ℕ) → Pieces xs text rest → Every ProperToken (tokens_of p xs)
proper_pieces [] p text rest c = tt
proper_pieces (Blank b ∷ xs) p text rest c = proper_pieces xs (following p (Blank b)) c.0 rest c.3
proper_pieces (Comment t ∷ xs) p text rest c = proper_pieces xs (following p (Comment t)) c.0 rest c.3
proper_pieces (Cut t w ∷ xs) p text rest c = (proper_first text (length t) w c.2.1, proper_pieces xs (following p (Cut t w)) c.0 rest c.3)

pub proper_tokens : (source : List ℕ) (ts : List Token) (end : Place) → IsCut source ts end → Every ProperToken ts
proper_tokens source ts end c = subst (Every ProperToken) (sym c.2) (proper_pieces c.0 first_place source [] c.1)
