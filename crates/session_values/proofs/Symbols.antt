-- The symbols of a line as the characters of values.
-- Idea: but for an LF, each byte's character is reported by its symbol; and what is left after blanks, names and
-- numbers is the same of both.
use Rattle.std.proofs.Common.{◌≡◌, ◌≢◌, ◌∙◌, ◌≤◌, ◌+◌, ◌-◌, ◌*◌, ℕ, zero, suc, Bool, true, false, List, [], ◌∷◌, ◌++◌, map, drop, append_assoc, refl, sym, ap, ap₂, subst, arith}
use Rattle.std.specs.Prelude.{◌||◌, ◌&&◌, ◌==◌, if◌then◌else◌}
use Rattle.std.proofs.lemmas.Bool.{eqb-true}
use Rattle.std.proofs.lemmas.Bool.Decides.{nat_tests}
use Rattle.fip_language.specs.Every.{Every}
use Rattle.fip_language.specs.Character as C
use Rattle.fip_language.specs.Character.{Character, character, characters, is_blank, is_digit, is_upper, is_letter, are_name_bytes, is_upper_name}
use Rattle.fip_language.specs.ValueText as V
use Rattle.session_lines.specs.session_semantics.Lines.{Symbol, Blank, Open, Close, Comma, Equals, Question, Minus, Underscore, Digit, Small, Capital, Other}
use Rattle.session_lines.specs.session_semantics.Lines.{symbol, symbols, skip, word, following, number, after_number, BeginsCapital}
use Rattle.value_text.proofs.Tables.{character_is_digit, character_letter}
use Rattle.session_lines.proofs.Tokens.{IsOf, of_symbol}
use Rattle.fip_language.proofs.Facts.{or_last as or_right}

-- ---- one symbol

abbrev pub chr : Symbol → Character
chr Blank = C.Blank
chr Open = C.Open
chr Close = C.Close
chr Comma = C.Comma
chr Equals = C.Other
chr Question = C.Other
chr Minus = C.Minus
chr Underscore = C.Letter 95
chr (Digit d) = C.Digit d
chr (Small b) = C.Letter b
chr (Capital b) = C.Letter b
chr Other = C.Other

small_letter : (b : ℕ) → 97 ≤ b → b ≤ 122 → is_letter b ≡ true
small_letter b l m = grind (arith, nat_tests)

capital_letter : (b : ℕ) → is_upper b ≡ true → is_letter b ≡ true
capital_letter b e = grind (arith, nat_tests)

past : (t : Bool) (x y : Character) → t ≡ false → (if t then x else y) ≡ y
past t x y e = ap (λ (t : Bool). if t then x else y) e

not_equal : (b n : ℕ) → b ≢ n → (t : Bool) → (b == n) ≡ t → (b == n) ≡ false
not_equal b n h true e = absurd (h (eqb-true b n e))
not_equal b n h false e = e

abbrev beyond_line : ℕ → Character
beyond_line b =
    if b == 40 then C.Open
    else if b == 41 then C.Close
    else if b == 44 then C.Comma
    else if b == 45 then C.Minus
    else if is_digit b then C.Digit (b - 48)
    else if is_letter b then C.Letter b
    else C.Other

other_character : (b : ℕ) → b ≢ 10 → IsOf b Other → character b ≡ C.Other
other_character b h o =
    past (is_blank b) C.Blank _ o.blank ∙ past (b == 10) C.Line (beyond_line b) (not_equal b 10 h (b == 10) refl)
    ∙ past (b == 40) C.Open _ o.open' ∙ past (b == 41) C.Close _ o.close ∙ past (b == 44) C.Comma _ o.comma
    ∙ past (b == 45) C.Minus _ o.minus ∙ past (is_digit b) (C.Digit (b - 48)) _ o.digit ∙ past (is_letter b) (C.Letter b) C.Other o.letter

chr_of : (b : ℕ) (s : Symbol) → b ≢ 10 → IsOf b s → character b ≡ chr s
chr_of b Blank h e = ap (λ (t : Bool). if t then C.Blank else if b == 10 then C.Line else beyond_line b) e
chr_of b Open h e = ap character e
chr_of b Close h e = ap character e
chr_of b Comma h e = ap character e
chr_of b Equals h e = ap character e
chr_of b Question h e = ap character e
chr_of b Minus h e = ap character e
chr_of b Underscore h e = ap character e
chr_of b (Digit d) h e = character_is_digit b e.0 ∙ ap C.Digit (let x = e.1 in omega (arith, x))
chr_of b (Small c) h e = character_letter b (small_letter b e.1 e.2) ∙ ap C.Letter (sym e.0)
chr_of b (Capital c) h e = character_letter b (capital_letter b e.1) ∙ ap C.Letter (sym e.0)
chr_of b Other h e = other_character b h e

-- ---- of all bytes but LF

abbrev pub IsOneLine : List ℕ → Type 0
IsOneLine bytes = Every (λ b. b ≢ 10) bytes

pub chars_are : (bytes : List ℕ) → IsOneLine bytes → characters bytes ≡ map chr (symbols bytes)
chars_are [] h = refl
chars_are (b ∷ bytes) h = ap₂ (λ (c : Character) (cs : List Character). c ∷ cs) (chr_of b (symbol b) h.0 (of_symbol b)) (chars_are bytes h.1)

pub one_line_drop : (bytes : List ℕ) (n : ℕ) → IsOneLine bytes → IsOneLine (drop n bytes)
one_line_drop bytes zero h = h
one_line_drop [] (suc n) h = tt
one_line_drop (b ∷ bytes) (suc n) h = one_line_drop bytes n h.1

-- ---- symbols that were read from bytes

abbrev pub AreRead : List Symbol → Type 0
AreRead [] = Unit {0}
AreRead (s ∷ ss) = ((b : ℕ) × IsOf b s) × AreRead ss

pub are_read : (bytes : List ℕ) → AreRead (symbols bytes)
are_read [] = tt
are_read (b ∷ bytes) = ((b, of_symbol b), are_read bytes)

-- what is left of symbols
abbrev pub Suffix : List Symbol → List Symbol → Type 0
Suffix rs ss = (front : List Symbol) × (ss ≡ front ++ rs)

pub all_left : (ss : List Symbol) → Suffix ss ss
all_left ss = ([], refl)

pub one_less : (s : Symbol) (ss rs : List Symbol) → Suffix rs ss → Suffix rs (s ∷ ss)
one_less s ss rs h = (s ∷ h.0, ap (λ xs. s ∷ xs) h.1)

pub less : (ss ts rs : List Symbol) → Suffix ts ss → Suffix rs ts → Suffix rs ss
less ss ts rs h k = (h.0 ++ k.0, h.1 ∙ ap (λ xs. h.0 ++ xs) k.1 ∙ sym (append_assoc h.0 k.0 rs))

read_right : (front rs : List Symbol) → AreRead (front ++ rs) → AreRead rs
read_right [] rs h = h
read_right (s ∷ front) rs h = read_right front rs h.1

pub read_left : (ss rs : List Symbol) → Suffix rs ss → AreRead ss → AreRead rs
read_left ss rs h k = read_right h.0 rs (subst AreRead h.1 k)

pub skip_left : (ss : List Symbol) → Suffix (skip ss) ss
skip_left [] = all_left []
skip_left (Blank ∷ ss) = one_less Blank ss (skip ss) (skip_left ss)
skip_left (s ∷ ss) = all_left (s ∷ ss)

pub after_left : (ss : List Symbol) → Suffix (following ss) ss
after_left [] = all_left []
after_left (Underscore ∷ ss) = one_less Underscore ss (following ss) (after_left ss)
after_left (Digit d ∷ ss) = one_less (Digit d) ss (following ss) (after_left ss)
after_left (Small b ∷ ss) = one_less (Small b) ss (following ss) (after_left ss)
after_left (Capital b ∷ ss) = one_less (Capital b) ss (following ss) (after_left ss)
after_left (s ∷ ss) = all_left (s ∷ ss)

pub number_left : (ss : List Symbol) → Suffix (after_number ss) ss
number_left [] = all_left []
number_left (Digit d ∷ ss) = one_less (Digit d) ss (after_number ss) (number_left ss)
number_left (s ∷ ss) = all_left (s ∷ ss)

-- ---- the same is skipped and read

pub skip_chr : (ss : List Symbol) → V.skip (map chr ss) ≡ map chr (skip ss)
skip_chr [] = refl
skip_chr (Blank ∷ ss) = skip_chr ss
skip_chr (Open ∷ ss) = refl
skip_chr (Close ∷ ss) = refl
skip_chr (Comma ∷ ss) = refl
skip_chr (Equals ∷ ss) = refl
skip_chr (Question ∷ ss) = refl
skip_chr (Minus ∷ ss) = refl
skip_chr (Underscore ∷ ss) = refl
skip_chr (Digit d ∷ ss) = refl
skip_chr (Small b ∷ ss) = refl
skip_chr (Capital b ∷ ss) = refl
skip_chr (Other ∷ ss) = refl

pub following_chr : (ss : List Symbol) → V.after_name (map chr ss) ≡ map chr (following ss)
following_chr [] = refl
following_chr (Blank ∷ ss) = refl
following_chr (Open ∷ ss) = refl
following_chr (Close ∷ ss) = refl
following_chr (Comma ∷ ss) = refl
following_chr (Equals ∷ ss) = refl
following_chr (Question ∷ ss) = refl
following_chr (Minus ∷ ss) = refl
following_chr (Underscore ∷ ss) = following_chr ss
following_chr (Digit d ∷ ss) = following_chr ss
following_chr (Small b ∷ ss) = following_chr ss
following_chr (Capital b ∷ ss) = following_chr ss
following_chr (Other ∷ ss) = refl

pub number_chr : (n : ℕ) (ss : List Symbol) → V.number n (map chr ss) ≡ number n ss
number_chr n [] = refl
number_chr n (Digit d ∷ ss) = number_chr (10 * n + d) ss
number_chr n (Blank ∷ ss) = refl
number_chr n (Open ∷ ss) = refl
number_chr n (Close ∷ ss) = refl
number_chr n (Comma ∷ ss) = refl
number_chr n (Equals ∷ ss) = refl
number_chr n (Question ∷ ss) = refl
number_chr n (Minus ∷ ss) = refl
number_chr n (Underscore ∷ ss) = refl
number_chr n (Small b ∷ ss) = refl
number_chr n (Capital b ∷ ss) = refl
number_chr n (Other ∷ ss) = refl

pub after_chr : (ss : List Symbol) → V.after_number (map chr ss) ≡ map chr (after_number ss)
after_chr [] = refl
after_chr (Digit d ∷ ss) = after_chr ss
after_chr (Blank ∷ ss) = refl
after_chr (Open ∷ ss) = refl
after_chr (Close ∷ ss) = refl
after_chr (Comma ∷ ss) = refl
after_chr (Equals ∷ ss) = refl
after_chr (Question ∷ ss) = refl
after_chr (Minus ∷ ss) = refl
after_chr (Underscore ∷ ss) = refl
after_chr (Small b ∷ ss) = refl
after_chr (Capital b ∷ ss) = refl
after_chr (Other ∷ ss) = refl

-- a name is the same, and has bytes of names
pub record IsSameName (ss : List Symbol) : Type 0 where
  pub same : V.name_of (map chr ss) ≡ characters (word ss)
  pub bytes : are_name_bytes (word ss) ≡ true

name_on : (b : ℕ) (s : Symbol) (ss : List Symbol) → V.name_of (map chr (s ∷ ss)) ≡ chr s ∷ V.name_of (map chr ss) → word (s ∷ ss) ≡ b ∷ word ss → character b ≡ chr s → (is_digit b || is_letter b) ≡ true → IsSameName ss → IsSameName (s ∷ ss)
name_on b s ss f w c n h = record {
  same = f ∙ ap₂ (λ (c : Character) (cs : List Character). c ∷ cs) (sym c) h.same ∙ ap characters (sym w);
  bytes = ap are_name_bytes w ∙ ap₂ (λ x y. x && y) n h.bytes;
}

pub names_same : (ss : List Symbol) → AreRead ss → IsSameName ss
names_same [] h = record { same = refl; bytes = refl }
names_same (Underscore ∷ ss) h = name_on 95 Underscore ss refl refl refl refl (names_same ss h.1)
names_same (Digit d ∷ ss) ((b, e), h) = name_on b (Digit d) ss refl (ap (λ x. x ∷ word ss) (sym e.1)) (character_is_digit b e.0 ∙ ap C.Digit (let x = e.1 in omega (arith, x))) (ap (λ t. t || is_letter b) e.0) (names_same ss h)
names_same (Small c ∷ ss) ((b, e), h) = name_on b (Small c) ss refl (ap (λ x. x ∷ word ss) e.0) (character_letter b (small_letter b e.1 e.2) ∙ ap C.Letter (sym e.0)) (or_right (is_digit b) (is_letter b) (small_letter b e.1 e.2)) (names_same ss h)
names_same (Capital c ∷ ss) ((b, e), h) = name_on b (Capital c) ss refl (ap (λ x. x ∷ word ss) e.0) (character_letter b (capital_letter b e.1) ∙ ap C.Letter (sym e.0)) (or_right (is_digit b) (is_letter b) (capital_letter b e.1)) (names_same ss h)
names_same (Blank ∷ ss) h = record { same = refl; bytes = refl }
names_same (Open ∷ ss) h = record { same = refl; bytes = refl }
names_same (Close ∷ ss) h = record { same = refl; bytes = refl }
names_same (Comma ∷ ss) h = record { same = refl; bytes = refl }
names_same (Equals ∷ ss) h = record { same = refl; bytes = refl }
names_same (Question ∷ ss) h = record { same = refl; bytes = refl }
names_same (Minus ∷ ss) h = record { same = refl; bytes = refl }
names_same (Other ∷ ss) h = record { same = refl; bytes = refl }

-- ---- a name of a constructor begins with a capital

not_upper : (c : ℕ) (bs : List ℕ) → is_upper c ≡ false → is_upper_name (c ∷ bs) ≡ true → ⊥
not_upper c bs e h = let x : false ≡ true = sym (ap (λ t. t && are_name_bytes bs) e) ∙ h in absurd cc

digit_not_upper : (b : ℕ) → is_digit b ≡ true → is_upper b ≡ false
digit_not_upper b e = grind (arith, nat_tests)

small_not_upper : (b : ℕ) → 97 ≤ b → b ≤ 122 → is_upper b ≡ false
small_not_upper b l m = grind (arith, nat_tests)

pub begins_capital : (ss : List Symbol) → AreRead ss → is_upper_name (word ss) ≡ true → BeginsCapital ss
begins_capital (Capital c ∷ ss) h e = tt
begins_capital (Underscore ∷ ss) h e = not_upper 95 (word ss) refl e
begins_capital (Digit d ∷ ss) ((b, k), h) e = not_upper b (word ss) (digit_not_upper b k.0) (ap (λ x. is_upper_name (x ∷ word ss)) k.1 ∙ e)
begins_capital (Small c ∷ ss) ((b, k), h) e = not_upper b (word ss) (small_not_upper b k.1 k.2) (ap (λ x. is_upper_name (x ∷ word ss)) (sym k.0) ∙ e)
begins_capital [] h e = absurd cc
begins_capital (Blank ∷ ss) h e = absurd cc
begins_capital (Open ∷ ss) h e = absurd cc
begins_capital (Close ∷ ss) h e = absurd cc
begins_capital (Comma ∷ ss) h e = absurd cc
begins_capital (Equals ∷ ss) h e = absurd cc
begins_capital (Question ∷ ss) h e = absurd cc
begins_capital (Minus ∷ ss) h e = absurd cc
begins_capital (Other ∷ ss) h e = absurd cc

-- ---- signs

pub is_open : (ss : List Symbol) (rest : List Character) → map chr ss ≡ C.Open ∷ rest → (rs : List Symbol) × (ss ≡ Open ∷ rs) × (rest ≡ map chr rs)
is_open (Open ∷ ss) rest e = (ss, refl, (let x : map chr ss ≡ rest = cc in sym x))
is_open [] rest e = absurd cc
is_open (Blank ∷ ss) rest e = absurd cc
is_open (Close ∷ ss) rest e = absurd cc
is_open (Comma ∷ ss) rest e = absurd cc
is_open (Equals ∷ ss) rest e = absurd cc
is_open (Question ∷ ss) rest e = absurd cc
is_open (Minus ∷ ss) rest e = absurd cc
is_open (Underscore ∷ ss) rest e = absurd cc
is_open (Digit d ∷ ss) rest e = absurd cc
is_open (Small b ∷ ss) rest e = absurd cc
is_open (Capital b ∷ ss) rest e = absurd cc
is_open (Other ∷ ss) rest e = absurd cc

pub is_close : (ss : List Symbol) (rest : List Character) → map chr ss ≡ C.Close ∷ rest → (rs : List Symbol) × (ss ≡ Close ∷ rs) × (rest ≡ map chr rs)
is_close (Close ∷ ss) rest e = (ss, refl, (let x : map chr ss ≡ rest = cc in sym x))
is_close [] rest e = absurd cc
is_close (Blank ∷ ss) rest e = absurd cc
is_close (Open ∷ ss) rest e = absurd cc
is_close (Comma ∷ ss) rest e = absurd cc
is_close (Equals ∷ ss) rest e = absurd cc
is_close (Question ∷ ss) rest e = absurd cc
is_close (Minus ∷ ss) rest e = absurd cc
is_close (Underscore ∷ ss) rest e = absurd cc
is_close (Digit d ∷ ss) rest e = absurd cc
is_close (Small b ∷ ss) rest e = absurd cc
is_close (Capital b ∷ ss) rest e = absurd cc
is_close (Other ∷ ss) rest e = absurd cc

pub is_comma : (ss : List Symbol) (rest : List Character) → map chr ss ≡ C.Comma ∷ rest → (rs : List Symbol) × (ss ≡ Comma ∷ rs) × (rest ≡ map chr rs)
is_comma (Comma ∷ ss) rest e = (ss, refl, (let x : map chr ss ≡ rest = cc in sym x))
is_comma [] rest e = absurd cc
is_comma (Blank ∷ ss) rest e = absurd cc
is_comma (Open ∷ ss) rest e = absurd cc
is_comma (Close ∷ ss) rest e = absurd cc
is_comma (Equals ∷ ss) rest e = absurd cc
is_comma (Question ∷ ss) rest e = absurd cc
is_comma (Minus ∷ ss) rest e = absurd cc
is_comma (Underscore ∷ ss) rest e = absurd cc
is_comma (Digit d ∷ ss) rest e = absurd cc
is_comma (Small b ∷ ss) rest e = absurd cc
is_comma (Capital b ∷ ss) rest e = absurd cc
is_comma (Other ∷ ss) rest e = absurd cc
