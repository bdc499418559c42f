-- What a byte is as a symbol, and what is skipped and read of bytes.
-- Idea: of each symbol it is said which bytes are read as it, and the tests of `symbol` give this one after another.
use Rattle.std.proofs.Common.{◌≡◌, ◌∙◌, ◌≤◌, ◌<◌, ◌+◌, ◌-◌, ℕ, zero, suc, Bool, true, false, List, [], ◌∷◌, ◌++◌, length, take, drop, get_or, append_assoc, append-nil, refl, sym, ap, ap₂, subst, arith}
use Rattle.std.specs.Prelude.{◌||◌, ◌&&◌, ◌==◌, nat_le, if◌then◌else◌}
use Rattle.std.proofs.lemmas.Bool.{eqb-true, leb-true, and_parts}
use Rattle.std.proofs.lemmas.Bool.Decides.{nat_tests}
use Rattle.std.proofs.lemmas.List.{drop_more, get_or-drop, length-drop}
use Rattle.fip_language.specs.Character.{is_blank, is_digit, is_upper, is_letter}
use Rattle.fip_language.specs.Core.{Name}
use Rattle.session_semantics.specs.Lines.{Symbol, Blank, Open, Close, Comma, Equals, Question, Minus, Underscore, Digit, Small, Capital, Other}
use Rattle.session_semantics.specs.Lines.{symbol, symbols, skip, word, following, is_keyword, BeginsSmall, NameText, SignText}
use Rattle.session_lines.specs.Scanned.{IsSignOf}
use Rattle.fip_language.proofs.Facts.{drop_past as none_left, take_next as take_more}

abbrev is_name_byte : ℕ → Bool
is_name_byte b = is_digit b || is_letter b

-- a byte that is read as no other symbol
pub record IsOther (b : ℕ) : Type 0 where
  pub blank : is_blank b ≡ false
  pub open' : (b == 40) ≡ false
  pub close : (b == 41) ≡ false
  pub comma : (b == 44) ≡ false
  pub minus : (b == 45) ≡ false
  pub digit : is_digit b ≡ false
  pub letter : is_letter b ≡ false

-- the bytes that are read as a symbol
abbrev pub IsOf : ℕ → Symbol → Type 0
IsOf b Blank = is_blank b ≡ true
IsOf b Open = b ≡ 40
IsOf b Close = b ≡ 41
IsOf b Comma = b ≡ 44
IsOf b Equals = b ≡ 61
IsOf b Question = b ≡ 63
IsOf b Minus = b ≡ 45
IsOf b Underscore = b ≡ 95
IsOf b (Digit d) = (is_digit b ≡ true) × (b ≡ 48 + d)
IsOf b (Small c) = (c ≡ b) × (97 ≤ b) × (b ≤ 122)
IsOf b (Capital c) = (c ≡ b) × (is_upper b ≡ true)
IsOf b Other = IsOther b

choose : (b : ℕ) (t : Bool) (x y : Symbol) → (t ≡ true → IsOf b x) → (t ≡ false → IsOf b y) → IsOf b (if t then x else y)
choose b true x y f g = f refl
choose b false x y f g = g refl

digit_is : (b : ℕ) → is_digit b ≡ true → b ≡ 48 + (b - 48)
digit_is b e = let h = and_parts (nat_le 48 b) (nat_le b 57) e in let l = leb-true 48 b h.0 in omega (arith, l)

small_is : (b : ℕ) → (nat_le 97 b && nat_le b 122) ≡ true → (97 ≤ b) × (b ≤ 122)
small_is b e = let h = and_parts (nat_le 97 b) (nat_le b 122) e in (leb-true 97 b h.0, leb-true b 122 h.1)

no_letter : (u l s : Bool) → u ≡ false → l ≡ false → s ≡ false → (u || l || s) ≡ false
no_letter u l s f g h = cc

pub of_symbol : (b : ℕ) → IsOf b (symbol b)
of_symbol b =
    choose b (is_blank b) Blank _ (λ e. e) (λ e0.
    choose b (b == 40) Open _ (eqb-true b 40) (λ e1.
    choose b (b == 41) Close _ (eqb-true b 41) (λ e2.
    choose b (b == 44) Comma _ (eqb-true b 44) (λ e3.
    choose b (b == 61) Equals _ (eqb-true b 61) (λ e4.
    choose b (b == 63) Question _ (eqb-true b 63) (λ e5.
    choose b (b == 45) Minus _ (eqb-true b 45) (λ e6.
    choose b (b == 95) Underscore _ (eqb-true b 95) (λ e7.
    choose b (is_digit b) (Digit (b - 48)) _ (λ e. (e, digit_is b e)) (λ e8.
    choose b (is_upper b) (Capital b) _ (λ e. (refl, e)) (λ e9.
    choose b (nat_le 97 b && nat_le b 122) (Small b) Other (λ e. let r = small_is b e in (refl, r.0, r.1)) (λ e10.
    record { blank = e0; open' = e1; close = e2; comma = e3; minus = e6; digit = e8; letter = no_letter (is_upper b) (nat_le 97 b && nat_le b 122) (b == 95) e9 e10 e7 })))))))))))

-- ---- signs

pub sign_open : IsSignOf 40 Open
sign_open d = (λ e. subst (IsOf d) e (of_symbol d), λ e. ap symbol e)

pub sign_comma : IsSignOf 44 Comma
sign_comma d = (λ e. subst (IsOf d) e (of_symbol d), λ e. ap symbol e)

pub sign_close : IsSignOf 41 Close
sign_close d = (λ e. subst (IsOf d) e (of_symbol d), λ e. ap symbol e)

-- ---- what is at a place

pub symbols_more : (bytes : List ℕ) (i : ℕ) → i < length bytes → symbols (drop i bytes) ≡ symbol (get_or bytes i 0) ∷ symbols (drop (i + 1) bytes)
symbols_more bytes i lt = ap symbols (drop_more bytes i 0 lt)

pub no_symbols : (bytes : List ℕ) (i : ℕ) → length bytes ≤ i → symbols (drop i bytes) ≡ []
no_symbols bytes i le = ap symbols (none_left bytes i le)

-- ---- blanks

abbrev beyond : ℕ → Symbol
beyond b =
    if b == 40 then Open
    else if b == 41 then Close
    else if b == 44 then Comma
    else if b == 61 then Equals
    else if b == 63 then Question
    else if b == 45 then Minus
    else if b == 95 then Underscore
    else if is_digit b then Digit (b - 48)
    else if is_upper b then Capital b
    else if nat_le 97 b && nat_le b 122 then Small b
    else Other

blank_symbol : (b : ℕ) → is_blank b ≡ true → symbol b ≡ Blank
blank_symbol b e = ap (λ (t : Bool). if t then Blank else beyond b) e

-- a blank is skipped
pub blank_on : (bytes : List ℕ) (i : ℕ) → i < length bytes → is_blank (get_or bytes i 0) ≡ true → skip (symbols (drop i bytes)) ≡ skip (symbols (drop (i + 1) bytes))
blank_on bytes i lt e = ap skip (symbols_more bytes i lt) ∙ ap (λ s. skip (s ∷ symbols (drop (i + 1) bytes))) (blank_symbol (get_or bytes i 0) e)

unskipped : (b : ℕ) (s : Symbol) (cs : List Symbol) → IsOf b s → is_blank b ≡ false → skip (s ∷ cs) ≡ s ∷ cs
unskipped b Blank cs h e = absurd (let x = sym h ∙ e in cc)
unskipped b s cs h e = refl

-- and nothing else is
pub blank_ends : (bytes : List ℕ) (i : ℕ) → i < length bytes → is_blank (get_or bytes i 0) ≡ false → skip (symbols (drop i bytes)) ≡ symbols (drop i bytes)
blank_ends bytes i lt e =
    let b = get_or bytes i 0 in
    ap skip (symbols_more bytes i lt) ∙ unskipped b (symbol b) (symbols (drop (i + 1) bytes)) (of_symbol b) e ∙ sym (symbols_more bytes i lt)

pub blank_over : (bytes : List ℕ) (i : ℕ) → length bytes ≤ i → skip (symbols (drop i bytes)) ≡ symbols (drop i bytes)
blank_over bytes i le = ap skip (no_symbols bytes i le) ∙ sym (no_symbols bytes i le)

-- ---- names

never_name : (b c : ℕ) → b ≡ c → is_name_byte c ≡ false → is_name_byte b ≡ true → ⊥
never_name b c e f h = let x = sym (ap is_name_byte e ∙ f) ∙ h in cc

blank_or_name : (b : ℕ) → is_blank b ≡ true → is_name_byte b ≡ true → ⊥
blank_or_name b e f = grind (arith, nat_tests)

in_word : (b : ℕ) (s : Symbol) (cs : List Symbol) → IsOf b s → is_name_byte b ≡ true → (word (s ∷ cs) ≡ b ∷ word cs) × (following (s ∷ cs) ≡ following cs)
in_word b Blank cs h e = absurd (blank_or_name b h e)
in_word b Open cs h e = absurd (never_name b 40 h refl e)
in_word b Close cs h e = absurd (never_name b 41 h refl e)
in_word b Comma cs h e = absurd (never_name b 44 h refl e)
in_word b Equals cs h e = absurd (never_name b 61 h refl e)
in_word b Question cs h e = absurd (never_name b 63 h refl e)
in_word b Minus cs h e = absurd (never_name b 45 h refl e)
in_word b Underscore cs h e = (ap (λ x. x ∷ word cs) (sym h), refl)
in_word b (Digit d) cs h e = (ap (λ x. x ∷ word cs) (sym h.1), refl)
in_word b (Small c) cs h e = (ap (λ x. x ∷ word cs) h.0, refl)
in_word b (Capital c) cs h e = (ap (λ x. x ∷ word cs) h.0, refl)
in_word b Other cs h e = absurd (let x = sym (ap₂ (λ x y. x || y) h.digit h.letter) ∙ e in cc)

small_name : (b : ℕ) → 97 ≤ b → b ≤ 122 → is_name_byte b ≡ true
small_name b l m = grind (arith, nat_tests)

capital_name : (b : ℕ) → is_upper b ≡ true → is_name_byte b ≡ true
capital_name b e = grind (arith, nat_tests)

ends_word : (b : ℕ) (s : Symbol) (cs : List Symbol) → IsOf b s → is_name_byte b ≡ false → (word (s ∷ cs) ≡ []) × (following (s ∷ cs) ≡ s ∷ cs)
ends_word b Blank cs h e = (refl, refl)
ends_word b Open cs h e = (refl, refl)
ends_word b Close cs h e = (refl, refl)
ends_word b Comma cs h e = (refl, refl)
ends_word b Equals cs h e = (refl, refl)
ends_word b Question cs h e = (refl, refl)
ends_word b Minus cs h e = (refl, refl)
ends_word b Underscore cs h e = absurd (let x = sym (ap is_name_byte h) ∙ e in cc)
ends_word b (Digit d) cs h e = absurd (let x = sym (ap (λ t. t || is_letter b) h.0) ∙ e in cc)
ends_word b (Small c) cs h e = absurd (let x = sym (small_name b h.1 h.2) ∙ e in cc)
ends_word b (Capital c) cs h e = absurd (let x = sym (capital_name b h.1) ∙ e in cc)
ends_word b Other cs h e = (refl, refl)

-- what is read of a name up to place i
pub record IsReading (bytes : List ℕ) (at i : ℕ) : Type 0 where
  pub within : at ≤ i
  pub word : word (symbols (drop at bytes)) ≡ take (i - at) (drop at bytes) ++ word (symbols (drop i bytes))
  pub following : following (symbols (drop at bytes)) ≡ following (symbols (drop i bytes))

pub reading_starts : (bytes : List ℕ) (at : ℕ) → IsReading bytes at at
reading_starts bytes at = record {
  within = omega arith;
  word = ap (λ n. take n (drop at bytes) ++ word (symbols (drop at bytes))) (let z : 0 ≡ at - at = omega arith in z);
  following = refl;
}

pub reading_on : (bytes : List ℕ) (at i : ℕ) → i < length bytes → is_name_byte (get_or bytes i 0) ≡ true → IsReading bytes at i → IsReading bytes at (i + 1)
reading_on bytes at i lt e r =
    let b = get_or bytes i 0 in
    let le = r.within in
    let cs = symbols (drop (i + 1) bytes) in
    let w = in_word b (symbol b) cs (of_symbol b) e in
    let n : suc (i - at) ≡ i + 1 - at = omega (arith, le) in
    let m : at + (i - at) ≡ i = omega (arith, le) in
    let here : get_or (drop at bytes) (i - at) 0 ≡ b = get_or-drop at bytes (i - at) 0 ∙ ap (λ k. get_or bytes k 0) m in
    let inside : i - at < length (drop at bytes) = omega (arith, lt, le, length-drop at bytes) in
    let front : take (i + 1 - at) (drop at bytes) ≡ take (i - at) (drop at bytes) ++ b ∷ [] = ap (λ k. take k (drop at bytes)) (sym n) ∙ take_more (drop at bytes) (i - at) inside ∙ ap (λ x. take (i - at) (drop at bytes) ++ x ∷ []) here in
    record {
      within = omega (arith, le);
      word = r.word ∙ ap (λ ws. take (i - at) (drop at bytes) ++ ws) (ap word (symbols_more bytes i lt) ∙ w.0)
          ∙ sym (append_assoc (take (i - at) (drop at bytes)) (b ∷ []) (word cs)) ∙ ap (λ xs. xs ++ word cs) (sym front);
      following = r.following ∙ ap following (symbols_more bytes i lt) ∙ w.1;
    }

-- a name that ends at place i
pub record IsRead (bytes : List ℕ) (at i : ℕ) : Type 0 where
  pub word : word (symbols (drop at bytes)) ≡ take (i - at) (drop at bytes)
  pub following : following (symbols (drop at bytes)) ≡ symbols (drop i bytes)

ended : (bytes : List ℕ) (at i : ℕ) → IsReading bytes at i → word (symbols (drop i bytes)) ≡ [] → following (symbols (drop i bytes)) ≡ symbols (drop i bytes) → IsRead bytes at i
ended bytes at i r e f = record {
  word = r.word ∙ ap (λ ws. take (i - at) (drop at bytes) ++ ws) e ∙ append-nil (take (i - at) (drop at bytes));
  following = r.following ∙ f;
}

pub reading_ends : (bytes : List ℕ) (at i : ℕ) → i < length bytes → is_name_byte (get_or bytes i 0) ≡ false → IsReading bytes at i → IsRead bytes at i
reading_ends bytes at i lt e r =
    let b = get_or bytes i 0 in
    let w = ends_word b (symbol b) (symbols (drop (i + 1) bytes)) (of_symbol b) e in
    ended bytes at i r (ap word (symbols_more bytes i lt) ∙ w.0) (ap following (symbols_more bytes i lt) ∙ w.1 ∙ sym (symbols_more bytes i lt))

pub reading_over : (bytes : List ℕ) (at i : ℕ) → length bytes ≤ i → IsReading bytes at i → IsRead bytes at i
reading_over bytes at i le r =
    let none = no_symbols bytes i le in
    ended bytes at i r (ap word none) (ap following none ∙ sym none)

-- ---- a name that comes next

begins_small : (b : ℕ) → 97 ≤ b → b ≤ 122 → (cs : List Symbol) → BeginsSmall (symbol b ∷ cs)
begins_small b l m cs = by (symbol b) (of_symbol b)
  where
    by : (s : Symbol) → IsOf b s → BeginsSmall (s ∷ cs)
    by (Small c) h = tt
    by Blank h = absurd (grind (arith, nat_tests))
    by Open h = absurd (omega (arith, h, l))
    by Close h = absurd (omega (arith, h, l))
    by Comma h = absurd (omega (arith, h, l))
    by Equals h = absurd (omega (arith, h, l))
    by Question h = absurd (omega (arith, h, l))
    by Minus h = absurd (omega (arith, h, l))
    by Underscore h = absurd (omega (arith, h, l))
    by (Digit d) h = absurd (let r = and_parts (nat_le 48 b) (nat_le b 57) h.0 in let x = leb-true b 57 r.1 in omega (arith, x, l))
    by (Capital c) h = absurd (let r = and_parts (nat_le 65 b) (nat_le b 90) h.1 in let x = leb-true b 90 r.1 in omega (arith, x, l))
    by Other h = absurd (let x = sym (small_name b l m) ∙ ap₂ (λ x y. x || y) h.digit h.letter in cc)

small_range : (b : ℕ) (s : Symbol) (cs : List Symbol) → IsOf b s → BeginsSmall (s ∷ cs) → (97 ≤ b) × (b ≤ 122)
small_range b (Small c) cs h k = (h.1, h.2)
small_range b s cs h k = absurd k

-- the name that begins after the blanks and ends at place i
pub name_read : (bytes : List ℕ) (at start i : ℕ) → skip (symbols (drop at bytes)) ≡ symbols (drop start bytes) → start < length bytes → 97 ≤ get_or bytes start 0 → get_or bytes start 0 ≤ 122 → IsRead bytes start i → is_keyword (take (i - start) (drop start bytes)) ≡ false → NameText (symbols (drop at bytes)) (take (i - start) (drop start bytes)) (symbols (drop i bytes))
name_read bytes at start i skips lt low high r free = record {
  small = subst BeginsSmall (sym (skips ∙ symbols_more bytes start lt)) (begins_small (get_or bytes start 0) low high (symbols (drop (start + 1) bytes)));
  is = sym (ap word skips ∙ r.word);
  free = free;
  then' = sym (ap following skips ∙ r.following);
}

pub no_name_left : (bytes : List ℕ) (at start : ℕ) (name : Name) (rest : List Symbol) → skip (symbols (drop at bytes)) ≡ symbols (drop start bytes) → length bytes ≤ start → NameText (symbols (drop at bytes)) name rest → ⊥
no_name_left bytes at start name rest skips le h = subst BeginsSmall (skips ∙ no_symbols bytes start le) h.small

pub no_small : (bytes : List ℕ) (at start : ℕ) (name : Name) (rest : List Symbol) → skip (symbols (drop at bytes)) ≡ symbols (drop start bytes) → start < length bytes → NameText (symbols (drop at bytes)) name rest → (97 ≤ get_or bytes start 0) × (get_or bytes start 0 ≤ 122)
no_small bytes at start name rest skips lt h =
    let b = get_or bytes start 0 in
    small_range b (symbol b) (symbols (drop (start + 1) bytes)) (of_symbol b) (subst BeginsSmall (skips ∙ symbols_more bytes start lt) h.small)

pub no_keyword : (bytes : List ℕ) (at start i : ℕ) (name : Name) (rest : List Symbol) → skip (symbols (drop at bytes)) ≡ symbols (drop start bytes) → IsRead bytes start i → is_keyword (take (i - start) (drop start bytes)) ≡ true → NameText (symbols (drop at bytes)) name rest → ⊥
no_keyword bytes at start i name rest skips r e h =
    let x : true ≡ false = sym e ∙ ap is_keyword (sym (h.is ∙ ap word skips ∙ r.word)) ∙ h.free in
    absurd cc

-- ---- a sign that comes next

pub sign_read : (bytes : List ℕ) (at place b : ℕ) (c : Symbol) → skip (symbols (drop at bytes)) ≡ symbols (drop place bytes) → place < length bytes → get_or bytes place 0 ≡ b → IsSignOf b c → SignText c (symbols (drop at bytes)) (symbols (drop (place + 1) bytes))
sign_read bytes at place b c skips lt e is =
    skips ∙ symbols_more bytes place lt ∙ ap (λ s. s ∷ symbols (drop (place + 1) bytes)) ((is (get_or bytes place 0)).1 e)

first_same : (a c : Symbol) (as' cs : List Symbol) → a ∷ as' ≡ c ∷ cs → a ≡ c
first_same a c as' cs e = cc

pub sign_is : (bytes : List ℕ) (at place b : ℕ) (c : Symbol) (rest : List Symbol) → skip (symbols (drop at bytes)) ≡ symbols (drop place bytes) → place < length bytes → IsSignOf b c → SignText c (symbols (drop at bytes)) rest → get_or bytes place 0 ≡ b
sign_is bytes at place b c rest skips lt is h =
    (is (get_or bytes place 0)).0 (first_same (symbol (get_or bytes place 0)) c (symbols (drop (place + 1) bytes)) rest (sym (skips ∙ symbols_more bytes place lt) ∙ h))

pub no_sign_left : (bytes : List ℕ) (at place : ℕ) (c : Symbol) (rest : List Symbol) → skip (symbols (drop at bytes)) ≡ symbols (drop place bytes) → length bytes ≤ place → SignText c (symbols (drop at bytes)) rest → ⊥
no_sign_left bytes at place c rest skips le h = let x = sym (skips ∙ no_symbols bytes place le) ∙ h in absurd cc

-- ---- the end

pub nothing_left : (bytes : List ℕ) (at place : ℕ) → skip (symbols (drop at bytes)) ≡ symbols (drop place bytes) → length bytes ≤ place → skip (symbols (drop at bytes)) ≡ []
nothing_left bytes at place skips le = skips ∙ no_symbols bytes place le

pub something_left : (bytes : List ℕ) (at place : ℕ) → skip (symbols (drop at bytes)) ≡ symbols (drop place bytes) → place < length bytes → skip (symbols (drop at bytes)) ≡ [] → ⊥
something_left bytes at place skips lt e = let x = sym (skips ∙ symbols_more bytes place lt) ∙ e in absurd cc
