-- The machine at a place of the bytes: how it goes on, and where it stops.
use Rattle.std.proofs.Common.{◌≡◌, ℕ, zero, suc, ◌+◌, ◌-◌, ◌*◌, ◌^◌, ◌<◌, ◌≤◌, List, [], ◌∷◌, length, take, drop, get_or, Some, None, Bool, true, false, ◌≢◌, length-drop, lit≤, refl, sym, ap, ap₂, ◌∙◌, subst, arith}
use Rattle.std.specs.Prelude.{nat_le, ◌==◌, ◌||◌, ◌&&◌, if◌then◌else◌, ℤ, Result, Ok, Err, MatchResult}
use Rattle.std.proofs.lemmas.Bool.{eqb-true, le-leb, leb-true, and_parts}
use Rattle.std.proofs.lemmas.Bool.Decides.{nat_tests}
use Rattle.std.specs.Prelude.{FitsSigned}
use Rattle.std.specs.Int.{w64}
use Rattle.std.proofs.Common.{to_z, of_z}
use Rattle.std.proofs.lemmas.Int.{to_z-of_z}
use Rattle.std.proofs.lemmas.List.{drop_more, get_or-drop}
use Rattle.std.proofs.Math.Nat.{pow-suc, pow-le-pow_right}
use Rattle.std.proofs.Math.Seq.{drop-length}
use Rattle.fip_language.specs.Prefix.{run, Accepted, Stopped, or_stop, end_outcome}
use Rattle.fip_language.specs.Values.{Value, Int, Values}
use Rattle.fip_language.specs.Table.{Table}
use Rattle.fip_language.specs.Character.{Character, Blank, Line, Open, Close, Comma, Minus, Digit, Letter, Other, is_blank, is_digit, is_letter, character, are_name_bytes}
use Rattle.fip_language.specs.ValueText.{bound, int_of}
use Rattle.value_text.specs.Machine.{Around, Alone, Lines, Field, State, Want, Signed, Number, Await, Over, filled, is_sign, pass, numbered, act, over, final, step}
use Rattle.value_text.specs.Scan.{runs, is_name_byte, before_digits}
use Rattle.value_text.proofs.Tables.{character_is_digit, digit_small}

pub runs_byte : (tb : Table) (bytes : List ℕ) (s : State) (i : ℕ) → i < length bytes → runs tb bytes s i ≡ or_stop (act tb s (character (get_or bytes i 0))) i (λ s. runs tb bytes s (i + 1))
runs_byte tb bytes s i lt = ap (λ ts. run (step tb) (final tb) s ts i) (drop_more bytes i 0 lt)

pub goes : (tb : Table) (bytes : List ℕ) (s s' : State) (i : ℕ) → i < length bytes → act tb s (character (get_or bytes i 0)) ≡ Some s' → runs tb bytes s i ≡ runs tb bytes s' (i + 1)
goes tb bytes s s' i lt e = runs_byte tb bytes s i lt ∙ ap (λ o. or_stop o i (λ s. runs tb bytes s (i + 1))) e

pub stops : (tb : Table) (bytes : List ℕ) (s : State) (i : ℕ) → i < length bytes → act tb s (character (get_or bytes i 0)) ≡ None → runs tb bytes s i ≡ Stopped i
stops tb bytes s i lt e = runs_byte tb bytes s i lt ∙ ap (λ o. or_stop o i (λ s. runs tb bytes s (i + 1))) e

pub runs_end : (tb : Table) (bytes : List ℕ) (s : State) (i : ℕ) → i ≡ length bytes → runs tb bytes s i ≡ end_outcome (final tb s) i
runs_end tb bytes s i e = ap (λ ts. run (step tb) (final tb) s ts i) (ap (λ n. drop n bytes) e ∙ drop-length bytes)

pub ends_short : (tb : Table) (bytes : List ℕ) (s : State) (i : ℕ) → i ≡ length bytes → final tb s ≡ None → runs tb bytes s i ≡ Stopped i
ends_short tb bytes s i e f = runs_end tb bytes s i e ∙ ap (λ o. end_outcome o i) f

pub ends_whole : (tb : Table) (bytes : List ℕ) (s : State) (i : ℕ) (vs : Values) → i ≡ length bytes → final tb s ≡ Some vs → runs tb bytes s i ≡ Accepted vs
ends_whole tb bytes s i vs e f = runs_end tb bytes s i e ∙ ap (λ o. end_outcome o i) f

-- what a byte is
pub char_blank : (b : ℕ) → is_blank b ≡ true → character b ≡ Blank
char_blank b e = ap (λ (t : Bool). if t then Blank else if b == 10 then Line else if b == 40 then Open else if b == 41 then Close else if b == 44 then Comma else if b == 45 then Minus else if is_digit b then Digit (b - 48) else if is_letter b then Letter b else Other) e

is_open : (b : ℕ) → is_sign Open (character b) ≡ (b == 40)
is_open b = grind (arith, nat_tests)

is_close : (b : ℕ) → is_sign Close (character b) ≡ (b == 41)
is_close b = grind (arith, nat_tests)

is_comma : (b : ℕ) → is_sign Comma (character b) ≡ (b == 44)
is_comma b = grind (arith, nat_tests)

is_line : (b : ℕ) → is_sign Line (character b) ≡ (b == 10)
is_line b = grind (arith, nat_tests)

abbrev pub is_blank_char : Character → Bool
is_blank_char Blank = true
is_blank_char _ = false

pub blank_char : (b : ℕ) → is_blank_char (character b) ≡ is_blank b
blank_char b = grind (arith, nat_tests)

abbrev is_digit_char : Character → Bool
is_digit_char (Digit d) = true
is_digit_char _ = false

digit_char : (b : ℕ) → is_digit_char (character b) ≡ is_digit b
digit_char b = grind (arith, nat_tests)

abbrev is_minus_char : Character → Bool
is_minus_char Minus = true
is_minus_char _ = false

minus_char : (b : ℕ) → is_minus_char (character b) ≡ (b == 45)
minus_char b = grind (arith, nat_tests)

-- two states that do the same here go on alike
pub runs_alike : (tb : Table) (bytes : List ℕ) (s s' : State) (i : ℕ) → i ≤ length bytes → (i < length bytes → act tb s (character (get_or bytes i 0)) ≡ act tb s' (character (get_or bytes i 0))) → final tb s ≡ final tb s' → runs tb bytes s i ≡ runs tb bytes s' i
runs_alike tb bytes s s' i le a f = by_end (nat_le (suc i) (length bytes)) refl where
  by_end : (t : Bool) → nat_le (suc i) (length bytes) ≡ t → runs tb bytes s i ≡ runs tb bytes s' i
  by_end true e =
      let lt : i < length bytes = let h = leb-true (suc i) (length bytes) e in omega arith in
      runs_byte tb bytes s i lt ∙ ap (λ o. or_stop o i (λ s. runs tb bytes s (i + 1))) (a lt) ∙ sym (runs_byte tb bytes s' i lt)
  by_end false e =
      let at : i ≡ length bytes = grind (arith, nat_tests) in
      runs_end tb bytes s i at ∙ ap (λ o. end_outcome o i) f ∙ sym (runs_end tb bytes s' i at)

-- blanks and ends of lines at the end
over_pass : (vs : Values) (b : ℕ) → pass (Over vs) (character b) ≡ (if is_blank b || (b == 10) then Some (Over vs) else None)
over_pass vs b = grind (arith, nat_tests)

pub over_goes : (tb : Table) (bytes : List ℕ) (vs : Values) (i : ℕ) → i < length bytes → (is_blank (get_or bytes i 0) || (get_or bytes i 0 == 10)) ≡ true → runs tb bytes (Over vs) i ≡ runs tb bytes (Over vs) (i + 1)
over_goes tb bytes vs i lt e = goes tb bytes (Over vs) (Over vs) i lt (over_pass vs (get_or bytes i 0) ∙ ap (λ (t : Bool). if t then Some (Over vs) else None) e)

pub over_stops : (tb : Table) (bytes : List ℕ) (vs : Values) (i : ℕ) → i < length bytes → (is_blank (get_or bytes i 0) || (get_or bytes i 0 == 10)) ≡ false → runs tb bytes (Over vs) i ≡ Stopped i
over_stops tb bytes vs i lt e = stops tb bytes (Over vs) i lt (over_pass vs (get_or bytes i 0) ∙ ap (λ (t : Bool). if t then Some (Over vs) else None) e)

-- a sign
pass_sign : (sign : Character) (next : State) (c : Character) → is_blank_char c ≡ false → pass (Await sign next) c ≡ (if is_sign sign c then Some next else None)
pass_sign sign next Blank e = cc
pass_sign sign next Line e = refl
pass_sign sign next Open e = refl
pass_sign sign next Close e = refl
pass_sign sign next Comma e = refl
pass_sign sign next Minus e = refl
pass_sign sign next (Digit d) e = refl
pass_sign sign next (Letter b) e = refl
pass_sign sign next Other e = refl

sign_char_blank : (sign : Character) → is_sign sign sign ≡ true → is_blank_char sign ≡ false
sign_char_blank Line e = refl
sign_char_blank Open e = refl
sign_char_blank Close e = refl
sign_char_blank Comma e = refl
sign_char_blank Blank e = cc
sign_char_blank Minus e = cc
sign_char_blank (Digit d) e = cc
sign_char_blank (Letter b) e = cc
sign_char_blank Other e = cc

pub sign_goes : (tb : Table) (bytes : List ℕ) (sign : Character) (next : State) (i : ℕ) → i < length bytes → is_sign sign sign ≡ true → character (get_or bytes i 0) ≡ sign → runs tb bytes (Await sign next) i ≡ runs tb bytes next (i + 1)
sign_goes tb bytes sign next i lt s e = goes tb bytes (Await sign next) next i lt (ap (λ c. pass (Await sign next) c) e ∙ pass_sign sign next sign (sign_char_blank sign s) ∙ ap (λ (t : Bool). if t then Some next else None) s)

-- a sign is one byte
sign_byte : (sign : Character) (byte b : ℕ) → is_sign sign sign ≡ true → sign ≡ character byte → b ≢ byte → is_sign sign (character b) ≡ false
sign_byte Line byte b s e n = let h : (byte == 10) ≡ true = sym (is_line byte) ∙ ap (is_sign Line) (sym e) in let k = eqb-true byte 10 h in is_line b ∙ grind (arith, nat_tests)
sign_byte Open byte b s e n = let h : (byte == 40) ≡ true = sym (is_open byte) ∙ ap (is_sign Open) (sym e) in let k = eqb-true byte 40 h in is_open b ∙ grind (arith, nat_tests)
sign_byte Close byte b s e n = let h : (byte == 41) ≡ true = sym (is_close byte) ∙ ap (is_sign Close) (sym e) in let k = eqb-true byte 41 h in is_close b ∙ grind (arith, nat_tests)
sign_byte Comma byte b s e n = let h : (byte == 44) ≡ true = sym (is_comma byte) ∙ ap (is_sign Comma) (sym e) in let k = eqb-true byte 44 h in is_comma b ∙ grind (arith, nat_tests)
sign_byte Blank byte b s e n = cc
sign_byte Minus byte b s e n = cc
sign_byte (Digit d) byte b s e n = cc
sign_byte (Letter d) byte b s e n = cc
sign_byte Other byte b s e n = cc

pub sign_stops : (tb : Table) (bytes : List ℕ) (byte : ℕ) (next : State) (i : ℕ) → i < length bytes → is_sign (character byte) (character byte) ≡ true → get_or bytes i 0 ≢ byte → is_blank (get_or bytes i 0) ≡ false → runs tb bytes (Await (character byte) next) i ≡ Stopped i
sign_stops tb bytes byte next i lt s n e =
    let b = get_or bytes i 0 in
    stops tb bytes (Await (character byte) next) i lt (pass_sign (character byte) next (character b) (blank_char b ∙ e) ∙ ap (λ (t : Bool). if t then Some next else None) (sign_byte (character byte) byte b s refl n))

-- numbers
abbrev pub digit_at : List ℕ → ℕ → ℕ
digit_at bytes i = get_or bytes i 0 - 48

pub in_bound : (neg : Bool) (d : ℕ) → d ≤ 9 → d ≤ bound neg
in_bound true d h = omega arith
in_bound false d h = omega arith

numbered_some : (neg : Bool) (n : ℕ) (around : Around) → n ≤ bound neg → numbered neg n around ≡ Some (Number neg n around)
numbered_some neg n around le = ap (λ (t : Bool). if t then Some (Number neg n around) else None) (le-leb n (bound neg) le)

before_digit : (tb : Table) (neg : Bool) (around : Around) (d : ℕ) → act tb (before_digits neg around) (Digit d) ≡ numbered neg d around
before_digit tb true around d = refl
before_digit tb false around d = refl

pub first_goes : (tb : Table) (bytes : List ℕ) (neg : Bool) (around : Around) (i : ℕ) → i < length bytes → is_digit (get_or bytes i 0) ≡ true → runs tb bytes (before_digits neg around) i ≡ runs tb bytes (Number neg (digit_at bytes i) around) (i + 1)
first_goes tb bytes neg around i lt e =
    let b = get_or bytes i 0 in
    goes tb bytes (before_digits neg around) (Number neg (b - 48) around) i lt (ap (λ c. act tb (before_digits neg around) c) (character_is_digit b e) ∙ before_digit tb neg around (b - 48) ∙ numbered_some neg (b - 48) around (in_bound neg (b - 48) (digit_small b e)))

no_digit : (tb : Table) (neg : Bool) (around : Around) (c : Character) → is_digit_char c ≡ false → (neg ≡ false → is_blank_char c ≡ false) → (neg ≡ false → is_minus_char c ≡ false) → act tb (before_digits neg around) c ≡ None
no_digit tb true around (Digit d) e f g = cc
no_digit tb true around Blank e f g = refl
no_digit tb true around Line e f g = refl
no_digit tb true around Open e f g = refl
no_digit tb true around Close e f g = refl
no_digit tb true around Comma e f g = refl
no_digit tb true around Minus e f g = refl
no_digit tb true around (Letter b) e f g = refl
no_digit tb true around Other e f g = refl
no_digit tb false around (Digit d) e f g = cc
no_digit tb false around Blank e f g = let h = f refl in cc
no_digit tb false around Line e f g = refl
no_digit tb false around Open e f g = refl
no_digit tb false around Close e f g = refl
no_digit tb false around Comma e f g = refl
no_digit tb false around Minus e f g = let h = g refl in cc
no_digit tb false around (Letter b) e f g = refl
no_digit tb false around Other e f g = refl

pub first_stops : (tb : Table) (bytes : List ℕ) (neg : Bool) (around : Around) (i : ℕ) → i < length bytes → is_digit (get_or bytes i 0) ≡ false → (neg ≡ false → is_blank (get_or bytes i 0) ≡ false) → (neg ≡ false → (get_or bytes i 0 == 45) ≡ false) → runs tb bytes (before_digits neg around) i ≡ Stopped i
first_stops tb bytes neg around i lt e f g =
    let b = get_or bytes i 0 in
    stops tb bytes (before_digits neg around) i lt (no_digit tb neg around (character b) (digit_char b ∙ e) (λ n. blank_char b ∙ f n) (λ n. minus_char b ∙ g n))

before_end : (tb : Table) (neg : Bool) (around : Around) → final tb (before_digits neg around) ≡ None
before_end tb true around = refl
before_end tb false around = refl

pub first_short : (tb : Table) (bytes : List ℕ) (neg : Bool) (around : Around) (i : ℕ) → i ≡ length bytes → runs tb bytes (before_digits neg around) i ≡ Stopped i
first_short tb bytes neg around i e = ends_short tb bytes (before_digits neg around) i e (before_end tb neg around)

-- so few digits stay far below the bound
digits_below : (n k m : ℕ) → n < 10 ^ k → k ≤ m → n < 10 ^ m
digits_below n k m a b = let p : 10 ^ k ≤ 10 ^ m = pow-le-pow_right (lit≤ tt) b in omega (arith, a, p)

pub digit_room : (n k : ℕ) → n < 10 ^ k → k ≤ 17 → n < 922337203685477580
digit_room n k a b = let p : n < 100000000000000000 = digits_below n k 17 a b in omega (arith, p)

pub digit_more : (n d k : ℕ) → n < 10 ^ k → d ≤ 9 → 10 * n + d < 10 ^ suc k
digit_more n d k a b = let p : 10 ^ suc k ≡ 10 ^ k * 10 = pow-suc 10 k in omega (arith, a, b, p)

-- an int without a sign has one number less
pub within_bound : (neg : Bool) (m : ℕ) → m ≤ bound false → m ≤ bound neg
within_bound false m l = l
within_bound true m l = omega (arith, l)

pub digits_bound : (neg : Bool) (n k : ℕ) → n < 10 ^ k → k ≤ 18 → n ≤ bound neg
digits_bound neg n k a b = within_bound neg n (let p : n < 1000000000000000000 = digits_below n k 18 a b in omega (arith, p))

pub digit_goes : (tb : Table) (bytes : List ℕ) (neg : Bool) (n : ℕ) (around : Around) (i : ℕ) → i < length bytes → is_digit (get_or bytes i 0) ≡ true → 10 * n + digit_at bytes i ≤ bound neg → runs tb bytes (Number neg n around) i ≡ runs tb bytes (Number neg (10 * n + digit_at bytes i) around) (i + 1)
digit_goes tb bytes neg n around i lt e le =
    let b = get_or bytes i 0 in
    goes tb bytes (Number neg n around) (Number neg (10 * n + (b - 48)) around) i lt (ap (λ c. act tb (Number neg n around) c) (character_is_digit b e) ∙ numbered_some neg (10 * n + (b - 48)) around le)

pub digit_stops : (tb : Table) (bytes : List ℕ) (neg : Bool) (n : ℕ) (around : Around) (i : ℕ) → i < length bytes → is_digit (get_or bytes i 0) ≡ true → nat_le (10 * n + digit_at bytes i) (bound neg) ≡ false → runs tb bytes (Number neg n around) i ≡ Stopped i
digit_stops tb bytes neg n around i lt e le =
    let b = get_or bytes i 0 in
    stops tb bytes (Number neg n around) i lt (ap (λ c. act tb (Number neg n around) c) (character_is_digit b e) ∙ ap (λ (t : Bool). if t then Some (Number neg (10 * n + (b - 48)) around) else None) le)

pub pass_filled : (tb : Table) (around : Around) (v : Value) (c : Character) → pass (filled around v) c ≡ act tb (filled around v) c
pass_filled tb (Alone n) v c = refl
pass_filled tb (Lines done []) v c = refl
pass_filled tb (Lines done (k ∷ ks)) v c = refl
pass_filled tb (Field n done [] around) v c = refl
pass_filled tb (Field n done (k ∷ ks) around) v c = refl

pub over_filled : (tb : Table) (around : Around) (v : Value) → over (filled around v) ≡ final tb (filled around v)
over_filled tb (Alone n) v = refl
over_filled tb (Lines done []) v = refl
over_filled tb (Lines done (k ∷ ks)) v = refl
over_filled tb (Field n done [] around) v = refl
over_filled tb (Field n done (k ∷ ks) around) v = refl

number_pass : (tb : Table) (neg : Bool) (n : ℕ) (around : Around) (c : Character) → is_digit_char c ≡ false → act tb (Number neg n around) c ≡ act tb (filled around (Int (int_of neg n))) c
number_pass tb neg n around (Digit d) e = cc
number_pass tb neg n around Blank e = pass_filled tb around (Int (int_of neg n)) Blank
number_pass tb neg n around Line e = pass_filled tb around (Int (int_of neg n)) Line
number_pass tb neg n around Open e = pass_filled tb around (Int (int_of neg n)) Open
number_pass tb neg n around Close e = pass_filled tb around (Int (int_of neg n)) Close
number_pass tb neg n around Comma e = pass_filled tb around (Int (int_of neg n)) Comma
number_pass tb neg n around Minus e = pass_filled tb around (Int (int_of neg n)) Minus
number_pass tb neg n around (Letter b) e = pass_filled tb around (Int (int_of neg n)) (Letter b)
number_pass tb neg n around Other e = pass_filled tb around (Int (int_of neg n)) Other

-- a number is over where no digit follows
pub number_over : (tb : Table) (bytes : List ℕ) (neg : Bool) (n : ℕ) (around : Around) (i : ℕ) → i ≤ length bytes → (i < length bytes → is_digit (get_or bytes i 0) ≡ false) → runs tb bytes (Number neg n around) i ≡ runs tb bytes (filled around (Int (int_of neg n))) i
number_over tb bytes neg n around i le e = runs_alike tb bytes (Number neg n around) (filled around (Int (int_of neg n))) i le (λ lt. number_pass tb neg n around (character (get_or bytes i 0)) (digit_char (get_or bytes i 0) ∙ e lt)) (over_filled tb around (Int (int_of neg n)))

-- names
front_more : (xs : List ℕ) (j : ℕ) → j < length xs → are_name_bytes (take j xs) ≡ true → is_name_byte (get_or xs j 0) ≡ true → are_name_bytes (take (suc j) xs) ≡ true
front_more [] j lt h e = absurd (omega arith)
front_more (x ∷ xs) zero lt h e = ap (λ t. t && true) e
front_more (x ∷ xs) (suc j) lt h e =
    let k = and_parts (is_name_byte x) (are_name_bytes (take j xs)) h in
    ap₂ (λ s t. s && t) k.0 (front_more xs j (omega arith) k.1 e)

pub name_more : (bytes : List ℕ) (at i : ℕ) → at ≤ i → i < length bytes → are_name_bytes (take (i - at) (drop at bytes)) ≡ true → is_name_byte (get_or bytes i 0) ≡ true → are_name_bytes (take (i + 1 - at) (drop at bytes)) ≡ true
name_more bytes at i le lt h e =
    let n : i + 1 - at ≡ suc (i - at) = omega arith in
    let m : at + (i - at) ≡ i = omega arith in
    let b : get_or (drop at bytes) (i - at) 0 ≡ get_or bytes i 0 = get_or-drop at bytes (i - at) 0 ∙ ap (λ k. get_or bytes k 0) m in
    let l : i - at < length (drop at bytes) = omega (arith, length-drop at bytes) in
    ap (λ k. are_name_bytes (take k (drop at bytes))) n ∙ front_more (drop at bytes) (i - at) l h (ap is_name_byte b ∙ e)

pub minus_goes : (tb : Table) (bytes : List ℕ) (around : Around) (i : ℕ) → i < length bytes → get_or bytes i 0 ≡ 45 → runs tb bytes (Want 0 around) i ≡ runs tb bytes (Signed around) (i + 1)
minus_goes tb bytes around i lt e = goes tb bytes (Want 0 around) (Signed around) i lt (ap (λ b. act tb (Want 0 around) (character b)) e)

-- what was read from a later place was read from here
pub carried : (tb : Table) (bytes : List ℕ) (around : Around) (s s' : State) (at at' : ℕ) (r : Result (ℤ × ℕ) ℕ) → runs tb bytes s at ≡ runs tb bytes s' at' → MatchResult r (λ r. runs tb bytes s' at' ≡ runs tb bytes (filled around (Int r.0)) r.1) (λ k. runs tb bytes s' at' ≡ Stopped k) → MatchResult r (λ r. runs tb bytes s at ≡ runs tb bytes (filled around (Int r.0)) r.1) (λ k. runs tb bytes s at ≡ Stopped k)
carried tb bytes around s s' at at' (Ok r) e h = e ∙ h
carried tb bytes around s s' at at' (Err k) e h = e ∙ h

-- an int keeps its value as a word
pub int_fits : (neg : Bool) (n : ℕ) → n ≤ bound neg → FitsSigned w64 (int_of neg n)
int_fits false n le = omega arith
int_fits true zero le = omega arith
int_fits true (suc n) le = omega arith

pub int_back : (neg : Bool) (n : ℕ) → n ≤ bound neg → (z : ℤ) → z ≡ int_of neg n → int_of neg n ≡ to_z w64 (of_z w64 z)
int_back neg n le z e = sym e ∙ sym (to_z-of_z w64 z (subst (FitsSigned w64) (sym e) (int_fits neg n le)))
