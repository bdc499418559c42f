-- The lines of a text: the first ends at the first LF.
use Rattle.std.proofs.Common.{◌≡◌, ◌≢◌, ◌∙◌, ◌≤◌, ◌<◌, ◌+◌, ◌-◌, ℕ, zero, suc, Bool, true, false, List, [], ◌∷◌, ◌++◌, length, take, drop, get_or, refl, sym, ap, subst, arith}
use Rattle.std.specs.Prelude.{◌==◌, if◌then◌else◌}
use Rattle.std.proofs.lemmas.Bool.{eqb-true}
use Rattle.std.proofs.lemmas.List.{drop_more, get_or-drop, length-drop, take-append-drop}
use Rattle.fip_language.specs.Every.{Every}
use Rattle.session_semantics.specs.Lines.{lines_of, put_before}
use Rattle.fip_language.proofs.Facts.{drop_past as none_left, take_whole as take_all}

abbrev pub IsOneLine : List ℕ → Type 0
IsOneLine bytes = Every (λ b. b ≢ 10) bytes

not_ten : (b : ℕ) → b ≢ 10 → (t : Bool) → (b == 10) ≡ t → (b == 10) ≡ false
not_ten b h true e = absurd (h (eqb-true b 10 e))
not_ten b h false e = e

-- a byte that ends no line is before the first line
lines_more : (b : ℕ) (bs : List ℕ) → b ≢ 10 → lines_of (b ∷ bs) ≡ put_before b (lines_of bs)
lines_more b bs h = ap (λ (t : Bool). if t then [] ∷ lines_of bs else put_before b (lines_of bs)) (not_ten b h (b == 10) refl)

pub first_line : (xs rest : List ℕ) → IsOneLine xs → lines_of (xs ++ 10 ∷ rest) ≡ xs ∷ lines_of rest
first_line [] rest h = refl
first_line (x ∷ xs) rest h = lines_more x (xs ++ 10 ∷ rest) h.0 ∙ ap (put_before x) (first_line xs rest h.1)

pub last_line : (x : ℕ) (xs : List ℕ) → IsOneLine (x ∷ xs) → lines_of (x ∷ xs) ≡ (x ∷ xs) ∷ []
last_line x [] h = lines_more x [] h.0
last_line x (y ∷ xs) h = lines_more x (y ∷ xs) h.0 ∙ ap (put_before x) (last_line y xs h.1)

-- no LF is from a place up to another
pub record IsFree (bytes : List ℕ) (at i : ℕ) : Type 0 where
  pub within : at ≤ i
  pub one : IsOneLine (take (i - at) (drop at bytes))

pub free_starts : (bytes : List ℕ) (at : ℕ) → IsFree bytes at at
free_starts bytes at = record { within = omega arith; one = subst (λ n. IsOneLine (take n (drop at bytes))) (let z : 0 ≡ at - at = omega arith in z) tt }

take_on : (n : ℕ) (xs : List ℕ) → n < length xs → take (suc n) xs ≡ take n xs ++ get_or xs n 0 ∷ []
take_on zero [] lt = absurd (omega (arith, lt))
take_on (suc n) [] lt = absurd (omega (arith, lt))
take_on zero (x ∷ xs) lt = refl
take_on (suc n) (x ∷ xs) lt = ap (λ ys. x ∷ ys) (take_on n xs (omega (arith, lt)))

every_join : (xs ys : List ℕ) → IsOneLine xs → IsOneLine ys → IsOneLine (xs ++ ys)
every_join [] ys h k = k
every_join (x ∷ xs) ys h k = (h.0, every_join xs ys h.1 k)

inside : (bytes : List ℕ) (at i : ℕ) → at ≤ i → i < length bytes → i - at < length (drop at bytes)
inside bytes at i le lt = omega (arith, le, lt, length-drop at bytes)

byte_is : (bytes : List ℕ) (at i : ℕ) → at ≤ i → get_or (drop at bytes) (i - at) 0 ≡ get_or bytes i 0
byte_is bytes at i le = get_or-drop at bytes (i - at) 0 ∙ ap (λ k. get_or bytes k 0) (let z : at + (i - at) ≡ i = omega (arith, le) in z)

pub free_on : (bytes : List ℕ) (at i : ℕ) → i < length bytes → get_or bytes i 0 ≢ 10 → IsFree bytes at i → IsFree bytes at (i + 1)
free_on bytes at i lt not h =
    let le = h.within in
    let n : suc (i - at) ≡ i + 1 - at = omega (arith, le) in
    record {
      within = omega (arith, le);
      one = subst (λ k. IsOneLine (take k (drop at bytes))) n (subst IsOneLine (sym (take_on (i - at) (drop at bytes) (inside bytes at i le lt))) (every_join (take (i - at) (drop at bytes)) (get_or (drop at bytes) (i - at) 0 ∷ []) h.one ((λ e. not (sym (byte_is bytes at i le) ∙ e)), tt)));
    }

abbrev empty : List ℕ
empty = []

none_dropped : (n : ℕ) → empty ≡ drop n empty
none_dropped zero = refl
none_dropped (suc n) = refl

drop_further : (p n : ℕ) (bytes : List ℕ) → drop n (drop p bytes) ≡ drop (p + n) bytes
drop_further zero n bytes = ap (λ k. drop k bytes) (let z : n ≡ 0 + n = omega arith in z)
drop_further (suc p) zero [] = none_dropped (suc p + 0)
drop_further (suc p) (suc n) [] = none_dropped (suc p + suc n)
drop_further (suc p) n (b ∷ bytes) = drop_further p n bytes ∙ ap (λ k. drop k (b ∷ bytes)) (let z : suc (p + n) ≡ suc p + n = omega arith in z)

-- the line ends before an LF
pub line_ends : (bytes : List ℕ) (at i : ℕ) → i < length bytes → get_or bytes i 0 ≡ 10 → IsFree bytes at i → lines_of (drop at bytes) ≡ take (i - at) (drop at bytes) ∷ lines_of (drop (i + 1) bytes)
line_ends bytes at i lt e h =
    let le = h.within in
    let m : at + (i - at) ≡ i = omega (arith, le) in
    let rest : drop (i - at) (drop at bytes) ≡ 10 ∷ drop (i + 1) bytes = drop_further at (i - at) bytes ∙ ap (λ k. drop k bytes) m ∙ drop_more bytes i 0 lt ∙ ap (λ b. b ∷ drop (i + 1) bytes) e in
    let whole : drop at bytes ≡ take (i - at) (drop at bytes) ++ 10 ∷ drop (i + 1) bytes = sym (take-append-drop (i - at) (drop at bytes)) ∙ ap (λ xs. take (i - at) (drop at bytes) ++ xs) rest in
    ap lines_of whole ∙ first_line (take (i - at) (drop at bytes)) (drop (i + 1) bytes) h.one

last_of : (xs : List ℕ) → 0 < length xs → IsOneLine xs → lines_of xs ≡ xs ∷ []
last_of [] lt h = absurd (omega (arith, lt))
last_of (x ∷ xs) lt h = last_line x xs h

-- or the text ends
pub free_all : (bytes : List ℕ) (at i : ℕ) → length bytes ≤ i → IsFree bytes at i → IsOneLine (drop at bytes)
free_all bytes at i le h = subst IsOneLine (take_all (i - at) (drop at bytes) (omega (arith, le, length-drop at bytes))) h.one

pub line_over : (bytes : List ℕ) (at i next : ℕ) → at < length bytes → length bytes ≤ i → length bytes ≤ next → IsFree bytes at i → lines_of (drop at bytes) ≡ take (length bytes - at) (drop at bytes) ∷ lines_of (drop next bytes)
line_over bytes at i next lt le past h =
    last_of (drop at bytes) (omega (arith, lt, length-drop at bytes)) (free_all bytes at i le h)
    ∙ ap (λ xs. drop at bytes ∷ lines_of xs) (sym (none_left bytes next past))
    ∙ ap (λ xs. xs ∷ lines_of (drop next bytes)) (sym (take_all (length bytes - at) (drop at bytes) (omega (arith, length-drop at bytes))))
