-- The longest token at the front of a text.
use Rattle.std.proofs.Common.{rules, ◌≡◌, ◌≢◌, ℕ, zero, suc, ◌+◌, ◌-◌, ◌<◌, ◌≤◌, Bool, true, false, cond, ◌&&◌, ◌||◌, ◌==◌, codes, List, [], ◌∷◌, ◌++◌, length, take, drop, Some, None, refl, sym, ap, subst, ◌∙◌, arith, append-nil, append_assoc, drop_of_length-le, length-append, length-take-le, take-append-drop, drop-drop}
use Rattle.std.specs.List.{prefix_len, list_all}
use Rattle.std.specs.Str.{bytes_eq}
use Rattle.std.proofs.lemmas.List.{take_all}
use Rattle.std.proofs.lemmas.Slice.Eq.{bytes_eq-Decides}
use Rattle.std.proofs.lemmas.Bool.{cond-true, cond-false, false_from_ne_true}
use Rattle.std.proofs.Math.Seq.{drop-append_seam}
use Rattle.fip_language.specs.declared.Place.{Place}
use Rattle.fip_grammar.specs.Token.{Word, Upper, Number, Mark, Token}
use Rattle.fip_grammar.specs.declared.Sign.TheVariants as S
use Rattle.fip_grammar.specs.Cut.{is_lower, is_upper, is_digit, is_name, keyword_or_name, single_sign, sign_of, lower_word, word_of, IsFirst, BeginsNone, is_blank, is_comment, is_gap, is_no_lf, EndsLine, Piece, Blank, Comment, Cut, piece_text, BeginsWith, along, next_line, following, after_all, Pieces, tokens_at, tokens_of, first_place, IsCut, IsBadByte}
use Rattle.fip_grammar.specs.Claims.{double_start, IsFront, IsRead}

-- The bytes at the front that pass a test pass, and with one more they don't.

front_on : (p : ℕ → Bool) (x : ℕ) (xs : List ℕ) (b : Bool) → p x ≡ b → list_all p (take (prefix_len p xs) xs) ≡ true → list_all p (take (cond b (1 + prefix_len p xs) 0) (x ∷ xs)) ≡ true
front_on p x xs false e h = refl
front_on p x xs true e h =
    let n : 1 + prefix_len p xs ≡ suc (prefix_len p xs) = omega arith in
    let k : list_all p (take (suc (prefix_len p xs)) (x ∷ xs)) ≡ true = ap (λ c. c && list_all p (take (prefix_len p xs) xs)) e ∙ h in
    subst (λ i. list_all p (take i (x ∷ xs)) ≡ true) (sym n) k

all_front : (p : ℕ → Bool) (xs : List ℕ) → list_all p (take (prefix_len p xs) xs) ≡ true
all_front p [] = refl
all_front p (x ∷ xs) = front_on p x xs (p x) refl (all_front p xs)

more_on : (p : ℕ → Bool) (x : ℕ) (xs : List ℕ) (j : ℕ) (b : Bool) → p x ≡ b → cond b (1 + prefix_len p xs) 0 < suc j → (prefix_len p xs < j → list_all p (take j xs) ≡ false) → list_all p (x ∷ take j xs) ≡ false
more_on p x xs j false e h r = ap (λ c. c && list_all p (take j xs)) e
more_on p x xs j true e h r = ap (λ c. c && list_all p (take j xs)) e ∙ r (omega (arith, h))

all_more : (p : ℕ → Bool) (xs : List ℕ) (j : ℕ) → prefix_len p xs < j → j ≤ length xs → list_all p (take j xs) ≡ false
all_more p [] j h l = absurd (omega (arith, h, l))
all_more p (x ∷ xs) zero h l = absurd (omega (arith, h))
all_more p (x ∷ xs) (suc j) h l = more_on p x xs j (p x) refl h (λ k. all_more p xs j k (omega (arith, l)))

within_on : (p : ℕ → Bool) (x : ℕ) (xs : List ℕ) (b : Bool) → prefix_len p xs ≤ length xs → cond b (1 + prefix_len p xs) 0 ≤ length (x ∷ xs)
within_on p x xs true h = omega (arith, h)
within_on p x xs false h = omega arith

within_front : (p : ℕ → Bool) (xs : List ℕ) → prefix_len p xs ≤ length xs
within_front p [] = omega arith
within_front p (x ∷ xs) = within_on p x xs (p x) (within_front p xs)

-- What a text is whose first byte is of a kind.

lower_is : (b : ℕ) (bs : List ℕ) → is_lower b ≡ true → word_of (b ∷ bs) ≡ lower_word (list_all is_name bs) (b ∷ bs)
lower_is b bs e = cond-true (is_lower b) (lower_word (list_all is_name bs) (b ∷ bs)) (cond (is_upper b) (cond (list_all is_name bs) (Some (Upper (b ∷ bs))) None) (cond (is_digit b) (cond (list_all is_digit bs) (Some (Number (b ∷ bs))) None) (sign_of b bs))) e

upper_is : (b : ℕ) (bs : List ℕ) → is_lower b ≡ false → is_upper b ≡ true → word_of (b ∷ bs) ≡ cond (list_all is_name bs) (Some (Upper (b ∷ bs))) None
upper_is b bs l e =
    cond-false (is_lower b) (lower_word (list_all is_name bs) (b ∷ bs)) (cond (is_upper b) (cond (list_all is_name bs) (Some (Upper (b ∷ bs))) None) (cond (is_digit b) (cond (list_all is_digit bs) (Some (Number (b ∷ bs))) None) (sign_of b bs))) l
    ∙ cond-true (is_upper b) (cond (list_all is_name bs) (Some (Upper (b ∷ bs))) None) (cond (is_digit b) (cond (list_all is_digit bs) (Some (Number (b ∷ bs))) None) (sign_of b bs)) e

digit_is : (b : ℕ) (bs : List ℕ) → is_lower b ≡ false → is_upper b ≡ false → is_digit b ≡ true → word_of (b ∷ bs) ≡ cond (list_all is_digit bs) (Some (Number (b ∷ bs))) None
digit_is b bs l u e =
    cond-false (is_lower b) (lower_word (list_all is_name bs) (b ∷ bs)) (cond (is_upper b) (cond (list_all is_name bs) (Some (Upper (b ∷ bs))) None) (cond (is_digit b) (cond (list_all is_digit bs) (Some (Number (b ∷ bs))) None) (sign_of b bs))) l
    ∙ cond-false (is_upper b) (cond (list_all is_name bs) (Some (Upper (b ∷ bs))) None) (cond (is_digit b) (cond (list_all is_digit bs) (Some (Number (b ∷ bs))) None) (sign_of b bs)) u
    ∙ cond-true (is_digit b) (cond (list_all is_digit bs) (Some (Number (b ∷ bs))) None) (sign_of b bs) e

sign_is : (b : ℕ) (bs : List ℕ) → is_lower b ≡ false → is_upper b ≡ false → is_digit b ≡ false → word_of (b ∷ bs) ≡ sign_of b bs
sign_is b bs l u d =
    cond-false (is_lower b) (lower_word (list_all is_name bs) (b ∷ bs)) (cond (is_upper b) (cond (list_all is_name bs) (Some (Upper (b ∷ bs))) None) (cond (is_digit b) (cond (list_all is_digit bs) (Some (Number (b ∷ bs))) None) (sign_of b bs))) l
    ∙ cond-false (is_upper b) (cond (list_all is_name bs) (Some (Upper (b ∷ bs))) None) (cond (is_digit b) (cond (list_all is_digit bs) (Some (Number (b ∷ bs))) None) (sign_of b bs)) u
    ∙ cond-false (is_digit b) (cond (list_all is_digit bs) (Some (Number (b ∷ bs))) None) (sign_of b bs) d

-- match!

abbrev bang : List ℕ
bang = codes "match!"

same_bang : (xs : List ℕ) → bytes_eq xs bang ≡ true → xs ≡ bang
same_bang xs e = (bytes_eq-Decides xs bang).0 e

-- no other front of the text is match!
other_bang : (text : List ℕ) (m : ℕ) → m ≤ length text → m ≢ 6 → bytes_eq (take m text) bang ≡ false
other_bang text m l n = false_from_ne_true (bytes_eq (take m text) bang) (λ e. n (sym (length-take-le m text l) ∙ ap length (same_bang (take m text) e)))

not_bang : (text : List ℕ) (m : ℕ) → m ≤ length text → bytes_eq (take 6 text) bang ≡ false → bytes_eq (take m text) bang ≡ false
not_bang text m l e = false_from_ne_true (bytes_eq (take m text) bang) (λ h.
    let six : m ≡ 6 = sym (length-take-le m text l) ∙ ap length (same_bang (take m text) h) in
    let k : true ≡ false = sym h ∙ ap (λ i. bytes_eq (take i text) bang) six ∙ e in
    absurd (cc))

bang_longer : (more : List ℕ) (m : ℕ) → 6 < m → m ≤ length (bang ++ more) → word_of (take m (bang ++ more)) ≡ None
bang_longer more zero h l = absurd (omega (arith, h))
bang_longer more (suc j) h l =
    let rest = 97 ∷ 116 ∷ 99 ∷ 104 ∷ 33 ∷ more in
    let four : prefix_len is_name rest ≡ 4 = refl in
    let f : list_all is_name (take j rest) ≡ false = all_more is_name rest j (omega (arith, h, four)) (omega (arith, l)) in
    lower_is 109 (take j rest) refl
    ∙ ap (λ c. lower_word c (109 ∷ take j rest)) f
    ∙ cond-false (bytes_eq (109 ∷ take j rest) bang) (Some (Mark S.MatchBang)) None (other_bang (bang ++ more) (suc j) l (λ e. absurd (omega (arith, h, e))))

pub first_bang : (text : List ℕ) → bytes_eq (take 6 text) bang ≡ true → IsFirst text 6 (Mark S.MatchBang)
first_bang text e =
    let same : take 6 text ≡ bang = same_bang (take 6 text) e in
    let whole : text ≡ bang ++ drop 6 text = sym (take-append-drop 6 text) ∙ ap (λ l. l ++ drop 6 text) same in
    let made : IsFirst (bang ++ drop 6 text) 6 (Mark S.MatchBang) = record { within = omega arith; word = refl; longest = bang_longer (drop 6 text) } in
    subst (λ l. IsFirst l 6 (Mark S.MatchBang)) (sym whole) made

-- Names and numbers.

lower_longer : (b : ℕ) (rest : List ℕ) → is_lower b ≡ true → bytes_eq (take 6 (b ∷ rest)) bang ≡ false → (m : ℕ) → suc (prefix_len is_name rest) < m → m ≤ length (b ∷ rest) → word_of (take m (b ∷ rest)) ≡ None
lower_longer b rest e n zero h l = absurd (omega (arith, h))
lower_longer b rest e n (suc j) h l =
    lower_is b (take j rest) e
    ∙ ap (λ c. lower_word c (b ∷ take j rest)) (all_more is_name rest j (omega (arith, h)) (omega (arith, l)))
    ∙ cond-false (bytes_eq (b ∷ take j rest) bang) (Some (Mark S.MatchBang)) None (not_bang (b ∷ rest) (suc j) l n)

first_lower_at : (b : ℕ) (rest : List ℕ) → is_lower b ≡ true → bytes_eq (take 6 (b ∷ rest)) bang ≡ false → IsFirst (b ∷ rest) (suc (prefix_len is_name rest)) (keyword_or_name (take (suc (prefix_len is_name rest)) (b ∷ rest)))
first_lower_at b rest e n = record {
  within = let w = within_front is_name rest in omega (arith, w);
  word = lower_is b (take (prefix_len is_name rest) rest) e ∙ ap (λ c. lower_word c (b ∷ take (prefix_len is_name rest) rest)) (all_front is_name rest);
  longest = lower_longer b rest e n;
}

pub first_lower : (text rest : List ℕ) (b n : ℕ) (w : Word) → text ≡ b ∷ rest → is_lower b ≡ true → bytes_eq (take 6 text) bang ≡ false → n ≡ prefix_len is_name rest → w ≡ keyword_or_name (take (n + 1) text) → IsFirst text (n + 1) w
first_lower text rest b n w t e h k v =
    let c : n + 1 ≡ suc (prefix_len is_name rest) = omega (arith, k) in
    let at' : IsFirst (b ∷ rest) (n + 1) (keyword_or_name (take (n + 1) (b ∷ rest))) = subst (λ i. IsFirst (b ∷ rest) i (keyword_or_name (take i (b ∷ rest)))) (sym c) (first_lower_at b rest e (subst (λ l. bytes_eq (take 6 l) bang ≡ false) t h)) in
    subst (λ x. IsFirst text (n + 1) x) (sym v) (subst (λ l. IsFirst l (n + 1) (keyword_or_name (take (n + 1) l))) (sym t) at')

upper_longer : (b : ℕ) (rest : List ℕ) → is_lower b ≡ false → is_upper b ≡ true → (m : ℕ) → suc (prefix_len is_name rest) < m → m ≤ length (b ∷ rest) → word_of (take m (b ∷ rest)) ≡ None
upper_longer b rest u e zero h l = absurd (omega (arith, h))
upper_longer b rest u e (suc j) h l = upper_is b (take j rest) u e ∙ cond-false (list_all is_name (take j rest)) (Some (Upper (b ∷ take j rest))) None (all_more is_name rest j (omega (arith, h)) (omega (arith, l)))

first_upper_at : (b : ℕ) (rest : List ℕ) → is_lower b ≡ false → is_upper b ≡ true → IsFirst (b ∷ rest) (suc (prefix_len is_name rest)) (Upper (take (suc (prefix_len is_name rest)) (b ∷ rest)))
first_upper_at b rest u e = record {
  within = let w = within_front is_name rest in omega (arith, w);
  word = upper_is b (take (prefix_len is_name rest) rest) u e ∙ cond-true (list_all is_name (take (prefix_len is_name rest) rest)) (Some (Upper (b ∷ take (prefix_len is_name rest) rest))) None (all_front is_name rest);
  longest = upper_longer b rest u e;
}

pub first_upper : (text rest : List ℕ) (b n : ℕ) → text ≡ b ∷ rest → is_lower b ≡ false → is_upper b ≡ true → n ≡ prefix_len is_name rest → IsFirst text (n + 1) (Upper (take (n + 1) text))
first_upper text rest b n t u e k =
    let c : n + 1 ≡ suc (prefix_len is_name rest) = omega (arith, k) in
    subst (λ l. IsFirst l (n + 1) (Upper (take (n + 1) l))) (sym t) (subst (λ i. IsFirst (b ∷ rest) i (Upper (take i (b ∷ rest)))) (sym c) (first_upper_at b rest u e))

digit_longer : (b : ℕ) (rest : List ℕ) → is_lower b ≡ false → is_upper b ≡ false → is_digit b ≡ true → (m : ℕ) → suc (prefix_len is_digit rest) < m → m ≤ length (b ∷ rest) → word_of (take m (b ∷ rest)) ≡ None
digit_longer b rest u v e zero h l = absurd (omega (arith, h))
digit_longer b rest u v e (suc j) h l = digit_is b (take j rest) u v e ∙ cond-false (list_all is_digit (take j rest)) (Some (Number (b ∷ take j rest))) None (all_more is_digit rest j (omega (arith, h)) (omega (arith, l)))

first_digit_at : (b : ℕ) (rest : List ℕ) → is_lower b ≡ false → is_upper b ≡ false → is_digit b ≡ true → IsFirst (b ∷ rest) (suc (prefix_len is_digit rest)) (Number (take (suc (prefix_len is_digit rest)) (b ∷ rest)))
first_digit_at b rest u v e = record {
  within = let w = within_front is_digit rest in omega (arith, w);
  word = digit_is b (take (prefix_len is_digit rest) rest) u v e ∙ cond-true (list_all is_digit (take (prefix_len is_digit rest) rest)) (Some (Number (b ∷ take (prefix_len is_digit rest) rest))) None (all_front is_digit rest);
  longest = digit_longer b rest u v e;
}

pub first_digit : (text rest : List ℕ) (b n : ℕ) → text ≡ b ∷ rest → is_lower b ≡ false → is_upper b ≡ false → is_digit b ≡ true → n ≡ prefix_len is_digit rest → IsFirst text (n + 1) (Number (take (n + 1) text))
first_digit text rest b n t u v e k =
    let c : n + 1 ≡ suc (prefix_len is_digit rest) = omega (arith, k) in
    subst (λ l. IsFirst l (n + 1) (Number (take (n + 1) l))) (sym t) (subst (λ i. IsFirst (b ∷ rest) i (Number (take i (b ∷ rest)))) (sym c) (first_digit_at b rest u v e))

-- Signs.

long_sign : (b : ℕ) (rest : List ℕ) (j : ℕ) → suc (suc j) ≤ length rest → sign_of b (take (suc (suc j)) rest) ≡ None
long_sign b [] j l = absurd (omega (arith, l))
long_sign b (c ∷ []) j l = absurd (omega (arith, l))
long_sign b (c ∷ d ∷ more) j l = refl

double_longer : (b c : ℕ) (more : List ℕ) → is_lower b ≡ false → is_upper b ≡ false → is_digit b ≡ false → (m : ℕ) → 2 < m → m ≤ length (b ∷ c ∷ more) → word_of (take m (b ∷ c ∷ more)) ≡ None
double_longer b c more l u d zero h k = absurd (omega (arith, h))
double_longer b c more l u d (suc zero) h k = absurd (omega (arith, h))
double_longer b c more l u d (suc (suc zero)) h k = absurd (omega (arith, h))
double_longer b c more l u d (suc (suc (suc j))) h k = sign_is b (take (suc (suc j)) (c ∷ more)) l u d ∙ long_sign b (c ∷ more) j (omega (arith, k))

single_longer : (b : ℕ) (rest : List ℕ) → is_lower b ≡ false → is_upper b ≡ false → is_digit b ≡ false → double_start b rest ≡ None → (m : ℕ) → 1 < m → m ≤ length (b ∷ rest) → word_of (take m (b ∷ rest)) ≡ None
single_longer b rest l u d n zero h k = absurd (omega (arith, h))
single_longer b rest l u d n (suc zero) h k = absurd (omega (arith, h))
single_longer b [] l u d n (suc (suc j)) h k = absurd (omega (arith, k))
single_longer b (c ∷ more) l u d n (suc (suc zero)) h k = sign_is b (c ∷ []) l u d ∙ n
single_longer b (c ∷ more) l u d n (suc (suc (suc j))) h k = double_longer b c more l u d (suc (suc (suc j))) (omega arith) k

pub first_double : (b : ℕ) (rest : List ℕ) (w : Word) → is_lower b ≡ false → is_upper b ≡ false → is_digit b ≡ false → double_start b rest ≡ Some w → IsFirst (b ∷ rest) 2 w
first_double b [] w l u d e = cc
first_double b (c ∷ more) w l u d e = record {
  within = omega arith;
  word = sign_is b (c ∷ []) l u d ∙ e;
  longest = double_longer b c more l u d;
}

pub first_single : (b : ℕ) (rest : List ℕ) (w : Word) → is_lower b ≡ false → is_upper b ≡ false → is_digit b ≡ false → double_start b rest ≡ None → single_sign b ≡ Some w → IsFirst (b ∷ rest) 1 w
first_single b rest w l u d n e = record {
  within = omega arith;
  word = sign_is b [] l u d ∙ e;
  longest = single_longer b rest l u d n;
}

pub first_none : (b : ℕ) (rest : List ℕ) → is_lower b ≡ false → is_upper b ≡ false → is_digit b ≡ false → double_start b rest ≡ None → single_sign b ≡ None → BeginsNone (b ∷ rest)
first_none b rest l u d n e zero h = refl
first_none b rest l u d n e (suc zero) h = sign_is b [] l u d ∙ e
first_none b rest l u d n e (suc (suc j)) h = single_longer b rest l u d n (suc (suc j)) (omega arith) h

-- Pieces.

is_ten : (x : ℕ) → (x == 10) ≡ true → x ≡ 10
is_ten x e = search (rules, e)

line_on : (x : ℕ) (xs : List ℕ) (b : Bool) → (x == 10) ≡ b → EndsLine (drop (prefix_len is_no_lf xs) xs) → EndsLine (drop (cond (cond b false true) (1 + prefix_len is_no_lf xs) 0) (x ∷ xs))
line_on x xs true e h = is_ten x e
line_on x xs false e h =
    let n : 1 + prefix_len is_no_lf xs ≡ suc (prefix_len is_no_lf xs) = omega arith in
    subst (λ i. EndsLine (drop i (x ∷ xs))) (sym n) h

ends_line : (xs : List ℕ) → EndsLine (drop (prefix_len is_no_lf xs) xs)
ends_line [] = tt
ends_line (x ∷ xs) = line_on x xs (x == 10) refl (ends_line xs)

pub gap_lf : (text rest : List ℕ) (p : Place) → text ≡ 10 ∷ rest → IsFront text p (Blank 10) (next_line p)
gap_lf text rest p e = record { after = rest; whole = e; begins = refl; following = refl; some = omega arith; moved = refl }

pub gap_blank : (text rest : List ℕ) (b : ℕ) (p : Place) → text ≡ b ∷ rest → is_blank b ≡ true → (b == 10) ≡ false → IsFront text p (Blank b) (along p 1)
gap_blank text rest b p e k n = record { after = rest; whole = e; begins = k; following = sym (cond-false (b == 10) (next_line p) (along p 1) n); some = omega arith; moved = refl }

pub gap_comment : (text more : List ℕ) (n : ℕ) (p : Place) → text ≡ 47 ∷ 47 ∷ more → n ≡ prefix_len is_no_lf more → IsFront text p (Comment (take n more)) (along p (n + 2))
gap_comment text more n p e k =
    let w = within_front is_no_lf more in
    let len : length (take n more) ≡ n = length-take-le n more (omega (arith, k, w)) in
    let two : n + 2 ≡ 2 + length (take n more) = omega (arith, len) in
    record {
      after = drop n more;
      whole = e ∙ ap (λ l. 47 ∷ 47 ∷ l) (sym (take-append-drop n more));
      begins = (subst (λ i. list_all is_no_lf (take i more) ≡ true) (sym k) (all_front is_no_lf more), subst (λ i. EndsLine (drop i more)) (sym k) (ends_line more));
      following = ap (along p) two;
      some = omega arith;
      moved = ap (λ i. p.at + i) two ∙ (let z : p.at + (2 + length (take n more)) ≡ p.at + length (47 ∷ 47 ∷ take n more) = omega arith in z);
    }

some_first : (text : List ℕ) (n : ℕ) (w : Word) → word_of (take n text) ≡ Some w → 0 < n
some_first text zero w e = cc
some_first text (suc n) w e = omega arith

pub cut_first : (text : List ℕ) (n : ℕ) (w : Word) (p : Place) → is_gap text ≡ false → IsFirst text n w → IsFront text p (Cut (take n text) w) (along p n)
cut_first text n w p g f =
    let len : length (take n text) ≡ n = length-take-le n text f.within in
    let pos : 0 < n = some_first text n w f.word in
    record {
      after = drop n text;
      whole = sym (take-append-drop n text);
      begins = (g, subst (λ i. IsFirst text i w) (sym len) f);
      following = ap (along p) (sym len);
      some = omega (arith, len, pos);
      moved = ap (λ i. p.at + i) (sym len);
    }

-- One piece after another.

pieces_on : (xs : List Piece) (source text after : List ℕ) (x : Piece) → Pieces xs source text → text ≡ piece_text x ++ after → BeginsWith x text after → Pieces (xs ++ x ∷ []) source after
pieces_on [] source text after x c e b = (after, c ∙ e, subst (λ l. BeginsWith x l after) (sym c) b, refl)
pieces_on (y ∷ ys) source text after x c e b = (c.0, c.1, c.2, pieces_on ys c.0 text after x c.3 e b)

after_on : (p : Place) (xs : List Piece) (x : Piece) → after_all p (xs ++ x ∷ []) ≡ following (after_all p xs) x
after_on p [] x = refl
after_on p (y ∷ ys) x = after_on (following p y) ys x

tokens_on : (p : Place) (xs : List Piece) (x : Piece) → tokens_of p (xs ++ x ∷ []) ≡ tokens_of p xs ++ tokens_at (after_all p xs) x
tokens_on p [] x = append-nil (tokens_at p x)
tokens_on p (y ∷ ys) x = ap (λ l. tokens_at p y ++ l) (tokens_on (following p y) ys x) ∙ sym (append_assoc (tokens_at p y) (tokens_of (following p y) ys) (tokens_at (after_all (following p y) ys) x))

pub read_more : (source text : List ℕ) (p next : Place) (ts : List Token) (x : Piece) (f : IsFront text p x next) → IsRead source text p ts → IsRead source f.after next (ts ++ tokens_at p x)
read_more source text p next ts x f r = (
  r.0 ++ x ∷ [],
  pieces_on r.0 source text f.after x r.1 f.whole f.begins,
  ap (λ l. l ++ tokens_at p x) r.2 ∙ ap (λ q. tokens_of first_place r.0 ++ tokens_at q x) r.3 ∙ sym (tokens_on first_place r.0 x),
  f.following ∙ ap (λ q. following q x) r.3 ∙ sym (after_on first_place r.0 x),
)

pub after_is : (source : List ℕ) (p next : Place) (x : Piece) (f : IsFront (drop p.at source) p x next) → f.after ≡ drop next.at source
after_is source p next x f =
    sym (drop-append_seam (piece_text x) f.after) ∙ ap (drop (length (piece_text x))) (sym f.whole) ∙ drop-drop (length (piece_text x)) p.at source ∙ ap (λ i. drop i source) (sym f.moved)

drop_length : (n : ℕ) (xs : List ℕ) → n ≤ length xs → length (drop n xs) + n ≡ length xs
drop_length zero xs l = omega arith
drop_length (suc n) [] l = absurd (omega (arith, l))
drop_length (suc n) (x ∷ xs) l = let h = drop_length n xs (omega (arith, l)) in omega (arith, h)

pub next_within : (source : List ℕ) (p next : Place) (x : Piece) → p.at ≤ length source → IsFront (drop p.at source) p x next → next.at ≤ length source
next_within source p next x l f =
    let a = drop_length p.at source l in
    let b = ap length f.whole ∙ length-append (piece_text x) f.after in
    omega (arith, a, b, f.moved)

blank_line : (p : Place) (b : Bool) → p.line ≤ p.at + 1 → (cond b (next_line p) (along p 1)).line ≤ p.at + 2
blank_line p true l = omega (arith, l)
blank_line p false l = omega (arith, l)

blank_col : (p : Place) (b : Bool) → p.col ≤ p.at + 1 → (cond b (next_line p) (along p 1)).col ≤ p.at + 2
blank_col p true l = omega (arith, l)
blank_col p false l = omega (arith, l)

after_line : (p : Place) (x : Piece) → p.line ≤ p.at + 1 → 0 < length (piece_text x) → (following p x).line ≤ p.at + length (piece_text x) + 1
after_line p (Blank b) l n = let h = blank_line p (b == 10) l in omega (arith, h)
after_line p (Comment t) l n = omega (arith, l)
after_line p (Cut t w) l n = omega (arith, l)

after_col : (p : Place) (x : Piece) → p.col ≤ p.at + 1 → (following p x).col ≤ p.at + length (piece_text x) + 1
after_col p (Blank b) l = let h = blank_col p (b == 10) l in omega (arith, h)
after_col p (Comment t) l = omega (arith, l)
after_col p (Cut t w) l = omega (arith, l)

pub next_line_bound : (text : List ℕ) (p next : Place) (x : Piece) → p.line ≤ p.at + 1 → IsFront text p x next → next.line ≤ next.at + 1
next_line_bound text p next x l f =
    let h : next.line ≤ p.at + length (piece_text x) + 1 = subst (λ q. q.line ≤ p.at + length (piece_text x) + 1) (sym f.following) (after_line p x l f.some) in
    omega (arith, h, f.moved)

pub next_col_bound : (text : List ℕ) (p next : Place) (x : Piece) → p.col ≤ p.at + 1 → IsFront text p x next → next.col ≤ next.at + 1
next_col_bound text p next x l f =
    let h : next.col ≤ p.at + length (piece_text x) + 1 = subst (λ q. q.col ≤ p.at + length (piece_text x) + 1) (sym f.following) (after_col p x l) in
    omega (arith, h, f.moved)

pub next_further : (text : List ℕ) (p next : Place) (x : Piece) → IsFront text p x next → p.at < next.at
next_further text p next x f = let h = f.some in omega (arith, h, f.moved)

pub gap_none : (text rest : List ℕ) (b : ℕ) → text ≡ b ∷ rest → is_blank b ≡ false → is_comment (b ∷ rest) ≡ false → is_gap text ≡ false
gap_none text rest b e k n = ap is_gap e ∙ ap (λ c. c || is_comment (b ∷ rest)) k ∙ n

-- the rest of a text, as a slice says it
pub take_rest : (n : ℕ) (xs : List ℕ) → n ≤ length xs → take (length xs - n) (drop n xs) ≡ drop n xs
take_rest n xs l = let h = drop_length n xs l in take_all (length xs - n) (drop n xs) (omega (arith, h))

pub no_more : {A : Type 0} (xs ys : List A) → ys ≡ [] → xs ++ ys ≡ xs
no_more xs ys e = ap (λ l. xs ++ l) e ∙ append-nil xs

-- what was read with one piece more, after which the source goes on at a place
pub read_on : (source : List ℕ) (p next : Place) (ts : List Token) (x : Piece) → p.at ≤ length source → IsFront (take (length source - p.at) (drop p.at source)) p x next → IsRead source (drop p.at source) p ts → IsRead source (drop next.at source) next (ts ++ tokens_at p x)
read_on source p next ts x l f r =
    let g : IsFront (drop p.at source) p x next = subst (λ t. IsFront t p x next) (take_rest p.at source l) f in
    subst (λ t. IsRead source t next (ts ++ tokens_at p x)) (after_is source p next x g) (read_more source (drop p.at source) p next ts x g r)

pub within_on_next : (source : List ℕ) (p next : Place) (x : Piece) → p.at ≤ length source → IsFront (take (length source - p.at) (drop p.at source)) p x next → next.at ≤ length source
within_on_next source p next x l f = next_within source p next x l (subst (λ t. IsFront t p x next) (take_rest p.at source l) f)

-- All was read.
pub read_all : (source : List ℕ) (p : Place) (ts : List Token) → length source ≤ p.at → IsRead source (drop p.at source) p ts → IsCut source ts p
read_all source p ts l r = subst (λ t. IsRead source t p ts) (drop_of_length-le source l) r

-- Nothing begins where the source was read up to.
pub bad_at : (source : List ℕ) (p : Place) (ts : List Token) → p.at < length source → is_gap (take (length source - p.at) (drop p.at source)) ≡ false → BeginsNone (take (length source - p.at) (drop p.at source)) → IsRead source (drop p.at source) p ts → IsBadByte source p
bad_at source p ts l g b r =
    let e = take_rest p.at source (omega (arith, l)) in
    let h = drop_length p.at source (omega (arith, l)) in
    (r.0, drop p.at source, r.1, r.3, (λ n. let z = ap length n in absurd (omega (arith, h, l, z))), subst (λ t. is_gap t ≡ false) e g, subst BeginsNone e b)
