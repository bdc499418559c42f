-- The tokens that a source is cut into: no name is longer than the source, a lower-case name is a function's and an
-- upper-case name a constructor's, and there are no more tokens than the source has bytes.
use Rattle.std.proofs.Common.{◌≡◌, ◌≤◌, ◌<◌, ◌+◌, ℕ, zero, suc, Bool, true, false, cond, ◌&&◌, ◌||◌, ◌==◌, codes, List, [], ◌∷◌, ◌++◌, length, take, Option, Some, None, refl, sym, ap, subst, arith}
use Rattle.std.specs.Prelude.{not}
use Rattle.std.specs.List.{list_all}
use Rattle.std.specs.Str.{bytes_eq}
use Rattle.std.proofs.lemmas.Bool.{and_from, and_parts, or_from}
use Rattle.std.proofs.lemmas.List.{length-append}
use Rattle.lowering_soundness.specs.fip_language.declared.Place.{Place}
use Rattle.lowering_soundness.specs.fip_language.declared.Operator.TheVariants as O
use Rattle.lowering_soundness.specs.fip_language.Every.{Every}
use Rattle.lowering_soundness.specs.fip_language.Character.{is_letter, are_name_bytes, is_upper_name}
use Rattle.source_safety.specs.fip_grammar.declared.Sign.TheVariants as S
use Rattle.source_safety.specs.fip_grammar.Token.{Word, Lower, Upper, Number, Operate, Mark, Token}
use Rattle.source_safety.specs.fip_grammar.Cut.{is_lower, is_upper, is_digit, is_name, keyword_or_name, single_sign, double_sign, sign_of, lower_word, word_of, IsFirst, Piece, Blank, Comment, Cut, following, Pieces, tokens_of, first_place, IsCut}
use Rattle.derivation_correctness.specs.code_file.Spelling.{is_keyword, is_function_name}
use Rattle.derivation_correctness.proofs.source_report.cell_lower.fip_language.Facts.{not_of, or_exchange as name_byte, take_few}
use Rattle.derivation_correctness.proofs.source_report.fip_grammar.UpperWords.{holds_if}

-- a name of a function, which isn't empty
abbrev pub IsProperName : List ℕ → Type 0
IsProperName x = (is_function_name x ≡ true) × (0 < length x)

-- names of at most n bytes, of functions and of constructors
abbrev pub Proper : ℕ → Word → Type 0
Proper n (Lower x) = IsProperName x × (length x ≤ n)
Proper n (Upper x) = (is_upper_name x ≡ true) × (length x ≤ n)
Proper n _ = Unit {0}

abbrev ProperOption : ℕ → Option Word → Type 0
ProperOption n None = Unit {0}
ProperOption n (Some w) = Proper n w

-- ---- words

-- the first word whose test holds, or else the last one
abbrev first_of : {A : Type 0} → List (Bool × A) → A → A
first_of [] d = d
first_of (c ∷ cs) d = cond c.0 c.1 (first_of cs d)

-- no test holds
abbrev AllFail : {A : Type 0} → List (Bool × A) → Type 0
AllFail [] = Unit {0}
AllFail (c ∷ cs) = (c.0 ≡ false) × AllFail cs

by_test : {A : Type 0} (P : A → Type 0) (b : Bool) (x y : A) → P x → (b ≡ false → P y) → P (cond b x y)
by_test P true x y h k = h
by_test P false x y h k = k refl

holds_of : {A : Type 0} (P : A → Type 0) (cs : List (Bool × A)) (d : A) → Every (λ (c : Bool × A). P c.1) cs → (AllFail cs → P d) → P (first_of cs d)
holds_of P [] d h k = k tt
holds_of P (c ∷ cs) d h k = by_test P c.0 c.1 (first_of cs d) h.0 (λ e. holds_of P cs d h.1 (λ r. k (e, r)))

proper_lower : (n : ℕ) (text : List ℕ) → (is_keyword text ≡ false → Proper n (Lower text)) → Proper n (keyword_or_name text)
proper_lower n text h = holds_of (Proper n) (
    (bytes_eq text (codes "data"), Mark S.Data) ∷
    (bytes_eq text (codes "fip"), Mark S.Fip) ∷
    (bytes_eq text (codes "fbip"), Mark S.Fbip) ∷
    (bytes_eq text (codes "fun"), Mark S.Fun) ∷
    (bytes_eq text (codes "match"), Mark S.Match) ∷
    (bytes_eq text (codes "let"), Mark S.Let) ∷
    (bytes_eq text (codes "if"), Mark S.If) ∷
    (bytes_eq text (codes "else"), Mark S.Else) ∷
    (bytes_eq text (codes "int"), Mark S.Int) ∷
    []) (Lower text) (tt, (tt, (tt, (tt, (tt, (tt, (tt, (tt, (tt, tt)))))))))
    (λ e. h (
    or_from _ (bytes_eq text (codes "int")) (
    or_from _ (bytes_eq text (codes "else")) (
    or_from _ (bytes_eq text (codes "if")) (
    or_from _ (bytes_eq text (codes "let")) (
    or_from _ (bytes_eq text (codes "match")) (
    or_from _ (bytes_eq text (codes "fun")) (
    or_from _ (bytes_eq text (codes "fbip")) (
    or_from (bytes_eq text (codes "data")) (bytes_eq text (codes "fip")) e.0 e.1.0)
    e.1.1.0) e.1.1.1.0) e.1.1.1.1.0) e.1.1.1.1.1.0) e.1.1.1.1.1.1.0) e.1.1.1.1.1.1.1.0) e.1.1.1.1.1.1.1.1.0))

proper_single : (n b : ℕ) → ProperOption n (single_sign b)
proper_single n b = holds_of (ProperOption n) (
    (b == 95, Some (Mark S.Underscore)) ∷
    (b == 40, Some (Mark S.RoundOpen)) ∷
    (b == 41, Some (Mark S.RoundClose)) ∷
    (b == 91, Some (Mark S.SquareOpen)) ∷
    (b == 93, Some (Mark S.SquareClose)) ∷
    (b == 123, Some (Mark S.CurlyOpen)) ∷
    (b == 125, Some (Mark S.CurlyClose)) ∷
    (b == 44, Some (Mark S.Comma)) ∷
    (b == 59, Some (Mark S.Semicolon)) ∷
    (b == 58, Some (Mark S.Colon)) ∷
    (b == 94, Some (Mark S.Caret)) ∷
    (b == 61, Some (Mark S.Equals)) ∷
    (b == 43, Some (Operate O.Add)) ∷
    (b == 45, Some (Operate O.Subtract)) ∷
    (b == 42, Some (Operate O.Multiply)) ∷
    (b == 47, Some (Operate O.Divide)) ∷
    (b == 37, Some (Operate O.Remainder)) ∷
    (b == 60, Some (Operate O.Less)) ∷
    (b == 62, Some (Operate O.Greater)) ∷
    []) None (tt, (tt, (tt, (tt, (tt, (tt, (tt, (tt, (tt, (tt, (tt, (tt, (tt, (tt, (tt, (tt, (tt, (tt, (tt, tt))))))))))))))))))) (λ e. tt)

proper_double : (n b c : ℕ) → ProperOption n (double_sign b c)
proper_double n b c = holds_of (ProperOption n) (
    ((b == 45) && (c == 62), Some (Mark S.Arrow)) ∷
    ((b == 61) && (c == 61), Some (Operate O.Equal)) ∷
    ((b == 33) && (c == 61), Some (Operate O.NotEqual)) ∷
    ((b == 60) && (c == 61), Some (Operate O.LessOrEqual)) ∷
    ((b == 62) && (c == 61), Some (Operate O.GreaterOrEqual)) ∷
    []) None (tt, (tt, (tt, (tt, (tt, tt))))) (λ e. tt)

proper_sign : (n b : ℕ) (bs : List ℕ) → ProperOption n (sign_of b bs)
proper_sign n b [] = proper_single n b
proper_sign n b (c ∷ []) = proper_double n b c
proper_sign n b (c ∷ d ∷ more) = tt

name_bytes : (bs : List ℕ) → list_all is_name bs ≡ true → are_name_bytes bs ≡ true
name_bytes [] e = refl
name_bytes (b ∷ bs) e =
    and_from (is_digit b || is_letter b) (are_name_bytes bs)
    (name_byte (is_lower b) (is_upper b) (is_digit b) (b == 95) (and_parts (is_name b) (list_all is_name bs) e).0)
    (name_bytes bs (and_parts (is_name b) (list_all is_name bs) e).1)

lower_name : (b : ℕ) (bs : List ℕ) → is_lower b ≡ true → list_all is_name bs ≡ true → is_keyword (b ∷ bs) ≡ false → is_function_name (b ∷ bs) ≡ true
lower_name b bs l n k =
    and_from (is_lower b && are_name_bytes bs) (not (is_keyword (b ∷ bs)))
    (and_from (is_lower b) (are_name_bytes bs) l (name_bytes bs n)) (not_of (is_keyword (b ∷ bs)) k)

proper_keyword : (b : ℕ) (bs : List ℕ) (names : Bool) → is_lower b ≡ true → list_all is_name bs ≡ names → ProperOption (suc (length bs)) (lower_word names (b ∷ bs))
proper_keyword b bs true l e = proper_lower (suc (length bs)) (b ∷ bs) (λ k. ((lower_name b bs l e k, omega arith), omega arith))
proper_keyword b bs false l e = holds_if (ProperOption (suc (length bs))) (bytes_eq (b ∷ bs) (codes "match!")) (Some (Mark S.MatchBang)) None tt tt

proper_name : (b : ℕ) (bs : List ℕ) (names : Bool) → is_upper b ≡ true → list_all is_name bs ≡ names → ProperOption (suc (length bs)) (cond names (Some (Upper (b ∷ bs))) None)
proper_name b bs true u e = (and_from (is_upper b) (are_name_bytes bs) u (name_bytes bs e), omega arith)
proper_name b bs false u e = tt

-- one of two words, by a test
choice : {A : Type 0} (P : A → Type 0) (c : Bool) (x y : A) → (c ≡ true → P x) → P y → P (cond c x y)
choice P true x y h k = h refl
choice P false x y h k = k

proper_word : (text : List ℕ) → ProperOption (length text) (word_of text)
proper_word [] = tt
proper_word (b ∷ bs) =
    let P : Option Word → Type 0 = ProperOption (suc (length bs)) in
    let number = cond (list_all is_digit bs) (Some (Number (b ∷ bs))) None in
    let other = cond (is_digit b) number (sign_of b bs) in
    let o : P other = holds_if P (is_digit b) number (sign_of b bs) (holds_if P (list_all is_digit bs) (Some (Number (b ∷ bs))) None tt tt) (proper_sign (suc (length bs)) b bs) in
    let name = cond (list_all is_name bs) (Some (Upper (b ∷ bs))) None in
    let upper = cond (is_upper b) name other in
    choice P (is_lower b) (lower_word (list_all is_name bs) (b ∷ bs)) upper (λ l. proper_keyword b bs (list_all is_name bs) l refl)
    (choice P (is_upper b) name other (λ u. proper_name b bs (list_all is_name bs) u refl) o)

-- ---- tokens

more_proper : (m n : ℕ) (w : Word) → m ≤ n → Proper m w → Proper n w
more_proper m n (Lower x) le h = (h.0, let k = h.1 in omega (arith, le, k))
more_proper m n (Upper x) le h = (h.0, let k = h.1 in omega (arith, le, k))
more_proper m n (Number ds) le h = tt
more_proper m n (Operate o) le h = tt
more_proper m n (Mark s) le h = tt

more_option : (m n : ℕ) (o : Option Word) → m ≤ n → ProperOption m o → ProperOption n o
more_option m n None le h = tt
more_option m n (Some w) le h = more_proper m n w le h

proper_first : (text : List ℕ) (n : ℕ) (w : Word) → IsFirst text n w → Proper (length text) w
proper_first text n w f =
    subst (ProperOption (length text)) f.word (more_option (length (take n text)) (length text) (word_of (take n text)) (take_few n text) (proper_word (take n text)))

no_word : (w : Word) → word_of [] ≡ Some w → ⊥
no_word w e = cc

some_bytes : (text bs : List ℕ) (w : Word) → IsFirst text (length bs) w → suc zero ≤ length bs
some_bytes text [] w f = absurd (no_word w f.word)
some_bytes text (b ∷ bs) w f = omega arith

abbrev ProperToken : ℕ → Token → Type 0
ProperToken n t = Proper n t.word

-- tokens of a text of at most n bytes
pub record AreProper (n : ℕ) (ts : List Token) : Type 0 where
  pub names : Every (ProperToken n) ts
  pub few : length ts ≤ n

after_few : (n : ℕ) (text piece after : List ℕ) → text ≡ piece ++ after → length text ≤ n → length after ≤ n
after_few n text piece after e few =
    let k = length-append piece after in
    let l = ap length e in
    omega (arith, k, l, few)

every_token : (n : ℕ) (xs : List Piece) (p : Place) (text rest : List ℕ) → length text ≤ n → Pieces xs text rest → Every (ProperToken n) (tokens_of p xs)
every_token n [] p text rest few c = tt
every_token n (Blank b ∷ xs) p text rest few c = every_token n xs (following p (Blank b)) c.0 rest (after_few n text (b ∷ []) c.0 c.1 few) c.3
every_token n (Comment t ∷ xs) p text rest few c = every_token n xs (following p (Comment t)) c.0 rest (after_few n text (47 ∷ 47 ∷ t) c.0 c.1 few) c.3
every_token n (Cut t w ∷ xs) p text rest few c = (
  more_proper (length text) n w few (proper_first text (length t) w c.2.1),
  every_token n xs (following p (Cut t w)) c.0 rest (after_few n text t c.0 c.1 few) c.3,
)

few_tokens : (xs : List Piece) (p : Place) (text rest : List ℕ) → Pieces xs text rest → length (tokens_of p xs) ≤ length text
few_tokens [] p text rest c = omega arith
few_tokens (Blank b ∷ xs) p text rest c =
    let h = few_tokens xs (following p (Blank b)) c.0 rest c.3 in
    let k = after_few (length text) text (b ∷ []) c.0 c.1 (omega arith) in
    omega (arith, h, k)
few_tokens (Comment t ∷ xs) p text rest c =
    let h = few_tokens xs (following p (Comment t)) c.0 rest c.3 in
    let k = after_few (length text) text (47 ∷ 47 ∷ t) c.0 c.1 (omega arith) in
    omega (arith, h, k)
few_tokens (Cut t w ∷ xs) p text rest c =
    let h = few_tokens xs (following p (Cut t w)) c.0 rest c.3 in
    let some = some_bytes text t w c.2.1 in
    let k = length-append t c.0 in
    let l = ap length c.1 in
    omega (arith, h, some, k, l)

-- the tokens of a source of at most n bytes
pub proper_tokens : (n : ℕ) (source : List ℕ) (ts : List Token) (end : Place) → length source ≤ n → IsCut source ts end → AreProper n ts
proper_tokens n source ts end few c =
    let k = few_tokens c.0 first_place source [] c.1 in
    subst (AreProper n) (sym c.2) (record { names = every_token n c.0 first_place source [] few c.1; few = (omega (arith, few, k)) })
