-- What completes a value, token by token.
use Rattle.std.proofs.Common.{◌≡◌, ◌∙◌, ◌≤◌, ◌<◌, ◌+◌, ◌-◌, ℕ, zero, suc, Bool, true, false, List, [], ◌∷◌, length, take, drop, get_or, refl, sym, ap, subst, arith}
use Rattle.std.specs.Prelude.{ℤ, ◌==◌}
use Rattle.std.proofs.lemmas.Bool.Decides.{nat_tests}
use Rattle.fip_language.specs.Character.{is_digit, is_upper}
use Rattle.session_semantics.specs.Lines.{Symbol, Blank, Open, Close, Comma, Equals, Question, Minus, Underscore, Digit, Small, Capital, Other}
use Rattle.session_semantics.specs.Lines.{symbol, symbols, skip, word, following, number, after_number, signed, BeginsCapital, DigitsText, NumberText, IsOpened, SignText}
use Rattle.session_semantics.specs.Lines.{Written, Number, Named, NoParts, MoreParts, WrittenText}
use Rattle.session_semantics.proofs.OneForm.{sign_once, close_is_no_comma, number_is_no_name, opened}
use Rattle.session_lines.specs.declared.scan.Step.TheVariants.{Wants, Read}
use Rattle.session_lines.specs.Completed.{BeginsDigit, IsUnsigned, Closes, Completes, HasParts, GoesOn}
use Rattle.session_lines.proofs.Tokens.{IsOf, of_symbol, symbols_more, no_symbols}

-- ---- the name of a constructor, and its bracket

pub named : (n : ℕ) (cs : List Symbol) → BeginsCapital (skip cs) → GoesOn (Completes Wants n cs) (HasParts n (following (skip cs)))
named n cs cap = record { to = to; from = from }
  where
    to : (rest : List Symbol) → Completes Wants n cs rest → HasParts n (following (skip cs)) rest
    to rest (Number i, after, t, c) = absurd (number_is_no_name (skip cs) after i t cap)
    to rest (Named name ws, after, (b, e, p), c) = (ws, after, p, c)

    from : (rest : List Symbol) → HasParts n (following (skip cs)) rest → Completes Wants n cs rest
    from rest (ws, after, p, c) = (Named (word (skip cs)) ws, after, (cap, refl, p), c)

pub bracket : (n : ℕ) (cs ds : List Symbol) → SignText Open cs ds → GoesOn (HasParts n cs) (Completes Wants (suc n) ds)
bracket n cs ds s = record { to = to; from = from }
  where
    to : (rest : List Symbol) → HasParts n cs rest → Completes Wants (suc n) ds rest
    to rest (NoParts, after, (never, e), c) = absurd (never (opened cs ds s))
    to rest (MoreParts w ws, after, (inner, mid, b, t, f), c) = (w, mid, subst (λ x. WrittenText x w mid) (sign_once Open cs inner ds b s) t, (ws, after, f, c))

    from : (rest : List Symbol) → Completes Wants (suc n) ds rest → HasParts n cs rest
    from rest (w, mid, t, (ws, after, f, c)) = (MoreParts w ws, after, (ds, mid, s, t, f), c)

is_open : (cs : List Symbol) → IsOpened cs → (rest : List Symbol) × (cs ≡ Open ∷ rest)
is_open (Open ∷ cs) o = (cs, refl)
is_open cs o = absurd o

pub no_bracket : (n : ℕ) (cs : List Symbol) → ((rest : List Symbol) → SignText Open cs rest → ⊥) → GoesOn (HasParts n cs) (Completes Read n cs)
no_bracket n cs never = record { to = to; from = from }
  where
    to : (rest : List Symbol) → HasParts n cs rest → Closes n cs rest
    to rest (NoParts, after, (un, e), c) = subst (λ x. Closes n x rest) e c
    to rest (MoreParts w ws, after, (inner, mid, b, t, f), c) = absurd (never inner b)

    from : (rest : List Symbol) → Closes n cs rest → HasParts n cs rest
    from rest c = (NoParts, cs, ((λ o. let x = is_open (skip cs) o in never x.0 x.1), refl), c)

-- ---- ints

digits_are : (negative : Bool) (cs : List Symbol) → BeginsDigit cs → (i : ℤ) × DigitsText negative cs i (after_number cs)
digits_are negative (Digit d ∷ cs) b = (signed negative (number d cs), (refl, refl))
digits_are negative cs b = absurd b

digits_then : (negative : Bool) (cs rest : List Symbol) (i : ℤ) → DigitsText negative cs i rest → BeginsDigit cs × (rest ≡ after_number cs)
digits_then negative (Digit d ∷ cs) rest i t = (tt, t.1)
digits_then negative cs rest i t = absurd t

number_is : (cs ds : List Symbol) → IsUnsigned cs ds → BeginsDigit ds → (i : ℤ) × NumberText cs i (after_number ds)
number_is (Minus ∷ cs) ds u b = subst (λ x. (i : ℤ) × DigitsText true cs i (after_number x)) (sym u) (digits_are true cs (subst BeginsDigit u b))
number_is (Digit d ∷ cs) ds u b = subst (λ x. (i : ℤ) × DigitsText false (Digit d ∷ cs) i (after_number x)) (sym u) (digits_are false (Digit d ∷ cs) tt)
number_is cs ds u b = absurd (subst BeginsDigit u b)

number_then : (cs ds rest : List Symbol) (i : ℤ) → IsUnsigned cs ds → NumberText cs i rest → BeginsDigit ds × (rest ≡ after_number ds)
number_then (Minus ∷ cs) ds rest i u t = subst (λ x. BeginsDigit x × (rest ≡ after_number x)) (sym u) (digits_then true cs rest i t)
number_then (Digit d ∷ cs) ds rest i u t = subst (λ x. BeginsDigit x × (rest ≡ after_number x)) (sym u) (digits_then false (Digit d ∷ cs) rest i t)
number_then cs ds rest i u t = absurd t

begins_no_name : (cs ds : List Symbol) → IsUnsigned cs ds → BeginsDigit ds → BeginsCapital cs → ⊥
begins_no_name (Capital c ∷ cs) ds u b cap = subst BeginsDigit u b
begins_no_name cs ds u b cap = absurd cap

pub int_read : (n : ℕ) (cs ds : List Symbol) → IsUnsigned (skip cs) ds → BeginsDigit ds → GoesOn (Completes Wants n cs) (Completes Read n (after_number ds))
int_read n cs ds u b = record { to = to; from = from }
  where
    to : (rest : List Symbol) → Completes Wants n cs rest → Closes n (after_number ds) rest
    to rest (Number i, after, t, c) = subst (λ x. Closes n x rest) (number_then (skip cs) ds after i u t).1 c
    to rest (Named name ws, after, (cap, e, p), c) = absurd (begins_no_name (skip cs) ds u b cap)

    from : (rest : List Symbol) → Closes n (after_number ds) rest → Completes Wants n cs rest
    from rest c = let i = number_is (skip cs) ds u b in (Number i.0, after_number ds, i.1, c)

pub no_value : (n : ℕ) (cs ds rest : List Symbol) → IsUnsigned (skip cs) ds → (BeginsDigit ds → ⊥) → (BeginsCapital (skip cs) → ⊥) → Completes Wants n cs rest → ⊥
no_value n cs ds rest u never cap (Number i, after, t, c) = never (number_then (skip cs) ds after i u t).0
no_value n cs ds rest u never cap (Named name ws, after, (b, e, p), c) = cap b

-- ---- after a part

pub comma : (n : ℕ) (cs ds : List Symbol) → SignText Comma cs ds → GoesOn (Completes Read (suc n) cs) (Completes Wants (suc n) ds)
comma n cs ds s = record { to = to; from = from }
  where
    to : (rest : List Symbol) → Closes (suc n) cs rest → Completes Wants (suc n) ds rest
    to rest (NoParts, after, f, c) = absurd (close_is_no_comma cs after ds f s)
    to rest (MoreParts w ws, after, (next, mid, b, t, f), c) = (w, mid, subst (λ x. WrittenText x w mid) (sign_once Comma cs next ds b s) t, (ws, after, f, c))

    from : (rest : List Symbol) → Completes Wants (suc n) ds rest → Closes (suc n) cs rest
    from rest (w, mid, t, (ws, after, f, c)) = (MoreParts w ws, after, (ds, mid, s, t, f), c)

pub close : (n : ℕ) (cs ds : List Symbol) → SignText Close cs ds → GoesOn (Completes Read (suc n) cs) (Completes Read n ds)
close n cs ds s = record { to = to; from = from }
  where
    to : (rest : List Symbol) → Closes (suc n) cs rest → Closes n ds rest
    to rest (NoParts, after, f, c) = subst (λ x. Closes n x rest) (sign_once Close cs after ds f s) c
    to rest (MoreParts w ws, after, (next, mid, b, t, f), c) = absurd (close_is_no_comma cs ds next s b)

    from : (rest : List Symbol) → Closes n ds rest → Closes (suc n) cs rest
    from rest c = (NoParts, ds, s, c)

pub no_part : (n : ℕ) (cs rest : List Symbol) → ((ds : List Symbol) → SignText Comma cs ds → ⊥) → ((ds : List Symbol) → SignText Close cs ds → ⊥) → Completes Read (suc n) cs rest → ⊥
no_part n cs rest comma close (NoParts, after, f, c) = close after f
no_part n cs rest comma close (MoreParts w ws, after, (next, mid, b, t, f), c) = comma next b

pub comma_more : (n : ℕ) (cs ds : List Symbol) → 0 < n → SignText Comma cs ds → GoesOn (Completes Read n cs) (Completes Wants n ds)
comma_more zero cs ds lt s = absurd (omega (arith, lt))
comma_more (suc n) cs ds lt s = comma n cs ds s

pub close_one : (n m : ℕ) (cs ds : List Symbol) → 0 < n → m ≡ n - 1 → SignText Close cs ds → GoesOn (Completes Read n cs) (Completes Read m ds)
close_one zero m cs ds lt e s = absurd (omega (arith, lt))
close_one (suc n) m cs ds lt e s = subst (λ k. GoesOn (Completes Read (suc n) cs) (Completes Read k ds)) (let z : n ≡ m = omega (arith, e) in z) (close n cs ds s)

pub no_part_more : (n : ℕ) (cs rest : List Symbol) → 0 < n → ((ds : List Symbol) → SignText Comma cs ds → ⊥) → ((ds : List Symbol) → SignText Close cs ds → ⊥) → Completes Read n cs rest → ⊥
no_part_more zero cs rest lt f g h = absurd (omega (arith, lt))
no_part_more (suc n) cs rest lt f g h = no_part n cs rest f g h

-- ---- one after another

pub goes_nowhere : (p : List Symbol → Type 0) → GoesOn p p
goes_nowhere p = record { to = λ rest h. h; from = λ rest h. h }

pub goes_further : (p q r : List Symbol → Type 0) → GoesOn p q → GoesOn q r → GoesOn p r
goes_further p q r a b = record { to = λ rest h. b.to rest (a.to rest h); from = λ rest h. a.from rest (b.from rest h) }

-- nothing is left to complete
pub written_whole : (cs ds : List Symbol) → GoesOn (Completes Wants 0 cs) (Completes Read 0 ds) → (w : Written) × WrittenText cs w ds
written_whole cs ds g = let h = g.from ds refl in (h.0, subst (λ x. WrittenText cs h.0 x) (sym h.3) h.2)

pub written_completes : (cs rest : List Symbol) (w : Written) → WrittenText cs w rest → Completes Wants 0 cs rest
written_completes cs rest w t = (w, rest, t, refl)

-- ---- bytes

pub digit_begins : (b : ℕ) (cs : List Symbol) → is_digit b ≡ true → BeginsDigit (symbol b ∷ cs)
digit_begins b cs e = by (symbol b) (of_symbol b)
  where
    by : (s : Symbol) → IsOf b s → BeginsDigit (s ∷ cs)
    by (Digit d) h = tt
    by Blank h = absurd (grind (arith, nat_tests))
    by Open h = absurd (grind (arith, nat_tests))
    by Close h = absurd (grind (arith, nat_tests))
    by Comma h = absurd (grind (arith, nat_tests))
    by Equals h = absurd (grind (arith, nat_tests))
    by Question h = absurd (grind (arith, nat_tests))
    by Minus h = absurd (grind (arith, nat_tests))
    by Underscore h = absurd (grind (arith, nat_tests))
    by (Small c) h = absurd (grind (arith, nat_tests))
    by (Capital c) h = absurd (grind (arith, nat_tests))
    by Other h = absurd (let x = sym h.digit ∙ e in cc)

begins_digit : (b : ℕ) (s : Symbol) (cs : List Symbol) → IsOf b s → BeginsDigit (s ∷ cs) → is_digit b ≡ true
begins_digit b (Digit d) cs h k = h.0
begins_digit b s cs h k = absurd k

begins_capital : (b : ℕ) (cs : List Symbol) → is_upper b ≡ true → BeginsCapital (symbol b ∷ cs)
begins_capital b cs e = by (symbol b) (of_symbol b)
  where
    by : (s : Symbol) → IsOf b s → BeginsCapital (s ∷ cs)
    by (Capital c) h = tt
    by Blank h = absurd (grind (arith, nat_tests))
    by Open h = absurd (grind (arith, nat_tests))
    by Close h = absurd (grind (arith, nat_tests))
    by Comma h = absurd (grind (arith, nat_tests))
    by Equals h = absurd (grind (arith, nat_tests))
    by Question h = absurd (grind (arith, nat_tests))
    by Minus h = absurd (grind (arith, nat_tests))
    by Underscore h = absurd (grind (arith, nat_tests))
    by (Digit d) h = absurd (grind (arith, nat_tests))
    by (Small c) h = absurd (grind (arith, nat_tests))
    by Other h = absurd (grind (arith, nat_tests))

capital_byte : (b : ℕ) (s : Symbol) (cs : List Symbol) → IsOf b s → BeginsCapital (s ∷ cs) → is_upper b ≡ true
capital_byte b (Capital c) cs h k = h.1
capital_byte b s cs h k = absurd k

-- ---- digits

-- up to place i there are digits
pub record AreDigits (bytes : List ℕ) (at i : ℕ) : Type 0 where
  pub within : at ≤ i
  pub after' : after_number (symbols (drop at bytes)) ≡ after_number (symbols (drop i bytes))
  pub some : at < i → BeginsDigit (symbols (drop at bytes))

pub digits_start : (bytes : List ℕ) (at : ℕ) → AreDigits bytes at at
digits_start bytes at = record { within = omega arith; after' = refl; some = λ lt. absurd (omega (arith, lt)) }

after_digit : (cs ds : List Symbol) → (s : Symbol) → cs ≡ s ∷ ds → BeginsDigit cs → after_number cs ≡ after_number ds
after_digit cs ds (Digit d) e b = ap after_number e
after_digit cs ds s e b = absurd (subst BeginsDigit e b)

pub digits_on : (bytes : List ℕ) (at i : ℕ) → i < length bytes → is_digit (get_or bytes i 0) ≡ true → AreDigits bytes at i → AreDigits bytes at (i + 1)
digits_on bytes at i lt e r =
    let le = r.within in
    let more = symbols_more bytes i lt in
    let here : BeginsDigit (symbols (drop i bytes)) = subst BeginsDigit (sym more) (digit_begins (get_or bytes i 0) (symbols (drop (i + 1) bytes)) e) in
    record {
      within = omega (arith, le);
      after' = r.after' ∙ after_digit (symbols (drop i bytes)) (symbols (drop (i + 1) bytes)) (symbol (get_or bytes i 0)) more here;
      some = λ lt1. first_digit bytes at i le here r.some;
    }
  where
    first_digit : (bytes : List ℕ) (at i : ℕ) → at ≤ i → BeginsDigit (symbols (drop i bytes)) → (at < i → BeginsDigit (symbols (drop at bytes))) → BeginsDigit (symbols (drop at bytes))
    first_digit bytes at i le here some = by (at == i) refl
      where
        by : (t : Bool) → (at == i) ≡ t → BeginsDigit (symbols (drop at bytes))
        by true e = subst (λ k. BeginsDigit (symbols (drop k bytes))) (let z : i ≡ at = grind (arith, nat_tests) in z) here
        by false e = some (grind (arith, nat_tests))

not_digit : (bytes : List ℕ) (i : ℕ) → i < length bytes → is_digit (get_or bytes i 0) ≡ false → BeginsDigit (symbols (drop i bytes)) → ⊥
not_digit bytes i lt e b =
    let x = sym (begins_digit (get_or bytes i 0) (symbol (get_or bytes i 0)) (symbols (drop (i + 1) bytes)) (of_symbol (get_or bytes i 0)) (subst BeginsDigit (symbols_more bytes i lt) b)) ∙ e in absurd cc

after_none : (cs : List Symbol) → (BeginsDigit cs → ⊥) → after_number cs ≡ cs
after_none [] never = refl
after_none (Digit d ∷ cs) never = absurd (never tt)
after_none (c ∷ cs) never = refl

no_digit_left : (bytes : List ℕ) (i : ℕ) → length bytes ≤ i → BeginsDigit (symbols (drop i bytes)) → ⊥
no_digit_left bytes i le b = subst BeginsDigit (no_symbols bytes i le) b

-- the digits from a place on end at place i
pub record AreRead (bytes : List ℕ) (at i : ℕ) : Type 0 where
  pub following : after_number (symbols (drop at bytes)) ≡ symbols (drop i bytes)
  pub none : i ≡ at → BeginsDigit (symbols (drop at bytes)) → ⊥

digits_over : (bytes : List ℕ) (at i : ℕ) → AreDigits bytes at i → (BeginsDigit (symbols (drop i bytes)) → ⊥) → AreRead bytes at i
digits_over bytes at i r never = record {
  following = r.after' ∙ after_none (symbols (drop i bytes)) never;
  none = λ e. subst (λ k. BeginsDigit (symbols (drop k bytes)) → ⊥) e never;
}

pub digits_end : (bytes : List ℕ) (at i : ℕ) → i < length bytes → is_digit (get_or bytes i 0) ≡ false → AreDigits bytes at i → AreRead bytes at i
digits_end bytes at i lt e r = digits_over bytes at i r (not_digit bytes i lt e)

pub digits_all : (bytes : List ℕ) (at i : ℕ) → length bytes ≤ i → AreDigits bytes at i → AreRead bytes at i
digits_all bytes at i le r = digits_over bytes at i r (no_digit_left bytes i le)

-- ---- what is at a place

word_some : (cs : List Symbol) (n : ℕ) (xs : List ℕ) → BeginsCapital cs → word cs ≡ take n xs → 0 < n
word_some (Capital c ∷ cs) zero xs b e = let x : c ∷ word cs ≡ [] = e in absurd cc
word_some (Capital c ∷ cs) (suc n) xs b e = omega arith
word_some cs n xs b e = absurd b

pub capital_there : (bytes : List ℕ) (i : ℕ) → i < length bytes → is_upper (get_or bytes i 0) ≡ true → BeginsCapital (symbols (drop i bytes))
capital_there bytes i lt e = subst BeginsCapital (sym (symbols_more bytes i lt)) (begins_capital (get_or bytes i 0) (symbols (drop (i + 1) bytes)) e)

pub name_on : (bytes : List ℕ) (start end : ℕ) → start ≤ end → BeginsCapital (symbols (drop start bytes)) → word (symbols (drop start bytes)) ≡ take (end - start) (drop start bytes) → start < end
name_on bytes start end le b e = let lt = word_some (symbols (drop start bytes)) (end - start) (drop start bytes) b e in omega (arith, le, lt)

pub no_capital : (bytes : List ℕ) (i : ℕ) → i < length bytes → is_upper (get_or bytes i 0) ≡ false → BeginsCapital (symbols (drop i bytes)) → ⊥
no_capital bytes i lt e b =
    let x = sym (capital_byte (get_or bytes i 0) (symbol (get_or bytes i 0)) (symbols (drop (i + 1) bytes)) (of_symbol (get_or bytes i 0)) (subst BeginsCapital (symbols_more bytes i lt) b)) ∙ e in absurd cc

pub nothing_there : (bytes : List ℕ) (i n : ℕ) (cs rest : List Symbol) → skip cs ≡ symbols (drop i bytes) → length bytes ≤ i → Completes Wants n cs rest → ⊥
nothing_there bytes i n cs rest skips le h = no_value n cs [] rest (subst (λ x. IsUnsigned x []) (sym (skips ∙ no_symbols bytes i le)) refl) (λ b. b) (λ b. subst BeginsCapital (skips ∙ no_symbols bytes i le) b) h

minus_symbol : (b : ℕ) → b ≡ 45 → symbol b ≡ Minus
minus_symbol b e = ap symbol e

pub after_minus : (bytes : List ℕ) (i : ℕ) → i < length bytes → get_or bytes i 0 ≡ 45 → IsUnsigned (symbols (drop i bytes)) (symbols (drop (i + 1) bytes))
after_minus bytes i lt e = subst (λ x. IsUnsigned x (symbols (drop (i + 1) bytes))) (sym (symbols_more bytes i lt ∙ ap (λ s. s ∷ symbols (drop (i + 1) bytes)) (minus_symbol (get_or bytes i 0) e))) refl

unsigned_is : (b : ℕ) (s : Symbol) (cs : List Symbol) → IsOf b s → (b ≡ 45 → ⊥) → IsUnsigned (s ∷ cs) (s ∷ cs)
unsigned_is b Minus cs h never = absurd (never h)
unsigned_is b s cs h never = refl

pub without_minus : (bytes : List ℕ) (i : ℕ) → i < length bytes → (get_or bytes i 0 ≡ 45 → ⊥) → IsUnsigned (symbols (drop i bytes)) (symbols (drop i bytes))
without_minus bytes i lt never = subst (λ x. IsUnsigned x x) (sym (symbols_more bytes i lt)) (unsigned_is (get_or bytes i 0) (symbol (get_or bytes i 0)) (symbols (drop (i + 1) bytes)) (of_symbol (get_or bytes i 0)) never)
