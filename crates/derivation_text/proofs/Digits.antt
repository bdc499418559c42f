-- Numbers as digits: the digits that go on with a number, and the bytes after them.
use Rattle.std.proofs.Common.{◌≡◌, ◌⊎◌, inl, inr, ℕ, zero, suc, ◌+◌, ◌-◌, ◌*◌, ◌/◌, ◌%◌, ◌^◌, ◌<◌, ◌≤◌, List, [], ◌∷◌, ◌++◌, Bool, true, false, refl, sym, ap, ap₂, ◌∙◌, append_assoc, arith}
use Rattle.std.specs.Prelude.{◌&&◌, ◌==◌, nat_lt, nat_le, if◌then◌else◌}
use Rattle.std.specs.Fmt.{decimal}
use Rattle.std.proofs.lemmas.Bool.{le-leb, leb-true, leb-false, ltb-false, lt-ltb, le-ltb, eqb-true, eq-eqb, ne_eqb}
use Rattle.std.proofs.lemmas.Fmt.{decimal_by_steps, decimal_step, decimal_digit}
use Rattle.fip_language.specs.Character.{is_digit}
use Rattle.derivation_text.specs.ProofText.{GREATEST}
use Rattle.derivation_text.specs.Machine.{reaches, begins}
pub use Rattle.fip_language.proofs.Facts.{and_both as and_true, both_true as true_and, if_false as if_not, if_true as if_yes, true_or_false as either}

-- ---- tests

pub digit_is : (d : ℕ) → d < 10 → is_digit (48 + d) ≡ true
digit_is d h = true_and (nat_le 48 (48 + d)) (nat_le (48 + d) 57) (le-leb 48 (48 + d) (omega arith)) (le-leb (48 + d) 57 (omega arith))

pub digit_range : (b : ℕ) → is_digit b ≡ true → (48 ≤ b) × (b ≤ 57)
digit_range b h =
    let p = and_true (nat_le 48 b) (nat_le b 57) h in
    (leb-true 48 b p.0, leb-true b 57 p.1)

-- ---- digits after a number

abbrev pub number_on : ℕ → List ℕ → ℕ
number_on n [] = n
number_on n (b ∷ bs) = if is_digit b then number_on (10 * n + (b - 48)) bs else n

abbrev pub after_digits : List ℕ → List ℕ
after_digits [] = []
after_digits (b ∷ bs) = if is_digit b then after_digits bs else b ∷ bs

-- The digits of bs make m of n, and then more comes. After a leading zero there is none.
abbrev pub Continues : ℕ → List ℕ → ℕ → List ℕ → Type 0
Continues n bs m more = (number_on n bs ≡ m) × (after_digits bs ≡ more) × (n ≡ 0 → bs ≡ more)

-- no digit comes
abbrev pub IsBreak : List ℕ → Type 0
IsBreak [] = Unit {0}
IsBreak (b ∷ bs) = is_digit b ≡ false

pub number_digit : (n b : ℕ) (bs : List ℕ) → is_digit b ≡ true → number_on n (b ∷ bs) ≡ number_on (10 * n + (b - 48)) bs
number_digit n b bs h = if_yes (is_digit b) (number_on (10 * n + (b - 48)) bs) n h

pub after_digit : (b : ℕ) (bs : List ℕ) → is_digit b ≡ true → after_digits (b ∷ bs) ≡ after_digits bs
after_digit b bs h = if_yes (is_digit b) (after_digits bs) (b ∷ bs) h

pub number_break : (n : ℕ) (bs : List ℕ) → IsBreak bs → number_on n bs ≡ n
number_break n [] h = refl
number_break n (b ∷ bs) h = if_not (is_digit b) (number_on (10 * n + (b - 48)) bs) n h

pub after_break : (bs : List ℕ) → IsBreak bs → after_digits bs ≡ bs
after_break [] h = refl
after_break (b ∷ bs) h = if_not (is_digit b) (after_digits bs) (b ∷ bs) h

number_grows : (n : ℕ) (bs : List ℕ) → n ≤ number_on n bs
number_grows n [] = omega arith
number_grows n (b ∷ bs) = elim (either (is_digit b)) as (λ _. n ≤ number_on n (b ∷ bs)) [
  | inl h ↦ (let e = number_digit n b bs h in let g = number_grows (10 * n + (b - 48)) bs in omega (arith, e, g))
  | inr h ↦ (let e = number_break n (b ∷ bs) h in omega (arith, e))
]

-- ---- the text of a number

-- a text whose first digit is d, and which then goes on to n
record IsRead (n : ℕ) (ds more : List ℕ) : Type 0 where
  first : ℕ
  tail : List ℕ
  text : ds ++ more ≡ (48 + first) ∷ tail
  small : first < 10
  value : number_on first tail ≡ number_on n more
  after : after_digits tail ≡ after_digits more
  alone : first ≡ 0 → (n ≡ 0) × (tail ≡ more)

decimal_read : (n : ℕ) → n < 2 ^ 64 → (more : List ℕ) → IsRead n (decimal n) more
decimal_read = decimal_by_steps (λ n ds. (more : List ℕ) → IsRead n ds more)
    (λ n lt more. record {
      first = n;
      tail = more;
      text = refl;
      small = lt;
      value = refl;
      after = refl;
      alone = λ z. (z, refl);
    })
    (λ n ds big ih more.
    let p : IsRead (n / 10) ds ((48 + n % 10) ∷ more) = ih ((48 + n % 10) ∷ more) in
    let d = digit_is (n % 10) (omega arith) in
    let e : 10 * (n / 10) + ((48 + n % 10) - 48) ≡ n = omega arith in
    record {
      first = p.first;
      tail = p.tail;
      text = append_assoc ds ((48 + n % 10) ∷ []) more ∙ p.text;
      small = p.small;
      value = p.value ∙ number_digit (n / 10) (48 + n % 10) more d ∙ ap (λ m. number_on m more) e;
      after = p.after ∙ after_digit (48 + n % 10) more d;
      alone = λ z. (let t = p.alone z in let q = t.0 in absurd (omega arith));
    })

-- The text of a number is its first digit and the digits that go on with it.
pub decimal_digits : (m : ℕ) (more : List ℕ) → m < 2 ^ 64 → IsBreak more → (d : ℕ) × (bs : List ℕ) × (decimal m ++ more ≡ (48 + d) ∷ bs) × (d < 10) × Continues d bs m more
decimal_digits m more lt break =
    let p = decimal_read m lt more in
    (p.first, p.tail, p.text, p.small, (p.value ∙ number_break m more break, p.after ∙ after_break more break, λ z. (p.alone z).1))

decimal_longer : (n c : ℕ) (bs : List ℕ) → 0 < n → 10 * n + (c - 48) < 2 ^ 64 → is_digit c ≡ true → decimal (10 * n + (c - 48)) ++ bs ≡ decimal n ++ (c ∷ bs)
decimal_longer n c bs pos lt h =
    let r = digit_range c h in
    let r0 = r.0 in
    let r1 = r.1 in
    let m = 10 * n + (c - 48) in
    let q : m / 10 ≡ n = omega arith in
    let u : 48 + m % 10 ≡ c = omega arith in
    ap (λ ds. ds ++ bs) (decimal_step m (omega arith) lt ∙ ap₂ (λ k d. decimal k ++ (d ∷ [])) q u) ∙ append_assoc (decimal n) (c ∷ []) bs

decimal_on : (n : ℕ) (bs : List ℕ) → 0 < n → number_on n bs < 2 ^ 64 → decimal n ++ bs ≡ decimal (number_on n bs) ++ after_digits bs
decimal_on n [] pos lt = refl
decimal_on n (b ∷ bs) pos lt = elim (either (is_digit b)) as (λ _. decimal n ++ (b ∷ bs) ≡ decimal (number_on n (b ∷ bs)) ++ after_digits (b ∷ bs)) [
  | inl h ↦ (
      let e = number_digit n b bs h in
      let f = after_digit b bs h in
      let g = number_grows (10 * n + (b - 48)) bs in
      let less : number_on (10 * n + (b - 48)) bs < 2 ^ 64 = omega (arith, e) in
      sym (decimal_longer n b bs pos (omega arith) h) ∙ decimal_on (10 * n + (b - 48)) bs (omega arith) less
      ∙ ap₂ (λ m ds. decimal m ++ ds) (sym e) (sym f))
  | inr h ↦ ap₂ (λ m ds. decimal m ++ ds) (sym (number_break n (b ∷ bs) h)) (sym (after_break (b ∷ bs) h))
]

-- and these digits are the text of that number
pub digits_decimal : (d : ℕ) (bs : List ℕ) (m : ℕ) (more : List ℕ) → d < 10 → m < 2 ^ 64 → IsBreak more → Continues d bs m more → (48 + d) ∷ bs ≡ decimal m ++ more
digits_decimal zero bs m more small lt break h =
    let same : bs ≡ more = h.2 refl in
    let e : m ≡ 0 = sym h.0 ∙ ap (number_on 0) same ∙ number_break 0 more break in
    ap (λ ds. 48 ∷ ds) same ∙ ap (λ ds. ds ++ more) (sym (decimal_digit 0 (omega arith)) ∙ ap decimal (sym e))
digits_decimal (suc d) bs m more small lt break h =
    let v = h.0 in
    ap (λ ds. ds ++ bs) (sym (decimal_digit (suc d) small)) ∙ decimal_on (suc d) bs (omega arith) (omega arith)
    ∙ ap₂ (λ m ds. decimal m ++ ds) h.0 h.1

-- ---- which numbers can be reached

-- k digits more at the least
abbrev tens : ℕ → ℕ → ℕ
tens zero low = low
tens (suc k) low = tens k (10 * low)

-- what is reached with one digit less is looked at again
abbrev Rest : ℕ → ℕ → ℕ → ℕ → ℕ → Bool
Rest k low high least most = reaches k (10 * low) (10 * high + 9) least most

abbrev Reached : ℕ → Type 0
Reached k = (low high v least most : ℕ) (bs : List ℕ) → low ≤ v → v ≤ high → least ≤ number_on v bs → number_on v bs ≤ most → most < tens k low → reaches k low high least most ≡ true

reached_further : (k : ℕ) → Reached k → (low high v least most : ℕ) (bs : List ℕ) → low ≤ v → v ≤ high → least ≤ number_on v bs → number_on v bs ≤ most → most < tens (suc k) low → high < least → Rest k low high least most ≡ true
reached_further k ih low high v least most [] l h a b t lt = absurd (omega arith)
reached_further k ih low high v least most (c ∷ bs) l h a b t lt = elim (either (is_digit c)) as (λ _. Rest k low high least most ≡ true) [
  | inl e ↦ (
      let q = number_digit v c bs e in
      let r = digit_range c e in
      let r0 = r.0 in
      let r1 = r.1 in
      ih (10 * low) (10 * high + 9) (10 * v + (c - 48)) least most bs (omega arith) (omega arith) (omega (arith, q)) (omega (arith, q)) t)
  | inr e ↦ (let q = number_break v (c ∷ bs) e in absurd (omega (arith, q)))
]

reached : (k : ℕ) → Reached k
unfolding reaches
reached zero low high v least most bs l h a b t = let g = number_grows v bs in absurd (omega arith)
reached (suc k) low high v least most bs l h a b t =
    let g = number_grows v bs in
    if_not (nat_lt most low) false (if nat_le least high then true else Rest k low high least most) (le-ltb most low (omega arith))
    ∙ elim (either (nat_le least high)) as (λ _. (if nat_le least high then true else Rest k low high least most) ≡ true) [
      | inl e ↦ if_yes (nat_le least high) true (Rest k low high least most) e
      | inr e ↦ if_not (nat_le least high) true (Rest k low high least most) e
          ∙ reached_further k (reached k) low high v least most bs l h a b t (leb-false least high e)
    ]

pub begins_zero : (least most : ℕ) → begins 0 least most ≡ (least == 0)
unfolding begins
begins_zero least most = refl

pub begins_more : (n least most : ℕ) → 0 < n → begins n least most ≡ (nat_le least most && reaches 10 n n least most)
unfolding begins
begins_more n least most pos = if_not (n == 0) (least == 0) (nat_le least most && reaches 10 n n least most) (ne_eqb n 0 (λ e. omega arith))

-- A number that a text goes on to can be reached.
pub continues_begins : (n : ℕ) (bs : List ℕ) (m : ℕ) (more : List ℕ) (least most : ℕ) → IsBreak more → Continues n bs m more → least ≤ m → m ≤ most → most ≤ GREATEST → begins n least most ≡ true
continues_begins zero bs m more least most break h a b small =
    let e : m ≡ 0 = sym h.0 ∙ ap (number_on 0) (h.2 refl) ∙ number_break 0 more break in
    begins_zero least most ∙ eq-eqb least 0 (omega (arith, e))
continues_begins (suc n) bs m more least most break h a b small =
    let v = h.0 in
    begins_more (suc n) least most (omega arith) ∙ true_and (nat_le least most) (reaches 10 (suc n) (suc n) least most) (le-leb least most (omega arith))
    (reached 10 (suc n) (suc n) (suc n) least most bs (omega arith) (omega arith) (omega arith) (omega arith) (omega arith))

-- digits with which n goes on to m, whatever comes after them
abbrev Extends : ℕ → List ℕ → ℕ → Type 0
Extends n ds m = (more : List ℕ) → (number_on n (ds ++ more) ≡ number_on m more) × (after_digits (ds ++ more) ≡ after_digits more)

extends_longer : (n : ℕ) (ds : List ℕ) (v : ℕ) → Extends n ds (v / 10) → Extends n (ds ++ ((48 + v % 10) ∷ [])) v
extends_longer n ds v h more =
    let p = h ((48 + v % 10) ∷ more) in
    let a = append_assoc ds ((48 + v % 10) ∷ []) more in
    let d = digit_is (v % 10) (omega arith) in
    let e : 10 * (v / 10) + ((48 + v % 10) - 48) ≡ v = omega arith in (
      ap (number_on n) a ∙ p.0 ∙ number_digit (v / 10) (48 + v % 10) more d ∙ ap (λ m. number_on m more) e,
      ap after_digits a ∙ p.1 ∙ after_digit (48 + v % 10) more d,
    )

abbrev Found : ℕ → ℕ → ℕ → Type 0
Found n least most = (m : ℕ) × (least ≤ m) × (m ≤ most) × ((ds : List ℕ) × Extends n ds m)

abbrev Reaching : ℕ → ℕ → Type 0
Reaching n k = (low high least most : ℕ) → reaches k low high least most ≡ true → least ≤ most → ((v : ℕ) → low ≤ v → v ≤ high → (ds : List ℕ) × Extends n ds v) → low ≤ high → Found n least most

reaching_within : (n k : ℕ) → Reaching n k → (low high least most : ℕ) → (if nat_le least high then true else Rest k low high least most) ≡ true → least ≤ most → ((v : ℕ) → low ≤ v → v ≤ high → (ds : List ℕ) × Extends n ds v) → low ≤ high → low ≤ most → Found n least most
reaching_within n k ih low high least most g le r lh lm = elim (either (nat_le least high)) as (λ _. Found n least most) [
  | inl e ↦ (
      let lt = leb-true least high e in
      elim (either (nat_le least low)) as (λ _. Found n least most) [
        | inl q ↦ (low, leb-true least low q, lm, r low (omega arith) lh)
        | inr q ↦ (let l = leb-false least low q in (least, omega arith, le, r least (omega arith) lt))
      ])
  | inr e ↦ ih (10 * low) (10 * high + 9) least most (sym (if_not (nat_le least high) true (Rest k low high least most) e) ∙ g) le
      (λ v a b. let p = r (v / 10) (omega arith) (omega arith) in (p.0 ++ ((48 + v % 10) ∷ []), extends_longer n p.0 v p.1))
      (omega arith)
]

reaching : (n k : ℕ) → Reaching n k
unfolding reaches
reaching n zero low high least most h le r lh = cc
reaching n (suc k) low high least most h le r lh = elim (either (nat_lt most low)) as (λ _. Found n least most) [
  | inl e ↦ (let f = if_yes (nat_lt most low) false (if nat_le least high then true else Rest k low high least most) e in cc)
  | inr e ↦ reaching_within n k (reaching n k) low high least most
      (sym (if_not (nat_lt most low) false (if nat_le least high then true else Rest k low high least most) e) ∙ h) le r lh (ltb-false most low e)
]

-- A number that can be reached is one that a text goes on to.
pub begins_continues : (n least most : ℕ) → begins n least most ≡ true → (m : ℕ) × (least ≤ m) × (m ≤ most) × ((ds : List ℕ) × ((more : List ℕ) → IsBreak more → Continues n (ds ++ more) m more))
begins_continues zero least most h = (0, (let e = eqb-true least 0 (sym (begins_zero least most) ∙ h) in omega arith), omega arith, ([], λ more b. (number_break 0 more b, after_break more b, λ _. refl)))
begins_continues (suc n) least most h =
    let p = and_true (nat_le least most) (reaches 10 (suc n) (suc n) least most) (sym (begins_more (suc n) least most (omega arith)) ∙ h) in
    let f = reaching (suc n) 10 (suc n) (suc n) least most p.1 (leb-true least most p.0)
    (λ v a b. let e : suc n ≡ v = omega arith in ([], λ more. (ap (λ v. number_on v more) e, refl))) (omega arith) in
    let x = f.3 in (
      f.0,
      f.1,
      f.2,
      (
        x.0,
        λ more b. (
          (x.1 more).0 ∙ number_break f.0 more b,
          (x.1 more).1 ∙ after_break more b,
          λ z. absurd (omega (arith, z)),
        ),
      ),
    )

-- A number past the greatest isn't reached.
pub begins_far : (n least most : ℕ) → 0 < n → most < n → begins n least most ≡ false
unfolding reaches
begins_far zero least most pos lt = absurd (omega arith)
begins_far (suc n) least most pos lt = elim (either (nat_le least most)) as (λ _. begins (suc n) least most ≡ false) [
  | inl e ↦ begins_more (suc n) least most pos ∙ ap (λ c. c && reaches 10 (suc n) (suc n) least most) e ∙ if_yes (nat_lt most (suc n)) false (if nat_le least (suc n) then true else Rest 9 (suc n) (suc n) least most) (lt-ltb most (suc n) lt)
  | inr e ↦ begins_more (suc n) least most pos ∙ ap (λ c. c && reaches 10 (suc n) (suc n) least most) e
]
