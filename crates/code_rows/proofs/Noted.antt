-- What was noted is the least of what there is.
use Rattle.std.proofs.Common.{◌≡◌, ◌⊎◌, inl, inr, ℕ, ◌<◌, ◌≤◌, Bool, true, false, List, [], ◌∷◌, Option, Some, None, if◌then◌else◌, refl, sym, ap, ◌∙◌, true≢false, arith}
use Rattle.std.specs.Prelude.{◌==◌, nat_lt}
use Rattle.std.proofs.lemmas.Bool.{ltb-true, ltb-false, eqb-true, eqb-false, cases_order}
use Rattle.code_rules.specs.declared.rule.SoundRule.{SoundRule}
use Rattle.code_rules.specs.Breaks.{digit, IsBefore}
use Rattle.code_rows.specs.declared.least.Violation.{Violation}
use Rattle.code_rows.specs.Noting.{broken, precedes, better, better_if, noted_unless, noted_all, is_before, InKept, IsLeastOf, Answers}

abbrev Before : Violation → Violation → Type 0
Before v w = IsBefore v.function v.at v.rule w.function w.at w.rule

-- of two numbers, neither less nor equal
above : (a b : ℕ) → b ≤ a → (a ≡ b → ⊥) → b < a
above a b l n = either (cases_order a b)
  where
    either : (a ≡ b) ⊎ ((a < b) ⊎ (b < a)) → b < a
    either (inl h) = absurd (n h)
    either (inr (inl h)) = absurd (omega (arith, h, l))
    either (inr (inr h)) = h

pub precedes_true : (v w : Violation) → precedes v w ≡ true → Before v w
precedes_true v w e = at (v.function == w.function) refl e
  where
    same_at : (b : Bool) → (v.at == w.at) ≡ b → v.function ≡ w.function → (if b then nat_lt (digit v.rule) (digit w.rule) else nat_lt v.at w.at) ≡ true → Before v w
    same_at true g f h = (let l = ltb-true (digit v.rule) (digit w.rule) h in inr (f, inr (eqb-true v.at w.at g, omega (arith, l))))
    same_at false g f h = inr (f, inl (ltb-true v.at w.at h))

    at : (b : Bool) → (v.function == w.function) ≡ b → (if b then (if v.at == w.at then nat_lt (digit v.rule) (digit w.rule) else nat_lt v.at w.at) else nat_lt v.function w.function) ≡ true → Before v w
    at true f h = same_at (v.at == w.at) refl (eqb-true v.function w.function f) h
    at false f h = inl (ltb-true v.function w.function h)

pub precedes_false : (v w : Violation) → precedes v w ≡ false → Before w v
precedes_false v w e = at (v.function == w.function) refl e
  where
    same_at : (b : Bool) → (v.at == w.at) ≡ b → v.function ≡ w.function → (if b then nat_lt (digit v.rule) (digit w.rule) else nat_lt v.at w.at) ≡ false → Before w v
    same_at true g f h = (let l = ltb-false (digit v.rule) (digit w.rule) h in inr (sym f, inr (sym (eqb-true v.at w.at g), l)))
    same_at false g f h = (let l = ltb-false v.at w.at h in let n = eqb-false v.at w.at g in inr (sym f, inl (above v.at w.at l n)))

    at : (b : Bool) → (v.function == w.function) ≡ b → (if b then (if v.at == w.at then nat_lt (digit v.rule) (digit w.rule) else nat_lt v.at w.at) else nat_lt v.function w.function) ≡ false → Before w v
    at true f h = same_at (v.at == w.at) refl (eqb-true v.function w.function f) h
    at false f h = (let l = ltb-false v.function w.function h in let n = eqb-false v.function w.function f in inl (above v.function w.function l n))

pub before_itself : (n i : ℕ) (r : SoundRule) → IsBefore n i r n i r
before_itself n i r = inr (refl, inr (refl, omega arith))

pub before_then : (n i : ℕ) (r : SoundRule) (m j : ℕ) (s : SoundRule) (k l : ℕ) (t : SoundRule) → IsBefore n i r m j s → IsBefore m j s k l t → IsBefore n i r k l t
before_then n i r m j s k l t (inl a) (inl b) = inl (omega (arith, a, b))
before_then n i r m j s k l t (inl a) (inr b) = (let e = b.0 in inl (omega (arith, a, e)))
before_then n i r m j s k l t (inr a) (inl b) = (let e = a.0 in inl (omega (arith, b, e)))
before_then n i r m j s k l t (inr a) (inr b) = inr (a.0 ∙ b.0, within a.1 b.1)
  where
    within : (i < j) ⊎ ((i ≡ j) × (digit r ≤ digit s)) → (j < l) ⊎ ((j ≡ l) × (digit s ≤ digit t)) → (i < l) ⊎ ((i ≡ l) × (digit r ≤ digit t))
    within (inl x) (inl y) = inl (omega (arith, x, y))
    within (inl x) (inr y) = (let e = y.0 in inl (omega (arith, x, e)))
    within (inr x) (inl y) = (let e = x.0 in inl (omega (arith, y, e)))
    within (inr x) (inr y) = (let p = x.1 in let q = y.1 in inr (x.0 ∙ y.0, omega (arith, p, q)))

-- ---- one more

pub answers_same : (P Q : ℕ → ℕ → SoundRule → Type 0) (o : Option Violation) → ((n i : ℕ) (r : SoundRule) → P n i r → Q n i r) → ((n i : ℕ) (r : SoundRule) → Q n i r → P n i r) → Answers P o → Answers Q o
answers_same P Q None f g a = λ n i r q. a n i r (g n i r q)
answers_same P Q (Some v) f g a = record { broken = f v.function v.at v.rule a.broken; least = λ m j r q. a.least m j r (g m j r q) }

-- these, or this one
abbrev pub Or : (ℕ → ℕ → SoundRule → Type 0) → Violation → ℕ → ℕ → SoundRule → Type 0
Or P v n i r = P n i r ⊎ ((n ≡ v.function) × (i ≡ v.at) × (r ≡ v.rule))

is_itself : (v : Violation) (n i : ℕ) (r : SoundRule) → (n ≡ v.function) × (i ≡ v.at) × (r ≡ v.rule) → IsBefore v.function v.at v.rule n i r
is_itself v n i r e = (let f = e.0 in let g = e.1 in let h = ap digit e.2 in inr (sym f, inr (sym g, omega (arith, h))))

pub answers_better : (P : ℕ → ℕ → SoundRule → Type 0) (o : Option Violation) (v : Violation) → Answers P o → Answers (Or P v) (better o v)
answers_better P None v a = record { broken = inr (refl, refl, refl); least = least }
  where
    least : (m j : ℕ) (r : SoundRule) → Or P v m j r → IsBefore v.function v.at v.rule m j r
    least m j r (inl p) = absurd (a m j r p)
    least m j r (inr e) = is_itself v m j r e
answers_better P (Some w) v a = at (precedes v w) refl
  where
    new : Before v w → IsLeastOf (Or P v) v
    new b = record { broken = inr (refl, refl, refl); least = least }
      where
        least : (m j : ℕ) (r : SoundRule) → Or P v m j r → IsBefore v.function v.at v.rule m j r
        least m j r (inl p) = before_then v.function v.at v.rule w.function w.at w.rule m j r b (a.least m j r p)
        least m j r (inr e) = is_itself v m j r e

    old : Before w v → IsLeastOf (Or P v) w
    old b = record { broken = inl a.broken; least = least }
      where
        least : (m j : ℕ) (r : SoundRule) → Or P v m j r → IsBefore w.function w.at w.rule m j r
        least m j r (inl p) = a.least m j r p
        least m j r (inr e) = before_then w.function w.at w.rule v.function v.at v.rule m j r b (is_itself v m j r e)

    at : (b : Bool) → precedes v w ≡ b → Answers (Or P v) (if b then Some v else Some w)
    at true e = new (precedes_true v w e)
    at false e = old (precedes_false v w e)

-- ---- all that were noted for others

abbrev pub Both : (ℕ → ℕ → SoundRule → Type 0) → (ℕ → ℕ → SoundRule → Type 0) → ℕ → ℕ → SoundRule → Type 0
Both P Q n i r = P n i r ⊎ Q n i r

pub answers_both : (P Q : ℕ → ℕ → SoundRule → Type 0) (o p : Option Violation) → Answers P o → Answers Q p → Answers (Both P Q) (better_if o p)
answers_both P Q o None a b = answers_same P (Both P Q) o (λ n i r x. inl x) back a
  where
    back : (n i : ℕ) (r : SoundRule) → Both P Q n i r → P n i r
    back n i r (inl x) = x
    back n i r (inr y) = absurd (b n i r y)
answers_both P Q None (Some v) a b = record { broken = inr b.broken; least = least }
  where
    least : (m j : ℕ) (r : SoundRule) → Both P Q m j r → IsBefore v.function v.at v.rule m j r
    least m j r (inl x) = absurd (a m j r x)
    least m j r (inr y) = b.least m j r y
answers_both P Q (Some w) (Some v) a b = at (precedes v w) refl
  where
    new : Before v w → IsLeastOf (Both P Q) v
    new e = record { broken = inr b.broken; least = least }
      where
        least : (m j : ℕ) (r : SoundRule) → Both P Q m j r → IsBefore v.function v.at v.rule m j r
        least m j r (inl x) = before_then v.function v.at v.rule w.function w.at w.rule m j r e (a.least m j r x)
        least m j r (inr y) = b.least m j r y

    old : Before w v → IsLeastOf (Both P Q) w
    old e = record { broken = inl a.broken; least = least }
      where
        least : (m j : ℕ) (r : SoundRule) → Both P Q m j r → IsBefore w.function w.at w.rule m j r
        least m j r (inl x) = a.least m j r x
        least m j r (inr y) = before_then w.function w.at w.rule v.function v.at v.rule m j r e (b.least m j r y)

    at : (b : Bool) → precedes v w ≡ b → Answers (Both P Q) (if b then Some v else Some w)
    at true e = new (precedes_true v w e)
    at false e = old (precedes_false v w e)

-- ---- rules of one instruction

abbrev pub OrKept : (ℕ → ℕ → SoundRule → Type 0) → ℕ → ℕ → List (Bool × SoundRule) → ℕ → ℕ → SoundRule → Type 0
OrKept P n i kept m j r = P m j r ⊎ ((m ≡ n) × (j ≡ i) × InKept r kept)

abbrev OrOne : (ℕ → ℕ → SoundRule → Type 0) → ℕ → ℕ → Bool → SoundRule → ℕ → ℕ → SoundRule → Type 0
OrOne P n i b s m j r = P m j r ⊎ ((m ≡ n) × (j ≡ i) × (b ≡ false) × (r ≡ s))

answers_unless : (P : ℕ → ℕ → SoundRule → Type 0) (n i : ℕ) (b : Bool) (s : SoundRule) (o : Option Violation) → Answers P o → Answers (OrOne P n i b s) (noted_unless n i b s o)
answers_unless P n i true s o a = answers_same P (OrOne P n i true s) o (λ m j r x. inl x) back a
  where
    back : (m j : ℕ) (r : SoundRule) → OrOne P n i true s m j r → P m j r
    back m j r (inl x) = x
    back m j r (inr y) = absurd (true≢false y.2)
answers_unless P n i false s o a = answers_same (Or P (broken n i s)) (OrOne P n i false s) (better o (broken n i s)) there back (answers_better P o (broken n i s) a)
  where
    there : (m j : ℕ) (r : SoundRule) → Or P (broken n i s) m j r → OrOne P n i false s m j r
    there m j r (inl x) = inl x
    there m j r (inr e) = inr (e.0, e.1, refl, e.2)

    back : (m j : ℕ) (r : SoundRule) → OrOne P n i false s m j r → Or P (broken n i s) m j r
    back m j r (inl x) = inl x
    back m j r (inr y) = inr (y.0, y.1, y.3)

pub answers_noted : (kept : List (Bool × SoundRule)) (P : ℕ → ℕ → SoundRule → Type 0) (n i : ℕ) (o : Option Violation) → Answers P o → Answers (OrKept P n i kept) (noted_all n i o kept)
answers_noted [] P n i o a = answers_same P (OrKept P n i []) o (λ m j r x. inl x) back a
  where
    back : (m j : ℕ) (r : SoundRule) → OrKept P n i [] m j r → P m j r
    back m j r (inl x) = x
    back m j r (inr y) = absurd y.2
answers_noted (k ∷ kept) P n i o a = answers_same (OrKept (OrOne P n i k.0 k.1) n i kept) (OrKept P n i (k ∷ kept)) (noted_all n i (noted_unless n i k.0 k.1 o) kept) there back (answers_noted kept (OrOne P n i k.0 k.1) n i (noted_unless n i k.0 k.1 o) (answers_unless P n i k.0 k.1 o a))
  where
    there : (m j : ℕ) (r : SoundRule) → OrKept (OrOne P n i k.0 k.1) n i kept m j r → OrKept P n i (k ∷ kept) m j r
    there m j r (inl (inl x)) = inl x
    there m j r (inl (inr e)) = inr (e.0, e.1, inl (e.2, e.3))
    there m j r (inr y) = inr (y.0, y.1, inr y.2)

    back : (m j : ℕ) (r : SoundRule) → OrKept P n i (k ∷ kept) m j r → OrKept (OrOne P n i k.0 k.1) n i kept m j r
    back m j r (inl x) = inl (inl x)
    back m j r (inr y) = first y.0 y.1 y.2
      where
        first : m ≡ n → j ≡ i → ((k.0 ≡ false) × (r ≡ k.1)) ⊎ InKept r kept → OrKept (OrOne P n i k.0 k.1) n i kept m j r
        first e f (inl g) = inl (inr (e, f, g.0, g.1))
        first e f (inr g) = inr (e, f, g)

-- ---- what comes after what was noted needn't be noted

pub not_better : (o : Option Violation) (v : Violation) → is_before o v ≡ true → better o v ≡ o
not_better None v e = absurd (true≢false (sym e))
not_better (Some w) v e = at (precedes v w) e
  where
    at : (b : Bool) → (if b then false else true) ≡ true → (if b then Some v else Some w) ≡ Some w
    at true h = absurd (true≢false (sym h))
    at false h = refl

pub nothing_new : (n i : ℕ) (b : Bool) (r : SoundRule) (o : Option Violation) → is_before o (broken n i r) ≡ true → o ≡ noted_unless n i b r o
nothing_new n i true r o e = refl
nothing_new n i false r o e = sym (not_better o (broken n i r) e)
