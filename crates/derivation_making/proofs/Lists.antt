-- Lists of variables: those that pass a test, and how often a binder or a number is among them.
use Rattle.std.proofs.Common.{◌≡◌, ℕ, zero, ◌<◌, ◌≤◌, ◌+◌, ◌⊎◌, inl, inr, refl, sym, ap, subst, ◌∙◌, List, [], ◌∷◌, ◌++◌, Some, Bool, true, false, not, arith}
use Rattle.std.specs.Prelude.{◌==◌, ◌&&◌, if◌then◌else◌}
use Rattle.std.proofs.lemmas.Bool.Decides.{nat_tests}
use Rattle.ownership_agreement.specs.fip_rules.World.{World}
use Rattle.ownership_agreement.specs.ownership_calculus.Terms.{one, given, has}
use Rattle.derivation_check.specs.Owned.{Rising}
use Rattle.derivation_check.specs.Scopes.{Known, known}
use Rattle.derivation_making.specs.Made.{those, all_those, numbers}
use Rattle.type_check.proofs.fip_language.Facts.{and_both as both_true, true_or_false}
pub use Rattle.type_check.proofs.fip_language.Facts.{and_both as both_are, both_true as and_true, equal_itself as number_self, same_number, true_and_false as not_both, true_or_false as either, unequal_apart as other_number}
pub use Rattle.ownership_agreement.proofs.Amounts.{given_append}

abbrev pub flag : Bool → ℕ
flag true = 1
flag false = 0

-- how many have the binder x
abbrev pub tally : ℕ → List Known → ℕ
tally x [] = 0
tally x (v ∷ vs) = one v.binder x + tally x vs

-- each is what its binder means in the scope, and not scalar
abbrev pub AreKnown : World → List Known → List Known → Type 0
AreKnown w vs [] = Unit {0}
AreKnown w vs (u ∷ us) = (known vs u.binder ≡ Some u) × (w.scalar u.ty ≡ false) × AreKnown w vs us

abbrev pub EachOf : (ℕ → Type 0) → List Known → Type 0
EachOf P [] = Unit {0}
EachOf P (u ∷ us) = P u.binder × EachOf P us

-- ---- pointwise

one_here : (x : ℕ) → one x x ≡ 1
one_here x = grind (arith, nat_tests)

pub one_true : (x y : ℕ) → (x == y) ≡ true → one x y ≡ 1
one_true x y h = rw (h) refl

pub one_false : (x y : ℕ) → (x == y) ≡ false → one x y ≡ 0
one_false x y h = rw (h) refl

-- ---- each

pub each_of : (P : ℕ → Type 0) (us : List Known) → ((x : ℕ) → 1 ≤ tally x us → P x) → EachOf P us
each_of P [] f = tt
each_of P (u ∷ us) f =
    (f u.binder (let e = one_here u.binder in omega arith), each_of P us (λ x h. f x (omega arith)))

pub at_each : (P : ℕ → Type 0) (x : ℕ) (us : List Known) → EachOf P us → 1 ≤ tally x us → P x
at_each P x [] h l = absurd (omega arith)
at_each P x (u ∷ us) h l = elim (true_or_false (u.binder == x)) [
  | inl e ↦ subst P (same_number u.binder x e) h.0
  | inr e ↦ at_each P x us h.1 (let z = one_false u.binder x e in omega arith)
]

-- ---- those that pass a test

known_one : (w : World) (vs : List Known) (b : Bool) (u : Known) (us : List Known) → known vs u.binder ≡ Some u → w.scalar u.ty ≡ false → AreKnown w vs us → AreKnown w vs (if b then u ∷ us else us)
known_one w vs true u us h g r = (h, g, r)
known_one w vs false u us h g r = r

pub known_those : (w : World) (vs : List Known) (f : ℕ → Bool) (us : List Known) → AreKnown w vs us → AreKnown w vs (those f us)
known_those w vs f [] h = tt
known_those w vs f (u ∷ us) h = known_one w vs (f u.binder) u (those f us) h.0 h.1 (known_those w vs f us h.2)

pub known_append : (w : World) (vs us ts : List Known) → AreKnown w vs us → AreKnown w vs ts → AreKnown w vs (us ++ ts)
known_append w vs [] ts h g = g
known_append w vs (u ∷ us) ts h g = (h.0, h.1, known_append w vs us ts h.2 g)

tally_one : (b c : Bool) (u : Known) (us : List Known) (x n : ℕ) → ((u.binder == x) ≡ true → b ≡ c) → tally x us ≡ (if c then n else 0) → tally x (if b then u ∷ us else us) ≡ (if c then one u.binder x + n else 0)
tally_one true true u us x n f e = ap (λ (m : ℕ). one u.binder x + m) e
tally_one false false u us x n f e = e
tally_one true false u us x n f e = elim (true_or_false (u.binder == x)) [
  | inl g ↦ absurd (let z = f g in cc)
  | inr g ↦ let z = one_false u.binder x g in omega arith
]
tally_one false true u us x n f e = elim (true_or_false (u.binder == x)) [
  | inl g ↦ absurd (let z = f g in cc)
  | inr g ↦ let z = one_false u.binder x g in omega arith
]

pub tally_those : (f : ℕ → Bool) (us : List Known) (x : ℕ) → tally x (those f us) ≡ (if f x then tally x us else 0)
tally_those f [] x = no_tally (f x)
  where
    no_tally : (b : Bool) → zero ≡ (if b then 0 else 0)
    no_tally true = refl
    no_tally false = refl
tally_those f (u ∷ us) x = tally_one (f u.binder) (f x) u (those f us) x (tally x us) (λ e. ap f (same_number u.binder x e)) (tally_those f us x)

pub tally_less : (f : ℕ → Bool) (us : List Known) (x : ℕ) → tally x (those f us) ≤ tally x us
tally_less f us x = let e = tally_those f us x in less (f x) (tally x (those f us)) (tally x us) e
  where
    less : (b : Bool) (m n : ℕ) → m ≡ (if b then n else 0) → m ≤ n
    less true m n e = omega arith
    less false m n e = omega arith

pub tally_append : (us ts : List Known) (x : ℕ) → tally x (us ++ ts) ≡ tally x us + tally x ts
tally_append [] ts x = omega arith
tally_append (u ∷ us) ts x = let h = tally_append us ts x in omega arith

pub none_those : (f : ℕ → Bool) (us : List Known) → EachOf (λ x. f x ≡ false) us → those f us ≡ []
none_those f [] h = refl
none_those f (u ∷ us) h = let a = h.0 in rw (a) (none_those f us h.1)

pub never_those : (us : List Known) → those (λ x. false) us ≡ []
never_those [] = refl
never_those (u ∷ us) = never_those us

pub always_those : (us : List Known) → those (λ x. true) us ≡ us
always_those [] = refl
always_those (u ∷ us) = ap (λ (ts : List Known). u ∷ ts) (always_those us)

pub same_those : (f g : ℕ → Bool) (us : List Known) → EachOf (λ x. f x ≡ g x) us → those f us ≡ those g us
same_those f g [] h = refl
same_those f g (u ∷ us) h = one_same (f u.binder) (g u.binder) h.0 (same_those f g us h.1)
  where
    one_same : (b c : Bool) → b ≡ c → those f us ≡ those g us → (if b then u ∷ those f us else those f us) ≡ (if c then u ∷ those g us else those g us)
    one_same b c e h = cc

pub all_are : (f : ℕ → Bool) (us : List Known) → all_those f us ≡ true → those f us ≡ us
all_are f [] h = refl
all_are f (u ∷ us) h = let e = both_true (f u.binder) (all_those f us) h in let a = e.0 in rw (a) (ap (λ (ts : List Known). u ∷ ts) (all_are f us e.1))

pub each_all : (f : ℕ → Bool) (us : List Known) → EachOf (λ x. f x ≡ true) us → all_those f us ≡ true
each_all f [] h = refl
each_all f (u ∷ us) h = and_true (f u.binder) (all_those f us) h.0 (each_all f us h.1)

-- ---- their numbers

pub numbers_append : (us ts : List Known) → numbers (us ++ ts) ≡ numbers us ++ numbers ts
numbers_append [] ts = refl
numbers_append (u ∷ us) ts = ap (λ (ns : List ℕ). u.number ∷ ns) (numbers_append us ts)

split_one : (a b c : Bool) (u : Known) (fs gs hs : List Known) (y : ℕ) → flag a + flag b ≡ flag c → given y (numbers fs) + given y (numbers gs) ≡ given y (numbers hs) → given y (numbers (if a then u ∷ fs else fs)) + given y (numbers (if b then u ∷ gs else gs)) ≡ given y (numbers (if c then u ∷ hs else hs))
split_one true true true u fs gs hs y e h = absurd (omega arith)
split_one true true false u fs gs hs y e h = absurd (omega arith)
split_one true false true u fs gs hs y e h = omega arith
split_one true false false u fs gs hs y e h = absurd (omega arith)
split_one false true true u fs gs hs y e h = omega arith
split_one false true false u fs gs hs y e h = absurd (omega arith)
split_one false false true u fs gs hs y e h = absurd (omega arith)
split_one false false false u fs gs hs y e h = omega arith

-- each passes just one of two tests, where it passes the third
pub given_split : (f g h : ℕ → Bool) (us : List Known) (y : ℕ) → EachOf (λ x. flag (f x) + flag (g x) ≡ flag (h x)) us → given y (numbers (those f us)) + given y (numbers (those g us)) ≡ given y (numbers (those h us))
given_split f g h [] y e = omega arith
given_split f g h (u ∷ us) y e = split_one (f u.binder) (g u.binder) (h u.binder) u (those f us) (those g us) (those h us) y e.0 (given_split f g h us y e.1)

flag_not : (b : Bool) → flag b + flag (not b) ≡ 1
flag_not true = omega arith
flag_not false = omega arith

each_flag : (f : ℕ → Bool) (us : List Known) → EachOf (λ x. flag (f x) + flag (not (f x)) ≡ flag true) us
each_flag f [] = tt
each_flag f (u ∷ us) = (flag_not (f u.binder), each_flag f us)

pub given_parts : (f : ℕ → Bool) (us : List Known) (y : ℕ) → given y (numbers (those f us)) + given y (numbers (those (λ x. not (f x)) us)) ≡ given y (numbers us)
given_parts f us y = given_split f (λ x. not (f x)) (λ x. true) us y (each_flag f us) ∙ ap (λ (ts : List Known). given y (numbers ts)) (always_those us)

pub given_less : (f : ℕ → Bool) (us : List Known) (y : ℕ) → given y (numbers (those f us)) ≤ given y (numbers us)
given_less f us y = let e = given_parts f us y in omega arith

-- ---- rising numbers

pub rising_later : (m n d : ℕ) (xs : List ℕ) → Rising n d xs → m ≤ n → Rising m d xs
rising_later m n d [] h l = tt
rising_later m n d (x ∷ xs) h l = (let a = h.0 in omega arith, h.1, h.2)

pub rising_up : (n d e : ℕ) (xs : List ℕ) → Rising n d xs → d ≤ e → Rising n e xs
rising_up n d e [] h l = tt
rising_up n d e (x ∷ xs) h l = (h.0, let a = h.1 in omega arith, rising_up (x + 1) d e xs h.2 l)

rising_one : (b : Bool) (n d : ℕ) (u : Known) (us : List Known) → n ≤ u.number → u.number < d → Rising (u.number + 1) d (numbers us) → Rising n d (numbers (if b then u ∷ us else us))
rising_one true n d u us h g r = (h, g, r)
rising_one false n d u us h g r = rising_later n (u.number + 1) d (numbers us) r (omega arith)

pub rising_those : (f : ℕ → Bool) (n d : ℕ) (us : List Known) → Rising n d (numbers us) → Rising n d (numbers (those f us))
rising_those f n d [] h = tt
rising_those f n d (u ∷ us) h = rising_one (f u.binder) n d u (those f us) h.0 h.1 (rising_those f (u.number + 1) d us h.2)

pub rising_append : (n d e : ℕ) (xs ys : List ℕ) → Rising n d xs → Rising d e ys → n ≤ d → d ≤ e → Rising n e (xs ++ ys)
rising_append n d e [] ys h g l m = rising_later n d e ys g l
rising_append n d e (x ∷ xs) ys h g l m = (h.0, let a = h.1 in omega arith, rising_append (x + 1) d e xs ys h.2 g (let a = h.1 in omega arith) m)

given_before : (n d x : ℕ) (xs : List ℕ) → Rising n d xs → x < n → given x xs ≡ 0
given_before n d x [] h l = refl
given_before n d x (y ∷ ys) h l = let a = h.0 in let r = given_before (y + 1) d x ys h.2 (omega arith) in let o = apart y x (omega arith) in omega arith
  where
    apart : (y x : ℕ) → x < y → one y x ≡ 0
    apart y x l = grind (arith, nat_tests)

pub given_most : (n d y : ℕ) (xs : List ℕ) → Rising n d xs → given y xs ≤ 1
given_most n d y [] h = omega arith
given_most n d y (x ∷ xs) h = elim (true_or_false (x == y)) [
  | inl e ↦ let o = one_true x y e in let s = same_number x y e in let r = given_before (x + 1) d y xs h.2 (omega arith) in omega arith
  | inr e ↦ let o = one_false x y e in let r = given_most (x + 1) d y xs h.2 in omega arith
]

pub has_none : (xs : List ℕ) (y : ℕ) → given y xs ≡ 0 → has xs y ≡ false
has_none [] y h = refl
has_none (x ∷ xs) y h = elim (true_or_false (x == y)) [
  | inl e ↦ let o = one_true x y e in absurd (omega arith)
  | inr e ↦ rw (e) (has_none xs y (omega arith))
]

pub has_some : (xs : List ℕ) (y : ℕ) → 1 ≤ given y xs → has xs y ≡ true
has_some [] y h = absurd (omega arith)
has_some (x ∷ xs) y h = elim (true_or_false (x == y)) [
  | inl e ↦ rw (e) refl
  | inr e ↦ rw (e) (has_some xs y (let o = one_false x y e in omega arith))
]

-- ---- one variable among them

some_same : (u v : Known) → Some u ≡ Some v → u ≡ v
some_same u v e = cc

pub number_there : (w : World) (vs us : List Known) (x : ℕ) (v : Known) → AreKnown w vs us → known vs x ≡ Some v → 1 ≤ tally x us → 1 ≤ given v.number (numbers us)
number_there w vs [] x v h k l = absurd (omega arith)
number_there w vs (u ∷ us) x v h k l = elim (true_or_false (u.binder == x)) [
  | inl e ↦
      let s : u ≡ v = some_same u v (sym h.0 ∙ ap (known vs) (same_number u.binder x e) ∙ k) in
      let n = ap (λ (t : Known). t.number) s in
      let o = one_here v.number in
      let g : one u.number v.number ≡ one v.number v.number = ap (λ m. one m v.number) n in omega arith
  | inr e ↦ let o = one_false u.binder x e in let r = number_there w vs us x v h.2 k (omega arith) in omega arith
]

pub none_found : (x : ℕ) (us : List Known) → tally x us ≡ 0 → those (λ y. x == y) us ≡ []
none_found x [] h = refl
none_found x (u ∷ us) h = elim (true_or_false (x == u.binder)) [
  | inl e ↦ let s = same_number x u.binder e in let g : one u.binder x ≡ one u.binder u.binder = ap (one u.binder) s in let o = one_here u.binder in absurd (omega arith)
  | inr e ↦ rw (e) (none_found x us (omega arith))
]

pub find_one : (w : World) (vs us : List Known) (x : ℕ) (v : Known) → AreKnown w vs us → known vs x ≡ Some v → tally x us ≡ 1 → those (λ y. x == y) us ≡ v ∷ []
find_one w vs [] x v h k l = absurd (omega arith)
find_one w vs (u ∷ us) x v h k l = elim (true_or_false (x == u.binder)) [
  | inl e ↦
      let s = same_number x u.binder e in
      let g : one u.binder x ≡ one u.binder u.binder = ap (one u.binder) s in
      let o = one_here u.binder in
      let t : u ≡ v = some_same u v (sym h.0 ∙ ap (known vs) (sym s) ∙ k) in
      let r : those (λ y. x == y) us ≡ [] = none_found x us (omega arith) in
      rw (e) (ap (λ (ts : List Known). u ∷ ts) r ∙ ap (λ (z : Known). z ∷ []) t)
  | inr e ↦
      let f : one u.binder x ≡ 0 = back x u.binder e in
      rw (e) (find_one w vs us x v h.2 k (omega arith))
]
  where
    back : (x y : ℕ) → (x == y) ≡ false → one y x ≡ 0
    back x y h = grind (arith, nat_tests)
