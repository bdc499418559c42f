-- Lists of numbers by size, place by place.
use Rattle.std.proofs.Common.{◌≡◌, ℕ, zero, suc, ◌<◌, ◌≤◌, List, [], ◌∷◌, ◌++◌, take, drop, length, set, refl, ap, ◌∙◌, arith, Bool, true, false}
use Rattle.std.specs.Prelude.{◌+◌, ◌==◌, if◌then◌else◌}
use Rattle.std.proofs.lemmas.Bool.Decides.{nat_tests}
use Rattle.fip_trees.specs.Sizes.{number, zeros, is_size, one_more, one_if, by_size}
use Rattle.fip_base.proofs.fip_language.Facts.{set_length as set_long, suc_same, suc_zero, zero_suc}

-- the first k places are done
abbrev pub half : (ℕ → ℕ → ℕ) → ℕ → List ℕ → List ℕ → List ℕ
half f k xs ys = take k (by_size f xs ys) ++ drop k xs

pub half_start : (f : ℕ → ℕ → ℕ) (xs ys : List ℕ) → half f 0 xs ys ≡ xs
half_start f xs ys = refl

pub half_at : (f : ℕ → ℕ → ℕ) (k : ℕ) (xs ys : List ℕ) → k < length xs → length xs ≡ length ys → number (half f k xs ys) k ≡ number xs k
half_at f k [] ys h e = absurd (omega arith)
half_at f k (x ∷ xs) [] h e = absurd (omega arith)
half_at f zero (x ∷ xs) (y ∷ ys) h e = refl
half_at f (suc k) (x ∷ xs) (y ∷ ys) h e = half_at f k xs ys (omega arith) (omega arith)

pub half_step : (f : ℕ → ℕ → ℕ) (k : ℕ) (xs ys : List ℕ) → k < length xs → length xs ≡ length ys → set (half f k xs ys) k (f (number xs k) (number ys k)) ≡ half f (suc k) xs ys
half_step f k [] ys h e = absurd (omega arith)
half_step f k (x ∷ xs) [] h e = absurd (omega arith)
half_step f zero (x ∷ xs) (y ∷ ys) h e = refl
half_step f (suc k) (x ∷ xs) (y ∷ ys) h e = ap (λ (zs : List ℕ). f x y ∷ zs) (half_step f k xs ys (omega arith) (omega arith))

pub half_end : (f : ℕ → ℕ → ℕ) (k : ℕ) (xs ys : List ℕ) → length xs ≤ k → length xs ≡ length ys → half f k xs ys ≡ by_size f xs ys
half_end f zero [] ys h e = refl
half_end f (suc k) [] ys h e = refl
half_end f k (x ∷ xs) [] h e = absurd (omega arith)
half_end f zero (x ∷ xs) (y ∷ ys) h e = absurd (omega arith)
half_end f (suc k) (x ∷ xs) (y ∷ ys) h e = ap (λ (zs : List ℕ). f x y ∷ zs) (half_end f k xs ys (omega arith) (omega arith))

-- the loop's step, and its end
pub half_next : (f : ℕ → ℕ → ℕ) (k : ℕ) (xs ys zs : List ℕ) (v : ℕ) → zs ≡ half f k xs ys → k < 17 → length xs ≡ 17 → length ys ≡ 17 → v ≡ f (number zs k) (number ys k) → set zs k v ≡ half f (k + 1) xs ys
half_next f k xs ys zs v h l m n e =
    let lo : k < length xs = omega arith in
    let long : length xs ≡ length ys = omega arith in
    let g : v ≡ f (number xs k) (number ys k) = e ∙ ap (λ q. f (number q k) (number ys k)) h ∙ ap (λ x. f x (number ys k)) (half_at f k xs ys lo long) in
    let s : suc k ≡ k + 1 = omega arith in
    ap (λ q. set q k v) h ∙ ap (set (half f k xs ys) k) g ∙ half_step f k xs ys lo long ∙ ap (λ n. half f n xs ys) s

pub half_done : (f : ℕ → ℕ → ℕ) (k : ℕ) (xs ys zs as' bs : List ℕ) → zs ≡ half f k xs ys → 17 ≤ k → length xs ≡ 17 → length ys ≡ 17 → xs ≡ as' → ys ≡ bs → zs ≡ by_size f as' bs
half_done f k xs ys zs as' bs h l m n a b = h ∙ half_end f k xs ys (omega arith) (omega arith) ∙ ap (λ q. by_size f q ys) a ∙ ap (by_size f as') b

-- ---- what a list has for a size

pub by_size_at : (f : ℕ → ℕ → ℕ) (k : ℕ) (xs ys : List ℕ) → k < length xs → length xs ≡ length ys → number (by_size f xs ys) k ≡ f (number xs k) (number ys k)
by_size_at f k [] ys h e = absurd (omega arith)
by_size_at f k (x ∷ xs) [] h e = absurd (omega arith)
by_size_at f zero (x ∷ xs) (y ∷ ys) h e = refl
by_size_at f (suc k) (x ∷ xs) (y ∷ ys) h e = by_size_at f k xs ys (omega arith) (omega arith)

pub by_size_long : (f : ℕ → ℕ → ℕ) (xs ys : List ℕ) → length xs ≡ length ys → length (by_size f xs ys) ≡ length xs
by_size_long f [] ys e = refl
by_size_long f (x ∷ xs) [] e = absurd (omega arith)
by_size_long f (x ∷ xs) (y ∷ ys) e = ap suc (by_size_long f xs ys (omega arith))

set_at : (xs : List ℕ) (j k x : ℕ) → j < length xs → number (set xs j x) k ≡ (if j == k then x else number xs k)
set_at [] j k x h = absurd (omega arith)
set_at (y ∷ ys) zero zero x h = refl
set_at (y ∷ ys) zero (suc k) x h = rw (zero_suc k) refl
set_at (y ∷ ys) (suc j) zero x h = rw (suc_zero j) refl
set_at (y ∷ ys) (suc j) (suc k) x h = rw (suc_same j k) (set_at ys j k x (omega arith))

one_long : (b : Bool) (k : ℕ) (xs : List ℕ) → length (if b then set xs k (number xs k + 1) else xs) ≡ length xs
one_long true k xs = set_long xs k (number xs k + 1)
one_long false k xs = refl

pub one_more_long : (k : ℕ) (xs : List ℕ) → length (one_more k xs) ≡ length xs
one_more_long k xs = one_long (is_size k) k xs

one_there : (c : Bool) (j k : ℕ) (xs : List ℕ) → (j == k) ≡ c → (if c then number xs j + 1 else number xs k) ≡ number xs k + one_if c
one_there true j k xs h = let e : j ≡ k = grind (arith, nat_tests) in ap (λ i. number xs i + 1) e
one_there false j k xs h = omega arith

inside : (j n : ℕ) → is_size j ≡ true → n ≡ 17 → j < n
inside j n h e = grind (arith, nat_tests)

outside : (j k : ℕ) → is_size j ≡ false → 0 < k → k < 17 → (j == k) ≡ false
outside j k h a c = grind (arith, nat_tests)

one_of : (b : Bool) (j k : ℕ) (xs : List ℕ) → is_size j ≡ b → 0 < k → k < 17 → length xs ≡ 17 → number (if b then set xs j (number xs j + 1) else xs) k ≡ number xs k + one_if (j == k)
one_of true j k xs h a c e = set_at xs j k (number xs j + 1) (inside j (length xs) h e) ∙ one_there (j == k) j k xs refl
one_of false j k xs h a c e = let z : (j == k) ≡ false = outside j k h a c in rw (z) (omega arith)

pub one_more_at : (j k : ℕ) (xs : List ℕ) → 0 < k → k < 17 → length xs ≡ 17 → number (one_more j xs) k ≡ number xs k + one_if (j == k)
one_more_at j k xs a c e = one_of (is_size j) j k xs refl a c e

pub zeros_at : (n k : ℕ) → number (zeros n) k ≡ 0
zeros_at zero k = refl
zeros_at (suc n) zero = refl
zeros_at (suc n) (suc k) = zeros_at n k
