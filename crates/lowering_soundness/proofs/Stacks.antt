-- The credits of a size are a stack: what lies at its bottom stays.
use Rattle.std.proofs.Common.{◌≡◌, ℕ, zero, suc, ◌+◌, ◌≤◌, Bool, true, false, ◌&&◌, List, [], ◌∷◌, ◌++◌, length, refl, sym, ap, ◌∙◌, arith, append_assoc, append-nil, take, if◌then◌else◌, ◌==◌}
use Rattle.derivation_making.specs.ownership_calculus.Rules.{Fits}
use Rattle.derivation_making.proofs.ownership_calculus.Fit.{fits_le}
use Rattle.lowering_relation.specs.declared.held.Credit.{Credit}
use Rattle.lowering_relation.specs.Credits.{of_size, LastGone}
use Rattle.lowering_soundness.specs.Ties.{one_if, sized, counted}
pub use Rattle.tail_groups.proofs.fip_language.Facts.{take_front}

-- ---- the first of a list

pub take_less : (m n : ℕ) (xs : List ℕ) → m ≤ n → take m (take n xs) ≡ take m xs
take_less zero n xs low = refl
take_less (suc m) zero xs low = absurd (let z : ⊥ = omega (arith, low) in z)
take_less (suc m) (suc n) [] low = refl
take_less (suc m) (suc n) (x ∷ xs) low = ap (λ zs. x ∷ zs) (take_less m n xs (omega (arith, low)))

pub take_lower : (m n : ℕ) (xs ys : List ℕ) → m ≤ n → take n xs ≡ take n ys → take m xs ≡ take m ys
take_lower m n xs ys low e = sym (take_less m n xs low) ∙ (ap (take m) e ∙ take_less m n ys low)

pub take_all : (n : ℕ) (xs : List ℕ) → length xs ≡ n → take n xs ≡ xs
take_all zero [] e = refl
take_all zero (x ∷ xs) e = absurd (let z : ⊥ = omega (arith, e) in z)
take_all (suc n) [] e = absurd (let z : ⊥ = omega (arith, e) in z)
take_all (suc n) (x ∷ xs) e = ap (λ zs. x ∷ zs) (take_all n xs (omega (arith, e)))

-- ---- the registers of the credits of a size

size_both_by : (b : Bool) (r : ℕ) (xs ys : List ℕ) → (if b then r ∷ (xs ++ ys) else xs ++ ys) ≡ (if b then r ∷ xs else xs) ++ ys
size_both_by true r xs ys = refl
size_both_by false r xs ys = refl

pub size_both : (n : ℕ) (cs ds : List Credit) → of_size n (cs ++ ds) ≡ of_size n cs ++ of_size n ds
size_both n [] ds = refl
size_both n (c ∷ cs) ds =
    ap (λ zs. if c.size == n then c.register ∷ zs else zs) (size_both n cs ds)
    ∙ size_both_by (c.size == n) c.register (of_size n cs) (of_size n ds)

length_by : (b : Bool) (r : ℕ) (xs : List ℕ) → length (if b then r ∷ xs else xs) ≡ one_if b + length xs
length_by true r xs = omega arith
length_by false r xs = omega arith

pub length_size : (n : ℕ) (cs : List Credit) → length (of_size n cs) ≡ sized n cs
length_size n [] = refl
length_size n (c ∷ cs) = length_by (c.size == n) c.register (of_size n cs) ∙ ap (λ m. one_if (c.size == n) + m) (length_size n cs)

-- how often a register occurs in a list
abbrev times : ℕ → List ℕ → ℕ
times r [] = 0
times r (q ∷ qs) = one_if (q == r) + times r qs

times_by : (a : Bool) (q r : ℕ) (xs : List ℕ) (n : ℕ) → n ≡ times r xs → one_if (a && (q == r)) + n ≡ times r (if a then q ∷ xs else xs)
times_by true q r xs n e = ap (λ m. one_if (q == r) + m) e
times_by false q r xs n e = let z : one_if (false && (q == r)) + n ≡ n = omega arith in z ∙ e

counted_times : (n r : ℕ) (cs : List Credit) → counted n r cs ≡ times r (of_size n cs)
counted_times n r [] = refl
counted_times n r (c ∷ cs) = times_by (c.size == n) c.register r (of_size n cs) (counted n r cs) (counted_times n r cs)

pub counted_same : (n r : ℕ) (cs ds : List Credit) → of_size n cs ≡ of_size n ds → counted n r cs ≡ counted n r ds
counted_same n r cs ds e = counted_times n r cs ∙ (ap (times r) e ∙ sym (counted_times n r ds))

-- ---- what is gone

pub last_same : (cs ds : List Credit) → ds ≡ cs → LastGone cs ds
last_same cs ds e n = ([], ap (of_size n) (sym e) ∙ sym (append-nil (of_size n ds)))

pub last_on : (as' bs cs : List Credit) → LastGone as' bs → LastGone bs cs → LastGone as' cs
last_on as' bs cs x y n =
    let a = x n in
    let b = y n in
    (b.0 ++ a.0, a.1 ∙ (ap (λ zs. zs ++ a.0) b.1 ∙ append_assoc (of_size n cs) b.0 a.0))

-- the bottom stays where the last ones are gone
pub stack_less : (fip : Bool) (n x : ℕ) (cs ds : List Credit) → (gone : List ℕ) × (of_size n cs ≡ of_size n ds ++ gone) → Fits fip (sized n ds) x → take x (of_size n ds) ≡ take x (of_size n cs)
stack_less fip n x cs ds gone fits =
    let low : x ≤ length (of_size n ds) = (let a = fits_le fip (sized n ds) x fits in let b = length_size n ds in omega (arith, a, b)) in
    sym (ap (take x) gone.1 ∙ take_front x (of_size n ds) gone.0 low)

-- and where others came
pub stack_more : (n x : ℕ) (cs ds : List Credit) → LastGone ds cs → x ≤ sized n cs → take x (of_size n ds) ≡ take x (of_size n cs)
stack_more n x cs ds last low =
    let came = last n in
    ap (take x) came.1 ∙ take_front x (of_size n cs) came.0 (let b = length_size n cs in omega (arith, low, b))

-- in fip there are no others
pub stack_whole : (n x : ℕ) (cs ds : List Credit) → sized n cs ≡ x → sized n ds ≡ x → take x (of_size n cs) ≡ take x (of_size n ds) → of_size n cs ≡ of_size n ds
stack_whole n x cs ds a b e =
    sym (take_all x (of_size n cs) (length_size n cs ∙ a)) ∙ (e ∙ take_all x (of_size n ds) (length_size n ds ∙ b))
