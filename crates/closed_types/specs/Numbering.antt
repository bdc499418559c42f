-- What is numbered: the least set that holds the roots and, with each member, all that comes next from it. A member's
-- number is its place in the list: the roots first, then what comes next from the first, from the second and so on,
-- each where it stands first.
-- With the roots a, b, where c, a come next from a and d, c from b, it is a, b, c, d.
use Rattle.std.specs.Prelude.{◌≡◌, ℕ, suc, ◌<◌, Bool, List, [], ◌∷◌, ◌++◌, length, if◌then◌else◌}
use Rattle.std.specs.List.{list_any}
use Rattle.fip_base.specs.fip_language.Every.{Among}
use Rattle.fip_base.specs.fip_language.Mentions.{all_of}

-- adds x after the others, unless it is there
abbrev pub with_new : {A : Type 0} → (A → A → Bool) → List A → A → List A
with_new same xs x = if list_any (λ y. same x y) xs then xs else xs ++ x ∷ []

abbrev pub with_all : {A : Type 0} → (A → A → Bool) → List A → List A → List A
with_all same xs [] = xs
with_all same xs (y ∷ ys) = with_all same (with_new same xs y) ys

-- each item where it stands first
abbrev pub firsts : {A : Type 0} → (A → A → Bool) → List A → List A
firsts same xs = with_all same [] xs

-- z comes next from the last of the list, that from the one before it, and so on back to x
abbrev pub Way : {A : Type 0} → (A → List A) → A → List A → A → Type 0
Way next x [] z = x ≡ z
Way next x (y ∷ ys) z = Among y (next x) × Way next y ys z

pub record Reached {A : Type 0} (roots : List A) (next : A → List A) (x : A) : Type 0 where
  pub root : A
  pub among : Among root roots
  pub over : List A
  pub way : Way next root over x

pub record AreNumbered {A : Type 0} (same : A → A → Bool) (roots : List A) (next : A → List A) (xs : List A) : Type 0
  where
    pub reached : (x : A) → Among x xs → Reached roots next x
    pub ordered : xs ≡ firsts same (roots ++ all_of next xs)

-- no item stands twice
abbrev pub Differ : {A : Type 0} → List A → Type 0
Differ [] = Unit {0}
Differ (x ∷ xs) = (Among x xs → ⊥) × Differ xs

-- more than n are reached
pub record AreMore {A : Type 0} (n : ℕ) (roots : List A) (next : A → List A) : Type 0 where
  pub some : List A
  pub differ : Differ some
  pub reached : (x : A) → Among x some → Reached roots next x
  pub many : n < length some

-- what each of a list gives, by its number, from i on
abbrev pub numbered_of : {A V : Type 0} → (ℕ → A → List V) → ℕ → List A → List V
numbered_of f i [] = []
numbered_of f i (x ∷ xs) = f i x ++ numbered_of f (suc i) xs
