-- The rules on ownership, each said of a variable and its scope. A path takes one of two alternatives; what comes first
-- in Then comes earlier. `i` is the number of the instance.
--
-- In let y = f(x); g(x, y), where f and g own what they are given, the second x breaks E50: the first one is earlier on
-- a path through both. In match! b { True -> f(x); False -> g(x) } no path goes through both, so nothing is broken.
use Rattle.std.specs.Prelude.{◌≡◌, ℕ, suc, ◌<◌, ◌≤◌, ◌⊎◌, Bool, true, false, ◌==◌, ◌||◌}
use Rattle.fip_trees.specs.fip_language.declared.rule.Rule.{Rule}
use Rattle.fip_trees.specs.fip_language.declared.rule.Rule.TheVariants.{E50, E51, E52, E53, E54}
use Rattle.fip_rules.specs.declared.scope.Ownership.{Ownership}
use Rattle.fip_rules.specs.declared.scope.Ownership.TheVariants.{Scalar, Borrowed, Owned}
use Rattle.fip_rules.specs.Marks.{Mark, Breach}
use Rattle.fip_rules.specs.Shape.{Shape, Skip, Use, Lend, Fault, Then, Either, Bound, Scope}

abbrev pub broken : Rule → ℕ → Mark → Breach
broken r i m = record { rule = r; instance = i; mark = m }

-- whether x has an owning occurrence
abbrev pub owns : ℕ → Shape → Bool
owns x Skip = false
owns x (Use m) = m.id == x
owns x (Lend m) = false
owns x (Fault r m) = false
owns x (Then a b) = owns x a || owns x b
owns x (Either a b) = owns x a || owns x b
owns x (Bound a) = owns x a
owns x (Scope k m a) = owns x a

-- v says that rule r is broken at an owning occurrence of its variable
abbrev pub Uses : Rule → ℕ → Shape → Breach → Type 0
Uses r i Skip v = ⊥
Uses r i (Use m) v = v ≡ broken r i m
Uses r i (Lend m) v = ⊥
Uses r i (Fault q m) v = ⊥
Uses r i (Then a b) v = Uses r i a v ⊎ Uses r i b v
Uses r i (Either a b) v = Uses r i a v ⊎ Uses r i b v
Uses r i (Bound a) v = Uses r i a v
Uses r i (Scope k m a) v = Uses r i a v

-- the same of a borrowing one
abbrev pub Lends : Rule → ℕ → Shape → Breach → Type 0
Lends r i Skip v = ⊥
Lends r i (Use m) v = ⊥
Lends r i (Lend m) v = v ≡ broken r i m
Lends r i (Fault q m) v = ⊥
Lends r i (Then a b) v = Lends r i a v ⊎ Lends r i b v
Lends r i (Either a b) v = Lends r i a v ⊎ Lends r i b v
Lends r i (Bound a) v = Lends r i a v
Lends r i (Scope k m a) v = Lends r i a v

-- E50: an owning occurrence with an earlier owning one of its variable on a path through both
abbrev pub Again : ℕ → Shape → Breach → Type 0
Again i Skip v = ⊥
Again i (Use m) v = ⊥
Again i (Lend m) v = ⊥
Again i (Fault q m) v = ⊥
Again i (Then a b) v = Again i a v ⊎ (Again i b v ⊎ ((owns v.mark.id a ≡ true) × Uses E50 i b v))
Again i (Either a b) v = Again i a v ⊎ Again i b v
Again i (Bound a) v = Again i a v
Again i (Scope k m a) v = Again i a v

-- E51: a borrowing occurrence with an earlier owning one
abbrev pub Late : ℕ → Shape → Breach → Type 0
Late i Skip v = ⊥
Late i (Use m) v = ⊥
Late i (Lend m) v = ⊥
Late i (Fault q m) v = ⊥
Late i (Then a b) v = Late i a v ⊎ (Late i b v ⊎ ((owns v.mark.id a ≡ true) × Lends E51 i b v))
Late i (Either a b) v = Late i a v ⊎ Late i b v
Late i (Bound a) v = Late i a v
Late i (Scope k m a) v = Late i a v

-- E52: some path has no owning occurrence of x
abbrev pub Misses : ℕ → Shape → Type 0
Misses x Skip = Unit {0}
Misses x (Use m) = (m.id == x) ≡ false
Misses x (Lend m) = Unit {0}
Misses x (Fault q m) = Unit {0}
Misses x (Then a b) = Misses x a × Misses x b
Misses x (Either a b) = Misses x a ⊎ Misses x b
Misses x (Bound a) = Misses x a
Misses x (Scope k m a) = Misses x a

-- E54: a borrowing occurrence that is in no bound expression without an owning occurrence of its variable
abbrev pub Exposed : ℕ → Shape → Breach → Type 0
Exposed i Skip v = ⊥
Exposed i (Use m) v = ⊥
Exposed i (Lend m) v = v ≡ broken E54 i m
Exposed i (Fault q m) v = ⊥
Exposed i (Then a b) v = Exposed i a v ⊎ Exposed i b v
Exposed i (Either a b) v = Exposed i a v ⊎ Exposed i b v
Exposed i (Bound a) v = (owns v.mark.id a ≡ true) × Exposed i a v
Exposed i (Scope k m a) v = Exposed i a v

-- What is wrong with a variable in its scope, by how it is bound. E53: a borrowed one is used up.
abbrev pub Wrong : ℕ → Ownership → Shape → Breach → Type 0
Wrong i Scalar e v = ⊥
Wrong i Borrowed e v = Uses E53 i e v
Wrong i Owned e v = Again i e v ⊎ (Late i e v ⊎ Exposed i e v)

-- E52: in a fip instance an owned variable isn't used up on some path
abbrev pub Unused : ℕ → Bool → Ownership → Mark → Shape → Breach → Type 0
Unused i fip Owned m e v = (fip ≡ true) × (Misses m.id e × (v ≡ broken E52 i m))
Unused i fip Borrowed m e v = ⊥
Unused i fip Scalar m e v = ⊥

-- What breaks a rule in a body whose parameters are its outermost scopes. A call of a weaker kind (E55) and a
-- constructor in a borrowed position (E54) are faults by themselves.
abbrev pub Breaks : ℕ → Bool → Shape → Breach → Type 0
Breaks i fip Skip v = ⊥
Breaks i fip (Use m) v = ⊥
Breaks i fip (Lend m) v = ⊥
Breaks i fip (Fault r m) v = v ≡ broken r i m
Breaks i fip (Then a b) v = Breaks i fip a v ⊎ Breaks i fip b v
Breaks i fip (Either a b) v = Breaks i fip a v ⊎ Breaks i fip b v
Breaks i fip (Bound a) v = Breaks i fip a v
Breaks i fip (Scope k m a) v = (Breaks i fip a v ⊎ ((m.id ≡ v.mark.id) × Wrong i k a v)) ⊎ Unused i fip k m a v

-- What variables are known by rises from n on in the order of their binders, and each occurrence is of one before it.
abbrev pub next : ℕ → Shape → ℕ
next n Skip = n
next n (Use m) = n
next n (Lend m) = n
next n (Fault q m) = n
next n (Then a b) = next (next n a) b
next n (Either a b) = next (next n a) b
next n (Bound a) = next n a
next n (Scope k m a) = next (suc m.id) a

abbrev pub Ordered : ℕ → Shape → Type 0
Ordered n Skip = Unit {0}
Ordered n (Use m) = m.id < n
Ordered n (Lend m) = m.id < n
Ordered n (Fault q m) = Unit {0}
Ordered n (Then a b) = Ordered n a × Ordered (next n a) b
Ordered n (Either a b) = Ordered n a × Ordered (next n a) b
Ordered n (Bound a) = Ordered n a
Ordered n (Scope k m a) = (n ≤ m.id) × Ordered (suc m.id) a
