-- Words on lists: what holds of every item, whether something is an item, and how often a name occurs.
use Rattle.std.specs.Prelude.{◌≡◌, ◌⊎◌, ℕ, ◌+◌, List, [], ◌∷◌, if◌then◌else◌}
use Rattle.fip_language.specs.Core.{Name}
use Rattle.fip_language.specs.Declarations.{same_name}

abbrev pub Every : {A : Type 0} → (A → Type 0) → List A → Type 0
Every P [] = Unit {0}
Every P (x ∷ xs) = P x × Every P xs

-- an item of the list
abbrev pub Among : {A : Type 0} → A → List A → Type 0
Among x [] = ⊥
Among x (y ∷ ys) = (x ≡ y) ⊎ Among x ys

abbrev pub one_if_named : Name → Name → ℕ
one_if_named name n = if same_name name n then 1 else 0

-- how often a name occurs in a list
abbrev pub times : Name → List Name → ℕ
times name [] = 0
times name (n ∷ ns) = one_if_named name n + times name ns
