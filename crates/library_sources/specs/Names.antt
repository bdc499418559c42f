-- The names in the library's table.
use Rattle.std.specs.Prelude.{◌≡◌, ◌⊎◌, ℕ, List, codes}

abbrev pub IsTextName : List ℕ → Type 0
IsTextName name = (name ≡ codes "list") ⊎ ((name ≡ codes "tree") ⊎ ((name ≡ codes "rbtree") ⊎ (name ≡ codes "finger")))
