-- It serves the proof that lowered code is sound: the credits of a size are a stack. Of credits of size 2 in registers
-- 0 and 4 the one in 4 is used first.
use Rattle.std.specs.Prelude.{◌≡◌, ℕ, List, [], ◌∷◌, ◌++◌, if◌then◌else◌, ◌==◌}
use Rattle.lowering_relation.specs.declared.held.Credit.{Credit}

-- the registers of the credits of a size
abbrev pub of_size : ℕ → List Credit → List ℕ
of_size n [] = []
of_size n (c ∷ cs) = if c.size == n then c.register ∷ of_size n cs else of_size n cs

-- of each size the last ones are gone
abbrev pub LastGone : List Credit → List Credit → Type 0
LastGone cs ds = (n : ℕ) → (gone : List ℕ) × (of_size n cs ≡ of_size n ds ++ gone)
