-- It serves the proofs on lowered code: the positions of a match and their registers. Patterns share them: the fields
-- of a position are those of each constructor that it may have.
use Rattle.std.specs.Prelude.{ℕ, List, [], ◌∷◌, ◌++◌}
use Rattle.tree_semantics.specs.fip_language.Every.{Among}

mutual
  pub data Spot : Type 0 where
    At : (register : ℕ) (fields : Spots) → Spot

  pub data Spots : Type 0 where
    NoSpots : Spots
    MoreSpots : (s : Spot) (ss : Spots) → Spots

abbrev pub register : Spot → ℕ
register (At r fs) = r

abbrev pub fields : Spot → Spots
fields (At r fs) = fs

-- the registers below a position, and those of positions and below them
abbrev mutual
  pub below : Spot → List ℕ
  below (At r fs) = all_in fs

  pub all_in : Spots → List ℕ
  all_in NoSpots = []
  all_in (MoreSpots s ss) = register s ∷ (below s ++ all_in ss)

-- the registers of the positions alone
abbrev pub registers : Spots → List ℕ
registers NoSpots = []
registers (MoreSpots s ss) = register s ∷ registers ss

-- no register is in both
abbrev pub Apart : List ℕ → List ℕ → Type 0
Apart xs ys = (x : ℕ) → Among x xs → Among x ys → ⊥

-- registers below a position differ from one another
abbrev mutual
  pub Differ : Spot → Type 0
  Differ (At r fs) = AllDiffer fs

  pub AllDiffer : Spots → Type 0
  AllDiffer NoSpots = Unit {0}
  AllDiffer (MoreSpots s ss) =
      (Among (register s) (below s) → ⊥) × (Among (register s) (all_in ss) → ⊥) × Apart (below s) (all_in ss)
      × Differ s × AllDiffer ss
