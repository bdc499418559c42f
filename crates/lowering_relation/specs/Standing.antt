-- It serves the proof that lowered code is sound: where the label maps of a function are, and that none of them reports
-- of a tree that it has no constructor.
-- In a function of seven instructions maps may occur at 3 and 5, and none at 0 or at 7.
use Rattle.std.specs.Prelude.{◌≡◌, ℕ, ◌<◌, ◌==◌, Bool, true, ◌&&◌, not, List, [], ◌∷◌, length}
use Rattle.code_rules.specs.cell_code.declared.kind.Kind.{Kind}
use Rattle.code_rules.specs.cell_code.declared.kind.Kind.TheVariants as K
use Rattle.code_rules.specs.cell_code.Plain.{LabelMap, PlainFunction}

-- the places of maps rise, above `low` and below n
abbrev pub AreRising : ℕ → ℕ → List LabelMap → Type 0
AreRising n low [] = Unit {0}
AreRising n low (m ∷ ms) = (low < m.at) × (m.at < n) × AreRising n m.at ms

-- a tree has one of some constructors
abbrev pub is_open : Kind → Bool
is_open K.Gone = true
is_open (K.Scalar t) = true
is_open (K.Owned t s) = not (length s == 0)
is_open (K.Lent t s root from) = not (length s == 0)
is_open (K.Credit n) = true

abbrev pub are_open : List Kind → Bool
are_open [] = true
are_open (k ∷ ks) = is_open k && are_open ks

-- no map reports of a tree that it has no constructor
abbrev pub AreOpen : List LabelMap → Type 0
AreOpen [] = Unit {0}
AreOpen (m ∷ ms) = (are_open m.kinds ≡ true) × AreOpen ms

-- the maps of f are after its first instruction, in order, and report some constructor of each tree
pub record MapsStand (f : PlainFunction) : Type 0 where
  pub rising : AreRising (length f.instrs) 0 f.labels
  pub opens : AreOpen f.labels
