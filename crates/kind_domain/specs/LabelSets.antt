-- Only what this crate keeps: of which registers the set of constructors is that of a register in a label map, and what
-- of one such set isn't in another, which is found out once.
use Rattle.std.specs.Prelude.{◌≡◌, ℕ, zero, suc, Bool, true, false, List, [], ◌∷◌, Option, Some, None, slice_get}
use Rattle.std.specs.declared.cmp.Ordering.{Ordering}
use Rattle.std.specs.Ordering.{nat_cmp, ordering_then}
use Rattle.cell_code.specs.declared.kind.Kind.{Kind}
use Rattle.cell_code.specs.Plain.{LabelMap}
use Rattle.code_rules.specs.Fitting.{is_subset}
use Rattle.code_rules.specs.Kinds.{at, set_of}
use Rattle.kind_domain.specs.declared.label_sets.Origin.{Origin}
use Rattle.kind_domain.specs.declared.missing.Missing.{Missing}
use Rattle.kind_domain.specs.declared.missing.Missing.TheVariants.{Nothing, One, More}
use Rattle.kind_domain.specs.Rising.{Rise, less, is_one}

-- label maps, and for each register the one of a label map whose set it has, where that is known
pub record LabelSets : Type 0 where
  pub maps : List LabelMap
  pub origins : List (Option Origin)

abbrev pub origin_at : List (Option Origin) → ℕ → Option Origin
origin_at [] q = None
origin_at (o ∷ os) zero = o
origin_at (o ∷ os) (suc q) = origin_at os q

abbrev pub set_in : Option LabelMap → ℕ → List ℕ
set_in None r = []
set_in (Some m) r = set_of (at m.kinds r)

-- the set of a register in a label map; none where there is no such map
abbrev pub set_at : List LabelMap → Origin → List ℕ
set_at maps o = set_in (slice_get maps o.label) o.register

-- Each register has the set that it is said to have.
abbrev pub AreOrigins : List Kind → LabelSets → Type 0
AreOrigins ks s = (q : ℕ) (o : Origin) → origin_at s.origins q ≡ Some o → set_of (at ks q) ≡ set_at s.maps o

-- Nothing is missing once a number is left out.
abbrev pub allows : Missing → Option ℕ → Bool
allows Nothing lacked = true
allows (One c) lacked = is_one lacked c
allows More lacked = false

-- What of a set isn't in another, whatever number is left out.
abbrev pub IsMissing : List ℕ → List ℕ → Missing → Type 0
IsMissing own others m = (lacked : Option ℕ) → is_subset (less lacked own) others ≡ allows m lacked

-- two registers of label maps: label, register, label, register
abbrev pub Pair : Type 0
Pair = ℕ × ℕ × ℕ × ℕ

abbrev pub pair_of : Origin → Origin → Pair
pair_of o p = (o.label, o.register, p.label, p.register)

abbrev pub pair_cmp : Pair → Pair → Ordering
pair_cmp x y = ordering_then (ordering_then (ordering_then (nat_cmp x.0 y.0) (nat_cmp x.1 y.1)) (nat_cmp x.2 y.2))
    (nat_cmp x.3 y.3)

-- What was found out of pairs of sets is so.
abbrev pub AreAnswers : List LabelMap → (Pair → Option Missing) → Type 0
AreAnswers maps answers = (o p : Origin) (m : Missing) → answers (pair_of o p) ≡ Some m →
    IsMissing (set_at maps o) (set_at maps p) m

-- Label maps have sets that rise.
abbrev pub MapsRise : List LabelMap → Type 0
MapsRise maps = (l : ℕ) (m : LabelMap) → slice_get maps l ≡ Some m → (q : ℕ) → Rise (set_of (at m.kinds q))

-- What is known can be compared with the kinds of the label map of a number.
pub record AreComparable (s : LabelSets) (ks ms : List Kind) (label : ℕ) : Type 0 where
  pub origins : AreOrigins ks s
  pub rise : MapsRise s.maps
  pub map : (m : LabelMap) × (slice_get s.maps label ≡ Some m) × (m.kinds ≡ ms)
