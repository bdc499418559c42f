-- What a value is at its root: an int or the number of a constructor, with children. So ints and nodes are one case.
use Rattle.std.specs.Prelude.{◌≡◌, ℕ, zero, suc, Bool, false, ◌==◌, List, [], ◌∷◌, Some, slice_get, FitsSigned}
use Rattle.std.specs.Int.{w64}
use Rattle.fip_base.specs.fip_language.Values.{Value, Int, Node, Values, End}
use Rattle.fip_base.specs.fip_language.Table.{Shape, Table, shapes, HasType}
use Rattle.fip_base.specs.fip_language.Matching.{same_int}
use Rattle.match_knowledge.specs.declared.heads.Head.{Head}
use Rattle.match_knowledge.specs.declared.heads.Head.TheVariants.{Number, Tag}

abbrev pub head : Value → Head
head (Int i) = Number i
head (Node c vs) = Tag c

abbrev pub children : Value → Values
children (Int i) = End
children (Node c vs) = vs

abbrev pub same_head : Head → Head → Bool
same_head (Number i) (Number j) = same_int i j
same_head (Number i) (Tag c) = false
same_head (Tag c) (Number i) = false
same_head (Tag c) (Tag d) = c == d

-- A value of the type may have the head, and then its children have these types.
abbrev pub IsHead : Table → ℕ → Head → List ℕ → Type 0
IsHead tb zero (Number i) fs = FitsSigned w64 i × (fs ≡ [])
IsHead tb zero (Tag c) fs = ⊥
IsHead tb (suc t) (Number i) fs = ⊥
IsHead tb (suc t) (Tag c) fs = (s : Shape) × (slice_get (shapes tb t) c ≡ Some s) × (s.fields ≡ fs)

-- each of these types has a value
abbrev pub AllHaveValues : Table → List ℕ → Type 0
AllHaveValues tb [] = Unit {0}
AllHaveValues tb (k ∷ ks) = ((v : Value) × HasType tb k v) × AllHaveValues tb ks

-- the fields of each constructor have values, and so each type with a constructor has one
abbrev pub IsTidy : Table → Type 0
IsTidy tb = (t c : ℕ) (s : Shape) → slice_get (shapes tb t) c ≡ Some s → AllHaveValues tb s.fields
