-- It serves the proofs on lowered code: which instructions read the parts of a value into the registers of their
-- positions. Each is read once on a way, and those above it before.
use Rattle.std.specs.Prelude.{◌≡◌, ℕ, suc, Bool, true, false, ◌==◌, List, [], ◌∷◌, ◌++◌, Option, Some, None}
use Rattle.std.specs.Prelude.{if◌then◌else◌}
use Rattle.tree_semantics.specs.fip_language.Values.{Value, Values, End, More}
use Rattle.tree_semantics.specs.fip_language.Every.{Among}
use Rattle.code_rules.specs.cell_code.declared.code.Instr.TheVariants as I
use Rattle.tree_semantics.specs.Contents.{Contents}
use Rattle.match_knowledge.specs.ValueHeads.{children}
use Rattle.match_knowledge.specs.declared.heads.Head.{Head}
use Rattle.match_knowledge.specs.Patterns.{Pattern, Any, Test, Patterns, NoPatterns, MorePatterns}
use Rattle.match_knowledge.specs.Known.{Known, Open, Is, Knowns, NoKnowns, MoreKnowns, compare, is_asks}
use Rattle.lowering_relation.specs.Written.{Written, added}
use Rattle.lowering_relation.specs.Spots.{Spot, At, Spots, NoSpots, MoreSpots, register}

abbrev pub contains : ℕ → List ℕ → Bool
contains d [] = false
contains d (r ∷ rs) = if d == r then true else contains d rs

-- what was written, and the registers that were read
pub record Reading : Type 0 where
  pub written : Written
  pub read : List ℕ

abbrev pub read_if : Bool → Reading → ℕ → ℕ → ℕ → Reading
read_if true x r i d = x
read_if false x r i d = record { written = added x.written (I.Peek d r i); read = x.read ++ d ∷ [] }

-- field i of the cell of register r is read into d, where it isn't read yet
abbrev pub read_one : Reading → ℕ → ℕ → ℕ → Reading
read_one x r i d = read_if (contains d x.read) x r i d

-- the position that a pattern asks for first is read
abbrev mutual
  pub reading : Pattern → Known → Spot → Reading → Reading
  reading Any k s x = x
  reading (Test t h ps) (Open out) s x = x
  reading (Test t h ps) (Is g ks) (At r fs) x = reading_first ps ks fs r 0 x

  pub reading_first : Patterns → Knowns → Spots → ℕ → ℕ → Reading → Reading
  reading_first NoPatterns ks ss r i x = x
  reading_first (MorePatterns p ps) NoKnowns ss r i x = x
  reading_first (MorePatterns p ps) (MoreKnowns k ks) NoSpots r i x = x
  reading_first (MorePatterns p ps) (MoreKnowns k ks) (MoreSpots s ss) r i x =
      if is_asks (compare p k) then reading p k s (read_one x r i (register s))
      else reading_first ps ks ss r (suc i) x

pub record Asked : Type 0 where
  pub register : ℕ
  pub head : Head

-- its register, and the head that is asked for
abbrev mutual
  pub asked : Pattern → Known → Spot → Option Asked
  asked Any k s = None
  asked (Test t h ps) (Open out) s = Some (record { register = register s; head = h })
  asked (Test t h ps) (Is g ks) (At r fs) = asked_first ps ks fs

  pub asked_first : Patterns → Knowns → Spots → Option Asked
  asked_first NoPatterns ks ss = None
  asked_first (MorePatterns p ps) NoKnowns ss = None
  asked_first (MorePatterns p ps) (MoreKnowns k ks) NoSpots = None
  asked_first (MorePatterns p ps) (MoreKnowns k ks) (MoreSpots s ss) =
      if is_asks (compare p k) then asked p k s else asked_first ps ks ss

-- The registers that were read hold the parts of a value.
abbrev mutual
  pub Holds : Spot → Value → Contents → List ℕ → Type 0
  Holds (At r fs) v cs read = AllHold fs (children v) cs read

  pub AllHold : Spots → Values → Contents → List ℕ → Type 0
  AllHold NoSpots vs cs read = Unit {0}
  AllHold (MoreSpots s ss) End cs read = Unit {0}
  AllHold (MoreSpots s ss) (More v vs) cs read =
      (Among (register s) read → cs (register s) ≡ v) × Holds s v cs read × AllHold ss vs cs read

-- what is known of a value has as many children as it has
abbrev mutual
  pub Shaped : Known → Value → Type 0
  Shaped (Open out) v = Unit {0}
  Shaped (Is h ks) v = AllShaped ks (children v)

  pub AllShaped : Knowns → Values → Type 0
  AllShaped NoKnowns End = Unit {0}
  AllShaped NoKnowns (More v vs) = ⊥
  AllShaped (MoreKnowns k ks) End = ⊥
  AllShaped (MoreKnowns k ks) (More v vs) = Shaped k v × AllShaped ks vs
