-- Red-black search trees and pads, as values; search order, colors and black heights; and what an insertion gives.
--
-- The black node 2 with the red node 1 at its left is one: its keys from left to right are 1, 2, its root is black, no red
-- node has a red child, and each path to a Leaf has one black node. An insertion of 3 with a pad gives one with the keys
-- 1, 2 and 3, no pad and True; one of 2 gives it back, with its pad and True. A red root, or 2 at the left of 1, is none.
use Rattle.std.specs.Prelude.{◌≡◌, ◌⊎◌, ◌↔◌, ℕ, zero, suc, ℤ, Bool, true, false, List, [], ◌∷◌, ◌++◌, ◌<ℤ◌, FitsSigned}
use Rattle.std.specs.Int.{w64}
use Rattle.fip_language.specs.Every.{Every, Among}
use Rattle.fip_language.specs.Meaning.{Answer}
use Rattle.fip_language.specs.Values.{Value, Int, Node, Values, End, More}
use Rattle.evaluation_steps.specs.Gives.{GivesLeaving, GivesValue}

pub data Color : Type 0 where
  Red : Color
  Black : Color

pub data Tree : Type 0 where
  Leaf : Tree
  Branch : (c : Color) (l : Tree) (x : ℤ) (r : Tree) → Tree

pub data Pad : Type 0 where
  Pad0 : Pad
  Pad4 : (a b c d : ℤ) → Pad

abbrev pub color_value : Color → Value
color_value Red = Node 0 End
color_value Black = Node 1 End

abbrev pub tree_value : Tree → Value
tree_value Leaf = Node 0 End
tree_value (Branch c l x r) =
    Node 1 (More (color_value c) (More (tree_value l) (More (Int x) (More (tree_value r) End))))

abbrev pub pad_value : Pad → Value
pad_value Pad0 = Node 0 End
pad_value (Pad4 a b c d) = Node 1 (More (Int a) (More (Int b) (More (Int c) (More (Int d) End))))

abbrev pub truth_value : Bool → Value
truth_value false = Node 0 End
truth_value true = Node 1 End

-- the keys from left to right
abbrev pub keys : Tree → List ℤ
keys Leaf = []
keys (Branch c l x r) = keys l ++ (x ∷ keys r)

-- each key is less than all those after it
abbrev pub IsAscending : List ℤ → Type 0
IsAscending [] = Unit {0}
IsAscending (x ∷ xs) = Every (λ y. x <ℤ y) xs × IsAscending xs

abbrev pub IsRootBlack : Tree → Type 0
IsRootBlack Leaf = Unit {0}
IsRootBlack (Branch Black l x r) = Unit {0}
IsRootBlack (Branch Red l x r) = ⊥

-- no red node has a red child
abbrev pub HasNoRedPair : Tree → Type 0
HasNoRedPair Leaf = Unit {0}
HasNoRedPair (Branch Black l x r) = HasNoRedPair l × HasNoRedPair r
HasNoRedPair (Branch Red l x r) = IsRootBlack l × IsRootBlack r × HasNoRedPair l × HasNoRedPair r

-- each path to a Leaf has so many black nodes
abbrev pub HasBlackHeight : ℕ → Tree → Type 0
HasBlackHeight n Leaf = n ≡ 0
HasBlackHeight n (Branch Red l x r) = HasBlackHeight n l × HasBlackHeight n r
HasBlackHeight zero (Branch Black l x r) = ⊥
HasBlackHeight (suc n) (Branch Black l x r) = HasBlackHeight n l × HasBlackHeight n r

pub record IsRedBlack (t : Tree) : Type 0 where
  pub ordered : IsAscending (keys t)
  pub root : IsRootBlack t
  pub no_red_pair : HasNoRedPair t
  pub blacks : ℕ
  pub height : HasBlackHeight blacks t

-- what insert gives: a tree, the pad that is left, and whether the key is in the tree now
pub record Inserted : Type 0 where
  pub tree : Tree
  pub pad : Pad
  pub flag : Bool

abbrev pub inserted_values : Inserted → Values
inserted_values s = More (tree_value s.tree) (More (pad_value s.pad) (More (truth_value s.flag) End))

-- a new key, by its pad: without one the tree stays, with one the key joins the others
abbrev pub IsNewKey : Tree → ℤ → Pad → Inserted → Type 0
IsNewKey t i Pad0 s = s ≡ record { tree = t; pad = Pad0; flag = false }
IsNewKey t i (Pad4 a b c d) s =
    (s.pad ≡ Pad0) × (s.flag ≡ true) × ((j : ℤ) → Among j (keys s.tree) ↔ ((j ≡ i) ⊎ Among j (keys t)))

-- an insert of this key with this pad
pub record IsInsertion (t : Tree) (i : ℤ) (p : Pad) (s : Inserted) : Type 0 where
  pub tree : IsRedBlack s.tree
  pub there : Among i (keys t) → s ≡ record { tree = t; pad = p; flag = true }
  pub new : (Among i (keys t) → ⊥) → IsNewKey t i p s

abbrev pub pads_value : List Pad → Value
pads_value [] = Node 0 End
pads_value (p ∷ ps) = Node 1 (More (pad_value p) (More (pads_value ps) End))

-- inserts in order, each key with its pad, until a list ends
abbrev pub AreInsertions : List ℤ → List Pad → Tree → Tree → Type 0
AreInsertions [] ps t u = u ≡ t
AreInsertions (i ∷ is) [] t u = u ≡ t
AreInsertions (i ∷ is) (p ∷ ps) t u = (s : Inserted) × IsInsertion t i p s × AreInsertions is ps s.tree u

-- the evaluation gives what an insert gives
pub record GivesInsertion (t : Tree) (i : ℤ) (p : Pad) (a : Answer) : Type 0 where
  pub inserted : Inserted
  pub is : IsInsertion t i p inserted
  pub gives : GivesLeaving 0 (inserted_values inserted) a

-- the evaluation gives the tree after these inserts
pub record GivesBuild (is : List ℤ) (ps : List Pad) (t : Tree) (a : Answer) : Type 0 where
  pub tree : Tree
  pub is_red_black : IsRedBlack tree
  pub inserts : AreInsertions is ps t tree
  pub gives : GivesValue (tree_value tree) a

-- values that are those of a tree with keys of 64 bits, of a pad, and of a list of pads
pub record IsTree (v : Value) : Type 0 where
  pub tree : Tree
  pub is : v ≡ tree_value tree
  pub fit : Every (FitsSigned w64) (keys tree)

pub record IsPad (v : Value) : Type 0 where
  pub pad : Pad
  pub is : v ≡ pad_value pad

pub record ArePads (v : Value) : Type 0 where
  pub pads : List Pad
  pub is : v ≡ pads_value pads
