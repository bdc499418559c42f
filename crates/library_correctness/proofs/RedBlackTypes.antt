-- A value of a type of `rbtree` is that of a tree, a pad, a list of ints or a list of pads.
use Rattle.std.proofs.Common.{◌≡◌, zero, suc, [], ◌∷◌, FitsSigned, refl}
use Rattle.std.specs.Int.{w64}
use Rattle.fip_language.specs.Table.{Table, HasType}
use Rattle.fip_language.specs.Values.{Value, Int, Node, End, More}
use Rattle.library_programs.specs.RedBlackProgram.{rbtree_program}
use Rattle.library_correctness.specs.Lists.{IsList}
use Rattle.library_correctness.specs.RedBlack.{Color, Red, Black, Leaf, Branch, Pad0, Pad4, color_value, keys, IsTree, IsPad, ArePads}
use Rattle.library_correctness.proofs.Children.{IsInt, int_of, same_two, same_four, children}
use Rattle.library_correctness.proofs.Orders.{every_append}

abbrev types : Table
types = rbtree_program.types

record IsColor (v : Value) : Type 0 where
  color : Color
  is : v ≡ color_value color

branch_of : (c l x r : Value) → IsColor c → IsTree l → IsInt x → IsTree r → IsTree (Node 1 (More c (More l (More x (More r End)))))
branch_of c l x r d a i b =
    record {
      tree = Branch d.color a.tree i.int b.tree;
      is = same_four d.is a.is i.is b.is;
      fit = every_append (FitsSigned w64) (keys a.tree) (i.int ∷ keys b.tree) a.fit (i.fit, b.fit);
    }

pad_with : (a b c d : Value) → IsInt a → IsInt b → IsInt c → IsInt d → IsPad (Node 1 (More a (More b (More c (More d End)))))
pad_with a b c d i j k l = record { pad = Pad4 i.int j.int k.int l.int; is = same_four i.is j.is k.is l.is }

keys_with : (x t : Value) → IsInt x → IsList t → IsList (Node 1 (More x (More t End)))
keys_with x t i r = record { items = i.int ∷ r.items; is = same_two i.is r.is; fit = (i.fit, r.fit) }

pads_with : (p t : Value) → IsPad p → ArePads t → ArePads (Node 1 (More p (More t End)))
pads_with p t i r = record { pads = i.pad ∷ r.pads; is = same_two i.is r.is }

color_of : (v : Value) → HasType types 5 v → IsColor v
color_of (Int i) h = absurd h
color_of (Node zero End) h = record { color = Red; is = refl }
color_of (Node zero (More v vs)) h = absurd (children types 4 0 (More v vs) h)
color_of (Node (suc zero) End) h = record { color = Black; is = refl }
color_of (Node (suc zero) (More v vs)) h = absurd (children types 4 1 (More v vs) h)
color_of (Node (suc (suc c)) vs) h = absurd (children types 4 (suc (suc c)) vs h)

pub tree_of : (v : Value) → HasType types 2 v → IsTree v
tree_of (Int i) h = absurd h
tree_of (Node zero End) h = record { tree = Leaf; is = refl; fit = tt }
tree_of (Node zero (More v vs)) h = absurd (children types 1 0 (More v vs) h)
tree_of (Node (suc zero) (More v1 (More v2 (More v3 (More v4 End))))) h =
    let k = children types 1 1 (More v1 (More v2 (More v3 (More v4 End)))) h in
    branch_of v1 v2 v3 v4 (color_of v1 k.0) (tree_of v2 k.1.0) (int_of types v3 k.1.1.0) (tree_of v4 k.1.1.1.0)
tree_of (Node (suc zero) End) h = absurd (children types 1 1 End h)
tree_of (Node (suc zero) (More v1 End)) h = absurd (children types 1 1 (More v1 End) h).1
tree_of (Node (suc zero) (More v1 (More v2 End))) h = absurd (children types 1 1 (More v1 (More v2 End)) h).1.1
tree_of (Node (suc zero) (More v1 (More v2 (More v3 End)))) h = absurd (children types 1 1 (More v1 (More v2 (More v3 End))) h).1.1.1
tree_of (Node (suc zero) (More v1 (More v2 (More v3 (More v4 (More v vs)))))) h = absurd (children types 1 1 (More v1 (More v2 (More v3 (More v4 (More v vs))))) h).1.1.1.1
tree_of (Node (suc (suc c)) vs) h = absurd (children types 1 (suc (suc c)) vs h)

pub pad_of : (v : Value) → HasType types 3 v → IsPad v
pad_of (Int i) h = absurd h
pad_of (Node zero End) h = record { pad = Pad0; is = refl }
pad_of (Node zero (More v vs)) h = absurd (children types 2 0 (More v vs) h)
pad_of (Node (suc zero) (More v1 (More v2 (More v3 (More v4 End))))) h =
    let k = children types 2 1 (More v1 (More v2 (More v3 (More v4 End)))) h in
    pad_with v1 v2 v3 v4 (int_of types v1 k.0) (int_of types v2 k.1.0) (int_of types v3 k.1.1.0) (int_of types v4 k.1.1.1.0)
pad_of (Node (suc zero) End) h = absurd (children types 2 1 End h)
pad_of (Node (suc zero) (More v1 End)) h = absurd (children types 2 1 (More v1 End) h).1
pad_of (Node (suc zero) (More v1 (More v2 End))) h = absurd (children types 2 1 (More v1 (More v2 End)) h).1.1
pad_of (Node (suc zero) (More v1 (More v2 (More v3 End)))) h = absurd (children types 2 1 (More v1 (More v2 (More v3 End))) h).1.1.1
pad_of (Node (suc zero) (More v1 (More v2 (More v3 (More v4 (More v vs)))))) h = absurd (children types 2 1 (More v1 (More v2 (More v3 (More v4 (More v vs))))) h).1.1.1.1
pad_of (Node (suc (suc c)) vs) h = absurd (children types 2 (suc (suc c)) vs h)

pub keys_of : (v : Value) → HasType types 6 v → IsList v
keys_of (Int i) h = absurd h
keys_of (Node zero End) h = record { items = []; is = refl; fit = tt }
keys_of (Node zero (More v vs)) h = absurd (children types 5 0 (More v vs) h)
keys_of (Node (suc zero) (More v1 (More v2 End))) h =
    let k = children types 5 1 (More v1 (More v2 End)) h in
    keys_with v1 v2 (int_of types v1 k.0) (keys_of v2 k.1.0)
keys_of (Node (suc zero) End) h = absurd (children types 5 1 End h)
keys_of (Node (suc zero) (More v1 End)) h = absurd (children types 5 1 (More v1 End) h).1
keys_of (Node (suc zero) (More v1 (More v2 (More v vs)))) h = absurd (children types 5 1 (More v1 (More v2 (More v vs))) h).1.1
keys_of (Node (suc (suc c)) vs) h = absurd (children types 5 (suc (suc c)) vs h)

pub pads_of : (v : Value) → HasType types 7 v → ArePads v
pads_of (Int i) h = absurd h
pads_of (Node zero End) h = record { pads = []; is = refl }
pads_of (Node zero (More v vs)) h = absurd (children types 6 0 (More v vs) h)
pads_of (Node (suc zero) (More v1 (More v2 End))) h =
    let k = children types 6 1 (More v1 (More v2 End)) h in
    pads_with v1 v2 (pad_of v1 k.0) (pads_of v2 k.1.0)
pads_of (Node (suc zero) End) h = absurd (children types 6 1 End h)
pads_of (Node (suc zero) (More v1 End)) h = absurd (children types 6 1 (More v1 End) h).1
pads_of (Node (suc zero) (More v1 (More v2 (More v vs)))) h = absurd (children types 6 1 (More v1 (More v2 (More v vs))) h).1.1
pads_of (Node (suc (suc c)) vs) h = absurd (children types 6 (suc (suc c)) vs h)
