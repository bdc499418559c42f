-- A value of the type of trees of ints is that of a tree.
use Rattle.std.proofs.Common.{zero, suc, ◌∷◌, FitsSigned, refl}
use Rattle.std.specs.Int.{w64}
use Rattle.fip_language.specs.Table.{Table, HasType}
use Rattle.fip_language.specs.Values.{Value, Int, Node, End, More}
use Rattle.library_programs.specs.TreeProgram.{tree_program}
use Rattle.library_correctness.specs.Trees.{Leaf, Bin, items, IsTree}
use Rattle.library_correctness.proofs.Children.{IsInt, int_of, same_three, children}
use Rattle.library_correctness.proofs.Orders.{every_append}

abbrev types : Table
types = tree_program.types

bin_of : (l x r : Value) → IsTree l → IsInt x → IsTree r → IsTree (Node 1 (More l (More x (More r End))))
bin_of l x r a i b =
    record {
      tree = Bin a.tree i.int b.tree;
      is = same_three a.is i.is b.is;
      fit = every_append (FitsSigned w64) (items a.tree) (i.int ∷ items b.tree) a.fit (i.fit, b.fit);
    }

pub tree_of : (v : Value) → HasType types 2 v → IsTree v
tree_of (Int i) h = absurd h
tree_of (Node zero End) h = record { tree = Leaf; is = refl; fit = tt }
tree_of (Node zero (More v vs)) h = absurd (children types 1 0 (More v vs) h)
tree_of (Node (suc zero) (More v1 (More v2 (More v3 End)))) h =
    let k = children types 1 1 (More v1 (More v2 (More v3 End))) h in
    bin_of v1 v2 v3 (tree_of v1 k.0) (int_of types v2 k.1.0) (tree_of v3 k.1.1.0)
tree_of (Node (suc zero) End) h = absurd (children types 1 1 End h)
tree_of (Node (suc zero) (More v1 End)) h = absurd (children types 1 1 (More v1 End) h).1
tree_of (Node (suc zero) (More v1 (More v2 End))) h = absurd (children types 1 1 (More v1 (More v2 End)) h).1.1
tree_of (Node (suc zero) (More v1 (More v2 (More v3 (More v vs))))) h = absurd (children types 1 1 (More v1 (More v2 (More v3 (More v vs)))) h).1.1.1
tree_of (Node (suc (suc c)) vs) h = absurd (children types 1 (suc (suc c)) vs h)
