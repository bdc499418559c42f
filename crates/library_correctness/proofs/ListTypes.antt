-- A value of the type of lists is that of a list, and one of the type of zippers that of two.
use Rattle.std.proofs.Common.{◌≡◌, zero, suc, [], ◌∷◌, refl, ap, subst}
use Rattle.fip_language.specs.Values.{Value, Int, Node, End, More}
use Rattle.fip_language.specs.Table.{Table, HasType}
use Rattle.library_correctness.specs.Lists.{cons, list_value, IsList, IsZipper}
use Rattle.library_programs.specs.ListProgram.{list_program}
use Rattle.library_correctness.proofs.Children.{children}

abbrev types : Table
types = list_program.types

pub list_of : (v : Value) → HasType types 2 v → IsList v
list_of (Int i) h = absurd h
list_of (Node zero End) h = record { items = []; is = refl; fit = tt }
list_of (Node zero (More v vs)) h = absurd (children types 1 zero (More v vs) h)
list_of (Node (suc zero) End) h = absurd (children types 1 1 End h)
list_of (Node (suc zero) (More v End)) h = absurd (children types 1 1 (More v End) h).1
list_of (Node (suc zero) (More (Node c ws) (More t vs))) h = absurd (children types 1 1 (More (Node c ws) (More t vs)) h).0
list_of (Node (suc zero) (More (Int x) (More t End))) h =
    let k = children types 1 1 (More (Int x) (More t End)) h in
    let r : IsList t = list_of t k.1.0 in
    record { items = x ∷ r.items; is = ap (cons x) r.is; fit = (k.0, r.fit) }
list_of (Node (suc zero) (More (Int x) (More t (More u vs)))) h = absurd (children types 1 1 (More (Int x) (More t (More u vs))) h).1.1
list_of (Node (suc (suc c)) vs) h = absurd (children types 1 (suc (suc c)) vs h)

pub zipper_of : (v : Value) → HasType types 3 v → IsZipper v
zipper_of (Int i) h = absurd h
zipper_of (Node zero End) h = absurd (children types 2 0 End h)
zipper_of (Node zero (More v End)) h = absurd (children types 2 0 (More v End) h).1
zipper_of (Node zero (More v (More w End))) h =
    let k = children types 2 0 (More v (More w End)) h in
    let a = list_of v k.0 in
    let b = list_of w k.1.0 in
    record { before = a.items; after = b.items; is = subst (λ x. Node 0 (More v (More w End)) ≡ Node 0 (More x (More (list_value b.items) End))) a.is (ap (λ x. Node 0 (More v (More x End))) b.is) }
zipper_of (Node zero (More v (More w (More u vs)))) h = absurd (children types 2 0 (More v (More w (More u vs))) h).1.1
zipper_of (Node (suc c) vs) h = absurd (children types 2 (suc c) vs h)
