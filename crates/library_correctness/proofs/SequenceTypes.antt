-- A value of the type of sequences is that of a sequence.
use Rattle.std.proofs.Common.{◌≡◌, zero, suc, refl}
use Rattle.fip_language.specs.Table.{Table, HasType}
use Rattle.fip_language.specs.Values.{Value, Int, Node, End, More}
use Rattle.library_programs.specs.FingerProgram.{finger_program}
use Rattle.library_correctness.specs.Sequences.{Element, Item, Pair, Triple, Some, One, Two, Three, Empty, Single, Deep}
use Rattle.library_correctness.specs.Sequences.{element_value, some_value, IsSequence}
use Rattle.library_correctness.proofs.Children.{IsInt, int_of, same_three, children}

abbrev types : Table
types = finger_program.types

record IsElement (v : Value) : Type 0 where
  element : Element
  is : v ≡ element_value element

record IsSome (v : Value) : Type 0 where
  some : Some
  is : v ≡ some_value some

item_of : (a b c : Value) → IsInt a → IsInt b → IsInt c → IsElement (Node 0 (More a (More b (More c End))))
item_of a b c i j k = record { element = Item i.int j.int k.int; is = same_three i.is j.is k.is }

pair_of : (a b c : Value) → IsElement a → IsElement b → IsInt c → IsElement (Node 1 (More a (More b (More c End))))
pair_of a b c i j k = record { element = Pair i.element j.element k.int; is = same_three i.is j.is k.is }

triple_of : (a b c : Value) → IsElement a → IsElement b → IsElement c → IsElement (Node 2 (More a (More b (More c End))))
triple_of a b c i j k = record { element = Triple i.element j.element k.element; is = same_three i.is j.is k.is }

one_of : (a b c : Value) → IsElement a → IsInt b → IsInt c → IsSome (Node 0 (More a (More b (More c End))))
one_of a b c i j k = record { some = One i.element j.int k.int; is = same_three i.is j.is k.is }

two_of : (a b c : Value) → IsElement a → IsElement b → IsInt c → IsSome (Node 1 (More a (More b (More c End))))
two_of a b c i j k = record { some = Two i.element j.element k.int; is = same_three i.is j.is k.is }

three_of : (a b c : Value) → IsElement a → IsElement b → IsElement c → IsSome (Node 2 (More a (More b (More c End))))
three_of a b c i j k = record { some = Three i.element j.element k.element; is = same_three i.is j.is k.is }

single_of : (a b c : Value) → IsElement a → IsInt b → IsInt c → IsSequence (Node 1 (More a (More b (More c End))))
single_of a b c i j k = record { sequence = Single i.element j.int k.int; is = same_three i.is j.is k.is }

deep_of : (a b c : Value) → IsSome a → IsSequence b → IsSome c → IsSequence (Node 2 (More a (More b (More c End))))
deep_of a b c i j k = record { sequence = Deep i.some j.sequence k.some; is = same_three i.is j.is k.is }

element_of : (v : Value) → HasType types 5 v → IsElement v
element_of (Int i) h = absurd h
element_of (Node zero (More v1 (More v2 (More v3 End)))) h =
    let k = children types 4 0 (More v1 (More v2 (More v3 End))) h in
    item_of v1 v2 v3 (int_of types v1 k.0) (int_of types v2 k.1.0) (int_of types v3 k.1.1.0)
element_of (Node zero End) h = absurd (children types 4 0 End h)
element_of (Node zero (More v1 End)) h = absurd (children types 4 0 (More v1 End) h).1
element_of (Node zero (More v1 (More v2 End))) h = absurd (children types 4 0 (More v1 (More v2 End)) h).1.1
element_of (Node zero (More v1 (More v2 (More v3 (More v vs))))) h = absurd (children types 4 0 (More v1 (More v2 (More v3 (More v vs)))) h).1.1.1
element_of (Node (suc zero) (More v1 (More v2 (More v3 End)))) h =
    let k = children types 4 1 (More v1 (More v2 (More v3 End))) h in
    pair_of v1 v2 v3 (element_of v1 k.0) (element_of v2 k.1.0) (int_of types v3 k.1.1.0)
element_of (Node (suc zero) End) h = absurd (children types 4 1 End h)
element_of (Node (suc zero) (More v1 End)) h = absurd (children types 4 1 (More v1 End) h).1
element_of (Node (suc zero) (More v1 (More v2 End))) h = absurd (children types 4 1 (More v1 (More v2 End)) h).1.1
element_of (Node (suc zero) (More v1 (More v2 (More v3 (More v vs))))) h = absurd (children types 4 1 (More v1 (More v2 (More v3 (More v vs)))) h).1.1.1
element_of (Node (suc (suc zero)) (More v1 (More v2 (More v3 End)))) h =
    let k = children types 4 2 (More v1 (More v2 (More v3 End))) h in
    triple_of v1 v2 v3 (element_of v1 k.0) (element_of v2 k.1.0) (element_of v3 k.1.1.0)
element_of (Node (suc (suc zero)) End) h = absurd (children types 4 2 End h)
element_of (Node (suc (suc zero)) (More v1 End)) h = absurd (children types 4 2 (More v1 End) h).1
element_of (Node (suc (suc zero)) (More v1 (More v2 End))) h = absurd (children types 4 2 (More v1 (More v2 End)) h).1.1
element_of (Node (suc (suc zero)) (More v1 (More v2 (More v3 (More v vs))))) h = absurd (children types 4 2 (More v1 (More v2 (More v3 (More v vs)))) h).1.1.1
element_of (Node (suc (suc (suc c))) vs) h = absurd (children types 4 (suc (suc (suc c))) vs h)

some_of : (v : Value) → HasType types 3 v → IsSome v
some_of (Int i) h = absurd h
some_of (Node zero (More v1 (More v2 (More v3 End)))) h =
    let k = children types 2 0 (More v1 (More v2 (More v3 End))) h in
    one_of v1 v2 v3 (element_of v1 k.0) (int_of types v2 k.1.0) (int_of types v3 k.1.1.0)
some_of (Node zero End) h = absurd (children types 2 0 End h)
some_of (Node zero (More v1 End)) h = absurd (children types 2 0 (More v1 End) h).1
some_of (Node zero (More v1 (More v2 End))) h = absurd (children types 2 0 (More v1 (More v2 End)) h).1.1
some_of (Node zero (More v1 (More v2 (More v3 (More v vs))))) h = absurd (children types 2 0 (More v1 (More v2 (More v3 (More v vs)))) h).1.1.1
some_of (Node (suc zero) (More v1 (More v2 (More v3 End)))) h =
    let k = children types 2 1 (More v1 (More v2 (More v3 End))) h in
    two_of v1 v2 v3 (element_of v1 k.0) (element_of v2 k.1.0) (int_of types v3 k.1.1.0)
some_of (Node (suc zero) End) h = absurd (children types 2 1 End h)
some_of (Node (suc zero) (More v1 End)) h = absurd (children types 2 1 (More v1 End) h).1
some_of (Node (suc zero) (More v1 (More v2 End))) h = absurd (children types 2 1 (More v1 (More v2 End)) h).1.1
some_of (Node (suc zero) (More v1 (More v2 (More v3 (More v vs))))) h = absurd (children types 2 1 (More v1 (More v2 (More v3 (More v vs)))) h).1.1.1
some_of (Node (suc (suc zero)) (More v1 (More v2 (More v3 End)))) h =
    let k = children types 2 2 (More v1 (More v2 (More v3 End))) h in
    three_of v1 v2 v3 (element_of v1 k.0) (element_of v2 k.1.0) (element_of v3 k.1.1.0)
some_of (Node (suc (suc zero)) End) h = absurd (children types 2 2 End h)
some_of (Node (suc (suc zero)) (More v1 End)) h = absurd (children types 2 2 (More v1 End) h).1
some_of (Node (suc (suc zero)) (More v1 (More v2 End))) h = absurd (children types 2 2 (More v1 (More v2 End)) h).1.1
some_of (Node (suc (suc zero)) (More v1 (More v2 (More v3 (More v vs))))) h = absurd (children types 2 2 (More v1 (More v2 (More v3 (More v vs)))) h).1.1.1
some_of (Node (suc (suc (suc c))) vs) h = absurd (children types 2 (suc (suc (suc c))) vs h)

pub sequence_of : (v : Value) → HasType types 2 v → IsSequence v
sequence_of (Int i) h = absurd h
sequence_of (Node zero End) h = record { sequence = Empty; is = refl }
sequence_of (Node zero (More v vs)) h = absurd (children types 1 0 (More v vs) h)
sequence_of (Node (suc zero) (More v1 (More v2 (More v3 End)))) h =
    let k = children types 1 1 (More v1 (More v2 (More v3 End))) h in
    single_of v1 v2 v3 (element_of v1 k.0) (int_of types v2 k.1.0) (int_of types v3 k.1.1.0)
sequence_of (Node (suc zero) End) h = absurd (children types 1 1 End h)
sequence_of (Node (suc zero) (More v1 End)) h = absurd (children types 1 1 (More v1 End) h).1
sequence_of (Node (suc zero) (More v1 (More v2 End))) h = absurd (children types 1 1 (More v1 (More v2 End)) h).1.1
sequence_of (Node (suc zero) (More v1 (More v2 (More v3 (More v vs))))) h = absurd (children types 1 1 (More v1 (More v2 (More v3 (More v vs)))) h).1.1.1
sequence_of (Node (suc (suc zero)) (More v1 (More v2 (More v3 End)))) h =
    let k = children types 1 2 (More v1 (More v2 (More v3 End))) h in
    deep_of v1 v2 v3 (some_of v1 k.0) (sequence_of v2 k.1.0) (some_of v3 k.1.1.0)
sequence_of (Node (suc (suc zero)) End) h = absurd (children types 1 2 End h)
sequence_of (Node (suc (suc zero)) (More v1 End)) h = absurd (children types 1 2 (More v1 End) h).1
sequence_of (Node (suc (suc zero)) (More v1 (More v2 End))) h = absurd (children types 1 2 (More v1 (More v2 End)) h).1.1
sequence_of (Node (suc (suc zero)) (More v1 (More v2 (More v3 (More v vs))))) h = absurd (children types 1 2 (More v1 (More v2 (More v3 (More v vs)))) h).1.1.1
sequence_of (Node (suc (suc (suc c))) vs) h = absurd (children types 1 (suc (suc (suc c))) vs h)
