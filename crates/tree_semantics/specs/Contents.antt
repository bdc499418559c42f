-- What the registers of a frame hold, as trees. It serves the proof that lowered code means what its program means.
-- Each register holds a value; one that was never written holds the int 0. So after Take 0 [2, 3] where register 0
-- holds Cons(1, Nil), register 2 holds 1 and register 3 holds Nil.
use Rattle.std.specs.Prelude.{ℕ, zero, suc, pos, List, [], ◌∷◌, Option, Some, None, cond, eqb}
use Rattle.machine_semantics.specs.fip_language.Values.{Value, Int, Node, Values, End, More}

abbrev pub Contents : Type 0
Contents = ℕ → Value

-- register d has this value now
unfoldable pub put : Contents → ℕ → Value → Contents
put cs d v r = cond (eqb r d) v (cs r)

-- the registers get one value each, the first one first; what is left over of either goes nowhere
abbrev pub put_all : Contents → List ℕ → Values → Contents
put_all cs [] vs = cs
put_all cs (d ∷ ds) End = cs
put_all cs (d ∷ ds) (More v vs) = put_all (put cs d v) ds vs

-- the values of registers
abbrev pub read_all : Contents → List ℕ → Values
read_all cs [] = End
read_all cs (r ∷ rs) = More (cs r) (read_all cs rs)

-- the first registers have these values
abbrev pub first_contents : Values → Contents
first_contents End r = Int (pos 0)
first_contents (More v vs) zero = v
first_contents (More v vs) (suc r) = first_contents vs r

abbrev pub children : Value → Values
children (Int i) = End
children (Node c vs) = vs

abbrev pub value_at : Values → ℕ → Option Value
value_at End i = None
value_at (More v vs) zero = Some v
value_at (More v vs) (suc i) = value_at vs i
