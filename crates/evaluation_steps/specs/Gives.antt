-- What an evaluation gives: values, with at least so many calls left; and how many nodes a value has.
-- For example reverse(Cons(1, Nil)) with 100 calls `Gives` Cons(1, Nil).
use Rattle.std.specs.Prelude.{◌≡◌, ℕ, ◌≤◌, ◌+◌}
use Rattle.fip_language.specs.Values.{Value, Int, Node, Values, End, More}
use Rattle.fip_language.specs.Meaning as M

-- the evaluation gives these values, and leaves at least so many calls
pub record GivesLeaving (least : ℕ) (vs : Values) (a : M.Answer) : Type 0 where
  pub left : ℕ
  pub enough : least ≤ left
  pub is : a ≡ M.Gives vs left

abbrev pub one : Value → Values
one v = More v End

abbrev pub two : Value → Value → Values
two v w = More v (one w)

abbrev pub three : Value → Value → Value → Values
three u v w = More u (two v w)

-- the nodes of a value; a node without children is one too, an int is none
abbrev mutual
  pub nodes : Value → ℕ
  nodes (Int i) = 0
  nodes (Node c vs) = 1 + nodes_of_all vs

  pub nodes_of_all : Values → ℕ
  nodes_of_all End = 0
  nodes_of_all (More v vs) = nodes v + nodes_of_all vs

-- the evaluation gives this value
abbrev pub GivesValue : Value → M.Answer → Type 0
GivesValue v a = GivesLeaving 0 (one v) a
