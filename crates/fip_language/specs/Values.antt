-- Values: an int, or a node with the number of its constructor and its children. A value never changes.
-- Cons(1, Nil) is Node 1 (More (Int 1) (More (Node 0 End) End)) where Nil is constructor 0 and Cons constructor 1.
use Rattle.std.specs.Prelude.{ℕ, zero, suc, ◌+◌, ℤ, nat_eq, if◌then◌else◌}

mutual
  pub data Value : Type 0 where
    Int : (i : ℤ) → Value
    Node : (c : ℕ) (children : Values) → Value

  pub data Values : Type 0 where
    End : Values
    More : (v : Value) (vs : Values) → Values

abbrev pub count_of : Values → ℕ
count_of End = 0
count_of (More v vs) = suc (count_of vs)

-- 1 where a node with so many children is a cell of size k: a node without children takes no cell
abbrev pub one_of_size : ℕ → ℕ → ℕ
one_of_size k zero = 0
one_of_size k (suc n) = if nat_eq k (suc n) then 1 else 0

-- How many cells of size k a value takes: one for each node with k children, where k is at least 1.
abbrev mutual
  pub cells : ℕ → Value → ℕ
  cells k (Int i) = 0
  cells k (Node c vs) = one_of_size k (count_of vs) + cells_of_all k vs

  pub cells_of_all : ℕ → Values → ℕ
  cells_of_all k End = 0
  cells_of_all k (More v vs) = cells k v + cells_of_all k vs

-- The words of the store that a node takes: one more than its children, none where it has no child.
abbrev pub words_of_node : ℕ → ℕ
words_of_node zero = 0
words_of_node (suc n) = suc (suc n)

abbrev mutual
  pub words_needed : Value → ℕ
  words_needed (Int i) = 0
  words_needed (Node c vs) = words_of_node (count_of vs) + words_needed_by_all vs

  pub words_needed_by_all : Values → ℕ
  words_needed_by_all End = 0
  words_needed_by_all (More v vs) = words_needed v + words_needed_by_all vs
