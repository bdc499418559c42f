-- How many registers an instruction lists: the fields of a Take and a Put, the arguments and the destinations of a call,
-- and the results of a Ret. In the code of an instance these are as many as its body writes, and the credits that a call
-- hands over, which are no more than the header of some instance marks.
--
-- `Tail 0 [3, 0]` lists two registers, and `Test 0 0 3` none. An instance of width 2 in a program without marked credits
-- has at most 4: a call of two arguments with two results.
use Rattle.std.specs.Prelude.{◌≡◌, ◌≤◌, ◌+◌, ◌*◌, ℕ, max, List, [], ◌∷◌, Some, length, slice_get}
use Rattle.fip_trees.specs.Tree.{Instance}
use Rattle.cell_code.specs.declared.code.Instr.{Instr}
use Rattle.cell_code.specs.declared.code.Instr.TheVariants as I
use Rattle.code_bytes.specs.Widths.{width}

abbrev pub operands : Instr → ℕ
operands (I.Const d v) = 0
operands (I.Atom d t k) = 0
operands (I.Move d s) = 0
operands (I.Arith d op a b line col) = 0
operands (I.Test r k target) = 0
operands (I.TestInt r v target) = 0
operands (I.Peek d r i) = 0
operands (I.Take r ds) = length ds
operands (I.Put d t k ss) = length ss
operands (I.Drop r) = 0
operands (I.Free r) = 0
operands (I.Call g rs ds) = length rs + length ds
operands (I.Tail g rs) = length rs
operands (I.Ret rs) = length rs
operands (I.Jump target) = 0

-- the most credits that a header marks
abbrev pub most_credits : List Instance → ℕ
most_credits [] = 0
most_credits (d ∷ ds) = max (length d.credits) (most_credits ds)

-- where a header marks so many credits, for an instance that is so wide
abbrev pub most_for : ℕ → ℕ → ℕ
most_for credits width = 2 * width + credits

abbrev pub most_operands : List Instance → Instance → ℕ
most_operands ds d = most_for (most_credits ds) (width d)

-- None of the instructions lists more registers.
abbrev pub HaveFew : ℕ → List Instr → Type 0
HaveFew most instrs = (i : ℕ) (x : Instr) → slice_get instrs i ≡ Some x → operands x ≤ most
