-- The turns that are drawn, which no answer of `tasks` shows: which task has each turn.
--
-- A seed gives numbers, each of which is made of the one before it: x becomes (1103515245 x + 12345) mod 2^31. A turn
-- goes to the task (x / 65536) mod m, where there are m tasks; where there is none, there is no turn. The first number
-- is made of the seed. After so many turns each task is run to its end, in order.
--
-- The seed 1 gives 1103527590, 377401575 and 662824084, and so the turns of two tasks go to 0, 0 and 1.
use Rattle.std.specs.Prelude.{ℕ, zero, suc, ◌+◌, ◌*◌, ◌/◌, ◌%◌, ◌^◌, List, [], ◌∷◌}

abbrev pub next_number : ℕ → ℕ
next_number x = (x * 1103515245 + 12345) % (2 ^ 31)

-- the first numbers after x
abbrev pub numbers : ℕ → ℕ → List ℕ
numbers zero x = []
numbers (suc n) x = next_number x ∷ numbers n (next_number x)

abbrev pub drawn_of : ℕ → List ℕ → List ℕ
drawn_of m [] = []
drawn_of m (x ∷ xs) = ((x / 65536) % m) ∷ drawn_of m xs

-- the tasks that have the turns, where there are m tasks
abbrev pub drawn : ℕ → ℕ → ℕ → List ℕ
drawn seed turns zero = []
drawn seed turns (suc m) = drawn_of (suc m) (numbers turns seed)
