-- Functions and their calls. A function is a number from 0, and its row the list of its calls. A number past the last
-- row is no function: it has no calls.
--
-- In the rows [1], [0, 2], [], where a number stands for a call of that function, 0 and 1 reach each other and are of
-- one group; 2 is reached by both, reaches itself alone, and is a group of its own.
use Rattle.std.specs.Prelude.{◌≡◌, ℕ, zero, suc, Bool, List, [], get_or, slice_get}
use Rattle.std.specs.Prelude.{Some}
use Rattle.call_groups.specs.declared.search.Call.{Call}

-- an element of a list, at some place
abbrev pub In : {A : Type 0} → A → List A → Type 0
In x xs = (i : ℕ) × (slice_get xs i ≡ Some x)

abbrev pub calls_of : List (List Call) → ℕ → List Call
calls_of rs f = get_or rs f []

abbrev pub call : ℕ → Bool → Call
call b k = record { callee = b; waits = k }

-- a calls b, waiting for it or not
abbrev pub Calls : List (List Call) → ℕ → ℕ → Bool → Type 0
Calls rs a b k = In (call b k) (calls_of rs a)

-- n calls, one after another, lead from a to b
abbrev pub Path : List (List Call) → ℕ → ℕ → ℕ → Type 0
Path rs zero a b = a ≡ b
Path rs (suc n) a b = (c : ℕ) × ((k : Bool) × Calls rs a c k) × Path rs n c b

abbrev pub Reaches : List (List Call) → ℕ → ℕ → Type 0
Reaches rs a b = (n : ℕ) × Path rs n a b

-- two functions of one group: each reaches the other, or they are one
abbrev pub SameGroup : List (List Call) → ℕ → ℕ → Type 0
SameGroup rs a b = Reaches rs a b × Reaches rs b a
