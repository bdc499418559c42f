-- For the proofs alone: how the numbers of groups are found, group after group.
use Rattle.std.specs.Prelude.{ℕ, ◌+◌, ◌==◌, max, Bool, List, [], ◌∷◌, set, get_or, Option, Some, None, if◌then◌else◌}
use Rattle.std.specs.Prelude.{suc}
use Rattle.fip_base.specs.declared.plain.Stack.{Stack}
use Rattle.call_groups.specs.CallGraph.{calls_of, group_number}
use Rattle.call_groups.specs.Stacks.{charge}
use Rattle.call_groups.specs.declared.search.Call.{Call}
use Rattle.call_groups.specs.declared.search.Partition.{Partition}

abbrev pub greater : Stack → Stack → Stack
greater s t = record { frames = max s.frames t.frames; words = max s.words t.words }

abbrev pub with_frame : Stack → Bool → ℕ → Stack
with_frame s k w = record { frames = s.frames + charge 1 k; words = s.words + charge w k }

abbrev pub raised : Option Stack → Stack → Stack
raised None s = s
raised (Some t) s = greater t s

-- a call of a group that holds so much
abbrev pub taken : Stack → ℕ → Bool → Option Stack → Stack
taken s w k None = s
taken s w k (Some t) = greater s (with_frame t k w)

abbrev pub one_call : Partition → List (Option Stack) → ℕ → ℕ → Stack → Call → Stack
one_call p found g w s c =
    if group_number p c.callee == g then s else taken s w c.waits (get_or found (group_number p c.callee) None)

-- the calls of a row, of a function in group g with a frame of w words
abbrev pub over_calls : Partition → List (Option Stack) → ℕ → ℕ → Stack → List Call → Stack
over_calls p found g w s [] = s
over_calls p found g w s (c ∷ cs) = over_calls p found g w (one_call p found g w s c) cs

abbrev pub start : ℕ → Stack
start w = record { frames = 0; words = w }

-- what a group holds by one more of its functions
abbrev pub with_function : List (List Call) → Partition → List (Option Stack) → ℕ → Option ℕ → List (Option Stack)
with_function rs p found f None = found
with_function rs p found f (Some w) =
    set found (group_number p f)
    (Some (raised (get_or found (group_number p f) None)
    (over_calls p found (group_number p f) w (start w) (calls_of rs f))))

abbrev pub over_functions : List (List Call) → Partition → List (Option ℕ) → List (Option Stack) → List ℕ →
    List (Option Stack)
over_functions rs p frames found [] = found
over_functions rs p frames found (f ∷ fs) =
    over_functions rs p frames (with_function rs p found f (get_or frames f None)) fs

-- what a function with a frame or without one holds, in a group that holds so much
abbrev pub entry : Option ℕ → Option Stack → Option Stack
entry None o = None
entry (Some w) o = o

abbrev pub entries : Partition → List (Option Stack) → ℕ → List (Option ℕ) → List (Option Stack)
entries p found f [] = []
entries p found f (w ∷ ws) = entry w (get_or found (group_number p f) None) ∷ entries p found (suc f) ws
