-- Traces: what each step of a run did to the cells, and the cells after so many steps, by replay.
-- An event is a change and the number of its step, from 1. A Drop's events are of one step, in the order in which it
-- releases its cells.
-- The trace of inc, as fbip, on Cons(1, Nil) has one event, a write of constructor 1 and the words 2 and 0 into cell 0.
-- Its replay at 0 has Cons(1, Nil) in cell 0, and at 1000000 Cons(2, Nil).
use Rattle.std.specs.Prelude.{ℕ, zero, suc, List, [], ◌∷◌, ◌++◌, Option, Some, None, map, nat_le, Bool, true, false}
use Rattle.cell_code.specs.Plain.{PlainCode}
use Rattle.machine_semantics.specs.Cells.{Store, Change, changed}
use Rattle.machine_semantics.specs.States.{State, Next, Went, Entered, Gave, Trapped, TooDeep, Stuck}
use Rattle.machine_semantics.specs.Steps.{Kinds, next, changes_of}
use Rattle.machine_semantics.specs.Runs.{Run, Going, Over, later}

pub record Event : Type 0 where
  pub step : ℕ
  pub change : Change

abbrev pub events_of : ℕ → List Change → List Event
events_of n cs = map (λ c. record { step = n; change = c }) cs

-- the changes of a step: only an instruction that is done and is no call or return has any
abbrev pub done_changes : List Change → Next → List Change
done_changes cs (Went t) = cs
done_changes cs (Entered t) = []
done_changes cs (Gave ws) = []
done_changes cs (Trapped kind line col) = []
done_changes cs TooDeep = []
done_changes cs Stuck = []

-- the events of a run from this moment on, over at most so many steps
abbrev pub events : Kinds → PlainCode → ℕ → Run → List Event
events kinds code zero r = []
events kinds code (suc n) (Going s left steps) =
    events_of (suc steps) (done_changes (changes_of kinds code s) (next kinds code s))
    ++ events kinds code n (later kinds code (Going s left steps))
events kinds code (suc n) (Over e s left steps) = []

-- a change that can't happen changes nothing; in a trace there is none
abbrev pub changed_or : Store → Option Store → Store
changed_or s None = s
changed_or s (Some t) = t

abbrev pub applied_if : Bool → Event → Store → Store
applied_if true e s = changed_or s (changed e.change s)
applied_if false e s = s

-- the store with the events of the steps up to i, in their order
abbrev pub replay : Store → List Event → ℕ → Store
replay s [] i = s
replay s (e ∷ es) i = replay (applied_if (nat_le e.step i) e s) es i
