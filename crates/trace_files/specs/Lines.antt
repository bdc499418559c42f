-- It serves private contracts: the line of each cell of a trace, by the last event at its place up to a step. That
-- these are the lines of the replay is proved of it.
use Rattle.std.specs.Prelude.{◌≡◌, ℕ, List, [], ◌∷◌, ◌++◌, Option, Some, None, ◌==◌, nat_le, slice_get}
use Rattle.std.specs.Prelude.{option_and_then, if◌then◌else◌}
use Rattle.std.specs.Fmt.{decimal}
use Rattle.fip_language.specs.Store.{Cell}
use Rattle.run_loading.specs.machine_semantics.Cells.{Change, Write, Release}
use Rattle.run_loading.specs.machine_semantics.Traces.{Event}
use Rattle.run_loading.specs.TraceText.{Loaded}
use Rattle.run_loading.specs.Replaying.{live_line, free_line}

abbrev pub plain : Loaded → Cell
plain c = record { tag = c.tag; fields = c.fields }

abbrev pub place_of : Change → ℕ
place_of (Write place tag fields) = place
place_of (Release place) = place

-- the last of these events at a place, up to step i; o where there is none
abbrev pub latest : ℕ → ℕ → List Event → Option Event → Option Event
latest p i [] o = o
latest p i (e ∷ es) o = latest p i es (if nat_le e.step i then (if p == place_of e.change then Some e else o) else o)

-- the line of a cell at place p after a change
abbrev pub change_line : ℕ → Change → List ℕ
change_line p (Write place tag fields) = live_line p (record { tag = tag; fields = fields })
change_line p (Release place) = free_line p

abbrev pub event_line : ℕ → Event → List ℕ
event_line p e = change_line p e.change

-- the line of a cell of which this was the last event
abbrev pub reported_line : Loaded → Option Event → List ℕ
reported_line c None = live_line c.place (plain c)
reported_line c (Some e) = event_line c.place e

abbrev pub reported_lines : ℕ → List Event → List Loaded → List ℕ
reported_lines i es [] = []
reported_lines i es (c ∷ cs) = reported_line c (latest c.place i es None) ++ reported_lines i es cs

-- the event of a number
abbrev pub numbered : List Event → Option ℕ → Option Event
numbered es o = option_and_then (slice_get es) o

-- words, each after a space
abbrev pub words_line : List ℕ → List ℕ
words_line [] = []
words_line (w ∷ ws) = 32 ∷ decimal w ++ words_line ws

-- the lines of cells of which these were the last events
abbrev pub lines_by : List Event → List Loaded → List (Option ℕ) → List ℕ
lines_by es [] os = []
lines_by es (c ∷ cs) [] = []
lines_by es (c ∷ cs) (o ∷ os) = reported_line c (numbered es o) ++ lines_by es cs os

-- What is the last event of a cell at place p, where o was it before and this event comes, of this number.
abbrev pub IsMarked : Event → ℕ → ℕ → ℕ → Option (Option ℕ) → Option ℕ → Type 0
IsMarked e n i p None now = ⊥
IsMarked e n i p (Some o) now = now ≡ (if nat_le e.step i then (if p == place_of e.change then Some n else o) else o)
