-- What a trace in memory says, without where its lists lie: as the definitions of traces speak of it. The cell at place
-- 0 with the constructor 1 and the words 1 and 0, as Cons(1, Nil) has it, is the same cell there.
use Rattle.std.specs.Prelude.{map}
use Rattle.run_loading.specs.machine_semantics.Cells.{Write, Release}
use Rattle.run_loading.specs.machine_semantics.Traces as D
use Rattle.cell_trace.specs.declared.trace.LoadedCell.{LoadedCell}
use Rattle.cell_trace.specs.declared.trace.Event.{Event}
use Rattle.cell_trace.specs.declared.trace.Event.TheVariants as E
use Rattle.cell_trace.specs.declared.trace.Trace.{Trace}
use Rattle.run_loading.specs.TraceText as T

abbrev pub plain_cell : LoadedCell → T.Loaded
plain_cell c = record { place = c.place; tag = c.tag; fields = c.fields.items }

abbrev pub plain_event : Event → D.Event
plain_event (E.Put step place tag fields) = record { step = step; change = Write place tag fields.items }
plain_event (E.Release step place) = record { step = step; change = Release place }

abbrev pub plain_trace : Trace → T.Trace
plain_trace t = record {
  cells = map plain_cell t.cells.items;
  events = map plain_event t.events.items;
  steps = t.steps;
}
