-- With what is left to write the text is that of the end.
use Rattle.std.proofs.Common.{◌≡◌, ◌++◌, map, drop}
use Rattle.run_loading.specs.TraceText.{events_text}
use Rattle.trace_files.specs.Plain.{plain_event}
use Rattle.trace_files.proofs.write.put_events.Given as goal

abbrev pub invariant-loop-i : goal.invariant-loop-i
invariant-loop-i l = l.text.items ++ events_text (map plain_event (drop l.i l.events)) ≡ l.initial.text.items ++ events_text (map plain_event l.events)
