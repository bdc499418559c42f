use Rattle.std.proofs.Common.{◌≤◌, ◌^◌, length}
use Rattle.fip_language.specs.Values.{Values}
use Rattle.value_text.specs.Loaded.{types_of}
use Rattle.task_lines.specs.Reading.{AreAt}
use Rattle.session_values.specs.Readable.{AreParams}
use Rattle.task_lines.proofs.CellsMade.{IsMaking}
use Rattle.task_lines.proofs.making.make_values.Given as goal

-- the first values are made
abbrev pub invariant-loop-param : goal.invariant-loop-param
invariant-loop-param l = AreParams l.table (types_of l.params) → length l.bytes ≤ 2 ^ 63 → (vs : Values) → AreAt l.table l.bytes (types_of l.params) l.places vs → IsMaking l.table l.bytes (types_of l.params) vs l.initial.loader l.loader (types_of l.param-iterator.a.rest.now) l.param-iterator.b.rest.now l.words.items
