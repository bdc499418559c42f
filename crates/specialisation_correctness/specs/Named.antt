-- Closed trees by place, and the closed trees by name that they stand for. By place a data type is its number, from 1,
-- and a function its place in the core form; by name both are their names.
-- Where `map` is at place 4 and `next` at place 7, function 4 at int, int and function 7 stands for
-- map[int, int, next].
use Rattle.std.specs.Prelude.{◌-◌, [], Option, Some, None, slice_get}
use Rattle.source_report.specs.fip_language.Core.{Name, Data, Function, Core}
use Rattle.source_report.specs.fip_language.Declarations.{data_types}
use Rattle.source_report.specs.fip_language.Statics as ByName
use Rattle.source_report.specs.reached_instances.closed_types.declared.closed.Head.{Head}
use Rattle.source_report.specs.reached_instances.closed_types.declared.closed.Head.TheVariants as H
use Rattle.source_report.specs.reached_instances.closed_types.Closed.{Closed, Closeds, Int, Applied, NoClosed, MoreClosed}

abbrev pub data_name : Option Data → Name
data_name None = []
data_name (Some d) = d.name

abbrev pub function_name : Option Function → Name
function_name None = []
function_name (Some f) = f.name

abbrev pub head_name : Core → Head → Name
head_name core (H.«Type» n) = data_name (slice_get (data_types core) (n - 1))
head_name core (H.Function f) = function_name (slice_get core.functions f)

abbrev mutual
  pub named : Core → Closed → ByName.Closed
  named core Int = ByName.ClosedInt
  named core (Applied h cs) = ByName.ClosedName (head_name core h) (all_named core cs)

  pub all_named : Core → Closeds → ByName.Closeds
  all_named core NoClosed = ByName.NoClosed
  all_named core (MoreClosed c cs) = ByName.MoreClosed (named core c) (all_named core cs)
