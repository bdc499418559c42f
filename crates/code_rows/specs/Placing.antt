-- For the rows, and for what is proved of verify over them: an instruction's place, as the code and the function that
-- it belongs to, of which the table of types and the label maps are in forms of their own.
use Rattle.std.specs.Prelude.{List, map}
use Rattle.fip_language.specs.Table.{Table}
use Rattle.cell_code.specs.declared.code.Function.{Function}
use Rattle.cell_code.specs.Plain.{LabelMap, PlainFunction, PlainCode, plain_function}
use Rattle.code_rows.specs.declared.place.Place.{Place}

abbrev pub code_in : Table → List Function → PlainCode
code_in w fs = record { types = w; functions = map plain_function fs }

abbrev pub with_maps : PlainFunction → List LabelMap → PlainFunction
with_maps f maps = record {
  kind = f.kind;
  name = f.name;
  params = f.params;
  credits = f.credits;
  results = f.results;
  registers = f.registers;
  instrs = f.instrs;
  labels = maps;
}

abbrev pub code_of : Place → PlainCode
code_of p = code_in p.table.now p.functions.now

abbrev pub function_of : Place → PlainFunction
function_of p = with_maps (plain_function p.function.now) p.labels.now
