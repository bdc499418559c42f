use Rattle.std.proofs.Common.{◌≡◌, drop, map}
use Rattle.cell_code.specs.Plain.{plain_function}
use Rattle.command_source.specs.Codes.{has_named}
use Rattle.command_source.proofs.entry.first_named.Given as goal

abbrev pub invariant-loop-number : goal.invariant-loop-number
invariant-loop-number l = record {
  rest : has_named l.name (map plain_function (drop l.number l.functions)) ≡ has_named l.name (map plain_function l.functions);
}
