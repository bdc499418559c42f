use Rattle.std.proofs.Common.{◌++◌, ℕ, List, drop, map}
use Rattle.cell_code.specs.Plain.{plain_function, plain}
use Rattle.command_source.specs.Codes.{AreLines}
use Rattle.command_source.proofs.listing.functions_text.Given as goal

abbrev pub invariant-loop-number : goal.invariant-loop-number
invariant-loop-number l = record {
  rest : (more : List ℕ) → AreLines (plain l.verified.code) l.number (map plain_function (drop l.number l.function-items)) more → AreLines (plain l.verified.code) 0 (map plain_function l.function-items) (l.text.items ++ more);
}
