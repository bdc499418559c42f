use Rattle.std.proofs.Common.{◌≡◌, ◌≤◌, ◌^◌, drop}
use Rattle.fip_grammar.specs.Token.{value_from, value_of}
use Rattle.parser_state.proofs.literal.magnitude.Given as goal

abbrev pub invariant-loop-digit : goal.invariant-loop-digit
invariant-loop-digit l = record {
  value : value_from l.value (drop l.digit-index l.digits) ≡ value_of l.digits;
  within : l.value ≤ 2 ^ 63;
}
