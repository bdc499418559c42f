use Rattle.fip_grammar.specs.WordView.{tokens}
use Rattle.fip_grammar.proofs.Least.{Reads}
use Rattle.parser_state.specs.StateView.{IsWell}
use Rattle.fip_parser.specs.Parsed.{reading_of}
use Rattle.fip_parser.proofs.parser.parse_tokens.Given as goal

abbrev pub invariant-loop-token : goal.invariant-loop-token
invariant-loop-token l = record {
  reads : Reads (tokens l.tokens.tokens.items) l.token-index (reading_of l.reading).machine (reading_of l.reading).seen;
  well : IsWell l.reading.state;
}
